use Rattle.pgs_txn.proofs.staging.delta_of.Given as goal

abbrev pub ghosts-delta_counted : goal.ghosts-delta_counted
ghosts-delta_counted g a = record { name = a.blank.name; parts = a.blank.parts }
