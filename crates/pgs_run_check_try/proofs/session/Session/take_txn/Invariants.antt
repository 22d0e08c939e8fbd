use Rattle.pgs_run_check_try.proofs.session.Session.take_txn.Given as goal

abbrev pub ghosts-apply_counted : goal.ghosts-apply_counted
ghosts-apply_counted a = record { name = a.blank.name; parts = a.blank.parts }
