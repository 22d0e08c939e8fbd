use Rattle.pgs_store.proofs.evolving.journal_schema.Given as goal

abbrev pub ghosts-framed_renewal : goal.ghosts-framed_renewal
ghosts-framed_renewal g a = record { name = a.blank.name; parts = a.blank.parts }
