use Rattle.pgs_store.proofs.store.Store.recover.Given as goal

abbrev pub ghosts-guard_of_records : goal.ghosts-guard_of_records
ghosts-guard_of_records g a = record { name = a.blank.name; parts = a.blank.parts }
