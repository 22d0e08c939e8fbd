use Rattle.tests_store.proofs.store.limits.guard_answers.Given as goal

abbrev pub ghosts-guarded_by : goal.ghosts-guarded_by
ghosts-guarded_by a = record { name = a.blank.name; parts = a.blank.parts }
