use Rattle.tests_store.proofs.store.scenario.answers.Given as goal

abbrev pub ghosts-answers_by : goal.ghosts-answers_by
ghosts-answers_by a = record { name = a.blank.name; parts = a.blank.parts }
