use Rattle.tests_graph.proofs.matching.confirmed.confirmed.Given as goal

abbrev pub ghosts-confirmed_by : goal.ghosts-confirmed_by
ghosts-confirmed_by a = record { name = a.blank.name; parts = a.blank.parts }
