use Rattle.tests_graph.proofs.graph.drawn.good_rounds.Given as goal

abbrev pub ghosts-rounds_by : goal.ghosts-rounds_by
ghosts-rounds_by a = record { name = a.blank.name; parts = a.blank.parts }
