use Rattle.tests_graph.proofs.matching.drawn.agreeing.Given as goal

abbrev pub ghosts-agreeing_by : goal.ghosts-agreeing_by
ghosts-agreeing_by a = record { name = a.blank.name; parts = a.blank.parts }
