use Rattle.tests_graph.proofs.check.differing.tallied.Given as goal

abbrev pub ghosts-tally_by : goal.ghosts-tally_by
ghosts-tally_by a = record { name = a.blank.name; parts = a.blank.parts }
