use Rattle.tests_graph.proofs.matching.drawing.+put_place.Given as goal

abbrev pub decreases-put_place : goal.decreases-put_place
decreases-put_place l = l.depth
