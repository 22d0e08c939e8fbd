use Rattle.tests_graph.proofs.shapes.drawn.+put_spec.Given as goal

abbrev pub decreases-put_spec : goal.decreases-put_spec
decreases-put_spec l = l.levels
