use Rattle.pgs_shapes.proofs.braces.+keys_of.Given as goal

abbrev pub decreases-keys_of : goal.decreases-keys_of
decreases-keys_of l = l.further
