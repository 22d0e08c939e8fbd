use Rattle.pgs_product.proofs.triple_lists.+triple_product_of_halves.Given as goal

abbrev pub decreases-triple_product_of_halves : goal.decreases-triple_product_of_halves
decreases-triple_product_of_halves l = l.further
