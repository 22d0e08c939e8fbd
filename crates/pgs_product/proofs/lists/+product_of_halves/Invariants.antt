use Rattle.pgs_product.proofs.lists.+product_of_halves.Given as goal

abbrev pub decreases-product_of_halves : goal.decreases-product_of_halves
decreases-product_of_halves l = l.further
