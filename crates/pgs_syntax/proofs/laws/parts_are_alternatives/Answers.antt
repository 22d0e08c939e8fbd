use Rattle.pgs_syntax.specs.Join.{of_pairs, of_triples}
use Rattle.pgs_syntax.specs.Fitting.{fits_node}
use Rattle.pgs_syntax.proofs.Specs.{suits_or, suits_opt}
use Rattle.pgs_syntax.proofs.laws.parts_are_alternatives.Goals as goal

pub returns-clause-unions : goal.returns-clause-unions
returns-clause-unions c = λ resolved parts p. suits_or of_pairs (fits_node resolved) parts p

pub returns-clause-options : goal.returns-clause-options
returns-clause-options c = λ resolved part p. suits_opt of_pairs (fits_node resolved) part p

pub returns-clause-edge_unions : goal.returns-clause-edge_unions
returns-clause-edge_unions c = λ named parts t. suits_or of_triples named parts t

pub returns-clause-edge_options : goal.returns-clause-edge_options
returns-clause-edge_options c = λ named part t. suits_opt of_triples named part t
