use Rattle.std.proofs.Common.{sym, ◌∙◌, map}
use Rattle.std.proofs.lemmas.List.Sorted.{IsPermutation-map}
use Rattle.pgs_syntax.specs.Join.{of_pairs, of_triples}
use Rattle.pgs_syntax.specs.Fitting.{suits, fits, fits_node}
use Rattle.pgs_syntax.proofs.AnyOrder.{pairs_in_any_order, triples_in_any_order}
use Rattle.pgs_syntax.proofs.Specs.{suits_and}
use Rattle.pgs_syntax.proofs.laws_of_joins.parts_in_any_order.Goals as goal

pub returns-clause-pairs : goal.returns-clause-pairs
returns-clause-pairs c = λ resolved parts others permuted p.
    suits_and of_pairs (fits_node resolved) parts p
    ∙ pairs_in_any_order (map (fits resolved) parts) (map (fits resolved) others) (IsPermutation-map (fits resolved) parts others permuted) p
    ∙ sym (suits_and of_pairs (fits_node resolved) others p)

pub returns-clause-triples : goal.returns-clause-triples
returns-clause-triples c = λ named parts others permuted t.
    suits_and of_triples named parts t
    ∙ triples_in_any_order (map (suits of_triples named) parts) (map (suits of_triples named) others)
    (IsPermutation-map (suits of_triples named) parts others permuted) t
    ∙ sym (suits_and of_triples named others t)
