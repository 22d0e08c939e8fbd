-- The triples of the ends of an edge type, and an edge type as the product of its ends and its middle.
use Rattle.std.proofs.Common.{◌≡◌, ℕ, Bool, true, false, ◌&&◌, List, refl, sym, ◌∙◌, ap}
use Rattle.std.specs.List.{list_any}
use Rattle.std.proofs.lemmas.Bool.{and_parts}
use Rattle.pgs_base.specs.declared.row.NodeRow.{NodeRow}
use Rattle.pgs_syntax.specs.declared.element_type.EdgeType.{EdgeType}
use Rattle.pgs_syntax.specs.declared.resolved.Resolved.{Resolved}
use Rattle.pgs_syntax.specs.declared.specification.Leaf.{Leaf}
use Rattle.pgs_syntax.specs.Fitting.{suits, fits, fits_edge_type, has_ends_of}
use Rattle.pgs_syntax.specs.Join.{of_triples, joined, is_empty_pair, PairTriple}
use Rattle.pgs_syntax.proofs.Halves.{any_same, any_and}
use Rattle.pgs_conform.specs.declared.shape.Shape.{Shape}
use Rattle.pgs_conform.specs.declared.shape.Triple.{Triple as ShapeTriple}
use Rattle.pgs_conform.specs.Shapes.{in_shape, in_some, in_some_triple, Denotes, DenotesTriples}
use Rattle.pgs_product.proofs.Joins.{triples_lawful}

-- some of several targets beside what is asked of the source and of the edge
pub some_target : (targets : List Shape) (before : Bool) (p : NodeRow) → list_any (λ target. before && in_shape target p) targets ≡ (before && in_some targets p)
some_target targets before p = any_and before (λ target. in_shape target p) targets

and_rotated : (a b c : Bool) → (a && b && c) ≡ ((b && c) && a)
and_rotated true true true = refl
and_rotated true true false = refl
and_rotated true false c = refl
and_rotated false true true = refl
and_rotated false true false = refl
and_rotated false false c = refl

-- some of several sources beside what is asked of the edge and of the target
pub some_source : (sources : List Shape) (own last : Bool) (p : NodeRow) → list_any (λ source. in_shape source p && own && last) sources ≡ (in_some sources p && own && last)
some_source sources own last p =
    any_same _ _ (λ source. and_rotated (in_shape source p) own last) sources ∙ any_and (own && last) (λ source. in_shape source p) sources
    ∙ sym (and_rotated (in_some sources p) own last)

-- the triples of the ends, by the lists of both
pub ends_denote : (resolved : Resolved) (edge : EdgeType Leaf) (sources targets : List Shape) (ends : List ShapeTriple) →
    Denotes sources (fits resolved edge.source) → Denotes targets (fits resolved edge.target) →
    ((t : PairTriple) → in_some_triple ends t ≡ (in_some sources t.source && is_empty_pair t.own && in_some targets t.target)) →
    DenotesTriples ends (has_ends_of resolved edge)
ends_denote resolved edge sources targets ends source target both t pairs =
    let outer = and_parts _ _ pairs in
    let inner = and_parts _ _ outer.0 in
    both t ∙ ap (λ b. b && is_empty_pair t.own && in_some targets t.target) (source t.source inner.0)
    ∙ ap (λ b. fits resolved edge.source t.source && is_empty_pair t.own && b) (target t.target outer.1)

-- an edge type's triples, by the lists of its ends and of its middle
pub edge_denotes : (resolved : Resolved) (test : ℕ → PairTriple → Bool) (edge : EdgeType Leaf) (ends middles triples : List ShapeTriple) →
    DenotesTriples ends (has_ends_of resolved edge) → DenotesTriples middles (suits of_triples test edge.middle) →
    DenotesTriples triples (joined of_triples (in_some_triple ends) (in_some_triple middles)) → DenotesTriples triples (fits_edge_type resolved test edge)
edge_denotes resolved test edge ends middles triples both middle product t pairs =
    product t pairs ∙ triples_lawful.alike (in_some_triple ends) (in_some_triple middles) (has_ends_of resolved edge) (suits of_triples test edge.middle) both middle t pairs
