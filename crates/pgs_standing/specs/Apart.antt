-- When a type has nothing of another: something fits the one, and nothing that does fits the other. It speaks of all pairs, and all triples
-- of pairs, also of those that can't stand, and knows no shapes.
use Rattle.std.specs.Prelude.{◌≡◌, ◌⊎◌, Bool, true, ◌&&◌}
use Rattle.pgs_syntax.specs.declared.resolved.Resolved.{Resolved}
use Rattle.pgs_syntax.specs.declared.resolved.TypeNo.{TypeNo}
use Rattle.pgs_syntax.specs.declared.resolved.TypeNo.TheVariants as types
use Rattle.pgs_syntax.specs.Fitting.{fits_node, fits_edge}
use Rattle.pgs_standing.specs.Example.{Carried, by_nodes, by_edges, NonePasses}

-- one passes a test
abbrev pub SomePasses : {P : Type 0} → Carried P → (P → Bool) → Type 0
SomePasses {P} carried test = (q : P) × (carried.is_one q ≡ true) × (test q ≡ true)

-- some passes the test of the one, and none of these that of the base; and what it is else
abbrev pub Apart : {P : Type 0} → Carried P → (base own : P → Bool) → Type 0
Apart carried base own = SomePasses carried own × NonePasses carried (λ q. own q && base q)

abbrev pub NotApart : {P : Type 0} → Carried P → (base own : P → Bool) → Type 0
NotApart carried base own = NonePasses carried own ⊎ SomePasses carried (λ q. own q && base q)

-- a type is apart from a base type of its kind
abbrev pub IsApart : Resolved → (base own : TypeNo) → Type 0
IsApart resolved (types.Node base) (types.Node own) = Apart by_nodes (fits_node resolved base) (fits_node resolved own)
IsApart resolved (types.Edge base) (types.Edge own) = Apart by_edges (fits_edge resolved base) (fits_edge resolved own)
IsApart resolved _ _ = ⊥

abbrev pub IsNotApart : Resolved → (base own : TypeNo) → Type 0
IsNotApart resolved (types.Node base) (types.Node own) = NotApart by_nodes (fits_node resolved base) (fits_node resolved own)
IsNotApart resolved (types.Edge base) (types.Edge own) = NotApart by_edges (fits_edge resolved base) (fits_edge resolved own)
IsNotApart resolved _ _ = Unit {0}
