-- Lists of shapes for the parts of a specification: each denotes what its part asks.
use Rattle.std.specs.Prelude.{ℕ, Bool, List}
use Rattle.std.specs.List.{AllZip}
use Rattle.pgs_base.specs.declared.row.NodeRow.{NodeRow}
use Rattle.pgs_syntax.specs.declared.specification.Leaf.{Leaf}
use Rattle.pgs_syntax.specs.declared.specification.Spec.{Spec}
use Rattle.pgs_syntax.specs.Fitting.{suits}
use Rattle.pgs_syntax.specs.Join.{of_pairs, of_triples, PairTriple}
use Rattle.pgs_conform.specs.declared.shape.Shape.{Shape}
use Rattle.pgs_conform.specs.declared.shape.Triple.{Triple as ShapeTriple}
use Rattle.pgs_conform.specs.Shapes.{Denotes, DenotesTriples}

-- what a named type's number asks is given
abbrev pub PartsDenote : (ℕ → NodeRow → Bool) → List (Spec Leaf) → List (List Shape) → Type 0
PartsDenote test = AllZip (λ part shapes. Denotes shapes (suits of_pairs test part))

abbrev pub PartsDenoteTriples : (ℕ → PairTriple → Bool) → List (Spec Leaf) → List (List ShapeTriple) → Type 0
PartsDenoteTriples test = AllZip (λ part triples. DenotesTriples triples (suits of_triples test part))
