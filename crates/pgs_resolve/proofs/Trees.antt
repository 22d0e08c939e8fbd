-- Specifications of several parts with their names resolved, by the list of the parts.
use Rattle.std.proofs.Common.{◌≡◌, ℕ, List, [], ◌∷◌, map, refl, ap}
use mathlib.Core.Former.{list_count, this}
use denote.Hole.Carrier.{hidden}
use Rattle.pgs_syntax.specs.declared.specification.Leaf.{Leaf}
use Rattle.pgs_syntax.specs.declared.specification.Spec.{Spec, And, And', Or, Or', Opt, Row_of-Spec, more_of-Spec}
use Rattle.pgs_syntax.specs.declared.specification.Spec.TheBlock as block
use Rattle.pgs_resolve_declared.specs.Order.{resolved_spec, resolved_specs}

abbrev Row : Type 0
Row = (shape : List (Unit {0})) × Row_of-Spec Leaf (list_count (this {0}) shape 0)

abbrev row_of : List (Spec Leaf) → Row
row_of parts = (block.shape-the_row-Spec-0 Leaf parts, block.hidden-the_row-Spec-0 Leaf parts)

abbrev resolved_row : List (List ℕ) → List (Spec (List ℕ)) → Row
resolved_row names parts = (block.shape-the_row-Spec-0 (List ℕ) parts, resolved_specs names (block.hidden-the_row-Spec-0 (List ℕ) parts))

rows : (names : List (List ℕ)) (parts : List (Spec (List ℕ))) → resolved_row names parts ≡ row_of (map (resolved_spec names) parts)
unfolding block.hidden-the_row-Spec-0 hidden
rows names [] = refl
rows names (part ∷ parts) = ap (λ (row : Row). (tt ∷ row.0, more_of-Spec (resolved_spec names part) row.1)) (rows names parts)

pub resolved_and : (names : List (List ℕ)) (parts : List (Spec (List ℕ))) → resolved_spec names (And parts) ≡ And (map (resolved_spec names) parts)
resolved_and names parts = ap (λ (row : Row). And' row.0 row.1) (rows names parts)

pub resolved_or : (names : List (List ℕ)) (parts : List (Spec (List ℕ))) → resolved_spec names (Or parts) ≡ Or (map (resolved_spec names) parts)
resolved_or names parts = ap (λ (row : Row). Or' row.0 row.1) (rows names parts)

pub resolved_opt : (names : List (List ℕ)) (part : Spec (List ℕ)) → resolved_spec names (Opt part) ≡ Opt (resolved_spec names part)
unfolding block.hidden-the_row-Spec-1 hidden
resolved_opt names part = refl
