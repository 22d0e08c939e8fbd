-- The width of a specification of several parts, by the list of its parts.
use Rattle.std.proofs.Common.{◌≡◌, ℕ, ◌+◌, ◌*◌, List, map, refl, ◌∙◌, ap, arith}
use mathlib.Core.Former.{Count}
use denote.Hole.Carrier.{hidden}
use Rattle.pgs_syntax.specs.declared.specification.Leaf.{Leaf}
use Rattle.pgs_syntax.specs.declared.specification.Spec.{Spec, And, And', Or, Or', Opt, Opt', Row_of-Spec, end_of-Spec, more_of-Spec, items-the_row-Spec, items_hidden-the_row-Spec-0}
use Rattle.pgs_syntax.specs.declared.specification.Spec.TheBlock as block
use Rattle.pgs_syntax.specs.Width.{Width, both, either, or_none, width_of, width_of_both, width_of_either}
use Rattle.pgs_width.specs.Capped.{both_of, either_of}

abbrev row_of : Spec Leaf → (n : Count) × Row_of-Spec Leaf n
row_of (And' _ row) = (_, row)
row_of (Or' _ row) = (_, row)
row_of (Opt' _ row) = (_, row)
row_of _ = (_, end_of-Spec)

module _ (named : List Width) where
  both_row : (n : _) (row : Row_of-Spec Leaf n) → width_of_both named row ≡ both_of (map (width_of named) (items-the_row-Spec Leaf n row))
  both_row n end_of-Spec = refl
  both_row n (more_of-Spec part rest) = ap (both (width_of named part)) (both_row _ rest)

  either_row : (n : _) (row : Row_of-Spec Leaf n) → width_of_either named row ≡ either_of (map (width_of named) (items-the_row-Spec Leaf n row))
  either_row n end_of-Spec = refl
  either_row n (more_of-Spec part rest) = ap (either (width_of named part)) (either_row _ rest)

  pub width_and : (parts : List (Spec Leaf)) → width_of named (And parts) ≡ both_of (map (width_of named) parts)
  width_and parts =
      let row = row_of (And parts) in
      both_row row.0 row.1 ∙ ap (λ (list : List (Spec Leaf)). both_of (map (width_of named) list)) (items_hidden-the_row-Spec-0 Leaf parts)

  pub width_or : (parts : List (Spec Leaf)) → width_of named (Or parts) ≡ either_of (map (width_of named) parts)
  width_or parts =
      let row = row_of (Or parts) in
      either_row row.0 row.1 ∙ ap (λ (list : List (Spec Leaf)). either_of (map (width_of named) list)) (items_hidden-the_row-Spec-0 Leaf parts)

  alone : (count weight : ℕ) → or_none (record { count = count * 1; weight = weight + 0 }) ≡ or_none (record { count = count; weight = weight })
  alone count weight =
      let e : count * 1 ≡ count = omega arith in
      let f : weight + 0 ≡ weight = omega arith in
      ap (λ n. or_none (record { count = n; weight = weight + 0 })) e ∙ ap (λ n. or_none (record { count = count; weight = n })) f

  pub width_opt : (part : Spec Leaf) → width_of named (Opt part) ≡ or_none (width_of named part)
  unfolding block.hidden-the_row-Spec-1 hidden
  width_opt part = alone (width_of named part).count (width_of named part).weight
