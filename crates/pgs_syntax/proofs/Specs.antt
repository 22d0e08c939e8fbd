-- What a specification of several parts asks, by the list of its parts.
use Rattle.std.proofs.Common.{◌≡◌, ℕ, Bool, ◌||◌, List, map, refl, ◌∙◌, ap}
use Rattle.std.specs.List.{list_any}
use Rattle.std.proofs.Math.Bool.{or-false}
use mathlib.Core.Former.{Count}
use denote.Hole.Carrier.{hidden}
use Rattle.pgs_syntax.specs.declared.specification.Leaf.{Leaf}
use Rattle.pgs_syntax.specs.declared.specification.Spec.{Spec, And, And', Or, Or', Opt, Opt', Row_of-Spec, end_of-Spec, more_of-Spec, items-the_row-Spec, items_hidden-the_row-Spec-0}
use Rattle.pgs_syntax.specs.declared.specification.Spec.TheBlock as block
use Rattle.pgs_syntax.specs.Join.{Joins, joined_all, is_empty_pair}
use Rattle.pgs_syntax.specs.Fitting.{suits, suits_each, suits_some}
use Rattle.pgs_syntax.proofs.Halves.{joined_same}

abbrev row_of : Spec Leaf → (n : Count) × Row_of-Spec Leaf n
row_of (And' _ row) = (_, row)
row_of (Or' _ row) = (_, row)
row_of (Opt' _ row) = (_, row)
row_of _ = (_, end_of-Spec)

module _ {P : Type 0} (joins : Joins P) (named : ℕ → P → Bool) where
  each_row : (n : _) (row : Row_of-Spec Leaf n) (p : P) →
      suits_each joins named row p ≡ joined_all joins (map (suits joins named) (items-the_row-Spec Leaf n row)) p
  each_row n end_of-Spec p = refl
  each_row n (more_of-Spec part rest) p = joined_same joins _ _ (suits joins named part) _ (λ q. refl) (each_row _ rest) p

  some_row : (n : _) (row : Row_of-Spec Leaf n) (p : P) →
      suits_some joins named row p ≡ list_any (λ part. suits joins named part p) (items-the_row-Spec Leaf n row)
  some_row n end_of-Spec p = refl
  some_row n (more_of-Spec part rest) p = ap (λ b. suits joins named part p || b) (some_row _ rest p)

  pub suits_and : (parts : List (Spec Leaf)) (p : P) → suits joins named (And parts) p ≡ joined_all joins (map (suits joins named) parts) p
  suits_and parts p =
      let row = row_of (And parts) in
      each_row row.0 row.1 p ∙ ap (λ (list : List (Spec Leaf)). joined_all joins (map (suits joins named) list) p) (items_hidden-the_row-Spec-0 Leaf parts)

  pub suits_or : (parts : List (Spec Leaf)) (p : P) → suits joins named (Or parts) p ≡ list_any (λ part. suits joins named part p) parts
  suits_or parts p =
      let row = row_of (Or parts) in
      some_row row.0 row.1 p ∙ ap (λ (list : List (Spec Leaf)). list_any (λ part. suits joins named part p) list) (items_hidden-the_row-Spec-0 Leaf parts)

  pub suits_opt : (part : Spec Leaf) (p : P) → suits joins named (Opt part) p ≡ (joins.asks is_empty_pair p || suits joins named part p)
  unfolding block.hidden-the_row-Spec-1 hidden
  suits_opt part p = ap (λ b. joins.asks is_empty_pair p || b) (or-false (suits joins named part p))
