-- The pieces of a specification of several parts, by the list of its parts.
use Rattle.std.proofs.Common.{◌≡◌, ℕ, ◌≤◌, List, ◌++◌, length, take, refl, sym, ◌∙◌, ap, ◌⊎◌, ⊎_elim}
use Rattle.std.specs.List.{flat_map}
use Rattle.std.proofs.lemmas.List.{append-nil, take_all}
use mathlib.Core.Former.{Count}
use denote.Hole.Carrier.{hidden}
use Rattle.pgs_syntax.specs.declared.specification.Spec.{Spec, And, And', Or, Or', Opt, Opt', Row_of-Spec, end_of-Spec, more_of-Spec, items-the_row-Spec, items_hidden-the_row-Spec-0}
use Rattle.pgs_syntax.specs.declared.specification.Spec.TheBlock as block
use Rattle.pgs_resolve_declared.specs.Declarations.{pieces_of, pieces_of_each}

abbrev row_of : Spec (List ℕ) → (n : Count) × Row_of-Spec (List ℕ) n
row_of (And' _ row) = (_, row)
row_of (Or' _ row) = (_, row)
row_of (Opt' _ row) = (_, row)
row_of _ = (_, end_of-Spec)

of_row : (n : _) (row : Row_of-Spec (List ℕ) n) → pieces_of_each row ≡ flat_map pieces_of (items-the_row-Spec (List ℕ) n row)
of_row n end_of-Spec = refl
of_row n (more_of-Spec part rest) = ap (λ (pieces : List (Spec (List ℕ))). pieces_of part ++ pieces) (of_row _ rest)

pub of_and : (parts : List (Spec (List ℕ))) → pieces_of (And parts) ≡ flat_map pieces_of parts
of_and parts =
    let row = row_of (And parts) in
    of_row row.0 row.1 ∙ ap (flat_map pieces_of) (items_hidden-the_row-Spec-0 (List ℕ) parts)

pub of_or : (parts : List (Spec (List ℕ))) → pieces_of (Or parts) ≡ flat_map pieces_of parts
of_or parts =
    let row = row_of (Or parts) in
    of_row row.0 row.1 ∙ ap (flat_map pieces_of) (items_hidden-the_row-Spec-0 (List ℕ) parts)

pub of_opt : (part : Spec (List ℕ)) → pieces_of (Opt part) ≡ pieces_of part
unfolding block.hidden-the_row-Spec-1 hidden
of_opt part = append-nil (pieces_of part)

-- a walk over all parts
pub whole : (spec : Spec (List ℕ)) (parts items : List (Spec (List ℕ))) (n : ℕ) → (spec ≡ And parts) ⊎ (spec ≡ Or parts) → items ≡ parts → length items ≤ n →
    flat_map pieces_of (take n items) ≡ pieces_of spec
whole spec parts items n is same end =
    ap (flat_map pieces_of) (take_all n items end ∙ same)
    ∙ ⊎_elim (λ e. sym (of_and parts) ∙ ap pieces_of (sym e)) (λ e. sym (of_or parts) ∙ ap pieces_of (sym e)) is
