-- The parts of a specification of several parts, by the list of its parts.
use Rattle.std.proofs.Common.{◌≡◌, ℕ, ◌≤◌, List, ◌++◌, length, take, refl, sym, ◌∙◌, ap, ◌⊎◌, ⊎_elim}
use Rattle.std.specs.List.{flat_map}
use Rattle.std.proofs.lemmas.List.{append-nil, take_all}
use mathlib.Core.Former.{Count}
use denote.Hole.Carrier.{hidden}
use Rattle.pgs_syntax.specs.declared.specification.Leaf.{Leaf}
use Rattle.pgs_syntax.specs.declared.specification.Spec.{Spec, And, And', Or, Or', Opt, Opt', Row_of-Spec, end_of-Spec, more_of-Spec, items-the_row-Spec, items_hidden-the_row-Spec-0}
use Rattle.pgs_syntax.specs.declared.specification.Spec.TheBlock as block
use Rattle.pgs_advice.specs.Parts.{parts_of, parts_of_each}

abbrev row_of : Spec Leaf → (n : Count) × Row_of-Spec Leaf n
row_of (And' _ row) = (_, row)
row_of (Or' _ row) = (_, row)
row_of (Opt' _ row) = (_, row)
row_of _ = (_, end_of-Spec)

of_row : (n : _) (row : Row_of-Spec Leaf n) → parts_of_each row ≡ flat_map parts_of (items-the_row-Spec Leaf n row)
of_row n end_of-Spec = refl
of_row n (more_of-Spec part rest) = ap (λ (others : List (Spec Leaf)). parts_of part ++ others) (of_row _ rest)

pub of_and : (parts : List (Spec Leaf)) → parts_of (And parts) ≡ flat_map parts_of parts
of_and parts =
    let row = row_of (And parts) in
    of_row row.0 row.1 ∙ ap (flat_map parts_of) (items_hidden-the_row-Spec-0 Leaf parts)

pub of_or : (parts : List (Spec Leaf)) → parts_of (Or parts) ≡ flat_map parts_of parts
of_or parts =
    let row = row_of (Or parts) in
    of_row row.0 row.1 ∙ ap (flat_map parts_of) (items_hidden-the_row-Spec-0 Leaf parts)

pub of_opt : (part : Spec Leaf) → parts_of (Opt part) ≡ parts_of part
unfolding block.hidden-the_row-Spec-1 hidden
of_opt part = append-nil (parts_of part)

-- a walk over all parts
pub whole : (spec : Spec Leaf) (parts items : List (Spec Leaf)) (n : ℕ) → (spec ≡ And parts) ⊎ (spec ≡ Or parts) → items ≡ parts → length items ≤ n →
    flat_map parts_of (take n items) ≡ parts_of spec
whole spec parts items n is same end =
    ap (flat_map parts_of) (take_all n items end ∙ same)
    ∙ ⊎_elim (λ e. sym (of_and parts) ∙ ap parts_of (sym e)) (λ e. sym (of_or parts) ∙ ap parts_of (sym e)) is
