-- Persons and their acquaintance are typed.
use Rattle.std.proofs.Common.{◌≡◌, ℕ, pos, true, List, [], ◌∷◌, codes, refl}
use denote.Hole.Carrier.{hidden}
use Rattle.pgs_base.specs.declared.row.NodeRow.{NodeRow}
use Rattle.pgs_base.specs.declared.value.Value.TheVariants.{Text, Int}
use Rattle.pgs_base.specs.Pair.{pair_of}
use Rattle.pgs_syntax.specs.declared.specification.Spec.TheBlock as block
use Rattle.pgs_syntax.specs.Fitting.{fits_node}
use Rattle.pgs_syntax.specs.Join.{PairTriple}
use Rattle.pgs_syntax.specs.Typed.{is_typed_node, is_typed_triple}
use Rattle.pgs_run_gen.specs.Persons.{persons}

abbrev pub person_row : ℕ → List ℕ → NodeRow
person_row number mail = pair_of (codes "Person" ∷ []) ((codes "id", Int (pos number)) ∷ (codes "mail", Text mail) ∷ [])

pub person_fits : (number : ℕ) (mail : List ℕ) → fits_node persons 0 (person_row number mail) ≡ true
unfolding block.hidden-the_row-Spec-0 hidden
person_fits number mail = refl

pub person_typed : (number : ℕ) (mail : List ℕ) → is_typed_node persons (person_row number mail) ≡ true
unfolding block.hidden-the_row-Spec-0 hidden
person_typed number mail = refl

abbrev pub knowing_triple : ℕ → List ℕ → ℕ → List ℕ → PairTriple
knowing_triple one mail other post =
    record { source = person_row one mail; own = pair_of (codes "knows" ∷ []) []; target = person_row other post }

pub knowing_typed : (one : ℕ) (mail : List ℕ) (other : ℕ) (post : List ℕ) → is_typed_triple persons (knowing_triple one mail other post) ≡ true
unfolding block.hidden-the_row-Spec-0 hidden
knowing_typed one mail other post = refl
