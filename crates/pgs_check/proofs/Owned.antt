-- The owner of a tuple that isn't changed, from the owner in the index.
use Rattle.std.proofs.Common.{◌≡◌, ◌↔◌, ℕ, zero, suc, ◌<◌, Bool, true, false, ◌||◌, List, [], ◌∷◌, map, get_or, length, Option, Some, None, refl, sym, ◌∙◌, ap, true≢false, arith}
use Rattle.std.specs.Cmp.{eq_by_cmp_equiv}
use Rattle.pgs_base.specs.declared.element.Elem.{Elem}
use Rattle.pgs_base.specs.declared.part.Part.{Part}
use Rattle.pgs_base.specs.OrderLaws.{elem_cmp_total}
use Rattle.pgs_violation.specs.declared.violation.Violation.{Violation}
use Rattle.pgs_keyindex.specs.declared.change.KeyChange.{KeyChange}
use Rattle.pgs_keyindex.specs.Rows.{KeyRows, IsOwned, has_value, is_exclusive}
use Rattle.pgs_syntax.specs.Matches.{same_elem}
use Rattle.pgs_check_affected.specs.Local.{is_one_of}
use Rattle.pgs_check.specs.Clashes.{IsOwner, with_holder}
use Rattle.pgs_check.specs.Rows.{change_of}

abbrev IsOwnerBeside : (Elem → Bool) → (Elem → Bool) → Option Elem → Type 0
IsOwnerBeside has listed owner = (elem : Elem) → ((has elem ≡ true) × (listed elem ≡ false)) ↔ (owner ≡ Some elem)

module _ (has listed : Elem → Bool) where
  pub no_owner : ((elem : Elem) → (has elem ≡ true) ↔ (None ≡ Some elem)) → IsOwnerBeside has listed None
  no_owner owns elem = (λ both. (owns elem).0 both.0, λ e. cc)

  pub listed_owner : (owner : Elem) → ((elem : Elem) → (has elem ≡ true) ↔ (Some owner ≡ Some elem)) → listed owner ≡ true → IsOwnerBeside has listed None
  listed_owner owner owns is elem = (
    λ both. let same : owner ≡ elem = some_same ((owns elem).0 both.0) in absurd (true≢false (sym is ∙ ap listed same ∙ both.1)),
    λ e. cc,
  )
    where
      some_same : {x y : Elem} → Some x ≡ Some y → x ≡ y
      some_same e = cc

  pub own_owner : (owner : Elem) → ((elem : Elem) → (has elem ≡ true) ↔ (Some owner ≡ Some elem)) → listed owner ≡ false → IsOwnerBeside has listed (Some owner)
  own_owner owner owns is elem = (
    λ both. (owns elem).0 both.0,
    λ e. ((owns elem).1 e, ap listed (sym (some_same e)) ∙ is),
  )
    where
      some_same : {x y : Elem} → Some x ≡ Some y → x ≡ y
      some_same e = cc

-- two that are such owners are one
pub one_owner : (A : Elem → Type 0) (o p : Option Elem) → ((elem : Elem) → A elem ↔ (o ≡ Some elem)) → ((elem : Elem) → A elem ↔ (p ≡ Some elem)) → o ≡ p
one_owner A None None one other = refl
one_owner A (Some x) p one other = sym ((other x).0 ((one x).1 refl))
one_owner A None (Some y) one other = (one y).0 ((other y).1 refl)

-- a tuple that a changed element had has no owner beside the changed elements, so that nothing is found by it
module _ (flags : List Bool) (rows : KeyRows) (number : ℕ) (owned : IsOwned flags rows) (asked : is_exclusive flags number ≡ true) (changed : List Elem)
    (owner : List Part → Option Elem) (owns : IsOwner rows number changed owner) (elem : Elem) (listed : is_one_of changed elem ≡ true)
    (tuple : List Part) (had : has_value rows number elem tuple ≡ true) where
  unowned : owner tuple ≡ None
  unowned = by (owner tuple) refl
    where
      by : (o : Option Elem) → owner tuple ≡ o → o ≡ None
      by None is = refl
      by (Some other) is =
          let both = (owns tuple other).1 is in
          absurd (true≢false (sym listed ∙ ap (is_one_of changed) (owned number tuple elem other asked had both.0) ∙ both.1))

  pub had_before : (found : Option Violation) → found ≡ with_holder number elem found tuple (owner tuple)
  had_before found = sym (ap (with_holder number elem found tuple) unowned)

later_too : (a b : Bool) → b ≡ true → (a || b) ≡ true
later_too true b is = refl
later_too false b is = is

own_first : (a b : Bool) → a ≡ true → (a || b) ≡ true
own_first a b is = rw is refl

-- the element of a row is one of those of all rows
pub elem_there : (rows : List KeyChange) (i : ℕ) (row : KeyChange) → row ≡ get_or rows i row → i < length rows →
    is_one_of (map (λ (r : KeyChange). r.elem) rows) row.elem ≡ true
elem_there [] i row is below = absurd (omega arith)
elem_there (first ∷ rows) zero row is below =
    own_first _ _ (ap (λ (r : KeyChange). same_elem row.elem r.elem) (sym is) ∙ (eq_by_cmp_equiv elem_cmp_total).refl row.elem)
elem_there (first ∷ rows) (suc i) row is below = later_too _ _ (elem_there rows i row is (omega arith))

-- and the elements of rows that were made of elements are these
pub elems_again : (number : ℕ) (values : Elem → Option (List (List Part))) (elems : List Elem) → map (λ (r : KeyChange). r.elem) (map (change_of number values) elems) ≡ elems
elems_again number values [] = refl
elems_again number values (elem ∷ elems) = λ i. elem ∷ elems_again number values elems i
