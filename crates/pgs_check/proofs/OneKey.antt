-- What the rows of one key say of it: its first violation, or that they are all that differs.
use Rattle.std.proofs.Common.{◌≡◌, ◌==◌, inl, inr, ℕ, Bool, true, false, List, [], ◌∷◌, length, map, Option, Some, None, slice_get, refl, sym, ◌∙◌, ap, arith, Result, Ok, Err, IfErr, IfOk, OnOk}
use Rattle.std.specs.Prelude.{if◌then◌else◌}
use Rattle.std.proofs.lemmas.Bool.{eqb-true}
use Rattle.pgs_base.specs.declared.element.Elem.{Elem}
use Rattle.pgs_base.specs.declared.part.Part.{Part}
use Rattle.pgs_base.specs.Graph.{Graph, is_graph}
use Rattle.pgs_base.specs.Order.{ascends, elem_cmp}
use Rattle.pgs_syntax.specs.declared.key.Key.{Key}
use Rattle.pgs_syntax.specs.declared.key.Qualifiers.{Qualifiers}
use Rattle.pgs_syntax.specs.declared.resolved.Resolved.{Resolved}
use Rattle.pgs_syntax.specs.KeyValues.{key_values}
use Rattle.pgs_violation.specs.declared.violation.Violation.{Violation}
use Rattle.pgs_violation.specs.Violations.{key_violations}
use Rattle.pgs_keyindex.specs.declared.change.KeyChange.{KeyChange}
use Rattle.pgs_keyindex.specs.Index.{IndexState}
use Rattle.pgs_keyindex.specs.Standing.{StandsFor, key_at, values_in_scope}
use Rattle.pgs_check_affected.specs.Local.{is_one_of, HasOneRow, IsAlike}
use Rattle.pgs_check.specs.Clashes.{IsOwner}
use Rattle.pgs_check.specs.Rows.{change_of, first_if, first_of_rows, first_or, first_outside, first_several, first_shared}
use Rattle.pgs_check.specs.Standing.{AreRows, IsFirstOf, IsFound}
use Rattle.pgs_check.specs.declared.checking.CheckFault.{CheckFault}
use Rattle.pgs_check.specs.declared.checking.CheckFault.TheVariants as faults
use Rattle.pgs_check.proofs.Firsts.{none_first}
use Rattle.pgs_check.proofs.KeyFirst.{key_first}
use Rattle.pgs_check.proofs.Owned.{elems_again}
use Rattle.pgs_check.proofs.Owners.{owner_of, owners_are}

pub one_row : (resolved : Resolved) (g h : Graph) (key : Key) (elem : Elem) → HasOneRow resolved g h key elem → values_in_scope resolved g key elem ≡ values_in_scope resolved h key elem
one_row resolved g h key elem same = λ i. if same.place i then Some (same.values i) else None

-- and one that is alike in both graphs
pub alike_row : (resolved : Resolved) (g h : Graph) (key : Key) (elem : Elem) → IsAlike resolved g h key elem → values_in_scope resolved g key elem ≡ values_in_scope resolved h key elem
alike_row resolved g h key elem (inl out) =
    ap (λ b. if b then Some (key_values resolved g key elem) else None) out.0 ∙ sym (ap (λ b. if b then Some (key_values resolved h key elem) else None) out.1)
alike_row resolved g h key elem (inr same) = one_row resolved g h key elem same

-- no rows make no violation
none_asked : (asked : Bool) → first_if asked None ≡ None
none_asked true = refl
none_asked false = refl

none_outside : (bounds : Option (ℕ × ℕ)) (number : ℕ) → first_outside bounds number [] ≡ None
none_outside None number = refl
none_outside (Some bounds) number = refl

pub no_rows_first : (asked : Qualifiers) (number : ℕ) (owner : List Part → Option Elem) → first_of_rows asked number owner [] ≡ None
no_rows_first asked number owner =
    ap (λ o. first_or o (first_several asked number owner [])) (none_asked asked.mandatory)
    ∙ ap (λ o. first_or o (first_shared asked number owner [])) (none_asked asked.singleton)
    ∙ ap (λ o. first_or o (first_outside asked.count number [])) (none_asked asked.exclusive)
    ∙ none_outside asked.count number

module _ (resolved : Resolved) (g h : Graph) (before : is_graph g ≡ true) (after : is_graph h ≡ true) (keys : List Key) (number : ℕ) (key : Key)
    (at_number : key_at keys number ≡ Some key) (index : IndexState) (stands : StandsFor resolved g keys index) (none : key_violations resolved g number key ≡ [])
    (changed : List Elem) (order : ascends elem_cmp changed ≡ true)
    (others : (elem : Elem) → is_one_of changed elem ≡ false → values_in_scope resolved g key elem ≡ values_in_scope resolved h key elem)
    (rows : List KeyChange) (are : rows ≡ map (change_of number (values_in_scope resolved h key)) changed) where
  -- the owners of key values before the change
  abbrev owner : List Part → Option Elem
  owner = owner_of resolved g before key number changed

  owns : key.qualifiers.exclusive ≡ true → IsOwner index.rows number changed owner
  owns exclusive = owners_are resolved g before key number changed index.rows (stands.rows number key at_number) exclusive none

  first : slice_get (key_violations resolved h number key) 0 ≡ first_of_rows key.qualifiers number owner rows
  first = key_first resolved g h before after key number changed order others rows are index.rows (stands.rows number key at_number) owner owns none

  pub found_first : {T : Type 0} (result : Result T CheckFault) →
      ((owner : List Part → Option Elem) → (key.qualifiers.exclusive ≡ true → IsOwner index.rows number changed owner) →
      IfErr result (IsFound (first_of_rows key.qualifiers number owner rows))) → IfErr result (IsFirstOf (key_violations resolved h number key))
  found_first (Ok rows) found = tt
  found_first (Err faults.Memory) found = tt
  found_first (Err (faults.Violated violation)) found = first ∙ found owner owns

  pub nothing_found : {T : Type 0} (result : Result T CheckFault) →
      ((owner : List Part → Option Elem) → (key.qualifiers.exclusive ≡ true → IsOwner index.rows number changed owner) →
      OnOk result (first_of_rows key.qualifiers number owner rows ≡ None)) → OnOk result (key_violations resolved h number key ≡ [])
  nothing_found (Ok rows) found = none_first (key_violations resolved h number key) (first ∙ found owner owns)
  nothing_found (Err fault) found = tt

  pub rows_are : {T : Type 0} (items : T → List KeyChange) (result : Result T CheckFault) → IfOk result (λ kept. items kept ≡ rows) →
      IfOk result (λ kept. AreRows number (values_in_scope resolved g key) (values_in_scope resolved h key) (items kept))
  rows_are items (Ok kept) same = record { elems = changed; are = same ∙ are; ascending = order; others = others }
  rows_are items (Err fault) same = tt

-- ---- the rows of a key

pub none_listed : (rows : List KeyChange) → (length rows == 0) ≡ true → rows ≡ []
none_listed [] h = refl
none_listed (row ∷ rows) h = let none = eqb-true (length (row ∷ rows)) 0 h in absurd (omega (arith, none))

module _ (resolved : Resolved) (g h : Graph) (key : Key) (number : ℕ) where
  abbrev Right : List KeyChange → Type 0
  Right = AreRows number (values_in_scope resolved g key) (values_in_scope resolved h key)

  -- none, where every element is alike in both graphs
  pub no_rows : ((elem : Elem) → IsAlike resolved g h key elem) → (rows : List KeyChange) → rows ≡ [] → Right rows
  no_rows alike rows is = record { elems = []; are = is; ascending = refl; others = λ elem beside. alike_row resolved g h key elem (alike elem) }

  -- those of elements beside which each has one row
  pub searched_are : (elems : List Elem) → ascends elem_cmp elems ≡ true → ((elem : Elem) → is_one_of elems elem ≡ false → HasOneRow resolved g h key elem) →
      (new : Graph) → new ≡ h → (given : List Elem) → given ≡ elems → (rows : List KeyChange) → rows ≡ map (change_of number (values_in_scope resolved new key)) given → Right rows
  searched_are elems order others new same given is rows are = record {
    elems = elems;
    are = are ∙ (λ i. map (change_of number (values_in_scope resolved (same i) key)) (is i));
    ascending = order;
    others = λ elem beside. one_row resolved g h key elem (others elem beside);
  }

  -- the elements of rows
  pub its_elems : (rows : List KeyChange) → (are : Right rows) → map (λ (row : KeyChange). row.elem) rows ≡ are.elems
  its_elems rows are = ap (map (λ (row : KeyChange). row.elem)) are.are ∙ elems_again number (values_in_scope resolved h key) are.elems

-- a fault that names the first of one list names the first of another with the same first
pub first_passed_on : (xs ys : List Violation) (fault : CheckFault) → ((v : Violation) → slice_get xs 0 ≡ Some v → slice_get ys 0 ≡ Some v) → IsFirstOf xs fault → IsFirstOf ys fault
first_passed_on xs ys faults.Memory on is = tt
first_passed_on xs ys (faults.Violated v) on is = on v is
