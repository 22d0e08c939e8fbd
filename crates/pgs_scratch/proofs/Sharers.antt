-- The nearest of the owners of a row's tuples is the first of the later rows that shares a key value with it.
use Rattle.std.proofs.Common.{◌≡◌, ℕ, zero, suc, ◌+◌, ◌-◌, ◌<◌, ◌≤◌, Bool, true, false, cond, List, [], ◌∷◌, ◌++◌, map, drop, drop-cons, get_or, length, reverse, append-nil, Option, Some, None, refl, sym, ap, ◌∙◌, subst, arith, is_lt}
use Rattle.std.specs.Prelude.{find, filter_map, slice_get, option_map}
use Rattle.std.specs.BTreeMap.{is_at}
use Rattle.std.specs.Option.{option_to_list}
use Rattle.std.specs.List.{list_any, list_all, cons_option}
use Rattle.std.proofs.lemmas.Bool.{and_parts}
use Rattle.std.proofs.lemmas.List.{reverse-append}
use Rattle.pgs_base.specs.declared.element.Elem.{Elem}
use Rattle.pgs_base.specs.declared.part.Part.{Part}
use Rattle.pgs_base.specs.Order.{ascends, elem_cmp, tuple_cmp}
use Rattle.pgs_violation.specs.declared.violation.Violation.{Violation}
use Rattle.pgs_violation.specs.declared.violation.Violation.TheVariants.{Exclusive}
use Rattle.pgs_violation.specs.Violations.{shared_tuple}
use Rattle.pgs_scratch.specs.declared.key_row.KeyRow.{KeyRow}
use Rattle.pgs_scratch.specs.Owners.{owner, nearer, nearest}
use Rattle.pgs_scratch.specs.Rows.{shared_value, first_sharer, shared_values}
use Rattle.pgs_scratch.proofs.Ordered.{not_itself, not_both}

abbrev Sharer : Type 0
Sharer = Elem × List Part

-- the same owners make the same nearest one
pub nearest_same : (f g : List Part → Option Elem) → ((tuple : List Part) → f tuple ≡ g tuple) → (found : Option Sharer) (tuples : List (List Part)) →
    nearest f found tuples ≡ nearest g found tuples
nearest_same f g same found tuples = ap (λ h. nearest h found tuples) (λ i tuple. same tuple i)

-- the nearest owner, one tuple further
pub nearest_step : (table : List Part → Option Elem) (tuples : List (List Part)) (i : ℕ) (tuple : List Part) → tuple ≡ get_or tuples i tuple → i < length tuples →
    (found next : Option Sharer) (own : Option Elem) → own ≡ table tuple → next ≡ nearer found own tuple →
    nearest table found (drop i tuples) ≡ nearest table None tuples → nearest table next (drop (i + 1) tuples) ≡ nearest table None tuples
nearest_step table tuples i tuple is below found next own owns step so_far =
    let one : suc i ≡ i + 1 = omega arith in
    ap (λ f. nearest table f (drop (i + 1) tuples)) (step ∙ ap (λ o. nearer found o tuple) owns)
    ∙ ap (λ j. nearest table (nearer found (table tuple) tuple) (drop j tuples)) (sym one)
    ∙ ap (λ t. nearest table (nearer found (table t) t) (drop (suc i) tuples)) is
    ∙ ap (nearest table found) (sym (drop-cons tuples i tuple below)) ∙ so_far

-- an element with a tuple that is shared with its row, or else what is found of other rows
abbrev chosen : Elem → Option (List Part) → Option Sharer → Option Sharer
chosen elem None other = other
chosen elem (Some tuple) other = Some (elem, tuple)

-- the first of rows that has some of the tuples, with the first such tuple
abbrev first_row : List KeyRow → List (List Part) → Option Sharer
first_row [] tuples = None
first_row (row ∷ rows) tuples = chosen row.elem (shared_tuple tuples row.tuples) (first_row rows tuples)

-- what was found comes after an element
abbrev IsBehind : Elem → Option Sharer → Type 0
IsBehind elem None = Unit {0}
IsBehind elem (Some found) = is_lt (elem_cmp elem found.0) ≡ true

abbrev elems_of : List KeyRow → List Elem
elems_of rows = map (λ (row : KeyRow). row.elem) rows

-- an owner is an element of the rows
owner_after : (elem : Elem) (rows : List KeyRow) → list_all (λ later. is_lt (elem_cmp elem later)) (elems_of rows) ≡ true →
    (tuple : List Part) (own : Elem) → owner rows tuple ≡ Some own → is_lt (elem_cmp elem own) ≡ true
owner_after elem [] all tuple own is = cc
owner_after elem (row ∷ rows) all tuple own is = by (list_any (is_at (tuple_cmp tuple)) row.tuples) is (owner_after elem rows (and_parts _ _ all).1 tuple own)
  where
    by : (b : Bool) → cond b (Some row.elem) (owner rows tuple) ≡ Some own → (owner rows tuple ≡ Some own → is_lt (elem_cmp elem own) ≡ true) → is_lt (elem_cmp elem own) ≡ true
    by true e rest = let same : row.elem ≡ own = cc in subst (λ x. is_lt (elem_cmp elem x) ≡ true) same (and_parts _ _ all).0
    by false e rest = rest e

module _ (row : KeyRow) (rows : List KeyRow) (all : list_all (λ later. is_lt (elem_cmp row.elem later)) (elems_of rows) ≡ true) where
  abbrev has : List Part → Bool
  has tuple = list_any (is_at (tuple_cmp tuple)) row.tuples

  abbrev own : List Part → Option Elem
  own = owner (row ∷ rows)

  -- no owner is less than the row's element
  not_before : (tuple : List Part) (elem : Elem) → own tuple ≡ Some elem → is_lt (elem_cmp elem row.elem) ≡ false
  not_before tuple elem = by (has tuple)
    where
      by : (b : Bool) → cond b (Some row.elem) (owner rows tuple) ≡ Some elem → is_lt (elem_cmp elem row.elem) ≡ false
      by true e = let same : row.elem ≡ elem = cc in subst (λ x. is_lt (elem_cmp x row.elem) ≡ false) same (not_itself row.elem)
      by false e = not_both row.elem elem (owner_after row.elem rows all tuple elem e)

  -- so the row stays the nearest
  one_stays : (first tuple : List Part) → nearer (Some (row.elem, first)) (own tuple) tuple ≡ Some (row.elem, first)
  one_stays first tuple = by (own tuple) refl
    where
      by : (o : Option Elem) → own tuple ≡ o → nearer (Some (row.elem, first)) o tuple ≡ Some (row.elem, first)
      by None is = refl
      by (Some elem) is = ap (λ b. cond b (Some (elem, tuple)) (Some (row.elem, first))) (not_before tuple elem is)

  stays : (first : List Part) (tuples : List (List Part)) → nearest own (Some (row.elem, first)) tuples ≡ Some (row.elem, first)
  stays first [] = refl
  stays first (tuple ∷ tuples) = ap (λ found. nearest own found tuples) (one_stays first tuple) ∙ stays first tuples

  -- where it has a tuple, it is nearer than what was found behind it
  taken : (found : Option Sharer) → IsBehind row.elem found → (tuple : List Part) → nearer found (Some row.elem) tuple ≡ Some (row.elem, tuple)
  taken None behind tuple = refl
  taken (Some found) behind tuple = ap (λ b. cond b (Some (row.elem, tuple)) (Some found)) behind

  -- and what the rows after it have stays behind it
  still_behind : (found : Option Sharer) → IsBehind row.elem found → (tuple : List Part) → IsBehind row.elem (nearer found (owner rows tuple) tuple)
  still_behind found behind tuple = by (owner rows tuple) refl found behind
    where
      either : (b : Bool) (elem : Elem) (found : Sharer) → is_lt (elem_cmp row.elem elem) ≡ true → is_lt (elem_cmp row.elem found.0) ≡ true →
          IsBehind row.elem (cond b (Some (elem, tuple)) (Some found))
      either true elem found one other = one
      either false elem found one other = other

      by : (o : Option Elem) → owner rows tuple ≡ o → (found : Option Sharer) → IsBehind row.elem found → IsBehind row.elem (nearer found o tuple)
      by None is found behind = behind
      by (Some elem) is None behind = owner_after row.elem rows all tuple elem is
      by (Some elem) is (Some found) behind = either (is_lt (elem_cmp elem found.0)) elem found (owner_after row.elem rows all tuple elem is) behind

  nearest_more : (found : Option Sharer) → IsBehind row.elem found → (tuples : List (List Part)) →
      nearest own found tuples ≡ chosen row.elem (find has tuples) (nearest (owner rows) found tuples)
  nearest_more found behind [] = refl
  nearest_more found behind (tuple ∷ tuples) = by (has tuple) (nearest_more (nearer found (owner rows tuple) tuple) (still_behind found behind tuple) tuples)
    where
      by : (b : Bool) →
          nearest own (nearer found (owner rows tuple) tuple) tuples ≡ chosen row.elem (find has tuples) (nearest (owner rows) (nearer found (owner rows tuple) tuple) tuples) →
          nearest own (nearer found (cond b (Some row.elem) (owner rows tuple)) tuple) tuples
          ≡ chosen row.elem (cond b (Some tuple) (find has tuples)) (nearest (owner rows) (nearer found (owner rows tuple) tuple) tuples)
      by true rest = ap (λ o. nearest own o tuples) (taken found behind tuple) ∙ stays tuple tuples
      by false rest = rest

nearest_none : (tuples : List (List Part)) → nearest (owner []) None tuples ≡ None
nearest_none [] = refl
nearest_none (tuple ∷ tuples) = nearest_none tuples

nearest_is_first : (rows : List KeyRow) → ascends elem_cmp (elems_of rows) ≡ true → (tuples : List (List Part)) → nearest (owner rows) None tuples ≡ first_row rows tuples
nearest_is_first [] order tuples = nearest_none tuples
nearest_is_first (row ∷ rows) order tuples =
    let parts = and_parts _ _ order in
    nearest_more row rows parts.0 None tt tuples ∙ ap (chosen row.elem (shared_tuple tuples row.tuples)) (nearest_is_first rows parts.1 tuples)

abbrev made : ℕ → Elem → Sharer → Violation
made number elem sharer = Exclusive number elem sharer.0 sharer.1

first_row_makes : (number : ℕ) (row : KeyRow) (later : List KeyRow) → option_map (made number row.elem) (first_row later row.tuples) ≡ first_sharer number row later
first_row_makes number row [] = refl
first_row_makes number row (other ∷ later) = by (shared_tuple row.tuples other.tuples) (first_row_makes number row later)
  where
    by : (o : Option (List Part)) → option_map (made number row.elem) (first_row later row.tuples) ≡ first_sharer number row later →
        option_map (made number row.elem) (chosen other.elem o (first_row later row.tuples))
        ≡ slice_get (cons_option (option_map (Exclusive number row.elem other.elem) o) (filter_map (shared_value number row) later)) 0
    by None rest = rest
    by (Some tuple) rest = refl

-- what the table of the rows after a row gives is its first sharer
pub table_gives : (table : List Part → Option Elem) (number : ℕ) (row : KeyRow) (later : List KeyRow) → ((tuple : List Part) → table tuple ≡ owner later tuple) →
    ascends elem_cmp (elems_of later) ≡ true → option_map (made number row.elem) (nearest table None row.tuples) ≡ first_sharer number row later
table_gives table number row later same order =
    ap (option_map (made number row.elem)) (nearest_same table (owner later) same None row.tuples ∙ nearest_is_first later order row.tuples)
    ∙ first_row_makes number row later

-- ---- one row more, before the others

ascending_part : (rows : List KeyRow) (n : ℕ) → ascends elem_cmp (elems_of rows) ≡ true → ascends elem_cmp (elems_of (drop n rows)) ≡ true
ascending_part rows zero order = order
ascending_part [] (suc n) order = refl
ascending_part (row ∷ rows) (suc n) order = ascending_part rows n (and_parts _ _ order).1

backward : {Y : Type 0} (items : List Y) (o : Option Y) → reverse (items ++ option_to_list o) ≡ cons_option o (reverse items)
backward items None = ap reverse (append-nil items)
backward items (Some y) = reverse-append items (y ∷ [])

module _ (number : ℕ) (rows : List KeyRow) (order : ascends elem_cmp (elems_of rows) ≡ true) (place : ℕ) (above : 0 < place) (within : place ≤ length rows)
    (row : KeyRow) (is : row ≡ get_or rows (place - 1) row) where
  abbrev later : List KeyRow
  later = drop place rows

  with_row : drop (place - 1) rows ≡ row ∷ later
  with_row =
      let below : place - 1 < length rows = omega arith in
      let next : suc (place - 1) ≡ place = omega arith in
      drop-cons rows (place - 1) row below ∙ ap (λ n. get_or rows (place - 1) row ∷ drop n rows) next ∙ ap (λ r. r ∷ later) (sym is)

  pub row_found : (table : List Part → Option Elem) → ((tuple : List Part) → table tuple ≡ owner later tuple) → (found more : List Violation) (given : Option Violation) →
      reverse found ≡ shared_values number later → more ≡ found ++ option_to_list given → given ≡ option_map (made number row.elem) (nearest table None row.tuples) →
      reverse more ≡ shared_values number (drop (place - 1) rows)
  row_found table owns found more given so_far put gives =
      ap reverse put ∙ backward found given
      ∙ ap (λ o. cons_option o (reverse found)) (gives ∙ table_gives table number row later owns (ascending_part rows place order))
      ∙ ap (cons_option (first_sharer number row later)) so_far ∙ ap (shared_values number) (sym with_row)

  pub row_owns : (table next : List Part → Option Elem) → ((tuple : List Part) → table tuple ≡ owner later tuple) →
      ((tuple : List Part) → next tuple ≡ cond (list_any (is_at (tuple_cmp tuple)) row.tuples) (Some row.elem) (table tuple)) →
      (tuple : List Part) → next tuple ≡ owner (drop (place - 1) rows) tuple
  row_owns table next owns enters tuple =
      enters tuple ∙ ap (cond (list_any (is_at (tuple_cmp tuple)) row.tuples) (Some row.elem)) (owns tuple) ∙ ap (λ rs. owner rs tuple) (sym with_row)
