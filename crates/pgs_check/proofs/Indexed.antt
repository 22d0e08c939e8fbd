-- Rows of changed elements, key by key, make an index stand for the changed graph.
use Rattle.std.proofs.Common.{◌≡◌, ℕ, zero, suc, ◌+◌, ◌<◌, ◌≤◌, Bool, true, false, cond, ◌⊎◌, inl, inr, ⊎_elim, List, [], ◌∷◌, ◌++◌, map, length, Option, Some, slice_get, refl, sym, ◌∙◌, ap, subst, true≢false, arith, Ordering, Less, Equal, Greater, is_lt, is_eq}
use Rattle.std.specs.Prelude.{Contains, filter_map}
use Rattle.std.specs.Ordering.{nat_cmp, bool_cmp, ordering_then, ordering_reverse}
use Rattle.std.specs.Option.{option_map_or}
use Rattle.std.specs.BTreeMap.{is_at}
use Rattle.std.specs.Cmp.{Equal-is, nat_cmp_total, nat_cmp_is, tied_itself}
use Rattle.std.specs.List.{list_all}
use Rattle.std.specs.List.Sorted.{IsStrictlySortedBy}
use Rattle.std.specs.Map.{keys_of}
use Rattle.std.proofs.lemmas.Bool.{and_parts, and_from, cases_order}
use Rattle.std.proofs.lemmas.List.Elements.{Contains-append_left, Contains-append_right, Contains-append_cases}
use Rattle.std.proofs.lemmas.Option.{slice_get_within}
use Rattle.pgs_base.specs.declared.element.Elem.{Elem}
use Rattle.pgs_base.specs.declared.element.Elem.TheVariants.{Node, Edge}
use Rattle.pgs_base.specs.declared.part.Part.{Part}
use Rattle.pgs_base.specs.Graph.{Graph, is_graph}
use Rattle.pgs_base.specs.Order.{ascends, elem_cmp}
use Rattle.pgs_base.specs.OrderLaws.{elem_cmp_total, exact_elem}
use Rattle.pgs_graph.proofs.Deltas.{ascending-entry_changed}
use Rattle.pgs_syntax.specs.declared.key.Key.{Key}
use Rattle.pgs_syntax.specs.declared.resolved.Resolved.{Resolved}
use Rattle.pgs_syntax.specs.KeyValues.{scope_of, key_values}
use Rattle.pgs_syntax.proofs.Members.{contains_none, contains_cases, contains_first, contains_later}
use Rattle.pgs_violation.specs.Violations.{mandatory_violation, singleton_violation, exclusive_violation, count_violation, where_asked, where_bounded, key_violations, keys_violations}
use Rattle.pgs_keyindex.specs.declared.change.KeyChange.{KeyChange}
use Rattle.pgs_keyindex.specs.declared.member.Member.{Member}
use Rattle.pgs_keyindex.specs.Index.{IndexState}
use Rattle.pgs_keyindex.specs.Members.{member_of, member_cmp}
use Rattle.pgs_keyindex.specs.MemberLaws.{exact_member, member_cmp_total, found_again, key_found, elem_of}
use Rattle.pgs_keyindex.specs.Rows.{KeyRows, values_at, has_tuple, has_value, is_exclusive, IsOwned, row_changed, rows_changed}
use Rattle.pgs_keyindex.specs.Standing.{StandsFor, key_at, values_in_scope, exclusive_keys}
use Rattle.pgs_keyindex.proofs.Changes.{values-row_changed}
use Rattle.pgs_check_affected.specs.Local.{is_one_of}
use Rattle.pgs_check.specs.Rows.{change_of}
use Rattle.pgs_check.specs.Standing.{member_of_change, ChangeEachOnce, AreRows, AreChanges, index_changed}
use Rattle.pgs_check.proofs.KeyFirst.{listed_there, row_there, row_from, no_front}
use Rattle.pgs_check.proofs.Shared.{Values, holds, shared_none}

-- ---- changes ascend

same_key_cmp : (n : ℕ) (e f : Elem) → member_cmp (member_of n e) (member_of n f) ≡ elem_cmp e f
same_key_cmp n (Node a) (Node b) = ap (λ o. ordering_then o (nat_cmp a.0 b.0)) (tied_itself nat_cmp_total n)
same_key_cmp n (Node a) (Edge b) = ap (λ o. ordering_then o Less) (tied_itself nat_cmp_total n)
same_key_cmp n (Edge a) (Node b) = ap (λ o. ordering_then o Greater) (tied_itself nat_cmp_total n)
same_key_cmp n (Edge a) (Edge b) = ap (λ o. ordering_then o (nat_cmp a.0 b.0)) (tied_itself nat_cmp_total n)

lesser_key : (x y : Member) → x.key < y.key → is_lt (member_cmp x y) ≡ true
lesser_key x y less =
    ap (λ o. is_lt (ordering_then o (ordering_then (bool_cmp x.edge y.edge) (nat_cmp x.id y.id)))) (sym (nat_cmp_is x.key y.key Less less))

module _ (number : ℕ) (values : Values) where
  abbrev member : Elem → Member
  member elem = member_of_change (change_of number values elem)

  all_later : (elem : Elem) (elems : List Elem) → list_all (λ later. is_lt (elem_cmp elem later)) elems ≡ true →
      list_all (λ later. is_lt (member_cmp (member elem) later)) (map member_of_change (map (change_of number values) elems)) ≡ true
  all_later elem [] h = refl
  all_later elem (other ∷ elems) h =
      let parts = and_parts _ _ h in
      and_from _ _ (ap is_lt (same_key_cmp number elem other) ∙ parts.0) (all_later elem elems parts.1)

  rows_once : (elems : List Elem) → ascends elem_cmp elems ≡ true → ChangeEachOnce (map (change_of number values) elems)
  rows_once [] h = refl
  rows_once (elem ∷ elems) h =
      let parts = and_parts _ _ h in and_from _ _ (all_later elem elems parts.0) (rows_once elems parts.1)

ascends_append : (xs ys : List KeyChange) → ChangeEachOnce xs → ChangeEachOnce ys →
    ((x y : KeyChange) → Contains xs x → Contains ys y → x.key < y.key) → ChangeEachOnce (xs ++ ys)
ascends_append [] ys first second across = second
ascends_append (x ∷ xs) ys first second across =
    let parts = and_parts _ _ first in
    and_from _ _ (all xs ys parts.0 (λ y there. across x y (contains_first x xs) there))
    (ascends_append xs ys parts.1 second (λ z y in_xs in_ys. across z y (contains_later x xs z in_xs) in_ys))
  where
    behind : (ys : List KeyChange) → ((y : KeyChange) → Contains ys y → x.key < y.key) →
        list_all (λ later. is_lt (member_cmp (member_of_change x) later)) (map member_of_change ys) ≡ true
    behind [] h = refl
    behind (y ∷ ys) h =
        and_from _ _ (lesser_key (member_of_change x) (member_of_change y) (keys (h y (contains_first y ys))))
        (behind ys (λ z there. h z (contains_later y ys z there)))
      where
        keys : x.key < y.key → (member_of_change x).key < (member_of_change y).key
        keys less = subst (λ k. k < (member_of_change y).key) (sym (key_found x.key x.elem)) (subst (λ k. x.key < k) (sym (key_found y.key y.elem)) less)

    all : (xs ys : List KeyChange) → list_all (λ later. is_lt (member_cmp (member_of_change x) later)) (map member_of_change xs) ≡ true →
        ((y : KeyChange) → Contains ys y → x.key < y.key) →
        list_all (λ later. is_lt (member_cmp (member_of_change x) later)) (map member_of_change (xs ++ ys)) ≡ true
    all [] ys h across = behind ys across
    all (z ∷ xs) ys h across = let parts = and_parts _ _ h in and_from _ _ parts.0 (all xs ys parts.1 across)

-- ---- the changes of one key more

module _ (resolved : Resolved) (g h : Graph) (keys : List Key) where
  -- no changes of no keys
  pub no_changes : (changes : List KeyChange) → changes ≡ [] → AreChanges resolved g h keys 0 changes
  no_changes changes is = subst (AreChanges resolved g h keys 0) (sym is) (record {
    once = refl;
    below = λ change there. absurd (contains_none change there);
    right = λ change there. absurd (contains_none change there);
    whole = λ number upto key at elem. none number upto key at elem;
  })
    where
      none : (number : ℕ) → number ≤ 0 → (key : Key) → key_at keys number ≡ Some key → (elem : Elem) →
          (values_in_scope resolved g key elem ≡ values_in_scope resolved h key elem)
          ⊎ Contains [] (change_of number (values_in_scope resolved h key) elem)
      none zero upto key at elem = cc
      none (suc number) upto key at elem = absurd (omega arith)

  module _ (upto : ℕ) (key : Key) (at_next : key_at keys (upto + 1) ≡ Some key) (changes rows : List KeyChange) (before : AreChanges resolved g h keys upto changes)
      (own : AreRows (upto + 1) (values_in_scope resolved g key) (values_in_scope resolved h key) rows) where
    abbrev new : Values
    new = values_in_scope resolved h key

    from : (row : KeyChange) → Contains rows row → (elem : Elem) × Contains own.elems elem × (change_of (upto + 1) new elem ≡ row)
    from row there = row_from (upto + 1) new own.elems row (subst (λ rs. Contains rs row) own.are there)

    one_key : (other : Key) (number : ℕ) → number ≡ upto + 1 → key_at keys number ≡ Some other → key ≡ other
    one_key other number same at = let both : Some key ≡ Some other = sym at_next ∙ ap (key_at keys) (sym same) ∙ at in cc

    abbrev Whole : ℕ → Key → Elem → Type 0
    Whole number other elem = (values_in_scope resolved g other elem ≡ values_in_scope resolved h other elem)
        ⊎ Contains (changes ++ rows) (change_of number (values_in_scope resolved h other) elem)

    pub more_changes : AreChanges resolved g h keys (upto + 1) (changes ++ rows)
    more_changes = record {
      once = ascends_append changes rows before.once (subst ChangeEachOnce (sym own.are) (rows_once (upto + 1) new own.elems own.ascending))
          (λ x y in_changes in_rows.
          let low = before.below x in_changes in
          let it = from y in_rows in
          let is : upto + 1 ≡ y.key = ap (λ (r : KeyChange). r.key) it.2 in omega arith);
      below = λ change there. ⊎_elim (λ one. let low = before.below change one in omega arith)
          (λ other. let it = from change other in let is : upto + 1 ≡ change.key = ap (λ (r : KeyChange). r.key) it.2 in omega arith)
          (Contains-append_cases changes rows change there);
      right = λ change there other at. ⊎_elim (λ one. before.right change one other at)
          (λ last. let it = from change last in
          let same = one_key other change.key (sym (ap (λ (r : KeyChange). r.key) it.2)) at in
          subst (λ (r : KeyChange). r.values ≡ values_in_scope resolved h other r.elem) it.2 (ap (λ k. values_in_scope resolved h k it.0) same))
          (Contains-append_cases changes rows change there);
      whole = by;
    }
      where
        earlier : (number : ℕ) → number ≤ upto → (other : Key) → key_at keys number ≡ Some other → (elem : Elem) → Whole number other elem
        earlier number within other at elem =
            ⊎_elim (λ same. inl same) (λ there. inr (Contains-append_left changes rows _ there)) (before.whole number within other at elem)

        last : (elem : Elem) → (b : Bool) → is_one_of own.elems elem ≡ b → Whole (upto + 1) key elem
        last elem true is =
            inr (Contains-append_right changes rows _ (subst (λ rs. Contains rs (change_of (upto + 1) new elem)) (sym own.are)
            (row_there (upto + 1) new own.elems elem (listed_there own.elems elem is))))
        last elem false is = inl (own.others elem is)

        next : (number : ℕ) → number ≡ upto + 1 → (other : Key) → key_at keys number ≡ Some other → (elem : Elem) → Whole number other elem
        next number is other at elem =
            let same = one_key other number is at in
            subst (λ n. Whole n other elem) (sym is) (subst (λ k. Whole (upto + 1) k elem) same (last elem (is_one_of own.elems elem) refl))

        by : (number : ℕ) → number ≤ upto + 1 → (other : Key) → key_at keys number ≡ Some other → (elem : Elem) → Whole number other elem
        by number within other at elem =
            ⊎_elim (λ (same : number ≡ upto + 1). next number same other at elem)
            (λ either. ⊎_elim (λ (less : number < upto + 1). earlier number (omega arith) other at elem) (λ (more : upto + 1 < number). absurd (omega arith)) either)
            (cases_order number (upto + 1))

-- ---- the index after all changes

module _ (number : ℕ) (elem : Elem) (new : Option (List (List Part))) where
  -- a row is right after changes, where it was before or where it is changed
  after_changes : (rows : KeyRows) → IsStrictlySortedBy member_cmp (keys_of rows) → (changes : List KeyChange) →
      ((change : KeyChange) → Contains changes change → change.key ≡ number → change.elem ≡ elem → change.values ≡ new) →
      (values_at rows number elem ≡ new) ⊎ Contains changes (record { key = number; elem = elem; values = new }) → values_at (rows_changed rows changes) number elem ≡ new
  after_changes rows sorted [] right either = ⊎_elim (λ same. same) (λ there. absurd (contains_none _ there)) either
  after_changes rows sorted (change ∷ changes) right either =
      after_changes (row_changed rows change) (ascending-entry_changed member_cmp_total (member_of change.key change.elem) change.values rows sorted) changes
      (λ c there. right c (contains_later change changes c there)) (by (is_at (member_cmp (member_of change.key change.elem)) (member_of number elem)) refl)
    where
      moved : values_at (row_changed rows change) number elem ≡ cond (is_at (member_cmp (member_of change.key change.elem)) (member_of number elem)) change.values (values_at rows number elem)
      moved = values-row_changed rows sorted change number elem

      by : (b : Bool) → is_at (member_cmp (member_of change.key change.elem)) (member_of number elem) ≡ b →
          (values_at (row_changed rows change) number elem ≡ new) ⊎ Contains changes (record { key = number; elem = elem; values = new })
      by true here =
          let same = exact_member _ _ ((Equal-is (member_cmp (member_of change.key change.elem) (member_of number elem))).0 here) in
          let keys = sym (key_found change.key change.elem) ∙ ap (λ (m : Member). m.key) same ∙ key_found number elem in
          let elems = sym (found_again change.key change.elem) ∙ ap elem_of same ∙ found_again number elem in
          inl (moved ∙ ap (λ b. cond b change.values (values_at rows number elem)) here ∙ right change (contains_first change changes) keys elems)
      by false apart =
          ⊎_elim (λ same. inl (moved ∙ ap (λ b. cond b change.values (values_at rows number elem)) apart ∙ same))
          (λ there. ⊎_elim
          (λ is. absurd (true≢false (sym (ap is_eq (tied_itself member_cmp_total (member_of number elem)))
          ∙ ap (λ (c : KeyChange). is_at (member_cmp (member_of c.key c.elem)) (member_of number elem)) (sym is) ∙ apart)))
          (λ later. inr later) (contains_cases change changes _ there)) either

key_within : (keys : List Key) (number : ℕ) (key : Key) → key_at keys number ≡ Some key → number ≤ length keys
key_within keys zero key at = cc
key_within keys (suc place) key at = let within = slice_get_within keys place key at in omega arith

-- the violations of each key are among those of all
key_nothing : (resolved : Resolved) (h : Graph) (first : ℕ) (keys : List Key) → keys_violations resolved h first keys ≡ [] → (place : ℕ) (key : Key) →
    slice_get keys place ≡ Some key → key_violations resolved h (place + first) key ≡ []
key_nothing resolved h first [] none place key at = cc
key_nothing resolved h first (own ∷ keys) none zero key at =
    let same : own ≡ key = cc in
    let number : first ≡ zero + first = omega arith in
    subst (λ n. key_violations resolved h n key ≡ []) number
    (subst (λ k. key_violations resolved h first k ≡ []) same (no_front (key_violations resolved h first own) (keys_violations resolved h (first + 1) keys) none).0)
key_nothing resolved h first (own ∷ keys) none (suc place) key at =
    let number : place + (first + 1) ≡ suc place + first = omega arith in
    subst (λ n. key_violations resolved h n key ≡ []) number
    (key_nothing resolved h (first + 1) keys (no_front (key_violations resolved h first own) (keys_violations resolved h (first + 1) keys) none).1 place key at)

pub key_none : (resolved : Resolved) (h : Graph) (keys : List Key) → keys_violations resolved h 1 keys ≡ [] → (number : ℕ) (key : Key) →
    key_at keys number ≡ Some key → key_violations resolved h number key ≡ []
key_none resolved h keys none zero key at = cc
key_none resolved h keys none (suc place) key at =
    let number : place + 1 ≡ suc place = omega arith in
    subst (λ n. key_violations resolved h n key ≡ []) number (key_nothing resolved h 1 keys none place key at)

exclusive_key : (keys : List Key) (place : ℕ) → option_map_or (λ asked. asked) (slice_get (exclusive_keys keys) place) false ≡ true →
    (key : Key) × (slice_get keys place ≡ Some key) × (key.qualifiers.exclusive ≡ true)
exclusive_key [] place h = absurd (true≢false (sym h))
exclusive_key (key ∷ keys) zero h = (key, refl, h)
exclusive_key (key ∷ keys) (suc place) h = exclusive_key keys place h

-- an exclusive key without violations has no 29
pub shared_nothing : (resolved : Resolved) (h : Graph) (number : ℕ) (key : Key) → key.qualifiers.exclusive ≡ true → key_violations resolved h number key ≡ [] →
    filter_map (exclusive_violation number (scope_of resolved h key) (key_values resolved h key)) (scope_of resolved h key) ≡ []
shared_nothing resolved h number key asked none =
    let scope = scope_of resolved h key in
    let values = key_values resolved h key in
    let shared = filter_map (exclusive_violation number scope values) scope in
    let front = where_asked key.qualifiers.mandatory (filter_map (mandatory_violation number values) scope) ++ where_asked key.qualifiers.singleton (filter_map (singleton_violation number values) scope) in
    let three = (no_front (front ++ where_asked key.qualifiers.exclusive shared) (where_bounded key.qualifiers.count (λ bounds. filter_map (count_violation number values bounds) scope)) none).0 in
    ap (λ b. where_asked b shared) (sym asked) ∙ (no_front front (where_asked key.qualifiers.exclusive shared) three).1

module _ (resolved : Resolved) (g h : Graph) (after : is_graph h ≡ true) (keys : List Key) (index : IndexState) (stands : StandsFor resolved g keys index)
    (sorted : IsStrictlySortedBy member_cmp (keys_of index.rows)) (changes : List KeyChange) (are : AreChanges resolved g h keys (length keys) changes) where
  rows_after : (number : ℕ) (key : Key) → key_at keys number ≡ Some key → (elem : Elem) →
      values_at (rows_changed index.rows changes) number elem ≡ values_in_scope resolved h key elem
  rows_after number key at elem =
      after_changes number elem (values_in_scope resolved h key elem) index.rows sorted changes
      (λ change there keys_same elems_same.
      subst (λ e. change.values ≡ values_in_scope resolved h key e) elems_same (are.right change there key (ap (key_at keys) keys_same ∙ at)))
      (⊎_elim (λ same. inl (stands.rows number key at elem ∙ same)) (λ there. inr there) (are.whole number (key_within keys number key at) key at elem))

  pub stands_after : StandsFor resolved h keys (index_changed index changes)
  stands_after = record { exclusive = stands.exclusive; rows = rows_after }

  pub owned_after : keys_violations resolved h 1 keys ≡ [] → IsOwned index.exclusive (rows_changed index.rows changes)
  owned_after none number tuple first second asked one other = by number (subst (λ es. is_exclusive es number ≡ true) stands.exclusive asked) one other
    where
      by : (number : ℕ) → is_exclusive (exclusive_keys keys) number ≡ true → has_value (rows_changed index.rows changes) number first tuple ≡ true →
          has_value (rows_changed index.rows changes) number second tuple ≡ true → first ≡ second
      by zero asked one other = absurd (true≢false (sym asked))
      by (suc place) asked one other =
          let it = exclusive_key keys place asked in
          let key = it.0 in
          let first_holds = sym (ap (λ o. option_map_or (has_tuple tuple) o false) (rows_after (suc place) key it.1 first)) ∙ one in
          let second_holds = sym (ap (λ o. option_map_or (has_tuple tuple) o false) (rows_after (suc place) key it.1 second)) ∙ other in
          let nothing = key_none resolved h keys none (suc place) key it.1 in
          let shared = shared_nothing resolved h (suc place) key it.2 nothing in
          apart first second (λ e f less e_holds f_holds. shared_none resolved h key after (suc place) shared e f tuple (record { less = less; one = e_holds; other = f_holds }))
          first_holds second_holds
        where
          apart : (x y : Elem) → ((e f : Elem) → elem_cmp e f ≡ Less → holds (values_in_scope resolved h (exclusive_key keys place asked).0) e tuple ≡ true →
              holds (values_in_scope resolved h (exclusive_key keys place asked).0) f tuple ≡ true → ⊥) →
              holds (values_in_scope resolved h (exclusive_key keys place asked).0) x tuple ≡ true →
              holds (values_in_scope resolved h (exclusive_key keys place asked).0) y tuple ≡ true → x ≡ y
          apart x y never one other = cases (elem_cmp x y) refl
            where
              cases : (o : Ordering) → elem_cmp x y ≡ o → x ≡ y
              cases Less is = absurd (never x y is one other)
              cases Equal is = exact_elem x y is
              cases Greater is = absurd (never y x (elem_cmp_total.antisymm y x ∙ ap ordering_reverse is) other one)
