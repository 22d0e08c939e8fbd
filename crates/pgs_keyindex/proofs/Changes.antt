-- What a change makes of the key values of an element, and of the owners of values.
use Rattle.std.proofs.Common.{◌≡◌, ℕ, Bool, true, false, cond, List, Option, Some, None, refl, sym, ap, subst, ◌∙◌}
use Rattle.std.specs.Option.{option_map_or}
use Rattle.std.specs.Cmp.{Equal-is}
use Rattle.std.specs.List.Sorted.{IsStrictlySortedBy}
use Rattle.std.specs.Map.{keys_of, lookup}
use Rattle.std.specs.BTreeMap.{is_at}
use Rattle.pgs_base.specs.declared.element.Elem.{Elem}
use Rattle.pgs_base.specs.declared.part.Part.{Part}
use Rattle.pgs_base.proofs.Lookups.{lookup-insert_entry, lookup-remove_key}
use Rattle.pgs_graph.specs.Changed.{entry_changed}
use Rattle.pgs_keyindex.specs.declared.change.KeyChange.{KeyChange}
use Rattle.pgs_keyindex.specs.declared.member.Member.{Member}
use Rattle.pgs_keyindex.specs.Members.{member_of, member_cmp}
use Rattle.pgs_keyindex.specs.MemberLaws.{exact_member, member_cmp_total, found_again, key_found, elem_of}
use Rattle.pgs_keyindex.specs.Rows.{KeyRows, values_at, has_tuple, has_value, IsOwned, row_changed}

module _ (rows : KeyRows) (sorted : IsStrictlySortedBy member_cmp (keys_of rows)) (change : KeyChange) where
  -- the key values of an element after a change: the change's, where it is of this key and element, and else what they were
  pub values-row_changed : (key : ℕ) (elem : Elem) →
      values_at (row_changed rows change) key elem ≡ cond (is_at (member_cmp (member_of change.key change.elem)) (member_of key elem)) change.values (values_at rows key elem)
  values-row_changed key elem = by change.values
    where
      by : (values : Option (List (List Part))) → lookup (is_at (member_cmp (member_of key elem))) (entry_changed member_cmp rows (member_of change.key change.elem) values) ≡
          cond (is_at (member_cmp (member_of change.key change.elem)) (member_of key elem)) values (values_at rows key elem)
      by None = lookup-remove_key member_cmp_total (member_of key elem) (member_of change.key change.elem) rows sorted
      by (Some values) = lookup-insert_entry member_cmp_total (member_of key elem) (member_of change.key change.elem) values rows

  same_key : (key : ℕ) (elem : Elem) → is_at (member_cmp (member_of change.key change.elem)) (member_of key elem) ≡ true → (change.key ≡ key) × (change.elem ≡ elem)
  same_key key elem tie =
      let same = exact_member _ _ ((Equal-is (member_cmp (member_of change.key change.elem) (member_of key elem))).0 tie) in
      (sym (key_found change.key change.elem) ∙ ap (λ (m : Member). m.key) same ∙ key_found key elem, sym (found_again change.key change.elem) ∙ ap elem_of same ∙ found_again key elem)

  -- each value of an exclusive key still has one owner after a change whose values no other element has
  pub owned-row_changed : (exclusive : List Bool) → IsOwned exclusive rows →
      ((tuple : List Part) (elem : Elem) → option_map_or (has_tuple tuple) change.values false ≡ true → has_value rows change.key elem tuple ≡ true → elem ≡ change.elem) →
      IsOwned exclusive (row_changed rows change)
  owned-row_changed exclusive owned free key tuple first second asked one two =
      by (is_at (member_cmp (member_of change.key change.elem)) (member_of key first)) refl (is_at (member_cmp (member_of change.key change.elem)) (member_of key second)) refl
      (ap (λ o. option_map_or (has_tuple tuple) o false) (sym (values-row_changed key first)) ∙ one)
      (ap (λ o. option_map_or (has_tuple tuple) o false) (sym (values-row_changed key second)) ∙ two)
    where
      by : (a : Bool) → is_at (member_cmp (member_of change.key change.elem)) (member_of key first) ≡ a →
          (b : Bool) → is_at (member_cmp (member_of change.key change.elem)) (member_of key second) ≡ b →
          option_map_or (has_tuple tuple) (cond a change.values (values_at rows key first)) false ≡ true →
          option_map_or (has_tuple tuple) (cond b change.values (values_at rows key second)) false ≡ true → first ≡ second
      by true tie true tie2 h k = sym (same_key key first tie).1 ∙ (same_key key second tie2).1
      by true tie false apart h k =
          sym (same_key key first tie).1
          ∙ sym (free tuple second h (subst (λ n. has_value rows n second tuple ≡ true) (sym (same_key key first tie).0) k))
      by false apart true tie h k =
          free tuple first k (subst (λ n. has_value rows n first tuple ≡ true) (sym (same_key key second tie).0) h)
          ∙ (same_key key second tie).1
      by false apart false apart2 h k = owned key tuple first second asked h k
