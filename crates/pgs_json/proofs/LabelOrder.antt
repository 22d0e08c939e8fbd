-- Two labels give the same set in either order.
use Rattle.std.proofs.Common.{◌≡◌, ℕ, Bool, true, false, List, [], ◌∷◌, Some, refl, ap, Ordering, Less, Equal, Greater}
use Rattle.std.specs.Ordering.{nat_cmp, ordering_reverse, match_ordering}
use Rattle.std.specs.Cmp.Lexicographic.{slice_cmp, nat_list_cmp_total}
use Rattle.pgs_base.specs.OrderLaws.{exact_name}
use Rattle.pgs_base.specs.Name.{is_name}
use Rattle.pgs_json.specs.Sets.{label_set}
use Rattle.pgs_json.specs.Form.{labels_of}
use Rattle.serde_json.specs.Data.{string, array, item, no_items}

by_order : {K : Type 0} (a b : K) (r s : Ordering) → r ≡ ordering_reverse s → (r ≡ Equal → a ≡ b) → match_ordering s (b ∷ a ∷ []) (a ∷ []) (a ∷ b ∷ []) ≡ match_ordering r (a ∷ b ∷ []) (b ∷ []) (b ∷ a ∷ [])
by_order a b Less Greater h e = refl
by_order a b Greater Less h e = refl
by_order a b Equal Equal h e = ap (λ x. x ∷ []) (e refl)
by_order a b r s h e = cc

two_labels : (a b : List ℕ) → label_set (a ∷ b ∷ []) ≡ label_set (b ∷ a ∷ [])
two_labels a b = by_order a b (slice_cmp nat_cmp a b) (slice_cmp nat_cmp b a) (nat_list_cmp_total.antisymm a b) (exact_name a b)

by_names : (a b : List ℕ) (p q : Bool) → is_name a ≡ p → is_name b ≡ q → labels_of (array (item (string a) (item (string b) no_items))) ≡ labels_of (array (item (string b) (item (string a) no_items)))
unfolding labels_of
by_names a b true true h k = rw (h, k) (ap Some (two_labels a b))
by_names a b true false h k = rw (h, k) refl
by_names a b false true h k = rw (h, k) refl
by_names a b false false h k = rw (h, k) refl

pub labels_either_order : (a b : List ℕ) → labels_of (array (item (string a) (item (string b) no_items))) ≡ labels_of (array (item (string b) (item (string a) no_items)))
labels_either_order a b = by_names a b (is_name a) (is_name b) refl refl
