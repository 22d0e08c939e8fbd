-- A test of joins says that there are two pairs, each of which passes its test, whose join is the pair.
use Rattle.std.proofs.Common.{◌≡◌, ℕ, Bool, true, false, ◌&&◌, ◌||◌, cond, List, [], ◌∷◌, filter, Option, Some, None, is_some, refl, sym, ◌∙◌, ap, subst, true≢false, Ordering, Less, Equal, Greater, is_lt, is_eq}
use Rattle.std.specs.Ordering.{nat_cmp}
use Rattle.std.specs.Cmp.{tied_itself}
use Rattle.std.specs.Cmp.Lexicographic.{slice_cmp, nat_list_cmp_total}
use Rattle.std.specs.List.{list_any, list_all}
use Rattle.std.specs.List.Sorted.{IsStrictlySortedBy}
use Rattle.std.specs.Map.{keys_of}
use Rattle.std.proofs.lemmas.Bool.{and_parts, and_from}
use Rattle.std.proofs.lemmas.List.Kept.{IsStrictlySortedBy-filter}
use Rattle.std.proofs.lemmas.Map.Entries.{lookup-filter-keys}
use Rattle.std.proofs.lemmas.Map.Lookups.{exact_bytes}
use Rattle.std.proofs.lemmas.Map.Views.{any-filter_same}
use Rattle.pgs_base.specs.declared.row.NodeRow.{NodeRow}
use Rattle.pgs_base.specs.declared.value.Value.{Value}
use Rattle.pgs_base.specs.Order.{ascends}
use Rattle.pgs_base.specs.Name.{is_name}
use Rattle.pgs_base.specs.Pair.{same_name, has_name, value_at, pair_of, are_names, is_pair}
use Rattle.pgs_base.specs.Value.{is_value}
use Rattle.pgs_base.proofs.Ascending.{ascends_decides}
use Rattle.pgs_base.proofs.Lookups.{same_entries, same_keys}
use Rattle.pgs_syntax.specs.Join.{halves, of_pairs, joined, joined_all}
use Rattle.pgs_syntax.specs.Meaning.{IsUnionAt, IsJoinWhere, IsJoinOf, IsJoinOfAll}
use Rattle.pgs_syntax.proofs.Halves.{joined_any, any_halves}
use Rattle.pgs_syntax.proofs.Parts.{one_name}
use Rattle.pgs_syntax.proofs.Splits.{IsSplit, none, to_left, to_right, to_both, split_from_any, any_from_split, split_any, split_all, split_ascends, split_map}

abbrev Names : Type 0
Names = List (List ℕ)

abbrev Entries : Type 0
Entries = List (List ℕ × Value)

-- ---- the values of two parts are those of the whole

own_name : (name : List ℕ) → same_name name name ≡ true
own_name name = ap is_eq (tied_itself nat_list_cmp_total name)

not_less : (o : Ordering) → is_lt o ≡ true → is_eq o ≡ false
not_less Less h = refl
not_less Equal h = absurd (true≢false (sym h))
not_less Greater h = refl

-- a key below all others isn't among them
absent_below : (key : List ℕ) (entries : Entries) → list_all (λ later. is_lt (slice_cmp nat_cmp key later)) (keys_of entries) ≡ true → value_at key entries ≡ None
absent_below key [] below = refl
absent_below key (entry ∷ entries) below =
    let parts = and_parts _ _ below in
    let other : same_name key entry.0 ≡ false = not_less (slice_cmp nat_cmp key entry.0) parts.0 in
    rw other (absent_below key entries parts.1)

union_none : (a b : Option Value) → IsUnionAt a b None → (a ≡ None) × (b ≡ None)
union_none None None h = (refl, refl)
union_none (Some v) None h = cc
union_none None (Some w) h = cc
union_none (Some v) (Some w) h = let e = h.1 in cc

with_left : (v : Value) (b : Option Value) → b ≡ None → IsUnionAt (Some v) b (Some v)
with_left v None e = refl
with_left v (Some w) e = cc

with_right : (v : Value) (a : Option Value) → a ≡ None → IsUnionAt a (Some v) (Some v)
with_right v None e = refl
with_right v (Some w) e = cc

module _ (key : List ℕ) where
  pub split_values : (l r entries : Entries) → IsSplit l r entries → ascends (slice_cmp nat_cmp) (keys_of entries) ≡ true →
      IsUnionAt (value_at key l) (value_at key r) (value_at key entries)
  split_values _ _ _ none h = refl
  split_values _ _ _ (to_left {x} {l} {r} {xs} split) h = by (same_name key x.0) refl (split_values l r xs split (and_parts _ _ h).1)
    where
      by : (b : Bool) → same_name key x.0 ≡ b → IsUnionAt (value_at key l) (value_at key r) (value_at key xs) →
          IsUnionAt (cond b (Some x.1) (value_at key l)) (value_at key r) (cond b (Some x.1) (value_at key xs))
      by true same rest =
          let gone : value_at key xs ≡ None = ap (λ k. value_at k xs) (one_name key x.0 same) ∙ absent_below x.0 xs (and_parts _ _ h).0 in
          with_left x.1 _ (union_none _ _ (subst (IsUnionAt (value_at key l) (value_at key r)) gone rest)).1
      by false other rest = rest
  split_values _ _ _ (to_right {x} {l} {r} {xs} split) h = by (same_name key x.0) refl (split_values l r xs split (and_parts _ _ h).1)
    where
      by : (b : Bool) → same_name key x.0 ≡ b → IsUnionAt (value_at key l) (value_at key r) (value_at key xs) →
          IsUnionAt (value_at key l) (cond b (Some x.1) (value_at key r)) (cond b (Some x.1) (value_at key xs))
      by true same rest =
          let gone : value_at key xs ≡ None = ap (λ k. value_at k xs) (one_name key x.0 same) ∙ absent_below x.0 xs (and_parts _ _ h).0 in
          with_right x.1 _ (union_none _ _ (subst (IsUnionAt (value_at key l) (value_at key r)) gone rest)).0
      by false other rest = rest
  split_values _ _ _ (to_both {x} {l} {r} {xs} split) h = by (same_name key x.0) (split_values l r xs split (and_parts _ _ h).1)
    where
      by : (b : Bool) → IsUnionAt (value_at key l) (value_at key r) (value_at key xs) →
          IsUnionAt (cond b (Some x.1) (value_at key l)) (cond b (Some x.1) (value_at key r)) (cond b (Some x.1) (value_at key xs))
      by true rest = (refl, refl)
      by false rest = rest

-- ---- two parts that have the items of the whole together are a split of it

-- the items that pass each of two tests, where each item passes one
picked : {X : Type 0} (p q : X → Bool) (xs : List X) → list_all (λ x. p x || q x) xs ≡ true → IsSplit (filter p xs) (filter q xs) xs
picked p q [] h = none
picked {X} p q (x ∷ xs) h = by (p x) (q x) (and_parts _ _ h).0 (picked p q xs (and_parts _ _ h).1)
  where
    by : (a b : Bool) → (a || b) ≡ true → IsSplit (filter p xs) (filter q xs) xs →
        IsSplit (cond a (x ∷ filter p xs) (filter p xs)) (cond b (x ∷ filter q xs) (filter q xs)) (x ∷ xs)
    by true true e rest = to_both rest
    by true false e rest = to_left rest
    by false true e rest = to_right rest
    by false false e rest = absurd (true≢false (sym e))

or_second : (a b : Bool) → b ≡ true → (a || b) ≡ true
or_second true b h = refl
or_second false b h = h

all_labels : (t : List ℕ → Bool) (labels : Names) → ((x : List ℕ) → has_name x labels ≡ true → t x ≡ true) → list_all t labels ≡ true
all_labels t [] h = refl
all_labels t (label ∷ labels) h =
    and_from _ _ (h label (ap (λ b. b || has_name label labels) (own_name label)))
    (all_labels t labels (λ x there. h x (or_second (same_name x label) (has_name x labels) there)))

absorb_left : (a b : Bool) → (a && (a || b)) ≡ a
absorb_left true b = refl
absorb_left false b = refl

absorb_right : (a b : Bool) → (b && (a || b)) ≡ b
absorb_right a true = or_second a true refl
absorb_right a false = refl

module _ (part labels : Names) where
  abbrev in_part : List ℕ → Bool
  in_part x = has_name x part

  -- the labels of a part, picked from the whole
  picked_labels : ascends (slice_cmp nat_cmp) part ≡ true → ascends (slice_cmp nat_cmp) labels ≡ true →
      ((label : List ℕ) → (in_part label && has_name label labels) ≡ in_part label) → filter in_part labels ≡ part
  picked_labels first second all =
      same_keys nat_list_cmp_total exact_bytes (filter in_part labels) part
      (IsStrictlySortedBy-filter (slice_cmp nat_cmp) in_part labels ((ascends_decides (slice_cmp nat_cmp) labels).0 second))
      ((ascends_decides (slice_cmp nat_cmp) part).0 first)
      (λ q. any-filter_same (same_name q) in_part (in_part q) (λ k same. ap in_part (sym (one_name q k same))) labels ∙ all q)

pub labels_split : (l r labels : Names) → ascends (slice_cmp nat_cmp) l ≡ true → ascends (slice_cmp nat_cmp) r ≡ true → ascends (slice_cmp nat_cmp) labels ≡ true →
    ((label : List ℕ) → has_name label labels ≡ (has_name label l || has_name label r)) → IsSplit l r labels
labels_split l r labels left right whole together =
    let all : list_all (λ x. has_name x l || has_name x r) labels ≡ true = all_labels _ labels (λ x there. sym (together x) ∙ there) in
    let first : filter (in_part l labels) labels ≡ l =
    picked_labels l labels left whole (λ q. ap (λ b. has_name q l && b) (together q) ∙ absorb_left (has_name q l) (has_name q r)) in
    let second : filter (in_part r labels) labels ≡ r =
    picked_labels r labels right whole (λ q. ap (λ b. has_name q r && b) (together q) ∙ absorb_right (has_name q l) (has_name q r)) in
    subst (λ (s : Names). IsSplit s r labels) first
    (subst (λ (s : Names). IsSplit (filter (in_part l labels) labels) s labels) second (picked (in_part l labels) (in_part r labels) labels all))

all_entries : (t : List ℕ × Value → Bool) (entries : Entries) →
    ((entry : List ℕ × Value) → is_some (value_at entry.0 entries) ≡ true → t entry ≡ true) → list_all t entries ≡ true
all_entries t [] h = refl
all_entries t (entry ∷ entries) h =
    and_from _ _ (h entry (ap (λ b. is_some (cond b (Some entry.1) (value_at entry.0 entries))) (own_name entry.0)))
    (all_entries t entries (λ other there. h other (kept (same_name other.0 entry.0) (value_at other.0 entries) there)))
  where
    kept : (b : Bool) (o : Option Value) → is_some o ≡ true → is_some (cond b (Some entry.1) o) ≡ true
    kept true o there = refl
    kept false o there = there

union_left : (a b whole : Option Value) → IsUnionAt a b whole → cond (is_some a) whole None ≡ a
union_left None b whole h = refl
union_left (Some v) None whole h = h
union_left (Some v) (Some w) whole h = h.1

union_right : (a b whole : Option Value) → IsUnionAt a b whole → cond (is_some b) whole None ≡ b
union_right a None whole h = refl
union_right None (Some w) whole h = h
union_right (Some v) (Some w) whole h = h.1 ∙ ap Some h.0

union_some : (a b whole : Option Value) → IsUnionAt a b whole → is_some whole ≡ true → (is_some a || is_some b) ≡ true
union_some None None whole h there = sym (ap is_some h) ∙ there
union_some (Some v) b whole h there = refl
union_some None (Some w) whole h there = refl

keys-filter : (p : List ℕ → Bool) (entries : Entries) → keys_of (filter (λ (e : List ℕ × Value). p e.0) entries) ≡ filter p (keys_of entries)
keys-filter p [] = refl
keys-filter p (entry ∷ entries) = by (p entry.0) (keys-filter p entries)
  where
    by : (b : Bool) → keys_of (filter (λ (e : List ℕ × Value). p e.0) entries) ≡ filter p (keys_of entries) →
        keys_of (cond b (entry ∷ filter (λ (e : List ℕ × Value). p e.0) entries) (filter (λ (e : List ℕ × Value). p e.0) entries))
        ≡ cond b (entry.0 ∷ filter p (keys_of entries)) (filter p (keys_of entries))
    by true rest = ap (λ ks. entry.0 ∷ ks) rest
    by false rest = rest

module _ (part entries : Entries) where
  abbrev keyed : List ℕ × Value → Bool
  keyed entry = is_some (value_at entry.0 part)

  -- the entries of a part, picked from the whole
  picked_entries : ascends (slice_cmp nat_cmp) (keys_of part) ≡ true → ascends (slice_cmp nat_cmp) (keys_of entries) ≡ true →
      ((key : List ℕ) → cond (is_some (value_at key part)) (value_at key entries) None ≡ value_at key part) → filter keyed entries ≡ part
  picked_entries first second all =
      same_entries nat_list_cmp_total exact_bytes (filter keyed entries) part
      (subst (IsStrictlySortedBy (slice_cmp nat_cmp)) (sym (keys-filter (λ key. is_some (value_at key part)) entries))
      (IsStrictlySortedBy-filter (slice_cmp nat_cmp) (λ key. is_some (value_at key part)) (keys_of entries)
      ((ascends_decides (slice_cmp nat_cmp) (keys_of entries)).0 second)))
      ((ascends_decides (slice_cmp nat_cmp) (keys_of part)).0 first)
      (λ q. lookup-filter-keys (same_name q) (λ key. is_some (value_at key part)) (is_some (value_at q part))
      (λ k same. ap (λ key. is_some (value_at key part)) (sym (one_name q k same))) entries ∙ all q)

pub values_split : (l r entries : Entries) → ascends (slice_cmp nat_cmp) (keys_of l) ≡ true → ascends (slice_cmp nat_cmp) (keys_of r) ≡ true →
    ascends (slice_cmp nat_cmp) (keys_of entries) ≡ true →
    ((key : List ℕ) → IsUnionAt (value_at key l) (value_at key r) (value_at key entries)) → IsSplit l r entries
values_split l r entries left right whole together =
    let all : list_all (λ entry. keyed l entries entry || keyed r entries entry) entries ≡ true =
    all_entries _ entries (λ entry there. union_some _ _ _ (together entry.0) there) in
    let first : filter (keyed l entries) entries ≡ l = picked_entries l entries left whole (λ q. union_left _ _ _ (together q)) in
    let second : filter (keyed r entries) entries ≡ r = picked_entries r entries right whole (λ q. union_right _ _ _ (together q)) in
    subst (λ (s : Entries). IsSplit s r entries) first
    (subst (λ (s : Entries). IsSplit (filter (keyed l entries) entries) s entries) second (picked (keyed l entries) (keyed r entries) entries all))

-- ---- joins

labels_ascend : (p : NodeRow) → is_pair p ≡ true → ascends (slice_cmp nat_cmp) p.labels ≡ true
labels_ascend p pair = (and_parts _ _ (and_parts _ _ pair).0).0

keys_ascend : (p : NodeRow) → is_pair p ≡ true → ascends (slice_cmp nat_cmp) (keys_of p.props) ≡ true
keys_ascend p pair = (and_parts _ _ (and_parts _ _ (and_parts _ _ pair).1).0).0

split_names : (l r names : Names) → IsSplit l r names → are_names names ≡ true → (are_names l ≡ true) × (are_names r ≡ true)
split_names l r names split h =
    let parts = and_parts _ _ h in
    let order = split_ascends (slice_cmp nat_cmp) l r names split parts.0 in
    let all = split_all is_name l r names split parts.1 in
    (and_from _ _ order.0 all.0, and_from _ _ order.1 all.1)

-- a couple of halves that passes a test is two pairs whose join is the pair, and the other way round
pub halves_found : (c : NodeRow × NodeRow → Bool) (p : NodeRow) → is_pair p ≡ true → list_any c (halves p) ≡ true → IsJoinWhere (λ first second. c (first, second)) p
halves_found c p pair h =
    let labels = split_from_any _ p.labels (sym (any_halves c p) ∙ h) in
    let props = split_from_any _ p.props labels.3 in
    let parts = and_parts _ _ pair in
    let values = and_parts _ _ parts.1 in
    let by_label = split_names labels.0 labels.1 p.labels labels.2 parts.0 in
    let by_key = split_names (keys_of props.0) (keys_of props.1) (keys_of p.props)
    (split_map (λ (e : List ℕ × Value). e.0) props.0 props.1 p.props props.2) values.0 in
    let by_value = split_all (λ (e : List ℕ × Value). is_value e.1) props.0 props.1 p.props props.2 values.1 in (
      pair_of labels.0 props.0,
      pair_of labels.1 props.1,
      and_from _ _ by_label.0 (and_from _ _ by_key.0 by_value.0),
      and_from _ _ by_label.1 (and_from _ _ by_key.1 by_value.1),
      record {
        labels = λ label. split_any (same_name label) labels.0 labels.1 p.labels labels.2;
        values = λ key. split_values key props.0 props.1 p.props props.2 (keys_ascend p pair);
      },
      props.3,
    )

pub halves_given : (c : NodeRow × NodeRow → Bool) (p : NodeRow) → is_pair p ≡ true → IsJoinWhere (λ first second. c (first, second)) p → list_any c (halves p) ≡ true
halves_given c p pair (first, second, one, other, join, passes) =
    let labels = labels_split first.labels second.labels p.labels (labels_ascend first one) (labels_ascend second other) (labels_ascend p pair) join.labels in
    let props = values_split first.props second.props p.props (keys_ascend first one) (keys_ascend second other) (keys_ascend p pair) join.values in
    any_halves c p ∙ any_from_split _ first.labels second.labels p.labels labels (any_from_split _ first.props second.props p.props props passes)

module _ (f g : NodeRow → Bool) (p : NodeRow) (pair : is_pair p ≡ true) where
  pub means : joined of_pairs f g p ≡ true → IsJoinOf f g p
  means h =
      let join = halves_found (λ (s : NodeRow × NodeRow). g s.1 && f s.0) p pair (sym (joined_any of_pairs f g p) ∙ h) in
      let passes = and_parts _ _ join.5 in
      (join.0, join.1, join.2, join.3, join.4, passes.1, passes.0)

  pub meant : IsJoinOf f g p → joined of_pairs f g p ≡ true
  meant (first, second, one, other, join, passes, too) =
      joined_any of_pairs f g p
      ∙ halves_given (λ (s : NodeRow × NodeRow). g s.1 && f s.0) p pair (first, second, one, other, join, and_from _ _ too passes)

-- joins of one pair for each test
pub all_mean : (tests : List (NodeRow → Bool)) (p : NodeRow) → is_pair p ≡ true → joined_all of_pairs tests p ≡ true → IsJoinOfAll tests p
all_mean [] p pair h = h
all_mean (test ∷ tests) p pair h =
    let parts = means test (joined_all of_pairs tests) p pair h in
    (parts.0, parts.1, parts.2, parts.3, parts.4, parts.5, all_mean tests parts.1 parts.3 parts.6)

pub all_meant : (tests : List (NodeRow → Bool)) (p : NodeRow) → is_pair p ≡ true → IsJoinOfAll tests p → joined_all of_pairs tests p ≡ true
all_meant [] p pair h = h
all_meant (test ∷ tests) p pair (first, rest, one, other, join, passes, all) =
    meant test (joined_all of_pairs tests) p pair (first, rest, one, other, join, passes, all_meant tests rest other all)
