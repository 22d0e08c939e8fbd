-- One step of a walk over what is asked for and what is there, both ascending: the first of each decide, and the rest is left.
use Rattle.std.proofs.Common.{◌≡◌, ℕ, nat_eq, ◌-◌, ◌==◌, arith, length, take, drop, take_all, Bool, true, false, ◌&&◌, ◌||◌, cond, List, [], ◌∷◌, Some, None, refl, sym, ap, subst, ◌∙◌, Ordering, Less, Equal, Greater, is_lt, is_eq}
use Rattle.std.specs.Ordering.{nat_cmp, ordering_reverse}
use Rattle.std.specs.BTreeMap.{is_at}
use Rattle.std.specs.Cmp.{IsTotalOrder, tied_itself}
use Rattle.std.specs.Cmp.Lexicographic.{pointwise, slice_cmp, nat_list_cmp_total, texts_ties}
use Rattle.std.specs.List.{list_any, list_all}
use Rattle.std.specs.Map.{keys_of, lookup}
use Rattle.std.proofs.lemmas.Bool.{and_parts, and_right, ne_eqb}
use Rattle.pgs_base.specs.declared.value.Value.{Value}
use Rattle.pgs_base.specs.Pair.{has_name, value_at}
use Rattle.pgs_base.specs.Value.{kind_of}
use Rattle.pgs_conform.specs.declared.options.Options.{Options}
use Rattle.pgs_conform.specs.Shapes.{admits, admits_kind, labels_meet, props_meet}

-- ---- tests of all items

-- two tests that agree where a third holds, agree on all of a list where it holds throughout
all_where : {X : Type 0} (given f g : X → Bool) → ((x : X) → given x ≡ true → f x ≡ g x) →
    (xs : List X) → list_all given xs ≡ true → list_all f xs ≡ list_all g xs
all_where given f g same [] h = refl
all_where given f g same (x ∷ xs) h =
    let parts = and_parts _ _ h in λ i. same x parts.0 i && all_where given f g same xs parts.1 i

pub or_true : (b : Bool) → (b || true) ≡ true
or_true true = refl
or_true false = refl

pub or_false : (b : Bool) → (b || false) ≡ b
or_false true = refl
or_false false = refl

-- where each item passes or none does, all pass exactly where one does or there is none
pub all_free : {X : Type 0} (test : X → Bool) (free : Bool) → ((x : X) → test x ≡ free) → (xs : List X) → list_all test xs ≡ (free || (length xs == 0))
all_free test free same [] = sym (or_true free)
all_free test free same (x ∷ xs) = by (all_free test free same xs) free refl
  where
    by : list_all test xs ≡ (free || (length xs == 0)) → (b : Bool) → free ≡ b → list_all test (x ∷ xs) ≡ (b || (length (x ∷ xs) == 0))
    by rest true e = λ i. (same x ∙ e) i && (rest ∙ ap (λ b. b || (length xs == 0)) e) i
    by rest false e = ap (λ b. b && list_all test xs) (same x ∙ e) ∙ sym (ne_eqb (length (x ∷ xs)) 0 (λ none. omega arith))

-- what is left after the first
abbrev pub later : {X : Type 0} → List X → List X
later xs = take (length xs - 1) (drop 1 xs)

pub later_is : {X : Type 0} (x : X) (xs : List X) → later (x ∷ xs) ≡ xs
later_is x xs = take_all (length (x ∷ xs) - 1) xs (omega arith)

-- ---- keys that ascend

less_apart : (o : Ordering) → is_lt o ≡ true → is_eq o ≡ false
less_apart Less h = refl
less_apart Equal h = cc
less_apart Greater h = cc

turned_apart : (o : Ordering) → is_lt o ≡ true → is_eq (ordering_reverse o) ≡ false
turned_apart Less h = refl
turned_apart Equal h = cc
turned_apart Greater h = cc

pub is_less : (o : Ordering) → is_lt o ≡ true → o ≡ Less
is_less Less h = refl
is_less Equal h = cc
is_less Greater h = cc

module _ {K : Type 0} {cmp : K → K → Ordering} (total : IsTotalOrder cmp) where
  -- whether a key is less than each of some
  abbrev is_below : K → List K → Bool
  is_below k ks = list_all (λ later. is_lt (cmp k later)) ks

  below_later : (a b : K) (ks : List K) → cmp a b ≡ Less → is_below b ks ≡ true → is_below a ks ≡ true
  below_later a b [] less h = refl
  below_later a b (k ∷ ks) less h =
      let parts = and_parts _ _ h in
      rw (total.trans a b k less (is_less (cmp b k) parts.0)) (below_later a b ks less parts.1)

  -- a key that is less than the first of keys that ascend is less than each
  below_all : (a b : K) (ks : List K) → cmp a b ≡ Less → is_below b ks ≡ true → is_below a (b ∷ ks) ≡ true
  below_all a b ks less h = rw less (below_later a b ks less h)

  -- it is not among them
  absent : (k : K) (ks : List K) → is_below k ks ≡ true → list_any (is_at (cmp k)) ks ≡ false
  absent k [] h = refl
  absent k (x ∷ xs) h = let parts = and_parts _ _ h in rw (less_apart (cmp k x) parts.0) (absent k xs parts.1)

  no_value : {V : Type 0} (k : K) (es : List (K × V)) → is_below k (keys_of es) ≡ true → lookup (is_at (cmp k)) es ≡ None
  no_value k [] h = refl
  no_value k (e ∷ es) h = let parts = and_parts _ _ h in rw (less_apart (cmp k e.0) parts.0) (no_value k es parts.1)

  -- and a search for a greater key passes it by
  passed : (k x : K) → is_lt (cmp k x) ≡ true → is_at (cmp x) k ≡ false
  passed k x h = ap is_eq (total.antisymm x k) ∙ turned_apart (cmp k x) h

  search_passes : (k x : K) (ks : List K) → is_lt (cmp k x) ≡ true → list_any (is_at (cmp x)) (k ∷ ks) ≡ list_any (is_at (cmp x)) ks
  search_passes k x ks h = ap (λ b. b || list_any (is_at (cmp x)) ks) (passed k x h)

  look_up_passes : {V : Type 0} (k x : K) (v : V) (es : List (K × V)) → is_lt (cmp k x) ≡ true →
      lookup (is_at (cmp x)) ((k, v) ∷ es) ≡ lookup (is_at (cmp x)) es
  look_up_passes k x v es h = ap (λ b. cond b (Some v) (lookup (is_at (cmp x)) es)) (passed k x h)

  found : (k : K) → is_at (cmp k) k ≡ true
  found k = ap is_eq (tied_itself total k)

-- ---- a step over labels

abbrev pub order : List ℕ → List ℕ → Ordering
order = slice_cmp nat_cmp

is_equal : (o : Ordering) → is_eq o ≡ true → Equal ≡ o
is_equal Less h = cc
is_equal Equal h = refl
is_equal Greater h = cc

-- names that are seen to be equal go so
pub tied : (a b : List ℕ) → pointwise nat_eq a b ≡ true → Equal ≡ order a b
tied a b h = is_equal (order a b) (sym (texts_ties a b) ∙ h)

abbrev pub before : List ℕ → List (List ℕ) → Bool
before name names = list_all (λ later. is_lt (order name later)) names

-- the label that is asked for next is missing
pub label_missing : (a l : List ℕ) (bs ls : List (List ℕ)) (more : Bool) → order a l ≡ Less → before l ls ≡ true →
    labels_meet (a ∷ bs) more (l ∷ ls) ≡ false
label_missing a l bs ls more less h = rw (absent nat_list_cmp_total a (l ∷ ls) (below_all nat_list_cmp_total a l ls less h)) refl

-- the next label is the one that is asked for next
pub label_met : (a : List ℕ) (bs ls : List (List ℕ)) (more : Bool) → before a bs ≡ true → before a ls ≡ true →
    labels_meet (a ∷ bs) more (a ∷ ls) ≡ labels_meet bs more ls
label_met a bs ls more first second =
    let asked = all_where (λ x. is_lt (order a x)) (λ x. has_name x (a ∷ ls)) (λ x. has_name x ls)
    (λ x h. search_passes nat_list_cmp_total a x ls h) bs first in
    let free = all_where (λ x. is_lt (order a x)) (λ x. more || has_name x (a ∷ bs)) (λ x. more || has_name x bs)
    (λ x h. ap (λ b. more || b) (search_passes nat_list_cmp_total a x bs h)) ls second in
    rw (found nat_list_cmp_total a, or_true more, asked, free) refl

-- the next label isn't asked for
pub label_passed : (a l : List ℕ) (bs ls : List (List ℕ)) (more : Bool) → order l a ≡ Less → before a bs ≡ true →
    labels_meet (a ∷ bs) more (l ∷ ls) ≡ (more && labels_meet (a ∷ bs) more ls)
label_passed a l bs ls more less h = by more
  where
    lesser : before l (a ∷ bs) ≡ true
    lesser = below_all nat_list_cmp_total l a bs less h

    asked : list_all (λ x. has_name x (l ∷ ls)) (a ∷ bs) ≡ list_all (λ x. has_name x ls) (a ∷ bs)
    asked = all_where (λ x. is_lt (order l x)) (λ x. has_name x (l ∷ ls)) (λ x. has_name x ls)
        (λ x g. search_passes nat_list_cmp_total l x ls g) (a ∷ bs) lesser

    by : (b : Bool) → labels_meet (a ∷ bs) b (l ∷ ls) ≡ (b && labels_meet (a ∷ bs) b ls)
    by true = ap (λ b. b && list_all (λ (label : List ℕ). true) ls) asked
    by false = ap (λ b. list_all (λ x. has_name x (l ∷ ls)) (a ∷ bs) && (b && list_all (λ x. has_name x (a ∷ bs)) ls))
        (absent nat_list_cmp_total l (a ∷ bs) lesser)
        ∙ and_right (list_all (λ x. has_name x (l ∷ ls)) (a ∷ bs)) false refl

-- ---- a step over properties

abbrev key_before : {V : Type 0} → List ℕ → List (List ℕ × V) → Bool
key_before {V} key entries = list_all (λ (entry : List ℕ × V). is_lt (order key entry.0)) entries

keys_before : {V : Type 0} (key : List ℕ) (entries : List (List ℕ × V)) → before key (keys_of entries) ≡ true → key_before key entries ≡ true
keys_before key [] h = refl
keys_before {V} key (e ∷ es) h =
    let parts = and_parts (is_lt (order key e.0)) (before key (keys_of es)) h in rw parts.0 (keys_before {V = V} key es parts.1)

abbrev admitted : List (List ℕ × Value) → List ℕ × Options → Bool
admitted props key = admits key.1 (value_at key.0 props)

abbrev is_known : Bool → List (List ℕ × Options) → List ℕ × Value → Bool
is_known more keys entry = more || has_name entry.0 (keys_of keys)

-- the next property leaves out keys that are named later
admitted_later : (entry : List ℕ × Value) (props : List (List ℕ × Value)) (keys : List (List ℕ × Options)) →
    before entry.0 (keys_of keys) ≡ true → list_all (admitted (entry ∷ props)) keys ≡ list_all (admitted props) keys
admitted_later entry props keys h =
    all_where (λ (key : List ℕ × Options). is_lt (order entry.0 key.0)) (admitted (entry ∷ props)) (admitted props)
    (λ key g. ap (admits key.1) (look_up_passes nat_list_cmp_total entry.0 key.0 entry.1 props g)) keys (keys_before entry.0 keys h)

-- the next named key leaves out later properties
known_later : (key : List ℕ × Options) (keys : List (List ℕ × Options)) (more : Bool) (props : List (List ℕ × Value)) →
    before key.0 (keys_of props) ≡ true → list_all (is_known more (key ∷ keys)) props ≡ list_all (is_known more keys) props
known_later key keys more props h =
    all_where (λ (entry : List ℕ × Value). is_lt (order key.0 entry.0)) (is_known more (key ∷ keys)) (is_known more keys)
    (λ entry g. ap (λ b. more || b) (search_passes nat_list_cmp_total key.0 entry.0 (keys_of keys) g)) props (keys_before key.0 props h)

module _ (key : List ℕ × Options) (entry : List ℕ × Value) (keys : List (List ℕ × Options)) (props : List (List ℕ × Value)) (more : Bool) where
  -- the key that is named next is absent
  pub key_absent : order key.0 entry.0 ≡ Less → before entry.0 (keys_of props) ≡ true →
      props_meet (key ∷ keys) more (entry ∷ props) ≡ (key.1.absent && props_meet keys more (entry ∷ props))
  key_absent less h = by key.1.absent refl
    where
      lesser : before key.0 (keys_of (entry ∷ props)) ≡ true
      lesser = below_all nat_list_cmp_total key.0 entry.0 (keys_of props) less h

      own : admitted (entry ∷ props) key ≡ key.1.absent
      own = ap (admits key.1) (no_value nat_list_cmp_total key.0 (entry ∷ props) lesser)

      by : (b : Bool) → key.1.absent ≡ b → props_meet (key ∷ keys) more (entry ∷ props) ≡ (b && props_meet keys more (entry ∷ props))
      by true e =
          let free = known_later key keys more (entry ∷ props) lesser in
          λ i. ((own ∙ e) i && list_all (admitted (entry ∷ props)) keys) && free i
      by false e = λ i. ((own ∙ e) i && list_all (admitted (entry ∷ props)) keys) && list_all (is_known more (key ∷ keys)) (entry ∷ props)

  -- the key that is named next is present
  pub key_present : key.0 ≡ entry.0 → before key.0 (keys_of keys) ≡ true → before entry.0 (keys_of props) ≡ true →
      props_meet (key ∷ keys) more (entry ∷ props) ≡ (admits_kind key.1 (kind_of entry.1) && props_meet keys more props)
  key_present same first second = by (admits_kind key.1 (kind_of entry.1)) refl
    where
      own : admitted (entry ∷ props) key ≡ admits_kind key.1 (kind_of entry.1)
      own = rw (same, found nat_list_cmp_total entry.0) refl

      later : list_all (admitted (entry ∷ props)) keys ≡ list_all (admitted props) keys
      later = admitted_later entry props keys (subst (λ name. before name (keys_of keys) ≡ true) same first)

      known : is_known more (key ∷ keys) entry ≡ true
      known = rw (same, found nat_list_cmp_total entry.0) (or_true more)

      free : list_all (is_known more (key ∷ keys)) props ≡ list_all (is_known more keys) props
      free = known_later key keys more props (subst (λ name. before name (keys_of props) ≡ true) (sym same) second)

      by : (b : Bool) → admits_kind key.1 (kind_of entry.1) ≡ b → props_meet (key ∷ keys) more (entry ∷ props) ≡ (b && props_meet keys more props)
      by true e = λ i. ((own ∙ e) i && later i) && (known i && free i)
      by false e = λ i. ((own ∙ e) i && list_all (admitted (entry ∷ props)) keys) && list_all (is_known more (key ∷ keys)) (entry ∷ props)

  -- the next property isn't named
  pub key_passed : order entry.0 key.0 ≡ Less → before key.0 (keys_of keys) ≡ true →
      props_meet (key ∷ keys) more (entry ∷ props) ≡ (more && props_meet (key ∷ keys) more props)
  key_passed less h = by more
    where
      lesser : before entry.0 (keys_of (key ∷ keys)) ≡ true
      lesser = below_all nat_list_cmp_total entry.0 key.0 (keys_of keys) less h

      asked : list_all (admitted (entry ∷ props)) (key ∷ keys) ≡ list_all (admitted props) (key ∷ keys)
      asked = admitted_later entry props (key ∷ keys) lesser

      by : (b : Bool) → props_meet (key ∷ keys) b (entry ∷ props) ≡ (b && props_meet (key ∷ keys) b props)
      by true = λ i. asked i && list_all (is_known true (key ∷ keys)) props
      by false =
          ap (λ b. list_all (admitted (entry ∷ props)) (key ∷ keys) && (b && list_all (is_known false (key ∷ keys)) props))
          (absent nat_list_cmp_total entry.0 (keys_of (key ∷ keys)) lesser)
          ∙ and_right (list_all (admitted (entry ∷ props)) (key ∷ keys)) false refl
