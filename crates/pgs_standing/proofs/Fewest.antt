-- The plainest pair of a shape is in it, and none in it has fewer labels or properties.
use Rattle.std.proofs.Common.{◌≡◌, ℕ, ◌≤◌, Bool, true, false, ◌&&◌, ◌||◌, List, [], ◌∷◌, map, length, suc, Option, Some, None, is_some, leb, refl, sym, ◌∙◌, ap, ⊎_elim, Ordering, Less, Equal, Greater, is_lt, arith}
use Rattle.std.specs.List.{list_all}
use Rattle.std.specs.Map.{keys_of}
use Rattle.std.proofs.lemmas.Bool.{true≢false, and_parts, and_from, or_cases, or_right, false_from_ne_true, true_from_ne_false, leb-true, le-leb}
use Rattle.std.proofs.lemmas.Option.{none-some}
use Rattle.std.proofs.lemmas.List.{length-map}
use Rattle.std.proofs.lemmas.List.Folds.{list_all-map}
use Rattle.pgs_base.specs.declared.row.NodeRow.{NodeRow}
use Rattle.pgs_base.specs.declared.value.Value.{Value}
use Rattle.pgs_base.specs.Order.{ascends}
use Rattle.pgs_base.specs.Pair.{same_name, has_name, value_at, is_pair}
use Rattle.pgs_syntax.proofs.Parts.{one_name}
use Rattle.pgs_conform.specs.declared.options.Options.{Options}
use Rattle.pgs_conform.specs.declared.shape.Shape.{Shape}
use Rattle.pgs_conform.specs.Shapes.{admits, props_meet, in_shape}
use Rattle.pgs_product.proofs.Asked.{own_name, has_all, has_found, labels_meet_from}
use Rattle.pgs_product.proofs.Exact.{same_answer}
use Rattle.pgs_product.proofs.United.{name_cmp, same_of, after, before_all}
use Rattle.pgs_contain.specs.declared.outside.OwnedPair.{OwnedPair}
use Rattle.pgs_contain.specs.Contained.{is_plain_value, pair_in}
use Rattle.pgs_contain.specs.Regions.{in_region, is_possible, plainest}
use Rattle.pgs_contain.specs.Rows.{row_before, plain_rows}
use Rattle.pgs_contain.proofs.Parts.{impossible}
use Rattle.pgs_contain.proofs.Plain.{below_other, none_below, rows_in, rows_plain, all_plain, rows_ascend}
use Rattle.pgs_standing.specs.Common.{are_possible, plain_props}
use Rattle.pgs_standing.specs.Example.{by_nodes, NonePasses, IsPlainest}
use Rattle.pgs_standing.specs.Standing.{is_small}
use Rattle.pgs_standing.proofs.Shared.{keys_up}

abbrev Names : Type 0
Names = List (List ℕ)

abbrev Keys : Type 0
Keys = List (List ℕ × Options)

abbrev Props : Type 0
Props = List (List ℕ × Value)

-- ---- names among others that ascend are no more than those

same_swap : (a b : List ℕ) → same_name a b ≡ same_name b a
same_swap a b =
    same_answer (same_name a b) (same_name b a)
    (λ e. ap (λ z. same_name b z) (one_name a b e) ∙ own_name b) (λ e. ap (λ z. same_name a z) (one_name b a e) ∙ own_name a)

-- names above one that are among it and others are among the others
in_later : (y : List ℕ) (ys xs : Names) → list_all (λ x. is_lt (name_cmp y x)) xs ≡ true → list_all (λ x. has_name x (y ∷ ys)) xs ≡ true → list_all (λ x. has_name x ys) xs ≡ true
in_later y ys [] above all = refl
in_later y ys (x ∷ xs) above all =
    let up = and_parts _ _ above in
    let there = and_parts _ _ all in
    and_from _ _
    (⊎_elim (λ same. absurd (true≢false (sym same ∙ same_swap x y ∙ below_other (name_cmp y x) up.0))) (λ later. later) (or_cases (same_name x y) (has_name x ys) there.0))
    (in_later y ys xs up.1 there.1)

-- names that ascend and are all among names that ascend are no more
pub no_more : (xs ys : Names) → ascends name_cmp xs ≡ true → ascends name_cmp ys ≡ true → list_all (λ x. has_name x ys) xs ≡ true → length xs ≤ length ys
no_more [] ys up over all = omega arith
no_more (x ∷ xs) [] up over all = absurd (true≢false (sym (and_parts (has_name x []) (list_all (λ z. has_name z []) xs) all).0))
no_more (x ∷ xs) (y ∷ ys) up over all = by (name_cmp x y) refl (λ h. no_more xs ys ups.1 overs.1 h) (λ h. no_more (x ∷ xs) ys up overs.1 h)
  where
    ups : (list_all (λ later. is_lt (name_cmp x later)) xs ≡ true) × (ascends name_cmp xs ≡ true)
    ups = and_parts _ _ up

    overs : (list_all (λ later. is_lt (name_cmp y later)) ys ≡ true) × (ascends name_cmp ys ≡ true)
    overs = and_parts _ _ over

    by : (o : Ordering) → name_cmp x y ≡ o → (list_all (λ z. has_name z ys) xs ≡ true → length xs ≤ length ys) →
        (list_all (λ z. has_name z ys) (x ∷ xs) ≡ true → length (x ∷ xs) ≤ length ys) → length (x ∷ xs) ≤ length (y ∷ ys)
    by Less e both later =
        absurd (true≢false (sym (and_parts (has_name x (y ∷ ys)) (list_all (λ z. has_name z (y ∷ ys)) xs) all).0 ∙ none_below x (y ∷ ys) (and_from _ _ (ap is_lt e) (before_all x y ys e overs.0))))
    by Equal e both later =
        let above = ap (λ z. list_all (λ after. is_lt (name_cmp z after)) xs) (sym (same_of x y e)) ∙ ups.0 in
        let rest : length xs ≤ length ys = both (in_later y ys xs above (and_parts _ _ all).1) in
        omega arith
    by Greater e both later =
        let below = after x y e in
        let rest : length (x ∷ xs) ≤ length ys = later (in_later y ys (x ∷ xs) (and_from _ _ (ap is_lt below) (before_all y x xs below ups.0)) all) in
        omega arith

-- ---- the plainest properties of keys

abbrev options_in : Keys → List Options
options_in keys = map (λ (key : List ℕ × Options). key.1) keys

as_rows : (keys : Keys) → plain_props keys ≡ plain_rows (keys_of keys) (options_in keys)
as_rows [] = refl
as_rows (key ∷ keys) = ap (row_before key.0 (plainest key.1)) (as_rows keys)

region_all : (g : List ℕ → Option Value) (keys : Keys) → list_all (λ (key : List ℕ × Options). admits key.1 (g key.0)) keys ≡ in_region (options_in keys) (map g (keys_of keys))
region_all g [] = refl
region_all g (key ∷ keys) = ap (λ b. admits key.1 (g key.0) && b) (region_all g keys)

even : (keys : Keys) → length (keys_of keys) ≡ length (options_in keys)
even [] = refl
even (key ∷ keys) = ap suc (even keys)

pub props_ascend : (keys : Keys) → ascends name_cmp (keys_of keys) ≡ true → ascends name_cmp (keys_of (plain_props keys)) ≡ true
props_ascend keys up = ap (λ props. ascends name_cmp (keys_of props)) (as_rows keys) ∙ rows_ascend (keys_of keys) (options_in keys) up

own_props : (keys : Keys) (more : Bool) → ascends name_cmp (keys_of keys) ≡ true → are_possible keys ≡ true → props_meet keys more (plain_props keys) ≡ true
own_props keys more up possible =
    and_from _ _
    (region_all (λ k. value_at k (plain_props keys)) keys
    ∙ ap (λ props. in_region (options_in keys) (map (λ k. value_at k props) (keys_of keys))) (as_rows keys)
    ∙ rows_in (keys_of keys) (options_in keys) up (even keys) (list_all-map is_possible (λ (key : List ℕ × Options). key.1) keys ∙ possible))
    (sym (list_all-map (λ k. more || has_name k (keys_of keys)) (λ (entry : List ℕ × Value). entry.0) (plain_props keys))
    ∙ ap (λ props. list_all (λ k. more || has_name k (keys_of keys)) (keys_of props)) (as_rows keys)
    ∙ all_plain (λ k. more || has_name k (keys_of keys)) (keys_of keys) (options_in keys)
    (has_all (λ k. more || has_name k (keys_of keys)) (keys_of keys) (λ k there. or_right more _ there)))

plain_values : (keys : Keys) → list_all (λ (entry : List ℕ × Value). is_plain_value entry.1) (plain_props keys) ≡ true
plain_values keys = ap (list_all (λ (entry : List ℕ × Value). is_plain_value entry.1)) (as_rows keys) ∙ rows_plain (keys_of keys) (options_in keys)

-- ---- what must stand at a key stands there in each pair

none_if_absent : (o : Options) → o.absent ≡ true → plainest o ≡ None
none_if_absent o h = rw h refl

must_stand : (o : Options) (v : Value) (w : Option Value) → plainest o ≡ Some v → admits o w ≡ true → is_some w ≡ true
must_stand o v None e h = absurd (none-some v (sym (none_if_absent o h) ∙ e))
must_stand o v (Some x) e h = refl

rows_stand : (keys : Keys) (props : Props) → list_all (λ (key : List ℕ × Options). admits key.1 (value_at key.0 props)) keys ≡ true →
    list_all (λ k. has_name k (keys_of props)) (keys_of (plain_props keys)) ≡ true
rows_stand [] props met = refl
rows_stand (key ∷ keys) props met = by (plainest key.1) refl (rows_stand keys props (and_parts _ _ met).1)
  where
    by : (v : Option Value) → plainest key.1 ≡ v → list_all (λ k. has_name k (keys_of props)) (keys_of (plain_props keys)) ≡ true →
        list_all (λ k. has_name k (keys_of props)) (keys_of (row_before key.0 v (plain_props keys))) ≡ true
    by None e later = later
    by (Some v) e later = and_from _ _ (has_found key.0 props ∙ must_stand key.1 v (value_at key.0 props) e (and_parts _ _ met).0) later

may_stand : (o : Options) (v : Option Value) → admits o v ≡ true → is_possible o ≡ true
may_stand o v h = true_from_ne_false (is_possible o) (λ none. true≢false (sym h ∙ impossible o v none))

all_may_stand : (keys : Keys) (props : Props) → list_all (λ (key : List ℕ × Options). admits key.1 (value_at key.0 props)) keys ≡ true → are_possible keys ≡ true
all_may_stand [] props met = refl
all_may_stand (key ∷ keys) props met =
    let parts = and_parts _ _ met in
    and_from _ _ (may_stand key.1 (value_at key.0 props) parts.0) (all_may_stand keys props parts.1)

-- ---- the plainest pair

module _ (shape : Shape) where
  abbrev test : NodeRow → Bool
  test p = is_small p && in_shape shape p

  -- where nothing may stand at some key, no pair is in the shape
  pub none_inside : are_possible shape.keys ≡ false → NonePasses by_nodes (in_shape shape)
  none_inside none q pair = false_from_ne_true (in_shape shape q) (λ h.
      true≢false (sym (all_may_stand shape.keys q.props (and_parts _ _ (and_parts _ _ h).1).0) ∙ none))

  pub never_possible : are_possible shape.keys ≡ false → NonePasses by_nodes test
  never_possible none q pair = false_from_ne_true (test q) (λ h. true≢false (sym (and_parts (is_small q) (in_shape shape q) h).1 ∙ none_inside none q pair))

  module _ (own : OwnedPair) (made : (is_pair (pair_in own) ≡ true) × (own.labels ≡ shape.labels) × (own.props ≡ plain_props shape.keys)) where
    labels_up : (p : NodeRow) → is_pair p ≡ true → ascends name_cmp p.labels ≡ true
    labels_up p pair = (and_parts _ _ (and_parts _ _ pair).0).0

    pub fewer_labels : (q : NodeRow) → is_pair q ≡ true → in_shape shape q ≡ true → length own.labels ≤ length q.labels
    fewer_labels q pair inside =
        no_more own.labels q.labels (labels_up (pair_in own) made.0) (labels_up q pair)
        (ap (list_all (λ x. has_name x q.labels)) made.1 ∙ (and_parts _ _ (and_parts _ _ inside).0).0)

    pub fewer_props : (q : NodeRow) → is_pair q ≡ true → in_shape shape q ≡ true → length own.props ≤ length q.props
    fewer_props q pair inside =
        let few : length (keys_of own.props) ≤ length (keys_of q.props) =
        no_more (keys_of own.props) (keys_of q.props) (keys_up (pair_in own) made.0) (keys_up q pair)
        (ap (λ props. list_all (λ k. has_name k (keys_of q.props)) (keys_of props)) made.2 ∙ rows_stand shape.keys q.props (and_parts _ _ (and_parts _ _ inside).1).0) in
        omega (arith, few, length-map own.props (λ (e : List ℕ × Value). e.0), length-map q.props (λ (e : List ℕ × Value). e.0))

    pub inside_own : are_possible shape.keys ≡ true → in_shape shape (pair_in own) ≡ true
    inside_own possible =
        and_from _ _
        (labels_meet_from shape.labels shape.more_labels own.labels
        (λ l. (λ i. ap (has_name l) made.1 ∙ i, λ t. or_right shape.more_labels _ (ap (has_name l) (sym made.1) ∙ t))))
        (ap (props_meet shape.keys shape.more_keys) made.2 ∙ own_props shape.keys shape.more_keys shape.ascending possible)

    -- a small one is the plainest
    pub found_small : are_possible shape.keys ≡ true → is_small (pair_in own) ≡ true → IsPlainest by_nodes test (pair_in own)
    found_small possible small = record {
      is_one = made.0;
      passes = and_from _ _ small (inside_own possible);
      plain = ap (list_all (λ (entry : List ℕ × Value). is_plain_value entry.1)) made.2 ∙ plain_values shape.keys;
      fewest = λ q pair h.
          let inside = (and_parts (is_small q) (in_shape shape q) h).1 in
          let labels = fewer_labels q pair inside in
          let props = fewer_props q pair inside in
          omega arith;
    }

    -- where it isn't small, none is
    pub none_small : is_small (pair_in own) ≡ false → NonePasses by_nodes test
    none_small large q pair = false_from_ne_true (test q) (λ h.
        let parts = and_parts (is_small q) (in_shape shape q) h in
        let sizes = and_parts (leb (length q.labels) 64) (leb (length q.props) 256) parts.0 in
        let labels = fewer_labels q pair parts.1 in
        let props = fewer_props q pair parts.1 in
        true≢false (sym (and_from (leb (length own.labels) 64) (leb (length own.props) 256)
        (le-leb (length own.labels) 64 (omega (arith, labels, leb-true (length q.labels) 64 sizes.0)))
        (le-leb (length own.props) 256 (omega (arith, props, leb-true (length q.props) 256 sizes.1)))) ∙ large))
