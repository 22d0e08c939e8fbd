-- The product of two shapes is exact: the pairs in it are the joins of a pair in the one with a pair in the other.
use Rattle.std.proofs.Common.{◌≡◌, ℕ, Bool, true, false, ◌&&◌, ◌||◌, cond, List, [], ◌∷◌, filter, Option, Some, None, refl, sym, ◌∙◌, ap, true≢false, ⊎_elim}
use Rattle.std.specs.List.{list_all}
use Rattle.std.specs.Map.{keys_of}
use Rattle.std.proofs.lemmas.Bool.{and_parts, and_from, or_cases}
use Rattle.std.proofs.lemmas.Map.Views.{any-filter_same}
use Rattle.pgs_base.specs.declared.row.NodeRow.{NodeRow}
use Rattle.pgs_base.specs.declared.value.Kind.{Kind}
use Rattle.pgs_base.specs.declared.value.Kind.TheVariants as kinds
use Rattle.pgs_base.specs.declared.value.Value.{Value}
use Rattle.pgs_base.specs.Order.{ascends}
use Rattle.pgs_base.specs.Pair.{same_name, has_name, value_at, pair_of, is_pair}
use Rattle.pgs_base.specs.Value.{kind_of}
use Rattle.pgs_syntax.specs.Join.{of_pairs, joined}
use Rattle.pgs_syntax.specs.Meaning.{IsUnionAt, IsJoin}
use Rattle.pgs_syntax.proofs.Halves.{joined_any, any_halves}
use Rattle.pgs_syntax.proofs.JoinMeans.{means}
use Rattle.pgs_syntax.proofs.Parts.{one_name}
use Rattle.pgs_syntax.proofs.Splits.{IsSplit, none, to_left, to_right, to_both, any_from_split, split_ascends, split_map}
use Rattle.pgs_conform.specs.declared.options.Options.{Options}
use Rattle.pgs_conform.specs.declared.shape.Shape.{Shape}
use Rattle.pgs_conform.specs.Shapes.{admits_kind, admits, labels_meet, props_meet, in_shape}
use Rattle.pgs_conform.specs.JoinedOptions.{free_options, joins_kind, joined_options, options_at}
use Rattle.pgs_product.specs.Merged.{united, merged}
use Rattle.pgs_product.proofs.Asked.{or_first, or_second, IsLabelMet, labels_met, labels_meet_from, has_all, props_met, props_meet_from, found_entries}
use Rattle.pgs_product.proofs.Keyed.{absent_below, ascends_merged, options_merged}
use Rattle.pgs_product.proofs.United.{name_cmp, has_united}

abbrev Names : Type 0
Names = List (List ℕ)

abbrev Props : Type 0
Props = List (List ℕ × Value)

abbrev Keys : Type 0
Keys = List (List ℕ × Options)

-- ---- options

kind_joined : (x y : Options) (kind : Kind) → admits_kind (joined_options x y) kind ≡ joins_kind (admits_kind x kind) x.absent (admits_kind y kind) y.absent
kind_joined x y kinds.Text = refl
kind_joined x y kinds.Int = refl
kind_joined x y kinds.Bool = refl
kind_joined x y kinds.Date = refl

first_only : (a b c d : Bool) → a ≡ true → d ≡ true → joins_kind a b c d ≡ true
first_only true b true d e f = refl
first_only true b false true e f = refl
first_only true b false false e f = absurd (true≢false (sym f))
first_only false b c d e f = absurd (true≢false (sym e))

second_only : (a b c d : Bool) → b ≡ true → c ≡ true → joins_kind a b c d ≡ true
second_only true b true d e f = refl
second_only false true true d e f = refl
second_only a b false d e f = absurd (true≢false (sym f))
second_only false false true d e f = absurd (true≢false (sym e))

in_both : (a b c d : Bool) → a ≡ true → c ≡ true → joins_kind a b c d ≡ true
in_both true b true d e f = refl
in_both true b false d e f = absurd (true≢false (sym f))
in_both false b c d e f = absurd (true≢false (sym e))

admits_joined : (x y : Options) (a b w : Option Value) → IsUnionAt a b w → admits x a ≡ true → admits y b ≡ true → admits (joined_options x y) w ≡ true
admits_joined x y None None w u f s = ap (admits (joined_options x y)) u ∙ and_from x.absent y.absent f s
admits_joined x y (Some v) None w u f s =
    ap (admits (joined_options x y)) u ∙ kind_joined x y (kind_of v) ∙ first_only _ _ _ _ f s
admits_joined x y None (Some v) w u f s =
    ap (admits (joined_options x y)) u ∙ kind_joined x y (kind_of v) ∙ second_only _ _ _ _ f s
admits_joined x y (Some v) (Some z) w u f s =
    ap (admits (joined_options x y)) u.1 ∙ kind_joined x y (kind_of v) ∙ in_both _ _ _ _ f (ap (λ t. admits y (Some t)) u.0 ∙ s)

-- where a value may stand at a key of a join, one of the two admits it, and one that doesn't admits that nothing stands there
some_admits : (a b c d : Bool) → joins_kind a b c d ≡ true → (a || c) ≡ true
some_admits true b c d h = refl
some_admits false b c d h = (and_parts b c h).1

first_absent : (a b c d : Bool) → joins_kind a b c d ≡ true → a ≡ false → b ≡ true
first_absent true b c d h fails = absurd (true≢false fails)
first_absent false b c d h fails = (and_parts b c h).0

second_absent : (a b c d : Bool) → joins_kind a b c d ≡ true → c ≡ false → d ≡ true
second_absent a b true d h fails = absurd (true≢false fails)
second_absent true true false d h fails = ⊎_elim (λ e. e) (λ e. absurd (true≢false (sym e))) (or_cases d false h)
second_absent true false false d h fails = ⊎_elim (λ e. e) (λ e. absurd (true≢false (sym e))) (or_cases d false h)
second_absent false true false d h fails = absurd (true≢false (sym h))
second_absent false false false d h fails = absurd (true≢false (sym h))

-- what one side takes of what stands at a key
abbrev taken : Options → Option Value → Option Value
taken x None = None
taken x (Some v) = cond (admits x (Some v)) (Some v) None

taken_admits : (x : Options) (v : Value) → (admits x (Some v) ≡ false → x.absent ≡ true) → admits x (taken x (Some v)) ≡ true
taken_admits x v absent = by (admits x (Some v)) refl
  where
    by : (b : Bool) → admits x (Some v) ≡ b → admits x (cond b (Some v) None) ≡ true
    by true e = e
    by false e = absent e

first_takes : (x y : Options) (o : Option Value) → admits (joined_options x y) o ≡ true → admits x (taken x o) ≡ true
first_takes x y None h = (and_parts x.absent y.absent h).0
first_takes x y (Some v) h =
    let kind = kind_of v in
    taken_admits x v (first_absent (admits_kind x kind) x.absent (admits_kind y kind) y.absent (sym (kind_joined x y kind) ∙ h))

second_takes : (x y : Options) (o : Option Value) → admits (joined_options x y) o ≡ true → admits y (taken y o) ≡ true
second_takes x y None h = (and_parts x.absent y.absent h).1
second_takes x y (Some v) h =
    let kind = kind_of v in
    taken_admits y v (second_absent (admits_kind x kind) x.absent (admits_kind y kind) y.absent (sym (kind_joined x y kind) ∙ h))

-- ---- labels

abbrev together : Bool → Bool → Bool → Bool → Bool
together m n a b = (m || n) || (a || b)

first_label : (m n a b : Bool) → (m || a) ≡ true → together m n a b ≡ true
first_label true n a b h = refl
first_label false true a b h = refl
first_label false false a b h = or_first a b h

second_label : (m n a b : Bool) → (n || b) ≡ true → together m n a b ≡ true
second_label true n a b h = refl
second_label false true a b h = refl
second_label false false a b h = or_second a b h

some_label : (m n a b : Bool) → together m n a b ≡ true → ((m || a) || (n || b)) ≡ true
some_label true n a b h = refl
some_label false true a b h = or_second a true refl
some_label false false a b h = h

label_joined : (a b m n f s : Bool) → IsLabelMet a m f → IsLabelMet b n s → IsLabelMet (a || b) (m || n) (f || s)
label_joined a b m n f s first second = (
  λ e. ⊎_elim (λ one. or_first f s (first.0 one)) (λ other. or_second f s (second.0 other)) (or_cases a b e),
  λ e. ⊎_elim (λ one. first_label m n a b (first.1 one)) (λ other. second_label m n a b (second.1 other)) (or_cases f s e),
)

label_taken : (a m h : Bool) → (a ≡ true → h ≡ true) → IsLabelMet a m ((m || a) && h)
label_taken a m h there = (λ e. and_from _ _ (or_second m a e) (there e), λ e. (and_parts (m || a) h e).0)

-- ---- filters

-- the items that pass each of two tests, where each item passes one
picked : {X : Type 0} (p q : X → Bool) (xs : List X) → list_all (λ x. p x || q x) xs ≡ true → IsSplit (filter p xs) (filter q xs) xs
picked p q [] h = none
picked {X} p q (x ∷ xs) h = by (p x) (q x) (and_parts _ _ h).0 (picked p q xs (and_parts _ _ h).1)
  where
    by : (a b : Bool) → (a || b) ≡ true → IsSplit (filter p xs) (filter q xs) xs →
        IsSplit (cond a (x ∷ filter p xs) (filter p xs)) (cond b (x ∷ filter q xs) (filter q xs)) (x ∷ xs)
    by true true e rest = to_both rest
    by true false e rest = to_left rest
    by false true e rest = to_right rest
    by false false e rest = absurd (true≢false (sym e))

abbrev kept : (Value → Bool) → Option Value → Option Value
kept t None = None
kept t (Some v) = cond (t v) (Some v) None

-- the value at a key among the entries that pass a test
kept_at : (t : List ℕ → Value → Bool) (k : List ℕ) (props : Props) → ascends name_cmp (keys_of props) ≡ true →
    value_at k (filter (λ (e : List ℕ × Value). t e.0 e.1) props) ≡ kept (t k) (value_at k props)
kept_at t k [] up = refl
kept_at t k (e ∷ es) up = by (same_name k e.0) refl (t e.0 e.1) refl (kept_at t k es (and_parts _ _ up).1)
  where
    rest : Props
    rest = filter (λ (entry : List ℕ × Value). t entry.0 entry.1) es

    by : (s : Bool) → same_name k e.0 ≡ s → (b : Bool) → t e.0 e.1 ≡ b → value_at k rest ≡ kept (t k) (value_at k es) →
        value_at k (cond b (e ∷ rest) rest) ≡ kept (t k) (cond s (Some e.1) (value_at k es))
    by true same true passes h =
        ap (λ s. cond s (Some e.1) (value_at k rest)) same ∙ ap (λ b. cond b (Some e.1) None) (sym passes ∙ ap (λ key. t key e.1) (sym (one_name k e.0 same)))
    by true same false fails h =
        let gone : value_at k es ≡ None = ap (λ key. value_at key es) (one_name k e.0 same) ∙ absent_below e.0 es (and_parts _ _ up).0 in
        h ∙ ap (kept (t k)) gone ∙ ap (λ b. cond b (Some e.1) None) (sym fails ∙ ap (λ key. t key e.1) (sym (one_name k e.0 same)))
    by false other true passes h = ap (λ s. cond s (Some e.1) (value_at k rest)) other ∙ h
    by false other false fails h = h

keys_up : (p : NodeRow) → is_pair p ≡ true → ascends name_cmp (keys_of p.props) ≡ true
keys_up p pair = (and_parts _ _ (and_parts _ _ (and_parts _ _ pair).1).0).0

pub same_answer : (a b : Bool) → (a ≡ true → b ≡ true) → (b ≡ true → a ≡ true) → a ≡ b
same_answer true b there back = sym (there refl)
same_answer false true there back = back refl
same_answer false false there back = refl

-- ---- the product

module _ (a b : Shape) where
  abbrev labels : Names
  labels = united a.labels b.labels

  abbrev keys : Keys
  keys = merged (free_options a.more_keys) (free_options b.more_keys) a.keys b.keys

  abbrev in_product : NodeRow → Bool
  in_product p = labels_meet labels (a.more_labels || b.more_labels) p.labels && props_meet keys (a.more_keys || b.more_keys) p.props

  up : ascends name_cmp (keys_of keys) ≡ true
  up = ascends_merged (free_options a.more_keys) (free_options b.more_keys) a.keys b.keys a.ascending b.ascending

  abbrev options : List ℕ → Options
  options k = joined_options (options_at a.keys a.more_keys k) (options_at b.keys b.more_keys k)

  options_is : (k : List ℕ) → options_at keys (a.more_keys || b.more_keys) k ≡ options k
  options_is k = options_merged a.more_keys b.more_keys a.keys b.keys k a.ascending b.ascending

  -- the join of a pair in the one and a pair in the other is in the product
  join_in : (p : NodeRow) → is_pair p ≡ true → joined of_pairs (in_shape a) (in_shape b) p ≡ true → in_product p ≡ true
  join_in p pair h =
      let m = means (in_shape a) (in_shape b) p pair h in
      let first = m.0 in
      let second = m.1 in
      let join : IsJoin first second p = m.4 in
      let one = and_parts _ _ m.5 in
      let other = and_parts _ _ m.6 in
      and_from _ _ (labels_meet_from labels (a.more_labels || b.more_labels) p.labels (λ l.
      let met = label_joined (has_name l a.labels) (has_name l b.labels) a.more_labels b.more_labels (has_name l first.labels) (has_name l second.labels)
      (labels_met a.labels a.more_labels first.labels one.0 l) (labels_met b.labels b.more_labels second.labels other.0 l) in (
        λ e. join.labels l ∙ met.0 (sym (has_united l a.labels b.labels) ∙ e),
        λ e. ap (λ t. (a.more_labels || b.more_labels) || t) (has_united l a.labels b.labels) ∙ met.1 (sym (join.labels l) ∙ e),
      )))
      (props_meet_from keys (a.more_keys || b.more_keys) p.props up (keys_up p pair) (λ k.
      ap (λ o. admits o (value_at k p.props)) (options_is k)
      ∙ admits_joined (options_at a.keys a.more_keys k) (options_at b.keys b.more_keys k) (value_at k first.props) (value_at k second.props) (value_at k p.props)
      (join.values k) (props_met a.keys a.more_keys first.props one.1 k) (props_met b.keys b.more_keys second.props other.1 k)))

  -- a pair in the product is the join of what either side takes of it
  module _ (p : NodeRow) (pair : is_pair p ≡ true) (h : in_product p ≡ true) where
    abbrev takes_label : Shape → List ℕ → Bool
    takes_label shape l = shape.more_labels || has_name l shape.labels

    abbrev takes_value : Shape → List ℕ → Value → Bool
    takes_value shape k v = admits (options_at shape.keys shape.more_keys k) (Some v)

    abbrev takes : Shape → List ℕ × Value → Bool
    takes shape entry = takes_value shape entry.0 entry.1

    abbrev half : Shape → NodeRow
    half shape = pair_of (filter (takes_label shape) p.labels) (filter (takes shape) p.props)

    label_met : (l : List ℕ) → IsLabelMet (has_name l a.labels || has_name l b.labels) (a.more_labels || b.more_labels) (has_name l p.labels)
    label_met l =
        let met = labels_met labels (a.more_labels || b.more_labels) p.labels (and_parts _ _ h).0 l in
        (λ e. met.0 (has_united l a.labels b.labels ∙ e), λ e. ap (λ t. (a.more_labels || b.more_labels) || t) (sym (has_united l a.labels b.labels)) ∙ met.1 e)

    key_met : (k : List ℕ) → admits (options k) (value_at k p.props) ≡ true
    key_met k = ap (λ o. admits o (value_at k p.props)) (sym (options_is k)) ∙ props_met keys (a.more_keys || b.more_keys) p.props (and_parts _ _ h).1 k

    has_half : (shape : Shape) (l : List ℕ) → has_name l (half shape).labels ≡ (takes_label shape l && has_name l p.labels)
    has_half shape l = any-filter_same (same_name l) (takes_label shape) (takes_label shape l) (λ k same. ap (takes_label shape) (sym (one_name l k same))) p.labels

    value_half : (shape : Shape) (k : List ℕ) → value_at k (half shape).props ≡ taken (options_at shape.keys shape.more_keys k) (value_at k p.props)
    value_half shape k = kept_at (takes_value shape) k p.props (keys_up p pair) ∙ by (value_at k p.props)
      where
        by : (o : Option Value) → kept (takes_value shape k) o ≡ taken (options_at shape.keys shape.more_keys k) o
        by None = refl
        by (Some v) = refl

    half_labels : (shape : Shape) → ((l : List ℕ) → has_name l shape.labels ≡ true → has_name l p.labels ≡ true) →
        labels_meet shape.labels shape.more_labels (half shape).labels ≡ true
    half_labels shape there = labels_meet_from shape.labels shape.more_labels (half shape).labels (λ l.
        let met = label_taken (has_name l shape.labels) shape.more_labels (has_name l p.labels) (there l) in
        (λ e. has_half shape l ∙ met.0 e, λ e. met.1 (sym (has_half shape l) ∙ e)))

    half_up : (shape : Shape) → ascends name_cmp (keys_of (half shape).props) ≡ true
    half_up shape = (split_ascends name_cmp _ _ _ (split_map (λ (e : List ℕ × Value). e.0) _ _ _ (picked (takes shape) (λ e. true) p.props (anything p.props))) (keys_up p pair)).0
      where
        anything : (props : Props) → list_all (λ e. takes shape e || true) props ≡ true
        anything [] = refl
        anything (e ∷ es) = and_from _ _ (or_second (takes shape e) true refl) (anything es)

    half_props : (shape : Shape) → ((k : List ℕ) → admits (options_at shape.keys shape.more_keys k) (taken (options_at shape.keys shape.more_keys k) (value_at k p.props)) ≡ true) →
        props_meet shape.keys shape.more_keys (half shape).props ≡ true
    half_props shape met =
        props_meet_from shape.keys shape.more_keys (half shape).props shape.ascending (half_up shape)
        (λ k. ap (admits (options_at shape.keys shape.more_keys k)) (value_half shape k) ∙ met k)

    in_first : in_shape a (half a) ≡ true
    in_first = and_from _ _ (half_labels a (λ l e. (label_met l).0 (or_first _ (has_name l b.labels) e)))
        (half_props a (λ k. first_takes (options_at a.keys a.more_keys k) (options_at b.keys b.more_keys k) (value_at k p.props) (key_met k)))

    in_second : in_shape b (half b) ≡ true
    in_second = and_from _ _ (half_labels b (λ l e. (label_met l).0 (or_second (has_name l a.labels) _ e)))
        (half_props b (λ k. second_takes (options_at a.keys a.more_keys k) (options_at b.keys b.more_keys k) (value_at k p.props) (key_met k)))

    labels_split : IsSplit (half a).labels (half b).labels p.labels
    labels_split = picked (takes_label a) (takes_label b) p.labels
        (has_all _ p.labels (λ l there. some_label a.more_labels b.more_labels (has_name l a.labels) (has_name l b.labels) ((label_met l).1 there)))

    props_split : IsSplit (half a).props (half b).props p.props
    props_split = picked (takes a) (takes b) p.props (found_entries (λ e. takes a e || takes b e) p.props (keys_up p pair)
        (λ k v is. some_admits (takes_value a k v) (options_at a.keys a.more_keys k).absent (takes_value b k v) (options_at b.keys b.more_keys k).absent (sym (kind_joined (options_at a.keys a.more_keys k) (options_at b.keys b.more_keys k) (kind_of v))
        ∙ ap (admits (options k)) (sym is) ∙ key_met k)))

    in_join : joined of_pairs (in_shape a) (in_shape b) p ≡ true
    in_join =
        joined_any of_pairs (in_shape a) (in_shape b) p ∙ any_halves (λ (s : NodeRow × NodeRow). in_shape b s.1 && in_shape a s.0) p
        ∙ any_from_split _ (half a).labels (half b).labels p.labels labels_split
        (any_from_split _ (half a).props (half b).props p.props props_split (and_from _ _ in_second in_first))

  pub product_exact : (names : Names) (first_free second_free : Options) (own : Keys) → names ≡ united a.labels b.labels →
      first_free ≡ free_options a.more_keys → second_free ≡ free_options b.more_keys → own ≡ merged first_free second_free a.keys b.keys →
      (p : NodeRow) → is_pair p ≡ true →
      (labels_meet names (a.more_labels || b.more_labels) p.labels && props_meet own (a.more_keys || b.more_keys) p.props) ≡ joined of_pairs (in_shape a) (in_shape b) p
  product_exact names first_free second_free own n f s o p pair =
      ap (λ ls. labels_meet ls (a.more_labels || b.more_labels) p.labels && props_meet own (a.more_keys || b.more_keys) p.props) n
      ∙ ap (λ ks. labels_meet labels (a.more_labels || b.more_labels) p.labels && props_meet ks (a.more_keys || b.more_keys) p.props)
      (o ∙ ap (λ x. merged x second_free a.keys b.keys) f ∙ ap (λ y. merged (free_options a.more_keys) y a.keys b.keys) s)
      ∙ same_answer (in_product p) (joined of_pairs (in_shape a) (in_shape b) p) (in_join p pair) (join_in p pair)
