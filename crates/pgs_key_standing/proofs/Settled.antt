-- Pairs in which the values that are written stand in place of others of their kinds: the same shapes have them.
use Rattle.std.proofs.Common.{◌≡◌, ℕ, zero, suc, ◌+◌, Bool, true, false, ◌&&◌, ◌||◌, ◌==◌, not, cond, List, [], ◌∷◌, map, length, Option, Some, None, slice_get, refl, sym, ◌∙◌, ap, arith}
use Rattle.std.specs.Cmp.{Equal-is, tied_itself}
use Rattle.std.specs.Cmp.Lexicographic.{slice_cmp, nat_list_cmp_total}
use Rattle.std.specs.Map.{keys_of}
use Rattle.std.specs.Option.{option_map_or, option_map}
use Rattle.std.specs.Prelude.{option_and_then, nat_le}
use Rattle.std.specs.Ordering.{is_eq, nat_cmp}
use Rattle.std.specs.List.{list_all}
use Rattle.std.proofs.lemmas.Bool.{true≢false, and_parts, and_from, eqb-true, eq-eqb}
use Rattle.std.proofs.lemmas.List.{length-map}
use Rattle.std.proofs.lemmas.Option.{same_Some}
use Rattle.pgs_base.specs.declared.row.NodeRow.{NodeRow}
use Rattle.pgs_base.specs.declared.value.Kind.{Kind}
use Rattle.pgs_base.specs.declared.value.Kind.TheVariants as kinds
use Rattle.pgs_base.specs.declared.value.Value.{Value}
use Rattle.pgs_base.specs.Order.{value_cmp}
use Rattle.pgs_base.specs.OrderLaws.{exact_name, exact_value, value_cmp_total}
use Rattle.pgs_base.specs.Pair.{same_name, has_name, value_at, is_pair, are_names, are_props}
use Rattle.pgs_base.specs.Properties.{has_value}
use Rattle.pgs_base.specs.Value.{kind_of, kind_rank, is_of_kind, is_value}
use Rattle.pgs_syntax.specs.declared.pattern.Atom.{Atom}
use Rattle.pgs_syntax.specs.declared.pattern.Atom.TheVariants.{Ends, HasLabel, FitsNode, FitsEdge, Equals}
use Rattle.pgs_syntax.specs.Matches.{same_value}
use Rattle.pgs_conform.specs.declared.options.Options.{Options}
use Rattle.pgs_conform.specs.declared.shape.Shape.{Shape}
use Rattle.pgs_conform.specs.Shapes.{admits, admits_kind, labels_meet, in_shape}
use Rattle.pgs_standing.specs.Standing.{is_small, most_labels, most_props}
use Rattle.pgs_key_standing.specs.Demands.{are_small, is_in}
use Rattle.pgs_key_standing.specs.Kinds.{agree, all_agree, has_literal}

abbrev Pairs : Type 0
Pairs = List NodeRow

-- ---- one value in place of another

pub name_is : (a b : List ℕ) → same_name a b ≡ true → a ≡ b
name_is a b h = exact_name a b ((Equal-is (slice_cmp nat_cmp a b)).0 h)

pub value_is : (a b : Value) → same_value a b ≡ true → a ≡ b
value_is a b h = exact_value a b ((Equal-is (value_cmp a b)).0 h)

pub same_itself : (a : Value) → same_value a a ≡ true
same_itself a = ap is_eq (tied_itself value_cmp_total a)

name_itself : (a : List ℕ) → same_name a a ≡ true
name_itself a = ap is_eq (tied_itself nat_list_cmp_total a)

abbrev pub settled_entry : List ℕ → Value → List ℕ × Value → List ℕ × Value
settled_entry key value entry = (entry.0, cond (same_name key entry.0) value entry.1)

abbrev pub settled_pair : List ℕ → Value → NodeRow → NodeRow
settled_pair key value p = record { labels = p.labels; props = map (settled_entry key value) p.props }

module _ (key : List ℕ) (value : Value) where
  settled_value : (k : List ℕ) (props : List (List ℕ × Value)) →
      value_at k (map (settled_entry key value) props) ≡ option_map (λ w. cond (same_name key k) value w) (value_at k props)
  settled_value k [] = refl
  settled_value k (entry ∷ props) = by (same_name k entry.0) refl (settled_value k props)
    where
      by : (b : Bool) → same_name k entry.0 ≡ b →
          value_at k (map (settled_entry key value) props) ≡ option_map (λ w. cond (same_name key k) value w) (value_at k props) →
          cond b (Some (cond (same_name key entry.0) value entry.1)) (value_at k (map (settled_entry key value) props))
          ≡ option_map (λ w. cond (same_name key k) value w) (cond b (Some entry.1) (value_at k props))
      by true e rest = ap (λ n. Some (cond (same_name key n) value entry.1)) (sym (name_is k entry.0 e))
      by false e rest = rest

  settled_keys : (props : List (List ℕ × Value)) → keys_of (map (settled_entry key value) props) ≡ keys_of props
  settled_keys [] = refl
  settled_keys (entry ∷ props) = ap (λ ks. entry.0 ∷ ks) (settled_keys props)

  settled_values : is_value value ≡ true → (props : List (List ℕ × Value)) → list_all has_value props ≡ true → list_all has_value (map (settled_entry key value) props) ≡ true
  settled_values is [] h = refl
  settled_values is (entry ∷ props) h =
      let parts = and_parts (has_value entry) (list_all has_value props) h in
      and_from _ _ (by (same_name key entry.0) parts.0) (settled_values is props parts.1)
    where
      by : (b : Bool) → is_value entry.1 ≡ true → is_value (cond b value entry.1) ≡ true
      by true h = is
      by false h = h

  pub settled_small : is_value value ≡ true → (p : NodeRow) → (is_pair p && is_small p) ≡ true → (is_pair (settled_pair key value p) && is_small (settled_pair key value p)) ≡ true
  settled_small is p h =
      let outer = and_parts (is_pair p) (is_small p) h in
      let pair = and_parts (are_names p.labels) (are_props p.props) outer.0 in
      let props = and_parts (are_names (keys_of p.props)) (list_all has_value p.props) pair.1 in
      and_from _ _
      (and_from _ _ pair.0 (and_from _ _ (ap are_names (settled_keys p.props) ∙ props.0) (settled_values is p.props props.1)))
      (ap (λ n. nat_le (length p.labels) most_labels && nat_le n most_props) (length-map p.props (settled_entry key value)) ∙ outer.1)

-- ---- a value of the same kind

abbrev pub kind_at : List ℕ → NodeRow → Option Kind
kind_at key p = option_map kind_of (value_at key p.props)

rank_is : (a b : Kind) → (kind_rank a == kind_rank b) ≡ true → a ≡ b
rank_is kinds.Text kinds.Text h = refl
rank_is kinds.Text kinds.Int h = absurd (true≢false (sym h))
rank_is kinds.Text kinds.Bool h = absurd (true≢false (sym h))
rank_is kinds.Text kinds.Date h = absurd (true≢false (sym h))
rank_is kinds.Int kinds.Text h = absurd (true≢false (sym h))
rank_is kinds.Int kinds.Int h = refl
rank_is kinds.Int kinds.Bool h = absurd (true≢false (sym h))
rank_is kinds.Int kinds.Date h = absurd (true≢false (sym h))
rank_is kinds.Bool kinds.Text h = absurd (true≢false (sym h))
rank_is kinds.Bool kinds.Int h = absurd (true≢false (sym h))
rank_is kinds.Bool kinds.Bool h = refl
rank_is kinds.Bool kinds.Date h = absurd (true≢false (sym h))
rank_is kinds.Date kinds.Text h = absurd (true≢false (sym h))
rank_is kinds.Date kinds.Int h = absurd (true≢false (sym h))
rank_is kinds.Date kinds.Bool h = absurd (true≢false (sym h))
rank_is kinds.Date kinds.Date h = refl

pub rank_itself : (a : Kind) → (kind_rank a == kind_rank a) ≡ true
rank_itself a = eq-eqb (kind_rank a) (kind_rank a) refl

pub of_kind : (value : Value) (o : Option Value) → option_map_or (is_of_kind (kind_of value)) o false ≡ true → option_map kind_of o ≡ Some (kind_of value)
of_kind value None h = absurd (true≢false (sym h))
of_kind value (Some w) h = ap Some (rank_is (kind_of w) (kind_of value) h)

is_kind : (value : Value) (o : Option Value) → option_map kind_of o ≡ Some (kind_of value) → option_map_or (is_of_kind (kind_of value)) o false ≡ true
is_kind value None e = cc
is_kind value (Some w) e = ap (λ k. kind_rank k == kind_rank (kind_of value)) (same_Some (kind_of w) (kind_of value) e) ∙ rank_itself (kind_of value)

admits_by : (options : Options) (a b : Option Value) → option_map kind_of a ≡ option_map kind_of b → admits options a ≡ admits options b
admits_by options None None e = refl
admits_by options None (Some w) e = cc
admits_by options (Some v) None e = cc
admits_by options (Some v) (Some w) e = ap (admits_kind options) (same_Some (kind_of v) (kind_of w) e)

module _ (key : List ℕ) (value : Value) (p : NodeRow) (kind : kind_at key p ≡ Some (kind_of value)) where
  pub settled_kind : (k : List ℕ) → kind_at k (settled_pair key value p) ≡ kind_at k p
  settled_kind k = ap (option_map kind_of) (settled_value key value k p.props) ∙ by (same_name key k) refl
    where
      to_value : (o : Option Value) → option_map kind_of o ≡ Some (kind_of value) → option_map kind_of (option_map (λ (w : Value). value) o) ≡ option_map kind_of o
      to_value None e = refl
      to_value (Some w) e = sym e

      itself : (o : Option Value) → option_map kind_of (option_map (λ w. w) o) ≡ option_map kind_of o
      itself None = refl
      itself (Some w) = refl

      by : (b : Bool) → same_name key k ≡ b → option_map kind_of (option_map (λ w. cond b value w) (value_at k p.props)) ≡ kind_at k p
      by true e = to_value (value_at k p.props) (ap (λ n. kind_at n p) (sym (name_is key k e)) ∙ kind)
      by false e = itself (value_at k p.props)

  pub settled_shape : (shape : Shape) → in_shape shape (settled_pair key value p) ≡ in_shape shape p
  settled_shape shape =
      ap (λ b. labels_meet shape.labels shape.more_labels p.labels && (b && list_all (λ (entry : List ℕ × Value). shape.more_keys || has_name entry.0 (keys_of shape.keys)) (map (settled_entry key value) p.props)))
      (each shape.keys)
      ∙ ap (λ b. labels_meet shape.labels shape.more_labels p.labels && (list_all (λ (k : List ℕ × Options). admits k.1 (value_at k.0 p.props)) shape.keys && b)) (free p.props)
    where
      each : (keys : List (List ℕ × Options)) →
          list_all (λ (k : List ℕ × Options). admits k.1 (value_at k.0 (map (settled_entry key value) p.props))) keys ≡ list_all (λ (k : List ℕ × Options). admits k.1 (value_at k.0 p.props)) keys
      each [] = refl
      each (k ∷ keys) =
          ap (λ b. b && list_all (λ (k : List ℕ × Options). admits k.1 (value_at k.0 (map (settled_entry key value) p.props))) keys)
          (admits_by k.1 (value_at k.0 (map (settled_entry key value) p.props)) (value_at k.0 p.props) (settled_kind k.0))
          ∙ ap (λ b. admits k.1 (value_at k.0 p.props) && b) (each keys)

      free : (props : List (List ℕ × Value)) →
          list_all (λ (entry : List ℕ × Value). shape.more_keys || has_name entry.0 (keys_of shape.keys)) (map (settled_entry key value) props)
          ≡ list_all (λ (entry : List ℕ × Value). shape.more_keys || has_name entry.0 (keys_of shape.keys)) props
      free [] = refl
      free (entry ∷ props) = ap (λ b. (shape.more_keys || has_name entry.0 (keys_of shape.keys)) && b) (free props)

  pub settled_there : value_at key (settled_pair key value p).props ≡ Some value
  settled_there = settled_value key value key p.props ∙ by (value_at key p.props) kind
    where
      by : (o : Option Value) → option_map kind_of o ≡ Some (kind_of value) → option_map (λ w. cond (same_name key key) value w) o ≡ Some value
      by None e = cc
      by (Some w) e = ap (λ b. Some (cond b value w)) (name_itself key)

pub settled_kept : (key k : List ℕ) (value old : Value) (p : NodeRow) → value_at k p.props ≡ Some old → (not (same_name key k) || same_value value old) ≡ true →
    value_at k (settled_pair key value p).props ≡ Some old
settled_kept key k value old p at h =
    settled_value key value k p.props ∙ ap (option_map (λ w. cond (same_name key k) value w)) at ∙ by (same_name key k) h
  where
    by : (b : Bool) → (not b || same_value value old) ≡ true → Some (cond b value old) ≡ Some old
    by true h = ap Some (value_is value old h)
    by false h = refl

-- ---- the pairs of all places

abbrev pub settled_at : ℕ → Atom → NodeRow → NodeRow
settled_at i (Equals place key value) p = cond (i == place) (settled_pair key value p) p
settled_at i _ p = p

abbrev pub settled : ℕ → Atom → Pairs → Pairs
settled i atom [] = []
settled i atom (p ∷ ps) = settled_at i atom p ∷ settled (i + 1) atom ps

abbrev pub settled_by : List Atom → Pairs → Pairs
settled_by [] ps = ps
settled_by (atom ∷ atoms) ps = settled_by atoms (settled 0 atom ps)

pub settled_get : (i j : ℕ) (atom : Atom) (ps : Pairs) → slice_get (settled i atom ps) j ≡ option_map (settled_at (i + j) atom) (slice_get ps j)
settled_get i j atom [] = refl
settled_get i zero atom (p ∷ ps) = ap (λ n. Some (settled_at n atom p)) (let e : i ≡ i + 0 = omega arith in e)
settled_get i (suc j) atom (p ∷ ps) =
    settled_get (i + 1) j atom ps ∙ ap (λ n. option_map (settled_at n atom) (slice_get ps j)) (let e : (i + 1) + j ≡ i + suc j = omega arith in e)

pub settled_count : (i : ℕ) (atom : Atom) (ps : Pairs) → length (settled i atom ps) ≡ length ps
settled_count i atom [] = refl
settled_count i atom (p ∷ ps) = let rest : length (settled (i + 1) atom ps) ≡ length ps = settled_count (i + 1) atom ps in omega arith

-- pairs of which the same shapes have those at each place
pub record AreAlike (qs ps : Pairs) : Type 0 where
  pub count : length qs ≡ length ps
  pub shapes : (place : ℕ) (shape : Shape) → is_in qs place shape ≡ is_in ps place shape
  pub kinds_same : (place : ℕ) (key : List ℕ) → option_and_then (kind_at key) (slice_get qs place) ≡ option_and_then (kind_at key) (slice_get ps place)

alike_then : (a b c : Pairs) → AreAlike a b → AreAlike b c → AreAlike a c
alike_then a b c f g = record {
  count = f.count ∙ g.count;
  shapes = λ place shape. f.shapes place shape ∙ g.shapes place shape;
  kinds_same = λ place key. f.kinds_same place key ∙ g.kinds_same place key;
}

-- the value that an atom asks for is of the kind that stands there
abbrev pub HasKind : Pairs → Atom → Type 0
HasKind ps (Equals place key value) = option_and_then (kind_at key) (slice_get ps place) ≡ Some (kind_of value)
HasKind ps _ = Unit {0}

module _ (atom : Atom) (ps : Pairs) (kind : HasKind ps atom) where
  one_alike : (i : ℕ) (p : NodeRow) → slice_get ps i ≡ Some p →
      ((shape : Shape) → in_shape shape (settled_at i atom p) ≡ in_shape shape p) × ((k : List ℕ) → kind_at k (settled_at i atom p) ≡ kind_at k p)
  one_alike i p at = by atom kind
    where
      itself : ((shape : Shape) → in_shape shape p ≡ in_shape shape p) × ((k : List ℕ) → kind_at k p ≡ kind_at k p)
      itself = (λ shape. refl, λ k. refl)

      by : (a : Atom) → HasKind ps a → ((shape : Shape) → in_shape shape (settled_at i a p) ≡ in_shape shape p) × ((k : List ℕ) → kind_at k (settled_at i a p) ≡ kind_at k p)
      by (Ends edge source target) h = itself
      by (HasLabel var label) h = itself
      by (FitsNode var number) h = itself
      by (FitsEdge var number) h = itself
      by (Equals place key value) h = here (i == place) refl
        where
          here : (b : Bool) → (i == place) ≡ b →
              ((shape : Shape) → in_shape shape (cond b (settled_pair key value p) p) ≡ in_shape shape p) × ((k : List ℕ) → kind_at k (cond b (settled_pair key value p) p) ≡ kind_at k p)
          here false e = itself
          here true e =
              let is : kind_at key p ≡ Some (kind_of value) = ap (option_and_then (kind_at key)) (sym at) ∙ ap (λ n. option_and_then (kind_at key) (slice_get ps n)) (eqb-true i place e) ∙ h in
              (settled_shape key value p is, settled_kind key value p is)

  pub settled_alike : AreAlike (settled 0 atom ps) ps
  settled_alike = record {
    count = settled_count 0 atom ps;
    shapes = λ place shape. ap (λ o. option_map_or (in_shape shape) o false) (get place) ∙ shape_same shape place (slice_get ps place) refl;
    kinds_same = λ place key. ap (option_and_then (kind_at key)) (get place) ∙ kind_same key place (slice_get ps place) refl;
  }
    where
      get : (place : ℕ) → slice_get (settled 0 atom ps) place ≡ option_map (settled_at place atom) (slice_get ps place)
      get place = settled_get 0 place atom ps ∙ ap (λ n. option_map (settled_at n atom) (slice_get ps place)) (let e : 0 + place ≡ place = omega arith in e)

      shape_same : (shape : Shape) (place : ℕ) (o : Option NodeRow) → slice_get ps place ≡ o → option_map_or (in_shape shape) (option_map (settled_at place atom) o) false ≡ option_map_or (in_shape shape) o false
      shape_same shape place None e = refl
      shape_same shape place (Some p) e = (one_alike place p e).0 shape

      kind_same : (key : List ℕ) (place : ℕ) (o : Option NodeRow) → slice_get ps place ≡ o → option_and_then (kind_at key) (option_map (settled_at place atom) o) ≡ option_and_then (kind_at key) o
      kind_same key place None e = refl
      kind_same key place (Some p) e = (one_alike place p e).1 key

all_settled_small : (i : ℕ) (atom : Atom) (ps : Pairs) → has_literal atom ≡ true → are_small ps ≡ true → are_small (settled i atom ps) ≡ true
all_settled_small i atom [] is h = refl
all_settled_small i atom (p ∷ ps) is h =
    let parts = and_parts (is_pair p && is_small p) (are_small ps) h in
    and_from _ _ (by atom is) (all_settled_small (i + 1) atom ps is parts.1)
  where
    parts_first : (is_pair p && is_small p) ≡ true
    parts_first = (and_parts (is_pair p && is_small p) (are_small ps) h).0

    by : (a : Atom) → has_literal a ≡ true → (is_pair (settled_at i a p) && is_small (settled_at i a p)) ≡ true
    by (Ends edge source target) is = parts_first
    by (HasLabel var label) is = parts_first
    by (FitsNode var number) is = parts_first
    by (FitsEdge var number) is = parts_first
    by (Equals place key value) is = here (i == place)
      where
        here : (b : Bool) → (is_pair (cond b (settled_pair key value p) p) && is_small (cond b (settled_pair key value p) p)) ≡ true
        here true = settled_small key value is p parts_first
        here false = parts_first

-- ---- all values

-- the value that an atom asks for stands there
abbrev pub HasValue : Pairs → Atom → Type 0
HasValue ps (Equals place key value) = option_and_then (λ (p : NodeRow). value_at key p.props) (slice_get ps place) ≡ Some value
HasValue ps _ = Unit {0}

module _ (ps : Pairs) where
  value_settled : (atom : Atom) → HasKind ps atom → HasValue (settled 0 atom ps) atom
  value_settled (Ends edge source target) h = tt
  value_settled (HasLabel var label) h = tt
  value_settled (FitsNode var number) h = tt
  value_settled (FitsEdge var number) h = tt
  value_settled (Equals place key value) h =
      ap (option_and_then (λ (p : NodeRow). value_at key p.props))
      (settled_get 0 place (Equals place key value) ps ∙ ap (λ n. option_map (settled_at n (Equals place key value)) (slice_get ps place)) (let e : 0 + place ≡ place = omega arith in e))
      ∙ ap (λ b. option_and_then (λ (p : NodeRow). value_at key p.props) (option_map (λ p. cond b (settled_pair key value p) p) (slice_get ps place))) (eq-eqb place place refl)
      ∙ by (slice_get ps place) h
    where
      by : (o : Option NodeRow) → option_and_then (kind_at key) o ≡ Some (kind_of value) → option_and_then (λ (p : NodeRow). value_at key p.props) (option_map (settled_pair key value) o) ≡ Some value
      by None e = cc
      by (Some p) e = settled_there key value p e

  -- and stays there while values that agree with it are put in
  value_kept : (atom other : Atom) → agree atom other ≡ true → HasValue ps atom → HasValue (settled 0 other ps) atom
  value_kept (Ends edge source target) other h there = tt
  value_kept (HasLabel var label) other h there = tt
  value_kept (FitsNode var number) other h there = tt
  value_kept (FitsEdge var number) other h there = tt
  value_kept (Equals place key value) other h there =
      ap (option_and_then (λ (p : NodeRow). value_at key p.props))
      (settled_get 0 place other ps ∙ ap (λ n. option_map (settled_at n other) (slice_get ps place)) (let e : 0 + place ≡ place = omega arith in e))
      ∙ by (slice_get ps place) other h there
    where
      kept : (p : NodeRow) (o : Atom) → agree (Equals place key value) o ≡ true → value_at key p.props ≡ Some value → value_at key (settled_at place o p).props ≡ Some value
      kept p (Ends edge source target) h at = at
      kept p (HasLabel var label) h at = at
      kept p (FitsNode var number) h at = at
      kept p (FitsEdge var number) h at = at
      kept p (Equals there name second) h at = here (place == there) h
        where
          flip : (b : Bool) → same_name key name ≡ b → (not b || same_value value second) ≡ true → (not (same_name name key) || same_value second value) ≡ true
          flip true e h =
              ap (λ b. not b || same_value second value) (ap (λ n. same_name n key) (sym (name_is key name e)) ∙ name_itself key)
              ∙ ap (λ v. same_value v value) (sym (value_is value second h)) ∙ same_itself value
          flip false e h = ap (λ b. not b || same_value second value) (other_name (same_name name key) refl)
            where
              other_name : (b : Bool) → same_name name key ≡ b → b ≡ false
              other_name true f = absurd (true≢false (sym (ap (λ n. same_name n name) (sym (name_is name key f)) ∙ name_itself name) ∙ e))
              other_name false f = refl

          here : (b : Bool) → (not (b && same_name key name) || same_value value second) ≡ true → value_at key (cond b (settled_pair name second p) p).props ≡ Some value
          here false h = at
          here true h = settled_kept name key second value p at (flip (same_name key name) refl h)

      by : (o : Option NodeRow) (other : Atom) → agree (Equals place key value) other ≡ true → option_and_then (λ (p : NodeRow). value_at key p.props) o ≡ Some value →
          option_and_then (λ (p : NodeRow). value_at key p.props) (option_map (settled_at place other) o) ≡ Some value
      by None other h e = cc
      by (Some p) other h e = kept p other h e

all_kept : (ps : Pairs) (atom : Atom) (atoms : List Atom) → list_all (agree atom) atoms ≡ true → HasValue ps atom → HasValue (settled_by atoms ps) atom
all_kept ps atom [] h there = there
all_kept ps atom (other ∷ atoms) h there =
    let parts = and_parts (agree atom other) (list_all (agree atom) atoms) h in
    all_kept (settled 0 other ps) atom atoms parts.1 (value_kept ps atom other parts.0 there)

abbrev pub HaveKinds : Pairs → List Atom → Type 0
HaveKinds ps [] = Unit {0}
HaveKinds ps (atom ∷ atoms) = HasKind ps atom × HaveKinds ps atoms

abbrev pub HaveValues : Pairs → List Atom → Type 0
HaveValues ps [] = Unit {0}
HaveValues ps (atom ∷ atoms) = HasValue ps atom × HaveValues ps atoms

kind_kept : (ps qs : Pairs) → AreAlike qs ps → (atom : Atom) → HasKind ps atom → HasKind qs atom
kind_kept ps qs alike (Ends edge source target) h = tt
kind_kept ps qs alike (HasLabel var label) h = tt
kind_kept ps qs alike (FitsNode var number) h = tt
kind_kept ps qs alike (FitsEdge var number) h = tt
kind_kept ps qs alike (Equals place key value) h = alike.kinds_same place key ∙ h

kinds_kept : (ps qs : Pairs) → AreAlike qs ps → (atoms : List Atom) → HaveKinds ps atoms → HaveKinds qs atoms
kinds_kept ps qs alike [] h = tt
kinds_kept ps qs alike (atom ∷ atoms) h = (kind_kept ps qs alike atom h.0, kinds_kept ps qs alike atoms h.1)

-- so where values agree and are of the kinds that stand there, they can all stand there
pub record IsSettled (qs ps : Pairs) (atoms : List Atom) : Type 0 where
  pub small : are_small qs ≡ true
  pub alike : AreAlike qs ps
  pub values : HaveValues qs atoms

pub all_settled : (ps : Pairs) (atoms : List Atom) → are_small ps ≡ true → all_agree atoms ≡ true → list_all has_literal atoms ≡ true → HaveKinds ps atoms → IsSettled (settled_by atoms ps) ps atoms
all_settled ps [] small agrees literals kinds = record { small = small; alike = record { count = refl; shapes = λ place shape. refl; kinds_same = λ place key. refl }; values = tt }
all_settled ps (atom ∷ atoms) small agrees literals kinds =
    let agreed = and_parts (list_all (agree atom) atoms) (all_agree atoms) agrees in
    let literal = and_parts (has_literal atom) (list_all has_literal atoms) literals in
    let alike = settled_alike atom ps kinds.0 in
    let rest = all_settled (settled 0 atom ps) atoms (all_settled_small 0 atom ps literal.0 small) agreed.1 literal.1 (kinds_kept ps (settled 0 atom ps) alike atoms kinds.1) in
    record {
      small = rest.small;
      alike = alike_then (settled_by atoms (settled 0 atom ps)) (settled 0 atom ps) ps rest.alike alike;
      values = (all_kept (settled 0 atom ps) atom atoms agreed.0 (value_settled ps atom kinds.0), rest.values);
    }
