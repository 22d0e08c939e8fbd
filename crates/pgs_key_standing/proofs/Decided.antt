-- What demands decide of a placed pattern: where the values that are written agree, there are pairs that it asks for exactly where there
-- are such as meet its demands; and nowhere else.
use Rattle.std.proofs.Common.{◌≡◌, ℕ, zero, suc, ◌+◌, Bool, true, false, ◌&&◌, ◌||◌, ◌==◌, not, List, [], ◌∷◌, length, Option, Some, None, slice_get, refl, sym, ◌∙◌, ap, arith, true≢false}
use Rattle.std.specs.Option.{option_map_or}
use Rattle.std.specs.Prelude.{option_and_then}
use Rattle.std.specs.List.{list_any, list_all}
use Rattle.std.proofs.lemmas.Bool.{and_parts, and_from, false_from_ne_true, eqb-true, eq-eqb}
use Rattle.std.proofs.lemmas.Option.{same_Some, slice_get_within}
use Rattle.pgs_base.specs.declared.row.NodeRow.{NodeRow}
use Rattle.pgs_base.specs.declared.value.Value.{Value}
use Rattle.pgs_base.specs.Pair.{same_name, value_at, is_pair}
use Rattle.pgs_base.specs.Value.{kind_of, is_of_kind}
use Rattle.pgs_syntax.specs.declared.pattern.Atom.{Atom}
use Rattle.pgs_syntax.specs.declared.pattern.Atom.TheVariants.{Ends, HasLabel, FitsNode, FitsEdge, Equals}
use Rattle.pgs_syntax.specs.declared.resolved.Resolved.{Resolved}
use Rattle.pgs_syntax.specs.Matches.{same_value}
use Rattle.pgs_conform.specs.declared.shape.Shape.{Shape}
use Rattle.pgs_conform.specs.declared.shape.Triple.{Triple as ShapeTriple}
use Rattle.pgs_standing.specs.Standing.{is_small, can_stand_node, can_stand_edge}
use Rattle.pgs_key_standing.specs.declared.demand.Demand.{Demand}
use Rattle.pgs_key_standing.specs.declared.demand.Demand.TheVariants.{One, Three}
use Rattle.pgs_key_standing.specs.Demands.{are_small, are_in, is_in, are_in_three, meets, meet_all, CanMeet, CannotMeet}
use Rattle.pgs_key_standing.specs.Kinds.{agree, all_agree, has_literal, asks_kind, ask_kinds}
use Rattle.pgs_key_standing.specs.Placed.{Placed, ends_of, asks, asks_present, stand_from, ask_all, HasPairs, LacksPairs}
use Rattle.pgs_key_standing.proofs.Gathered.{get_within}
use Rattle.pgs_key_standing.proofs.Settled.{AreAlike, HaveKinds, HaveValues, HasKind, HasValue, all_settled, settled_by, kind_at, value_is, name_is, same_itself, of_kind, rank_itself}
use Rattle.pgs_key_standing.proofs.Stands.{node_stands, edge_stands, passed, three_passed}

abbrev Pairs : Type 0
Pairs = List NodeRow

-- ---- the same demands are met where the same shapes have the pairs

any_same : {X : Type 0} (f g : X → Bool) (xs : List X) → ((x : X) → f x ≡ g x) → list_any f xs ≡ list_any g xs
any_same f g [] h = refl
any_same f g (x ∷ xs) h = ap (λ b. b || list_any f xs) (h x) ∙ ap (λ b. g x || b) (any_same f g xs h)

module _ (qs ps : Pairs) (alike : AreAlike qs ps) where
  met_same : (demand : Demand) → meets qs demand ≡ meets ps demand
  met_same (One place shapes) = any_same (is_in qs place) (is_in ps place) shapes (alike.shapes place)
  met_same (Three source middle target triples) =
      any_same (are_in_three qs source middle target) (are_in_three ps source middle target) triples
      (λ (shapes : ShapeTriple). ap (λ b. (b && is_in qs middle shapes.middle) && is_in qs target shapes.target) (alike.shapes source shapes.source)
      ∙ ap (λ b. (is_in ps source shapes.source && b) && is_in qs target shapes.target) (alike.shapes middle shapes.middle)
      ∙ ap (λ b. (is_in ps source shapes.source && is_in ps middle shapes.middle) && b) (alike.shapes target shapes.target))

  all_met_same : (demands : List Demand) → list_all (meets qs) demands ≡ list_all (meets ps) demands
  all_met_same [] = refl
  all_met_same (demand ∷ demands) = ap (λ b. b && list_all (meets qs) demands) (met_same demand) ∙ ap (λ b. meets ps demand && b) (all_met_same demands)

-- ---- kinds, and values

module _ (resolved : Resolved) (all : List Atom) where
  kind_asked : (ps : Pairs) (atom : Atom) → asks_kind resolved all ps atom ≡ true → HasKind ps atom
  kind_asked ps (Ends edge source target) h = tt
  kind_asked ps (HasLabel var label) h = tt
  kind_asked ps (FitsNode var number) h = tt
  kind_asked ps (FitsEdge var number) h = tt
  kind_asked ps (Equals place key value) h = by (slice_get ps place) h
    where
      by : (o : Option NodeRow) → option_map_or (λ (p : NodeRow). option_map_or (is_of_kind (kind_of value)) (value_at key p.props) false) o false ≡ true → option_and_then (kind_at key) o ≡ Some (kind_of value)
      by None h = absurd (true≢false (sym h))
      by (Some p) h = of_kind value (value_at key p.props) h

  kinds_asked : (ps : Pairs) (atoms : List Atom) → list_all (asks_kind resolved all ps) atoms ≡ true → HaveKinds ps atoms
  kinds_asked ps [] h = tt
  kinds_asked ps (atom ∷ atoms) h =
      let parts = and_parts (asks_kind resolved all ps atom) (list_all (asks_kind resolved all ps) atoms) h in
      (kind_asked ps atom parts.0, kinds_asked ps atoms parts.1)

  value_asked : (ps : Pairs) (atom : Atom) → asks_kind resolved all ps atom ≡ true → HasValue ps atom → asks resolved all ps atom ≡ true
  value_asked ps (Ends edge source target) h v = h
  value_asked ps (HasLabel var label) h v = h
  value_asked ps (FitsNode var number) h v = h
  value_asked ps (FitsEdge var number) h v = h
  value_asked ps (Equals place key value) h v = by (slice_get ps place) v
    where
      by : (o : Option NodeRow) → option_and_then (λ (p : NodeRow). value_at key p.props) o ≡ Some value → option_map_or (λ (p : NodeRow). option_map_or (same_value value) (value_at key p.props) false) o false ≡ true
      by None e = cc
      by (Some p) e = ap (λ o. option_map_or (same_value value) o false) e ∙ same_itself value

  values_asked : (ps : Pairs) (atoms : List Atom) → list_all (asks_kind resolved all ps) atoms ≡ true → HaveValues ps atoms → list_all (asks resolved all ps) atoms ≡ true
  values_asked ps [] h v = refl
  values_asked ps (atom ∷ atoms) h v =
      let parts = and_parts (asks_kind resolved all ps atom) (list_all (asks_kind resolved all ps) atoms) h in
      and_from _ _ (value_asked ps atom parts.0 v.0) (values_asked ps atoms parts.1 v.1)

  -- the value that an atom asks for, where it is there
  asked_value : (ps : Pairs) (place : ℕ) (key : List ℕ) (value : Value) → asks resolved all ps (Equals place key value) ≡ true → option_and_then (λ (p : NodeRow). value_at key p.props) (slice_get ps place) ≡ Some value
  asked_value ps place key value h = by (slice_get ps place) h
    where
      there : (o : Option Value) → option_map_or (same_value value) o false ≡ true → o ≡ Some value
      there None h = absurd (true≢false (sym h))
      there (Some w) h = ap Some (sym (value_is value w h))

      by : (o : Option NodeRow) → option_map_or (λ (p : NodeRow). option_map_or (same_value value) (value_at key p.props) false) o false ≡ true → option_and_then (λ (p : NodeRow). value_at key p.props) o ≡ Some value
      by None h = absurd (true≢false (sym h))
      by (Some p) h = there (value_at key p.props) h

  asked_kind : (ps : Pairs) (atom : Atom) → asks resolved all ps atom ≡ true → asks_kind resolved all ps atom ≡ true
  asked_kind ps (Ends edge source target) h = h
  asked_kind ps (HasLabel var label) h = h
  asked_kind ps (FitsNode var number) h = h
  asked_kind ps (FitsEdge var number) h = h
  asked_kind ps (Equals place key value) h = by (slice_get ps place) (asked_value ps place key value h)
    where
      by : (o : Option NodeRow) → option_and_then (λ (p : NodeRow). value_at key p.props) o ≡ Some value → option_map_or (λ (p : NodeRow). option_map_or (is_of_kind (kind_of value)) (value_at key p.props) false) o false ≡ true
      by None e = cc
      by (Some p) e = ap (λ o. option_map_or (is_of_kind (kind_of value)) o false) e ∙ rank_itself (kind_of value)

  asked_kinds : (ps : Pairs) (atoms : List Atom) → list_all (asks resolved all ps) atoms ≡ true → list_all (asks_kind resolved all ps) atoms ≡ true
  asked_kinds ps [] h = refl
  asked_kinds ps (atom ∷ atoms) h =
      let parts = and_parts (asks resolved all ps atom) (list_all (asks resolved all ps) atoms) h in
      and_from _ _ (asked_kind ps atom parts.0) (asked_kinds ps atoms parts.1)

  -- atoms that are asked of one pair agree
  asked_agree : (ps : Pairs) (atom other : Atom) → asks resolved all ps atom ≡ true → asks resolved all ps other ≡ true → agree atom other ≡ true
  asked_agree ps (Ends edge source target) other h k = refl
  asked_agree ps (HasLabel var label) other h k = refl
  asked_agree ps (FitsNode var number) other h k = refl
  asked_agree ps (FitsEdge var number) other h k = refl
  asked_agree ps (Equals place key value) (Ends edge source target) h k = refl
  asked_agree ps (Equals place key value) (HasLabel var label) h k = refl
  asked_agree ps (Equals place key value) (FitsNode var number) h k = refl
  asked_agree ps (Equals place key value) (FitsEdge var number) h k = refl
  asked_agree ps (Equals place key value) (Equals there name second) h k = by (place == there) (same_name key name) refl refl
    where
      by : (a b : Bool) → (place == there) ≡ a → same_name key name ≡ b → (not (a && b) || same_value value second) ≡ true
      by false b e f = refl
      by true false e f = refl
      by true true e f =
          let one = asked_value ps place key value h in
          let other = asked_value ps there name second k in
          let same : Some value ≡ Some second = sym one ∙ ap (λ n. option_and_then (λ (p : NodeRow). value_at key p.props) (slice_get ps n)) (eqb-true place there e)
          ∙ ap (λ n. option_and_then (λ (p : NodeRow). value_at n p.props) (slice_get ps there)) (name_is key name f) ∙ other in
          ap (same_value value) (sym (same_Some value second same)) ∙ same_itself value

  one_agrees : (ps : Pairs) (atom : Atom) (atoms : List Atom) → asks resolved all ps atom ≡ true → list_all (asks resolved all ps) atoms ≡ true → list_all (agree atom) atoms ≡ true
  one_agrees ps atom [] h k = refl
  one_agrees ps atom (other ∷ atoms) h k =
      let parts = and_parts (asks resolved all ps other) (list_all (asks resolved all ps) atoms) k in
      and_from _ _ (asked_agree ps atom other h parts.0) (one_agrees ps atom atoms h parts.1)

  asked_all_agree : (ps : Pairs) (atoms : List Atom) → list_all (asks resolved all ps) atoms ≡ true → all_agree atoms ≡ true
  asked_all_agree ps [] h = refl
  asked_all_agree ps (atom ∷ atoms) h =
      let parts = and_parts (asks resolved all ps atom) (list_all (asks resolved all ps) atoms) h in
      and_from _ _ (one_agrees ps atom atoms parts.0 parts.1) (asked_all_agree ps atoms parts.1)

-- ---- what can stand is small

all_by : (test : NodeRow → Bool) (ps : Pairs) → ((i : ℕ) (p : NodeRow) → slice_get ps i ≡ Some p → test p ≡ true) → list_all test ps ≡ true
all_by test [] each = refl
all_by test (p ∷ ps) each = and_from _ _ (each 0 p refl) (all_by test ps (λ i q at. each (suc i) q at))

all_at : (test : NodeRow → Bool) (ps : Pairs) (i : ℕ) (p : NodeRow) → list_all test ps ≡ true → slice_get ps i ≡ Some p → test p ≡ true
all_at test [] i p h at = cc
all_at test (q ∷ ps) zero p h at = ap test (sym (same_Some q p at)) ∙ (and_parts (test q) (list_all test ps) h).0
all_at test (q ∷ ps) (suc i) p h at = all_at test ps i p (and_parts (test q) (list_all test ps) h).1 at

module _ (resolved : Resolved) (placed : Placed) (ps : Pairs) (pairs : list_all is_pair ps ≡ true) (count : length ps ≡ length placed.kinds)
    (stand : stand_from resolved placed.atoms ps 0 placed.kinds ≡ true) where
  small_one : (i : ℕ) (p : NodeRow) → slice_get ps i ≡ Some p → is_small p ≡ true
  small_one i p at =
      let below = slice_get_within ps i p at in
      let kind = get_within placed.kinds i (omega arith) in
      by kind.0 kind.1
    where
      by : (kind : Bool) → slice_get placed.kinds i ≡ Some kind → is_small p ≡ true
      by false k =
          let one = passed (slice_get ps (0 + i)) (can_stand_node resolved) (node_stands resolved placed.atoms ps placed.kinds 0 i stand k) in
          let same : p ≡ one.0 = same_Some p one.0 (sym at ∙ ap (slice_get ps) (let e : i ≡ 0 + i = omega arith in e) ∙ one.1) in
          ap is_small same ∙ (and_parts (is_small one.0) _ one.2).0
      by true k =
          let three = three_passed ps (0 + i) (ends_of placed.atoms (0 + i)) (can_stand_edge resolved) (edge_stands resolved placed.atoms ps placed.kinds 0 i stand k) in
          let same : p ≡ three.own = same_Some p three.own (sym at ∙ ap (slice_get ps) (let e : i ≡ 0 + i = omega arith in e) ∙ three.own_is) in
          ap is_small same ∙ (and_parts _ (is_small three.own) (and_parts _ _ three.passes).0).1

  pub stand_small : are_small ps ≡ true
  stand_small = all_by (λ p. is_pair p && is_small p) ps (λ i p at. and_from _ _ (all_at is_pair ps i p pairs at) (small_one i p at))

small_pairs : (ps : Pairs) → are_small ps ≡ true → list_all is_pair ps ≡ true
small_pairs [] h = refl
small_pairs (p ∷ ps) h =
    let parts = and_parts (is_pair p && is_small p) (are_small ps) h in
    and_from _ _ (and_parts (is_pair p) (is_small p) parts.0).0 (small_pairs ps parts.1)

-- ---- so demands decide

module _ (resolved : Resolved) (placed : Placed) (places : List Shape) (demands : List Demand) (literals : list_all has_literal placed.atoms ≡ true)
    (any : (ps : Pairs) → are_in places ps ≡ (length ps == length placed.kinds))
    (asked : (ps : Pairs) → are_small ps ≡ true → list_all (meets ps) demands ≡ ask_kinds resolved placed ps) where
  pub has_by : all_agree placed.atoms ≡ true → CanMeet places demands → HasPairs resolved placed
  has_by agrees can =
      let ps = can.0 in
      let parts = and_parts (are_in places ps) (list_all (meets ps) demands) can.2 in
      let kinds = sym (asked ps can.1) ∙ parts.1 in
      let with_atoms = and_parts (stand_from resolved placed.atoms ps 0 placed.kinds && list_all (asks_kind resolved placed.atoms ps) placed.atoms) (list_all (asks_present ps) placed.exprs) kinds in
      let atoms = (and_parts (stand_from resolved placed.atoms ps 0 placed.kinds) (list_all (asks_kind resolved placed.atoms ps) placed.atoms) with_atoms.0).1 in
      let settled = all_settled ps placed.atoms can.1 agrees literals (kinds_asked resolved placed.atoms ps placed.atoms atoms) in
      let qs = settled_by placed.atoms ps in
      let still = sym (asked qs settled.small) ∙ all_met_same qs ps settled.alike demands ∙ parts.1 in
      let outer = and_parts (stand_from resolved placed.atoms qs 0 placed.kinds && list_all (asks_kind resolved placed.atoms qs) placed.atoms) (list_all (asks_present qs) placed.exprs) still in
      let inner = and_parts (stand_from resolved placed.atoms qs 0 placed.kinds) (list_all (asks_kind resolved placed.atoms qs) placed.atoms) outer.0 in
      record {
        ps = qs;
        pairs = small_pairs qs settled.small;
        count = settled.alike.count ∙ eqb-true (length ps) (length placed.kinds) (sym (any ps) ∙ parts.0);
        asked = and_from _ _ (and_from _ _ inner.0 (values_asked resolved placed.atoms qs placed.atoms inner.1 settled.values)) outer.1;
      }

  pub lacks_by : CannotMeet places demands → LacksPairs resolved placed
  lacks_by cannot ps pairs count = false_from_ne_true (ask_all resolved placed ps) (λ all.
      let outer = and_parts (stand_from resolved placed.atoms ps 0 placed.kinds && list_all (asks resolved placed.atoms ps) placed.atoms) (list_all (asks_present ps) placed.exprs) all in
      let inner = and_parts (stand_from resolved placed.atoms ps 0 placed.kinds) (list_all (asks resolved placed.atoms ps) placed.atoms) outer.0 in
      let small = stand_small resolved placed ps pairs count inner.0 in
      let kinds : ask_kinds resolved placed ps ≡ true = and_from _ _ (and_from _ _ inner.0 (asked_kinds resolved placed.atoms ps placed.atoms inner.1)) outer.1 in
      let met : meet_all places demands ps ≡ true = and_from _ _ (any ps ∙ eq-eqb (length ps) (length placed.kinds) count) (asked ps small ∙ kinds) in
      true≢false (sym met ∙ cannot ps small))

pub lacks_where_apart : (resolved : Resolved) (placed : Placed) → all_agree placed.atoms ≡ false → LacksPairs resolved placed
lacks_where_apart resolved placed apart ps pairs count = false_from_ne_true (ask_all resolved placed ps) (λ all.
    let outer = and_parts (stand_from resolved placed.atoms ps 0 placed.kinds && list_all (asks resolved placed.atoms ps) placed.atoms) (list_all (asks_present ps) placed.exprs) all in
    let inner = and_parts (stand_from resolved placed.atoms ps 0 placed.kinds) (list_all (asks resolved placed.atoms ps) placed.atoms) outer.0 in
    true≢false (sym (asked_all_agree resolved placed.atoms ps placed.atoms inner.1) ∙ apart))
