-- What is found from the elements of a change has each element at which a match in either graph starts that binds one that may differ.
use Rattle.std.proofs.Common.{◌≡◌, ℕ, zero, suc, ◌+◌, ◌<◌, Bool, true, false, ◌&&◌, ◌||◌, ◌==◌, cond, ⊎_elim, List, [], ◌∷◌, ◌++◌, map, filter, length, slice_get, Option, Some, None, refl, sym, ◌∙◌, ap, subst, true≢false, add-one, append_assoc, arith}
use Rattle.std.specs.Option.{option_map_or}
use Rattle.std.specs.List.{list_any, Contains}
use Rattle.std.specs.Map.{keys_of, lookup}
use Rattle.std.specs.BTreeMap.{is_at}
use Rattle.std.specs.Cmp.{Equal-is}
use Rattle.std.proofs.lemmas.Bool.{and_parts, or_cases, or_from, or_left, or_right, both_ways, cases_lt, eqb-true, eq-eqb, false_from_ne_true}
use Rattle.std.proofs.lemmas.List.Folds.{list_any-append, list_any_at, Any-from_list_any}
use Rattle.pgs_base.specs.declared.element.NodeId.{NodeId}
use Rattle.pgs_base.specs.declared.element.EdgeId.{EdgeId}
use Rattle.pgs_base.specs.declared.element.Elem.{Elem}
use Rattle.pgs_base.specs.declared.element.Elem.TheVariants.{Node, Edge}
use Rattle.pgs_base.specs.declared.row.EdgeRow.{EdgeRow}
use Rattle.pgs_base.specs.Graph.{Graph, edge_cmp, edge_at}
use Rattle.pgs_base.specs.Order.{elem_cmp}
use Rattle.pgs_base.specs.OrderLaws.{exact_elem}
use Rattle.pgs_graph.specs.declared.scan.End.TheVariants.{Source, Target}
use Rattle.pgs_graph.specs.Reads.{ends_at, out_edges_of, in_edges_of}
use Rattle.pgs_syntax.specs.declared.key.Key.{Key}
use Rattle.pgs_syntax.specs.declared.pattern.Pattern.{Pattern}
use Rattle.pgs_syntax.specs.declared.resolved.Resolved.{Resolved}
use Rattle.pgs_syntax.specs.KeyValues.{starts_at}
use Rattle.pgs_syntax.specs.Matches.{same_elem, is_match}
use Rattle.pgs_syntax.specs.Valid.{is_valid_pattern, is_valid_key}
use Rattle.pgs_syntax.proofs.Assigned.{match_found, match_given}
use Rattle.pgs_syntax.proofs.Halves.{any_map, any_flat_map}
use Rattle.pgs_match.specs.Bounds.{stands_at}
use Rattle.pgs_match.specs.Reached.{reached}
use Rattle.pgs_match.proofs.There.{there_size}
use Rattle.pgs_match.proofs.Walked.{stands}
use Rattle.pgs_check_affected.specs.Found.{passes, edges_at, found_alone, found_from, found_in, found_by, found}
use Rattle.pgs_check_affected.specs.Local.{is_one_of, AgreeBut, has_touched_end, is_edge_alone, may_differ, binds_touched, HasOneRow}
use Rattle.pgs_check_affected.specs.Unseen.{AgreeForKey, seen_elems}
use Rattle.pgs_check_affected.proofs.Locality.{patterns_valid}
use Rattle.pgs_check_affected.proofs.Unseen.{change_agrees, place_alike, key_values_alike}
use Rattle.pgs_check_affected.proofs.Passing.{match_passes, reached_has, stands_itself}
use Rattle.pgs_check_affected.proofs.Touching.{any_of, one_that, itself}

-- ---- lists

pub contains_it : (xs : List Elem) (x : Elem) → is_one_of xs x ≡ true → Contains xs x
contains_it xs x some =
    let it = Any-from_list_any (same_elem x) xs some in
    let same : x ≡ it.1 = exact_elem x it.1 ((Equal-is (elem_cmp x it.1)).0 it.4) in
    subst (Contains xs) (sym same) (it.0, it.2, it.3)

pub has_it : (xs : List Elem) (x : Elem) → Contains xs x → is_one_of xs x ≡ true
has_it xs x it = list_any_at (same_elem x) xs it.0 x it.1 (ap (same_elem x) it.2 ∙ itself x)

pub any_slice : (test : Elem → Bool) (xs : List Elem) → list_any test xs ≡ true → (var : ℕ) × (x : Elem) × (slice_get xs var ≡ Some x) × (test x ≡ true) × (var < length xs)
any_slice test [] some = absurd (true≢false (sym some))
any_slice test (x ∷ xs) some =
    ⊎_elim (λ here. (0, x, refl, here, omega arith))
    (λ later. let rest = any_slice test xs later in let below = rest.4 in (suc rest.0, rest.1, rest.2, rest.3, omega (arith, below))) (or_cases (test x) _ some)

listed : {K V : Type 0} (test : K → Bool) (keep : K × V → Bool) (v : V) → ((k : K) → keep (k, v) ≡ true) → (es : List (K × V)) → lookup test es ≡ Some v →
    list_any test (keys_of (filter keep es)) ≡ true
listed test keep v kept [] at = cc
listed {K} {V} test keep v kept (e ∷ es) at = by (test e.0) refl at (listed test keep v kept es)
  where
    past : (b : Bool) → list_any test (keys_of (filter keep es)) ≡ true → list_any test (keys_of (cond b (e ∷ filter keep es) (filter keep es))) ≡ true
    past true rest = or_right (test e.0) _ rest
    past false rest = rest

    here : (b : Bool) → b ≡ true → test e.0 ≡ true → list_any test (keys_of (cond b (e ∷ filter keep es) (filter keep es))) ≡ true
    here true is first = or_left _ _ first
    here false is first = absurd (true≢false (sym is))

    by : (b : Bool) → test e.0 ≡ b → cond b (Some e.1) (lookup test es) ≡ Some v → (lookup test es ≡ Some v → list_any test (keys_of (filter keep es)) ≡ true) →
        list_any test (keys_of (cond (keep e) (e ∷ filter keep es) (filter keep es))) ≡ true
    by true first at_first rest =
        let same : e.1 ≡ v = cc in here (keep e) (subst (λ w. keep (e.0, w) ≡ true) (sym same) (kept e.0)) first
    by false first at_later rest = past (keep e) (rest at_later)

-- ---- one of two graphs

module _ (resolved : Resolved) (g h : Graph) where
  pub record IsEither (one : Graph) : Type 0 where
    pub reaching : (pattern : Pattern) (var : ℕ) (elem x : Elem) → is_one_of (reached resolved one pattern var elem) x ≡ true →
        is_one_of (reached resolved g pattern var elem ++ reached resolved h pattern var elem) x ≡ true
    pub passing : (pattern : Pattern) (elem : Elem) → passes resolved one pattern 0 elem ≡ true → (passes resolved g pattern 0 elem || passes resolved h pattern 0 elem) ≡ true
    pub listing : (elem x : Elem) → is_one_of (edges_at one elem) x ≡ true → is_one_of (edges_at g elem ++ edges_at h elem) x ≡ true

  first_of : (x : Elem) (xs ys : List Elem) → is_one_of xs x ≡ true → is_one_of (xs ++ ys) x ≡ true
  first_of x xs ys some = list_any-append (same_elem x) xs ys ∙ or_left _ _ some

  second_of : (x : Elem) (xs ys : List Elem) → is_one_of ys x ≡ true → is_one_of (xs ++ ys) x ≡ true
  second_of x xs ys some = list_any-append (same_elem x) xs ys ∙ or_right (is_one_of xs x) _ some

  is_before : IsEither g
  is_before = record {
    reaching = λ pattern var elem x some. first_of x _ _ some;
    passing = λ pattern elem some. or_left _ _ some;
    listing = λ elem x some. first_of x _ _ some;
  }

  is_after : IsEither h
  is_after = record {
    reaching = λ pattern var elem x some. second_of x _ _ some;
    passing = λ pattern elem some. or_right (passes resolved g pattern 0 elem) _ some;
    listing = λ elem x some. second_of x _ _ some;
  }

  found_at : (pattern : Pattern) (elem x : Elem) (var vars : ℕ) → var < vars →
      is_one_of (reached resolved g pattern var elem ++ reached resolved h pattern var elem) x ≡ true → is_one_of (found_from resolved g h elem pattern vars) x ≡ true
  found_at pattern elem x var zero below some = absurd (omega arith)
  found_at pattern elem x var (suc vars) below some =
      ⊎_elim
      (λ less. first_of x (found_from resolved g h elem pattern vars) _ (found_at pattern elem x var vars less some))
      (λ last. let same : var ≡ vars = omega (arith, below, last) in
      second_of x (found_from resolved g h elem pattern vars) _
      (subst (λ v. is_one_of (reached resolved g pattern v elem ++ reached resolved h pattern v elem) x ≡ true) same some))
      (cases_lt var vars)

  module _ (one : Graph) (either : IsEither one) (elems : List Elem) (pattern : Pattern) (valid : is_valid_pattern pattern ≡ true) (x : Elem) where
    abbrev finds : Elem → Bool
    finds elem = is_one_of (found_in resolved g h elem pattern) x

    -- an edge of a row is among those at its ends
    at_source : (id : EdgeId) (row : EdgeRow) → edge_at one id ≡ Some row → is_one_of (edges_at one (Node row.source)) (Edge id) ≡ true
    at_source id row at =
        first_of (Edge id) (map (λ edge. Edge edge) (out_edges_of one row.source)) _
        (any_map (same_elem (Edge id)) (λ edge. Edge edge) (out_edges_of one row.source)
        ∙ listed (is_at (edge_cmp id)) (ends_at Source row.source) row (λ k. eq-eqb row.source.0 row.source.0 refl) one.edges at)

    at_target : (id : EdgeId) (row : EdgeRow) → edge_at one id ≡ Some row → is_one_of (edges_at one (Node row.target)) (Edge id) ≡ true
    at_target id row at =
        second_of (Edge id) (map (λ edge. Edge edge) (out_edges_of one row.target)) _
        (any_map (same_elem (Edge id)) (λ edge. Edge edge) (in_edges_of one row.target)
        ∙ listed (is_at (edge_cmp id)) (ends_at Target row.target) row (λ k. eq-eqb row.target.0 row.target.0 refl) one.edges at)

    -- from a node, in a pattern that is one edge alone
    lone : (node : NodeId) → is_edge_alone pattern ≡ true → is_one_of (edges_at one (Node node)) x ≡ true → finds (Node node) ≡ true
    lone node alone some =
        let parts = and_parts (length pattern.edge_vars == 1) _ alone in
        ap (λ b. is_one_of (cond b (found_alone resolved g h (Node node) pattern) (found_from resolved g h (Node node) pattern (length pattern.edge_vars))) x) parts.0
        ∙ second_of x (cond (passes resolved g pattern 0 (Node node) || passes resolved h pattern 0 (Node node)) (Node node ∷ []) []) _
        (ap (λ b. is_one_of (cond b (edges_at g (Node node) ++ edges_at h (Node node)) []) x) parts.1 ∙ either.listing (Node node) x some)

    lone_ends : (elem : Elem) → elem ≡ x → is_edge_alone pattern ≡ true → has_touched_end (is_one_of elems) one elem ≡ true → list_any finds elems ≡ true
    lone_ends (Node id) same alone some = absurd (true≢false (sym some))
    lone_ends (Edge id) same alone some = by (edge_at one id) refl some
      where
        by : (o : Option EdgeRow) → edge_at one id ≡ o →
            option_map_or (λ (row : EdgeRow). is_one_of elems (Node row.source) || is_one_of elems (Node row.target)) o false ≡ true → list_any finds elems ≡ true
        by None at some = absurd (true≢false (sym some))
        by (Some row) at some =
            ⊎_elim
            (λ own. any_of finds (Node row.source) elems own (lone row.source alone (subst (λ e. is_one_of (edges_at one (Node row.source)) e ≡ true) same (at_source id row at))))
            (λ own. any_of finds (Node row.target) elems own (lone row.target alone (subst (λ e. is_one_of (edges_at one (Node row.target)) e ≡ true) same (at_target id row at))))
            (or_cases (is_one_of elems (Node row.source)) _ some)

    module _ (bound : List Elem) (match : is_match resolved one pattern bound ≡ true) (at_first : slice_get bound 0 ≡ Some x) (var : ℕ) (elem : Elem) (at : slice_get bound var ≡ Some elem)
        (below : var < length pattern.edge_vars) where
      -- the one element of a match of one variable
      only : (length pattern.edge_vars == 1) ≡ true → elem ≡ x
      only one_var =
          let single = eqb-true (length pattern.edge_vars) 1 one_var in
          let first : var ≡ 0 = omega (arith, below, single) in
          let e : Some elem ≡ Some x = sym at ∙ ap (slice_get bound) first ∙ at_first in cc

      from_own : finds elem ≡ true
      from_own = by (length pattern.edge_vars == 1) refl
        where
          passed : (b : Bool) → b ≡ true → elem ≡ x → is_one_of (cond b (elem ∷ []) []) x ≡ true
          passed true is same = or_left _ _ (ap (same_elem x) same ∙ itself x)
          passed false is same = absurd (true≢false (sym is))

          by : (b : Bool) → (length pattern.edge_vars == 1) ≡ b →
              is_one_of (cond b (found_alone resolved g h elem pattern) (found_from resolved g h elem pattern (length pattern.edge_vars))) x ≡ true
          by true one_var =
              let same = only one_var in
              let at_zero : slice_get bound 0 ≡ Some elem = at_first ∙ ap Some (sym same) in
              first_of x (cond (passes resolved g pattern 0 elem || passes resolved h pattern 0 elem) (elem ∷ []) []) _
              (passed (passes resolved g pattern 0 elem || passes resolved h pattern 0 elem)
              (either.passing pattern elem (match_passes resolved one pattern valid 0 (omega (arith, below)) elem
              (match_given resolved one pattern (stands_at 0 elem) bound match (stands_itself resolved one pattern 0 elem bound at_zero)))) same)
          by false more =
              found_at pattern elem x var (length pattern.edge_vars) below
              (either.reaching pattern var elem x (reached_has resolved one pattern var elem x bound match at at_first (omega (arith, below))))

    pub covered : binds_touched resolved (is_one_of elems) one pattern x ≡ true → list_any finds elems ≡ true
    covered some =
        let it = match_found resolved one pattern (λ others. starts_at x others && list_any (may_differ (is_one_of elems) one pattern) others) some in
        let both = and_parts (starts_at x it.0) _ it.2 in
        let place = any_slice (may_differ (is_one_of elems) one pattern) it.0 both.1 in
        let size = there_size one pattern.edge_vars it.0 (and_parts _ _ it.1).0 in
        let inside = place.4 in
        let below : place.0 < length pattern.edge_vars = omega (arith, size, inside) in
        let at_first = stands 0 x it.0 both.0 in
        ⊎_elim
        (λ own. any_of finds place.1 elems own (from_own it.0 it.1 at_first place.0 place.1 place.2 below))
        (λ beside. let parts = and_parts (is_edge_alone pattern) _ beside in
        lone_ends place.1 (only it.0 it.1 at_first place.0 place.1 place.2 below (and_parts (length pattern.edge_vars == 1) _ parts.0).0) parts.0 parts.1)
        (or_cases (is_one_of elems place.1) _ place.3)

  -- ---- both patterns of a key

  pub found_is : (elems : List Elem) (key : Key) (x : Elem) →
      is_one_of (found resolved g h true true key elems) x ≡ list_any (λ elem. is_one_of (found_by resolved g h elem true true key) x) elems
  found_is elems key x = any_flat_map (same_elem x) (λ elem. found_by resolved g h elem true true key) elems

  module _ (elems : List Elem) (key : Key) (agree : AgreeForKey resolved g h (is_one_of elems) key) (valid : is_valid_key key ≡ true) (x : Elem) where
    from_scope : list_any (λ elem. is_one_of (found_in resolved g h elem key.scope) x) elems ≡ true → is_one_of (found resolved g h true true key elems) x ≡ true
    from_scope some =
        let it = one_that (λ elem. is_one_of (found_in resolved g h elem key.scope) x) elems some in
        found_is elems key x ∙ any_of (λ elem. is_one_of (found_by resolved g h elem true true key) x) it.0 elems it.1 (first_of x (found_in resolved g h it.0 key.scope) _ it.2)

    from_descriptor : list_any (λ elem. is_one_of (found_in resolved g h elem key.descriptor) x) elems ≡ true → is_one_of (found resolved g h true true key elems) x ≡ true
    from_descriptor some =
        let it = one_that (λ elem. is_one_of (found_in resolved g h elem key.descriptor) x) elems some in
        found_is elems key x ∙ any_of (λ elem. is_one_of (found_by resolved g h elem true true key) x) it.0 elems it.1 (second_of x (found_in resolved g h it.0 key.scope) _ it.2)

    pub one_row : is_one_of (found resolved g h true true key elems) x ≡ false → HasOneRow resolved g h key x
    one_row none = record {
      place = place_alike resolved g h (is_one_of elems) key agree valid x
          (or_from _ _
          (false_from_ne_true _ (λ some. both_ways _ none (from_scope (covered g is_before elems key.scope (patterns_valid key valid).0 x some))))
          (false_from_ne_true _ (λ some. both_ways _ none (from_scope (covered h is_after elems key.scope (patterns_valid key valid).0 x some)))));
      values = key_values_alike resolved g h (is_one_of elems) key agree valid x
          (or_from _ _
          (false_from_ne_true _ (λ some. both_ways _ none (from_descriptor (covered g is_before elems key.descriptor (patterns_valid key valid).1 x some))))
          (false_from_ne_true _ (λ some. both_ways _ none (from_descriptor (covered h is_after elems key.descriptor (patterns_valid key valid).1 x some)))));
    }

  -- so of an answer that has all that is found from the seen elements of a change
  pub answered : (elems : List Elem) → AgreeBut (is_one_of elems) g h → (key : Key) → is_valid_key key ≡ true → (x : Elem) (items result : List Elem) →
      ((y : Elem) → is_one_of (found resolved g h true true key (seen_elems resolved g h key elems)) y ≡ true → is_one_of items y ≡ true) →
      ((y : Elem) → Contains items y → is_one_of result y ≡ true) → is_one_of result x ≡ false → HasOneRow resolved g h key x
  answered elems agree key valid x items result has kept none =
      one_row (seen_elems resolved g h key elems) key (change_agrees resolved g h key elems agree) valid x
      (false_from_ne_true _ (λ some. both_ways _ none (kept x (contains_it items x (has x some)))))

  -- ---- a turn more of the loops

  pub searched_more : (pattern : Pattern) (elem : Elem) (var : ℕ) (start before mid after : List Elem) → before ≡ start ++ found_from resolved g h elem pattern var →
      mid ≡ before ++ reached resolved g pattern var elem → after ≡ mid ++ reached resolved h pattern var elem → after ≡ start ++ found_from resolved g h elem pattern (var + 1)
  searched_more pattern elem var start before mid after so_far first second =
      let old = reached resolved g pattern var elem in
      let new = reached resolved h pattern var elem in
      second ∙ ap (λ xs. xs ++ new) first ∙ append_assoc before old new ∙ ap (λ xs. xs ++ (old ++ new)) so_far
      ∙ append_assoc start (found_from resolved g h elem pattern var) (old ++ new)
      ∙ ap (λ vars. start ++ found_from resolved g h elem pattern vars) (sym (add-one var))
