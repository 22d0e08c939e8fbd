-- The walk over the written descriptor of a valid key visits each of its places.
use Rattle.std.proofs.Common.{true≢false, ◌≡◌, ℕ, zero, suc, ◌+◌, ◌-◌, ◌*◌, ◌<◌, ◌≤◌, Bool, true, false, not, cond, ◌||◌, ◌&&◌, inl, inr, List, [], ◌∷◌, ◌++◌, length, map, get_or, Option, Some, None, refl, sym, ◌∙◌, ap, subst, arith, eqb, ltb}
use Rattle.std.specs.List.{list_any, list_all, find, enumerate_from, flat_map, slice_get}
use Rattle.std.specs.Option.{option_map_or, unwrap_or}
use Rattle.std.proofs.lemmas.Bool.{and_from, and_parts, or_left, or_right, or_cases, or_parts, not-true, eqb-true, eq-eqb, lt-ltb, le-ltb, leb-true, cases_lt}
use Rattle.std.proofs.lemmas.List.{length-map, map-append, get_or-map}
use Rattle.std.proofs.lemmas.List.FromFn.{length-enumerate_from, get_or-enumerate_from}
use Rattle.pgs_base.specs.declared.value.Value.{Value}
use Rattle.pgs_syntax.specs.declared.pattern.Atom.{Atom}
use Rattle.pgs_syntax.specs.declared.pattern.Atom.TheVariants.{Ends, Equals, HasLabel, FitsNode, FitsEdge}
use Rattle.pgs_syntax.specs.declared.pattern.Pattern.{Pattern}
use Rattle.pgs_syntax.specs.declared.raw.RawFilter.{RawFilter}
use Rattle.pgs_syntax.specs.declared.raw.RawKey.{RawKey}
use Rattle.pgs_syntax.specs.declared.raw.RawPath.{RawPath}
use Rattle.pgs_syntax.specs.declared.raw.RawStep.{RawStep}
use Rattle.pgs_syntax.specs.declared.resolved.Resolved.{Resolved}
use Rattle.pgs_syntax.specs.Linked.{links, IsLinked, itself, further}
use Rattle.pgs_syntax.specs.Valid.{speaks_of, is_valid_pattern, is_valid_key_of}
use Rattle.pgs_syntax.proofs.Connected.{all_linked}
use Rattle.pgs_resolve_declared.specs.declared.order.Numbering.{Numbering}
use Rattle.pgs_resolve_declared.specs.Order.{number_in}
use Rattle.pgs_resolve_keys.specs.KeyFaults.{within_of}
use Rattle.pgs_resolve_keys.specs.Patterns.{Place, Variable, x_of, variable_at, variables_at, variables_of, number_of, name_atom, place_atoms, ends, step_atoms, path_atoms, places_of, places_of_path, places_of_step, pattern_of, x_alone, resolved_key}
use Rattle.pgs_resolve_keys.proofs.AtomsOfPaths.{number_below}
use Rattle.pgs_resolve_keys.proofs.Stepped.{step_places}
use Rattle.pgs_key_causes.specs.declared.walk.Occurrence.{Occurrence}
use Rattle.pgs_key_causes.specs.declared.walk.Visit.{Visit}
use Rattle.pgs_key_causes.specs.Fronts.{occurrence_of, occurrences_of, descriptor_of}
use Rattle.pgs_key_causes.specs.Walk.{var_at, is_edge_at, is_visited, is_reached, with_own, with_all, numbers, is_start, is_alone, is_next, with_step, walk_on, walk}
use Rattle.pgs_key_causes.proofs.Sound.{Kinded, IsBetween, AreBetween, paths_between, steps_between, occurrences, at-append, all_left, node_of, edge_of, at_left, at_right, var_in, edge_in, var_below}
use Rattle.pgs_key_causes.proofs.Visiting.{IsStep, step_is, own_old, own_some, own_here, reach_same}

-- ---- the visits on the way

module _ (edge_vars : List Bool) (places : List Occurrence) (between : AreBetween edge_vars places) where
  -- whether a node place is a path of its own
  abbrev is_lone : ℕ → Bool
  is_lone n = not (is_edge_at places n) && not (is_edge_at places (n - 1)) && not (is_edge_at places (n + 1))

  -- all visits are of places, edges with their nodes, and no path of one place is left whose variable is reached
  record IsState (visits : List Visit) : Type 0 where
    low : (m : ℕ) → is_visited visits m ≡ true → m < length places
    closed : (e : ℕ) → is_edge_at places e ≡ true → is_visited visits e ≡ true → (is_visited visits (e - 1) ≡ true) × (is_visited visits (e + 1) ≡ true)
    alone : (n : ℕ) → n < length places → is_alone places visits n ≡ true → is_visited visits n ≡ true

  start_node : (visits : List Visit) (n : ℕ) → is_start places visits n ≡ true → (is_edge_at places n ≡ false) × (var_at places n ≡ 0)
  start_node visits n h =
      let parts = and_parts (not (is_edge_at places n)) (eqb (var_at places n) 0) h in
      (not-true (is_edge_at places n) parts.0, eqb-true (var_at places n) 0 parts.1)

  state_start : IsState (with_all places (is_start places) [])
  state_start = record {
    low = λ m h.
        own_some places (is_start places) [] (λ (visit : Visit). eqb visit.place m) (m < length places) (length places) (λ e. absurd (true≢false (sym e)))
        (λ n lt passes is. let same = eqb-true n m is in omega (arith, lt, same)) (length places) (omega arith) h;
    closed = λ e edge h.
        own_some places (is_start places) [] (λ (visit : Visit). eqb visit.place e)
        ((is_visited (with_all places (is_start places) []) (e - 1) ≡ true) × (is_visited (with_all places (is_start places) []) (e + 1) ≡ true)) (length places)
        (λ f. absurd (true≢false (sym f)))
        (λ n lt passes is.
        absurd (true≢false (sym edge ∙ ap (is_edge_at places) (sym (eqb-true n e is)) ∙ (start_node (with_own places (is_start places) [] n) n passes).0)))
        (length places) (omega arith) h;
    alone = λ n lt h. own_here places (is_start places) [] (length places) n lt (and_from _ _ (lone_node n h) (zero n h));
  }
    where
      lone_node : (n : ℕ) → is_alone places (with_all places (is_start places) []) n ≡ true → not (is_edge_at places n) ≡ true
      lone_node n h =
          let a = and_parts _ (is_reached places (with_all places (is_start places) []) n) h in
          let b = and_parts _ (not (is_edge_at places (n + 1))) a.0 in
          (and_parts (not (is_edge_at places n)) _ b.0).0

      zero : (n : ℕ) → is_alone places (with_all places (is_start places) []) n ≡ true → eqb (var_at places n) 0 ≡ true
      zero n h =
          let reached = (and_parts _ (is_reached places (with_all places (is_start places) []) n) h).1 in
          elim (or_cases (eqb (var_at places n) 0) _ reached) [
            | inl e ↦ e
            | inr some ↦
                own_some places (is_start places) [] (λ (visit : Visit). eqb (var_at places visit.place) (var_at places n)) (eqb (var_at places n) 0 ≡ true) (length places)
                (λ f. absurd (true≢false (sym f)))
                (λ k lt passes is.
                eq-eqb (var_at places n) 0
                (sym (eqb-true (var_at places k) (var_at places n) is) ∙ (start_node (with_own places (is_start places) [] k) k passes).1))
                (length places) (omega arith) some
          ]

  -- one step more
  module _ (visits : List Visit) (e : ℕ) (state : IsState visits) (next : is_next places visits e ≡ true) where
    abbrev stepped : List Visit
    stepped = with_step places visits e

    abbrev after : List Visit
    after = with_all places (is_alone places) stepped

    edge_here : is_edge_at places e ≡ true
    edge_here = (and_parts (is_edge_at places e) _ (and_parts (is_edge_at places e && not (is_visited visits e)) _ next).0).0

    own : IsBetween edge_vars places e
    own = between e edge_here

    is_step : IsStep places visits e (with_step places visits e)
    is_step = step_is places visits e

    step_low : (m : ℕ) → is_visited stepped m ≡ true → m < length places
    step_low m h = elim (is_step.only m h) [
      | inl old ↦ state.low m old
      | inr new ↦ let last = own.last in elim new [
        | inl is ↦ omega (arith, is, last)
        | inr rest ↦ elim rest [ inl is ↦ omega (arith, is, last) | inr is ↦ omega (arith, is, last) ]
      ]
    ]

    step_closed : (f : ℕ) → is_edge_at places f ≡ true → is_visited stepped f ≡ true → (is_visited stepped (f - 1) ≡ true) × (is_visited stepped (f + 1) ≡ true)
    step_closed f edge h = elim (is_step.only f h) [
      | inl old ↦
          let ends = state.closed f edge old in (is_step.old (f - 1) ends.0, is_step.old (f + 1) ends.1)
      | inr new ↦ elim new [
        | inl is ↦ absurd (true≢false (sym edge ∙ ap (is_edge_at places) is ∙ own.left_node))
        | inr rest ↦ elim rest [
          | inl is ↦ (ap (λ k. is_visited stepped (k - 1)) is ∙ is_step.left, ap (λ k. is_visited stepped (k + 1)) is ∙ is_step.right)
          | inr is ↦ absurd (true≢false (sym edge ∙ ap (is_edge_at places) is ∙ own.right_node))
        ]
      ]
    ]

    alone_node : (some : List Visit) (n : ℕ) → is_alone places some n ≡ true → is_edge_at places n ≡ false
    alone_node some n h =
        let a = and_parts _ (is_reached places some n) h in
        let b = and_parts _ (not (is_edge_at places (n + 1))) a.0 in
        not-true (is_edge_at places n) (and_parts (not (is_edge_at places n)) _ b.0).0

    state_next : IsState after
    state_next = record {
      low = λ m h.
          own_some places (is_alone places) stepped (λ (visit : Visit). eqb visit.place m) (m < length places) (length places) (step_low m)
          (λ n lt passes is. let same = eqb-true n m is in omega (arith, lt, same)) (length places) (omega arith) h;
      closed = λ f edge h.
          own_some places (is_alone places) stepped (λ (visit : Visit). eqb visit.place f)
          ((is_visited after (f - 1) ≡ true) × (is_visited after (f + 1) ≡ true)) (length places)
          (λ old. let ends = step_closed f edge old in (
            own_old places (is_alone places) stepped (λ (visit : Visit). eqb visit.place (f - 1)) (length places) ends.0,
            own_old places (is_alone places) stepped (λ (visit : Visit). eqb visit.place (f + 1)) (length places) ends.1,
          ))
          (λ n lt passes is.
          absurd (true≢false (sym edge ∙ ap (is_edge_at places) (sym (eqb-true n f is)) ∙ alone_node (with_own places (is_alone places) stepped n) n passes)))
          (length places) (omega arith) h;
      alone = λ n lt h.
          let parts = and_parts _ (is_reached places after n) h in
          let before = reach_same places stepped (length places) n parts.1 in
          own_here places (is_alone places) stepped (length places) n lt (and_from _ _ parts.0 (still n n before));
    }
      where
        still : (k n : ℕ) → is_reached places (with_step places visits e) n ≡ true →
            is_reached places (with_own places (is_alone places) (with_step places visits e) k) n ≡ true
        still k n h = elim (or_cases (eqb (var_at places n) 0) _ h) [
          | inl is_x ↦ or_left (eqb (var_at places n) 0) _ is_x
          | inr some ↦
              or_right (eqb (var_at places n) 0) _
              (own_old places (is_alone places) (with_step places visits e) (λ (visit : Visit). eqb (var_at places visit.place) (var_at places n)) k some)
        ]

    stays : (m : ℕ) → is_visited visits m ≡ true → is_visited after m ≡ true
    stays m h = own_old places (is_alone places) stepped (λ (visit : Visit). eqb visit.place m) (length places) (is_step.old m h)

    edge_visited : is_visited after e ≡ true
    edge_visited = own_old places (is_alone places) stepped (λ (visit : Visit). eqb visit.place e) (length places) is_step.edge

  -- ---- how many places are left

  abbrev weight : Bool → ℕ
  weight visited = cond visited 0 1

  abbrev left : List Visit → ℕ → ℕ
  left visits zero = 0
  left visits (suc n) = left visits n + weight (is_visited visits n)

  left_most : (visits : List Visit) (n : ℕ) → left visits n ≤ n
  left_most visits zero = omega arith
  left_most visits (suc n) = by (is_visited visits n) (left_most visits n)
    where
      by : (b : Bool) → left visits n ≤ n → left visits n + weight b ≤ suc n
      by true h = omega (arith, h)
      by false h = omega (arith, h)

  module _ (visits after : List Visit) (stays : (m : ℕ) → is_visited visits m ≡ true → is_visited after m ≡ true) where
    weight_less : (n : ℕ) → weight (is_visited after n) ≤ weight (is_visited visits n)
    weight_less n = by (is_visited visits n) refl (is_visited after n) refl
      where
        by : (a : Bool) → is_visited visits n ≡ a → (b : Bool) → is_visited after n ≡ b → weight b ≤ weight a
        by true e true f = omega arith
        by true e false f = absurd (true≢false (sym (stays n e) ∙ f))
        by false e true f = omega arith
        by false e false f = omega arith

    left_less : (n : ℕ) → left after n ≤ left visits n
    left_less zero = omega arith
    left_less (suc n) = let a = left_less n in let b = weight_less n in omega (arith, a, b)

    left_strict : (n e : ℕ) → e < n → is_visited visits e ≡ false → is_visited after e ≡ true → left after n < left visits n
    left_strict zero e lt new here = absurd (omega (arith, lt))
    left_strict (suc n) e lt new here = elim (cases_lt e n) [
      | inl less ↦ let a = left_strict n e less new here in let b = weight_less n in omega (arith, a, b)
      | inr le ↦
          let same : n ≡ e = omega (arith, lt, le) in
          let a = left_less n in
          let b : weight (is_visited after n) ≡ 0 = ap (λ k. weight (is_visited after k)) same ∙ ap weight here in
          let c : weight (is_visited visits n) ≡ 1 = ap (λ k. weight (is_visited visits k)) same ∙ ap weight new in
          omega (arith, a, b, c)
    ]

  left_none : (visits : List Visit) (n m : ℕ) → m < n → left visits n ≡ 0 → is_visited visits m ≡ true
  left_none visits zero m lt h = absurd (omega (arith, lt))
  left_none visits (suc n) m lt h = elim (cases_lt m n) [
    | inl less ↦ left_none visits n m less (omega (arith, h))
    | inr le ↦ let same : m ≡ n = omega (arith, lt, le) in ap (is_visited visits) same ∙ by (is_visited visits n) (omega (arith, h))
  ]
    where
      by : (b : Bool) → weight b ≡ 0 → b ≡ true
      by true e = refl
      by false e = absurd (omega (arith, e))

  -- ---- the end of the walk

  number_at : (i : ℕ) → i < length places → get_or (numbers places) i 0 ≡ i
  number_at i below =
      let size = length-enumerate_from 0 places in
      let d : Occurrence = node_of 0 in
      get_or-map (λ (place : ℕ × Occurrence). place.0) (enumerate_from 0 places) i (0, d) 0 (omega (arith, below, size))
      ∙ ap (λ (place : ℕ × Occurrence). place.0) (get_or-enumerate_from 0 places i (0, d) below) ∙ omega arith

  none_found : (test : ℕ → Bool) (xs : List ℕ) → find test xs ≡ None → (i : ℕ) → i < length xs → test (get_or xs i 0) ≡ false
  none_found test [] h i lt = absurd (omega (arith, lt))
  none_found test (x ∷ xs) h i lt = by (test x) refl h i lt (none_found test xs)
    where
      by : (b : Bool) → test x ≡ b → cond b (Some x) (find test xs) ≡ None → (i : ℕ) → i < length (x ∷ xs) →
          (find test xs ≡ None → (i : ℕ) → i < length xs → test (get_or xs i 0) ≡ false) → test (get_or (x ∷ xs) i 0) ≡ false
      by true e h i lt later = cc
      by false e h zero lt later = e
      by false e h (suc i) lt later = later h i (omega (arith, lt))

  all_found : (test : ℕ → Bool) (xs : List ℕ) → ((i : ℕ) → i < length xs → test (get_or xs i 0) ≡ false) → find test xs ≡ None
  all_found test [] h = refl
  all_found test (x ∷ xs) h =
      ap (λ b. cond b (Some x) (find test xs)) (h 0 (omega arith)) ∙ all_found test xs (λ i lt. h (suc i) (omega (arith, lt)))

  find_low : (test : ℕ → Bool) (xs : List ℕ) (x : ℕ) → find test xs ≡ Some x → test x ≡ true
  find_low test [] x h = cc
  find_low test (y ∷ ys) x h = by (test y) refl h (find_low test ys x)
    where
      by : (b : Bool) → test y ≡ b → cond b (Some y) (find test ys) ≡ Some x → (find test ys ≡ Some x → test x ≡ true) → test x ≡ true
      by true e h later = let same : y ≡ x = cc in ap test (sym same) ∙ e
      by false e h later = later h

  record IsEndOf (visits : List Visit) : Type 0 where
    state : IsState visits
    none : find (is_next places visits) (numbers places) ≡ None

  not_next : (visits : List Visit) (e : ℕ) → is_visited visits e ≡ true → is_next places visits e ≡ false
  not_next visits e h = by (is_edge_at places e)
    where
      by : (b : Bool) → (b && not (is_visited visits e) && (is_reached places visits (e - 1) || is_reached places visits e || is_reached places visits (e + 1))) ≡ false
      by true = ap (λ t. true && not t && (is_reached places visits (e - 1) || is_reached places visits e || is_reached places visits (e + 1))) h
      by false = refl

  on_ends : (more : ℕ) (visits : List Visit) → IsState visits → left visits (length places) ≤ more → IsEndOf (walk_on places more visits)
  on_ends zero visits state le = record {
    state = state;
    none =
        all_found (is_next places visits) (numbers places)
        (λ i lt.
        let size = length-map (enumerate_from 0 places) (λ (place : ℕ × Occurrence). place.0) in
        let count = length-enumerate_from 0 places in
        let low : i < length places = omega (arith, lt, size, count) in
        ap (is_next places visits) (number_at i low) ∙ not_next visits i (left_none visits (length places) i low (omega (arith, le))));
  }
  on_ends (suc more) visits state le = by (find (is_next places visits) (numbers places)) refl (on_ends more)
    where
      by : (o : Option ℕ) → find (is_next places visits) (numbers places) ≡ o →
          ((after : List Visit) → IsState after → left after (length places) ≤ more → IsEndOf (walk_on places more after)) →
          IsEndOf (option_map_or (λ e. walk_on places more (with_all places (is_alone places) (with_step places visits e))) o visits)
      by None found later = record { state = state; none = found }
      by (Some e) found later =
          let next = find_low (is_next places visits) (numbers places) e found in
          let edge = edge_here visits e state next in
          let new = not-true (is_visited visits e) (and_parts (is_edge_at places e) _ (and_parts (is_edge_at places e && not (is_visited visits e)) _ next).0).1 in
          let last = (between e edge).last in
          let less =
          left_strict visits (with_all places (is_alone places) (with_step places visits e)) (stays visits e state next) (length places) e (omega (arith, last)) new
          (edge_visited visits e state next) in
          later (with_all places (is_alone places) (with_step places visits e)) (state_next visits e state next) (omega (arith, less, le))

  walk_ends : IsEndOf (walk places)
  walk_ends = on_ends (length places) (with_all places (is_start places) []) state_start (left_most (with_all places (is_start places) []) (length places))

  -- ---- what is reached in the end

  abbrev reached : ℕ → Bool
  reached v = eqb v 0 || list_any (λ (visit : Visit). eqb (var_at places visit.place) v) (walk places)

  visited_reached : (n : ℕ) → is_visited (walk places) n ≡ true → reached (var_at places n) ≡ true
  visited_reached n h = or_right (eqb (var_at places n) 0) _ (some (walk places) h)
    where
      some : (visits : List Visit) → is_visited visits n ≡ true → list_any (λ (visit : Visit). eqb (var_at places visit.place) (var_at places n)) visits ≡ true
      some [] h = absurd (true≢false (sym h))
      some (visit ∷ visits) h = elim (or_cases (eqb visit.place n) (is_visited visits n) h) [
        | inl e ↦ or_left (eqb (var_at places visit.place) (var_at places n)) _ (eq-eqb _ _ (ap (var_at places) (eqb-true visit.place n e)))
        | inr e ↦ or_right (eqb (var_at places visit.place) (var_at places n)) _ (some visits e)
      ]

  edge_low : (e : ℕ) → is_edge_at places e ≡ true → e < length places
  edge_low e edge = let last = (between e edge).last in omega (arith, last)

  -- an edge is reached exactly where its nodes are
  record AreAlike (e a b : ℕ) : Type 0 where
    left : reached e ≡ reached a
    right : reached e ≡ reached b

  alike_at : (e : ℕ) → is_edge_at places e ≡ true → AreAlike (var_at places e) (var_at places (e - 1)) (var_at places (e + 1))
  alike_at e edge = by (is_visited (walk places) e) refl
    where
      by : (b : Bool) → is_visited (walk places) e ≡ b → AreAlike (var_at places e) (var_at places (e - 1)) (var_at places (e + 1))
      by true here =
          let ends = walk_ends.state.closed e edge here in
          record {
            left = visited_reached e here ∙ sym (visited_reached (e - 1) ends.0);
            right = visited_reached e here ∙ sym (visited_reached (e + 1) ends.1);
          }
      by false here =
          let size = length-map (enumerate_from 0 places) (λ (place : ℕ × Occurrence). place.0) in
          let count = length-enumerate_from 0 places in
          let low = edge_low e edge in
          let none = sym (ap (is_next places (walk places)) (number_at e low)) ∙ none_found (is_next places (walk places)) (numbers places) walk_ends.none e (omega (arith, low, size, count)) in
          let untouched : (is_reached places (walk places) (e - 1) || is_reached places (walk places) e || is_reached places (walk places) (e + 1)) ≡ false =
          sym (ap (λ t. t && (is_reached places (walk places) (e - 1) || is_reached places (walk places) e || is_reached places (walk places) (e + 1)))
          (and_from (is_edge_at places e) (not (is_visited (walk places) e)) edge (ap not here))) ∙ none in
          let outer = or_parts (is_reached places (walk places) (e - 1) || is_reached places (walk places) e) _ untouched in
          let inner = or_parts (is_reached places (walk places) (e - 1)) _ outer.0 in
          record { left = inner.1 ∙ sym inner.0; right = inner.1 ∙ sym outer.1 }

  -- where all variables are reached, each place is visited
  module _ (all_reached : (n : ℕ) → reached (var_at places n) ≡ true) where
    edge_there : (e : ℕ) → is_edge_at places e ≡ true → is_visited (walk places) e ≡ true
    edge_there e edge = by (is_visited (walk places) e) refl
      where
        by : (b : Bool) → is_visited (walk places) e ≡ b → is_visited (walk places) e ≡ true
        by true here = here
        by false here =
            let size = length-map (enumerate_from 0 places) (λ (place : ℕ × Occurrence). place.0) in
            let count = length-enumerate_from 0 places in
            let low = edge_low e edge in
            let none = sym (ap (is_next places (walk places)) (number_at e low)) ∙ none_found (is_next places (walk places)) (numbers places) walk_ends.none e (omega (arith, low, size, count)) in
            absurd (true≢false
            (sym (and_from _ _ (and_from (is_edge_at places e) (not (is_visited (walk places) e)) edge (ap not here))
            (or_right (is_reached places (walk places) (e - 1) || is_reached places (walk places) e) (is_reached places (walk places) (e + 1)) (all_reached (e + 1)))) ∙ none))

    place_there : (n : ℕ) → n < length places → is_visited (walk places) n ≡ true
    place_there n lt = by (is_edge_at places n) refl (is_edge_at places (n - 1)) refl (is_edge_at places (n + 1)) refl
      where
        by : (a : Bool) → is_edge_at places n ≡ a → (b : Bool) → is_edge_at places (n - 1) ≡ b → (c : Bool) → is_edge_at places (n + 1) ≡ c →
            is_visited (walk places) n ≡ true
        by true e b f c g = edge_there n e
        by false e true f c g =
            let first = (between (n - 1) f).first in
            let back : n - 1 + 1 ≡ n = omega (arith, first) in
            ap (is_visited (walk places)) (sym back) ∙ (walk_ends.state.closed (n - 1) f (edge_there (n - 1) f)).1
        by false e false f true g =
            let back : n + 1 - 1 ≡ n = omega arith in
            ap (is_visited (walk places)) (sym back) ∙ (walk_ends.state.closed (n + 1) g (edge_there (n + 1) g)).0
        by false e false f false g =
            walk_ends.state.alone n lt (and_from _ _ (and_from _ _ (and_from _ _ (ap not e) (ap not f)) (ap not g)) (all_reached n))

    visited_is : (n : ℕ) → is_visited (walk places) n ≡ ltb n (length places)
    visited_is n = elim (cases_lt n (length places)) [
      | inl lt ↦ place_there n lt ∙ sym (lt-ltb n (length places) lt)
      | inr le ↦ none (is_visited (walk places) n) refl le ∙ sym (le-ltb n (length places) le)
    ]
      where
        none : (b : Bool) → is_visited (walk places) n ≡ b → length places ≤ n → is_visited (walk places) n ≡ false
        none true e le = let low = walk_ends.state.low n e in absurd (omega (arith, low, le))
        none false e le = e

-- ---- what all ends of edges say alike of

module _ (same : ℕ → Bool) where
  abbrev Alike : Atom → Type 0
  Alike (Ends e s t) = (same e ≡ same s) × (same e ≡ same t)
  Alike _ = Unit {0}

  abbrev AllAlike : List Atom → Type 0
  AllAlike [] = Unit {0}
  AllAlike (atom ∷ atoms) = Alike atom × AllAlike atoms

  alike-append : (xs ys : List Atom) → AllAlike xs → AllAlike ys → AllAlike (xs ++ ys)
  alike-append [] ys a b = b
  alike-append (x ∷ xs) ys a b = (a.0, alike-append xs ys a.1 b)

  name_alike : (numbering : Numbering) (is_edge : Bool) (v : ℕ) (name : List ℕ) → Alike (name_atom numbering is_edge v name)
  name_alike numbering false v name = by (number_in numbering.nodes name)
    where
      by : (o : Option ℕ) → Alike (option_map_or (FitsNode v) o (HasLabel v name))
      by None = tt
      by (Some n) = tt
  name_alike numbering true v name = by (number_in numbering.edges name)
    where
      by : (o : Option ℕ) → Alike (option_map_or (FitsEdge v) o (HasLabel v name))
      by None = tt
      by (Some n) = tt

  names_alike : (numbering : Numbering) (is_edge : Bool) (v : ℕ) (names : List (List ℕ)) → AllAlike (map (name_atom numbering is_edge v) names)
  names_alike numbering is_edge v [] = tt
  names_alike numbering is_edge v (name ∷ names) = (name_alike numbering is_edge v name, names_alike numbering is_edge v names)

  tests_alike : (v : ℕ) (tests : List (List ℕ × Value)) → AllAlike (map (λ (test : List ℕ × Value). Equals v test.0 test.1) tests)
  tests_alike v [] = tt
  tests_alike v (test ∷ tests) = (tt, tests_alike v tests)

  place_alike : (numbering : Numbering) (is_edge : Bool) (v : ℕ) (filter : RawFilter) → AllAlike (place_atoms numbering is_edge v filter)
  place_alike numbering is_edge v filter =
      alike-append (map (name_atom numbering is_edge v) filter.names) (map (λ (test : List ℕ × Value). Equals v test.0 test.1) filter.tests)
      (names_alike numbering is_edge v filter.names) (tests_alike v filter.tests)

  ends_alike : (forward : Bool) (e a b : ℕ) → same e ≡ same a → same e ≡ same b → Alike (ends forward e a b)
  ends_alike true e a b f g = (f, g)
  ends_alike false e a b f g = (g, f)

  -- of each edge place
  abbrev EdgesAlike : List Occurrence → Type 0
  EdgesAlike places = (e : ℕ) → is_edge_at places e ≡ true →
      (same (var_at places e) ≡ same (var_at places (e - 1))) × (same (var_at places e) ≡ same (var_at places (e + 1)))

  later_alike : (a e b : ℕ) (rest : List Occurrence) → EdgesAlike (node_of a ∷ edge_of e ∷ node_of b ∷ rest) → EdgesAlike (node_of b ∷ rest)
  later_alike a e b rest all zero h = cc
  later_alike a e b rest all (suc n) h =
      let places = node_of a ∷ edge_of e ∷ node_of b ∷ rest in
      let own = all (suc (suc (suc n))) h in
      let before : suc (suc (suc n)) - 1 ≡ suc (suc (suc n - 1)) = omega arith in
      let behind : suc (suc (suc n)) + 1 ≡ suc (suc (suc n + 1)) = omega arith in
      (own.0 ∙ ap (λ k. same (var_at places k)) before, own.1 ∙ ap (λ k. same (var_at places k)) behind)

  first_alike : (a e b : ℕ) (rest : List Occurrence) → EdgesAlike (node_of a ∷ edge_of e ∷ node_of b ∷ rest) → (same e ≡ same a) × (same e ≡ same b)
  first_alike a e b rest all =
      let places = node_of a ∷ edge_of e ∷ node_of b ∷ rest in
      let own = all (suc zero) refl in
      let before : suc zero - 1 ≡ zero = omega arith in
      let behind : suc zero + 1 ≡ suc (suc zero) = omega arith in
      (own.0 ∙ ap (λ k. same (var_at places k)) before, own.1 ∙ ap (λ k. same (var_at places k)) behind)

  left_alike : (edge_vars : List Bool) (xs ys : List Occurrence) → AreBetween edge_vars xs → EdgesAlike (xs ++ ys) → EdgesAlike xs
  left_alike edge_vars xs ys between all e h =
      let own = between e h in
      let last = own.last in
      let here = at_left xs ys e (omega (arith, last)) in
      let before = at_left xs ys (e - 1) (omega (arith, last)) in
      let behind = at_left xs ys (e + 1) (omega (arith, last)) in
      let both = all e (ap edge_in here ∙ h) in (
        sym (ap (λ o. same (var_in o)) here) ∙ both.0 ∙ ap (λ o. same (var_in o)) before,
        sym (ap (λ o. same (var_in o)) here) ∙ both.1 ∙ ap (λ o. same (var_in o)) behind,
      )

  right_alike : (edge_vars : List Bool) (xs ys : List Occurrence) → AreBetween edge_vars ys → EdgesAlike (xs ++ ys) → EdgesAlike ys
  right_alike edge_vars xs ys between all e h =
      let own = between e h in
      let first = own.first in
      let here = at_right xs ys e in
      let back : length xs + e - 1 ≡ length xs + (e - 1) = omega (arith, first) in
      let on : length xs + e + 1 ≡ length xs + (e + 1) = omega arith in
      let before = ap (slice_get (xs ++ ys)) back ∙ at_right xs ys (e - 1) in
      let behind = ap (slice_get (xs ++ ys)) on ∙ at_right xs ys (e + 1) in
      let both = all (length xs + e) (ap edge_in here ∙ h) in (
        sym (ap (λ o. same (var_in o)) here) ∙ both.0 ∙ ap (λ o. same (var_in o)) before,
        sym (ap (λ o. same (var_in o)) here) ∙ both.1 ∙ ap (λ o. same (var_in o)) behind,
      )

  module _ (edge_vars : List Bool) (numbering : Numbering) (variables : List Kinded) where
    steps_alike : (node place : ℕ) (steps : List RawStep) →
        EdgesAlike (node_of node ∷ occurrences edge_vars numbering variables place (flat_map places_of_step steps)) →
        AllAlike (step_atoms numbering (number_of variables) node place steps)
    steps_alike node place [] all = tt
    steps_alike node place (step ∷ steps) all =
        let edge = number_of variables (variable_at place step.edge) in
        let next = number_of variables (variable_at (place + 1) step.node) in
        let a = place_atoms numbering true edge step.edge.filter in
        let b = place_atoms numbering false next step.node.filter in
        let rest = step_atoms numbering (number_of variables) next (place + 2) steps in
        let later = occurrences edge_vars numbering variables (place + 1 + 1) (flat_map places_of_step steps) in
        let further : place + 1 + 1 ≡ place + 2 = omega arith in
        let P : ℕ → Type 0 = λ n. EdgesAlike (node_of next ∷ occurrences edge_vars numbering variables n (flat_map places_of_step steps)) in
        let first = first_alike node edge next later all in
        alike-append (a ++ b) (ends step.forward edge node next ∷ rest)
        (alike-append a b (place_alike numbering true edge step.edge.filter) (place_alike numbering false next step.node.filter))
        (ends_alike step.forward edge node next first.0 first.1, steps_alike next (place + 2) steps (subst P further (later_alike node edge next later all)))

    paths_alike : (place : ℕ) (paths : List RawPath) → list_all (speaks_of edge_vars) (path_atoms numbering (number_of variables) place paths) ≡ true →
        EdgesAlike (occurrences edge_vars numbering variables place (places_of paths)) → AllAlike (path_atoms numbering (number_of variables) place paths)
    paths_alike place [] speaks all = tt
    paths_alike place (path ∷ paths) speaks all =
        let node = number_of variables (variable_at place path.start) in
        let a = place_atoms numbering false node path.start.filter in
        let b = step_atoms numbering (number_of variables) node (place + 1) path.steps in
        let rest = path_atoms numbering (number_of variables) (place + 1 + 2 * length path.steps) paths in
        let parts = all_left (speaks_of edge_vars) (a ++ b) rest speaks in
        let own = all_left (speaks_of edge_vars) a b parts.0 in
        let count = step_places path.steps in
        let further : place + 1 + 2 * length path.steps ≡ place + length (places_of_path path) = omega (arith, count) in
        let Q : ℕ → Type 0 = λ n. AreBetween edge_vars (occurrences edge_vars numbering variables n (places_of paths)) in
        let R : ℕ → Type 0 = λ n. EdgesAlike (occurrences edge_vars numbering variables n (places_of paths)) in
        let xs = occurrences edge_vars numbering variables place (places_of_path path) in
        let ys = occurrences edge_vars numbering variables (place + length (places_of_path path)) (places_of paths) in
        let both : occurrences edge_vars numbering variables place (places_of (path ∷ paths)) ≡ xs ++ ys =
        ap (map (occurrence_of variables)) (at-append place (places_of_path path) (places_of paths))
        ∙ map-append (occurrence_of variables) (variables_at place (places_of_path path)) (variables_at (place + length (places_of_path path)) (places_of paths)) in
        let whole : EdgesAlike (xs ++ ys) = subst EdgesAlike both all in
        let xs_between = steps_between edge_vars numbering variables node (place + 1) path.steps own.1 in
        let ys_between = subst Q further (paths_between edge_vars numbering variables (place + 1 + 2 * length path.steps) paths parts.1) in
        alike-append (a ++ b) rest
        (alike-append a b (place_alike numbering false node path.start.filter) (steps_alike node (place + 1) path.steps (left_alike edge_vars xs ys xs_between whole)))
        (paths_alike (place + 1 + 2 * length path.steps) paths parts.1 (subst R (sym further) (right_alike edge_vars xs ys ys_between whole)))

  -- of what is linked too
  link_alike : (atom : Atom) (b c : ℕ) → links b c atom ≡ true → Alike atom → same b ≡ same c
  link_alike (Ends e s t) b c h is =
      elim (or_cases (eqb b e && (eqb c s || eqb c t)) _ h) [
        | inl one ↦
            let parts = and_parts (eqb b e) (eqb c s || eqb c t) one in
            elim (or_cases (eqb c s) (eqb c t) parts.1) [
              | inl f ↦ ap same (eqb-true b e parts.0) ∙ is.0 ∙ sym (ap same (eqb-true c s f))
              | inr f ↦ ap same (eqb-true b e parts.0) ∙ is.1 ∙ sym (ap same (eqb-true c t f))
            ]
        | inr other ↦
            let parts = and_parts (eqb c e) (eqb b s || eqb b t) other in
            elim (or_cases (eqb b s) (eqb b t) parts.1) [
              | inl f ↦ ap same (eqb-true b s f) ∙ sym is.0 ∙ sym (ap same (eqb-true c e parts.0))
              | inr f ↦ ap same (eqb-true b t f) ∙ sym is.1 ∙ sym (ap same (eqb-true c e parts.0))
            ]
      ]
  link_alike (HasLabel v l) b c h is = absurd (true≢false (sym h))
  link_alike (FitsNode v n) b c h is = absurd (true≢false (sym h))
  link_alike (FitsEdge v n) b c h is = absurd (true≢false (sym h))
  link_alike (Equals v k w) b c h is = absurd (true≢false (sym h))

  any_alike : (atoms : List Atom) (b c : ℕ) → list_any (links b c) atoms ≡ true → AllAlike atoms → same b ≡ same c
  any_alike [] b c h all = absurd (true≢false (sym h))
  any_alike (atom ∷ atoms) b c h all = elim (or_cases (links b c atom) (list_any (links b c) atoms) h) [
    | inl e ↦ link_alike atom b c e all.0
    | inr e ↦ any_alike atoms b c e all.1
  ]

  linked_alike : (atoms : List Atom) → AllAlike atoms → {a b : ℕ} → IsLinked atoms a b → same a ≡ same b
  linked_alike atoms all itself = refl
  linked_alike atoms all (further {a} {b} {c} rest link) = linked_alike atoms all rest ∙ any_alike atoms b c link all

-- ---- the walk over a written descriptor

record Fits (pattern : Pattern) : Type 0 where
  some : 0 < length pattern.edge_vars
  speaks : list_all (speaks_of pattern.edge_vars) pattern.atoms ≡ true

fits : (pattern : Pattern) → is_valid_pattern pattern ≡ true → Fits pattern
fits pattern valid =
    let outer = and_parts _ _ valid in
    let ends = and_parts _ _ outer.0 in
    let speaks = and_parts _ _ ends.0 in
    let edges = and_parts _ _ speaks.0 in
    let sizes = and_parts _ _ edges.0 in
    let a = leb-true 1 (length pattern.edge_vars) sizes.0 in
    record { some = omega (arith, a); speaks = speaks.1 }

below_all : (numbering : Numbering) (x : List ℕ) (paths : List RawPath) → 0 < length (pattern_of numbering x paths).edge_vars → (v : Variable) →
    number_of (variables_of x paths) v < length (pattern_of numbering x paths).edge_vars
below_all numbering x paths some v =
    let many = length-map (variables_of x paths) (λ (v : Kinded). v.1) in
    let h = number_below (variables_of x paths) v (omega (arith, some, many)) in
    omega (arith, h, many)

counted : (number : ℕ) (places : List Place) → length (variables_at number places) ≡ length places
counted number [] = refl
counted number (place ∷ places) = ap suc (counted (number + 1) places)

places_counted : (x : List ℕ) (paths : List RawPath) → length (occurrences_of x paths) ≡ length (places_of paths)
places_counted x paths = length-map (variables_at 0 (places_of paths)) (occurrence_of (variables_of x paths)) ∙ counted 0 (places_of paths)

paths_covered : (numbering : Numbering) (x : List ℕ) (paths : List RawPath) → is_valid_pattern (pattern_of numbering x paths) ≡ true → (n : ℕ) →
    is_visited (walk (occurrences_of x paths)) n ≡ ltb n (length (places_of paths))
paths_covered numbering x paths valid n =
    let pattern = pattern_of numbering x paths in
    let kinds = pattern.edge_vars in
    let variables = variables_of x paths in
    let places = occurrences_of x paths in
    let is = fits pattern valid in
    let between = paths_between kinds numbering variables 0 paths is.speaks in
    let same = reached kinds places between in
    let alike = paths_alike same kinds numbering variables 0 paths is.speaks
    (λ e edge. let own = alike_at kinds places between e edge in (own.left, own.right)) in
    let low = var_below (length kinds) variables is.some (below_all numbering x paths is.some) (variables_at 0 (places_of paths)) in
    let all : (m : ℕ) → same (var_at places m) ≡ true =
    λ m. sym (linked_alike same pattern.atoms alike (all_linked pattern valid 0 (var_at places m) is.some (low m))) in
    visited_is kinds places between all n ∙ ap (ltb n) (places_counted x paths)

pub walk_covers : (schema : Resolved) (numbering : Numbering) (key : RawKey) → is_valid_key_of schema (resolved_key numbering key) ≡ true → (n : ℕ) →
    is_visited (walk (descriptor_of numbering key).occurrences) n ≡ ltb n (length (places_of (within_of key)))
walk_covers schema numbering key valid n =
    let outer = and_parts _ _ valid in
    let scope = and_parts _ _ outer.0 in
    let count = and_parts _ _ scope.0 in
    let exprs = and_parts _ _ count.0 in
    let kind = and_parts _ _ exprs.0 in
    let patterns = and_parts _ _ kind.0 in
    by key.within patterns.1
  where
    by : (o : Option (List RawPath)) → is_valid_pattern (option_map_or (pattern_of numbering (unwrap_or (x_of key) [])) o (x_alone (pattern_of numbering (unwrap_or (x_of key) []) key.scope))) ≡ true →
        is_visited (walk (occurrences_of (unwrap_or (x_of key) []) (unwrap_or o []))) n ≡ ltb n (length (places_of (unwrap_or o [])))
    by None v = sym (le-ltb n 0 (omega arith))
    by (Some paths) v = paths_covered numbering (unwrap_or (x_of key) []) paths v n
