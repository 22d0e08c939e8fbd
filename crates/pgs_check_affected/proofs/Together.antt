-- What is spread from the elements of a change in a pattern: where it starts, that what is found is among it, and how much it is.
use Rattle.std.proofs.Common.{◌≡◌, inl, inr, ⊎_elim, ℕ, zero, suc, ◌+◌, ◌*◌, ◌^◌, ◌≤◌, ◌<◌, Bool, true, false, ◌&&◌, ◌==◌, not, cond, List, [], ◌∷◌, ◌++◌, map, filter, flat_map, length, take, get_or, append-nil, append_assoc, add-one, Option, refl, sym, ◌∙◌, ap, subst, true≢false, arith}
use Rattle.std.specs.Prelude.{nat_lt}
use Rattle.std.specs.Option.{option_map_or}
use Rattle.std.specs.List.{list_any, list_all, All, Contains}
use Rattle.std.specs.Cmp.{Equal-is}
use Rattle.std.proofs.Math.Nat.{pow-succ', mul-le-mul_right}
use Rattle.std.proofs.lemmas.Bool.{and_parts, and_from, or_cases, or_left, or_right, cases_lt, eqb-true, eq-eqb, lt-ltb, true_from_ne_false}
use Rattle.std.proofs.lemmas.List.{length-append}
use Rattle.std.proofs.lemmas.List.Elements.{All-contains, filter-append}
use Rattle.std.proofs.lemmas.List.Folds.{list_any-append, list_all-append, Any-from_list_any, flat_map-map}
use Rattle.pgs_base.specs.declared.element.Elem.{Elem}
use Rattle.pgs_base.specs.declared.row.NodeRow.{NodeRow}
use Rattle.pgs_base.specs.Graph.{Graph}
use Rattle.pgs_base.specs.Order.{elem_cmp}
use Rattle.pgs_base.specs.OrderLaws.{exact_elem}
use Rattle.pgs_syntax.specs.declared.key.Key.{Key}
use Rattle.pgs_syntax.specs.declared.pattern.Pattern.{Pattern}
use Rattle.pgs_syntax.specs.declared.resolved.Resolved.{Resolved}
use Rattle.pgs_syntax.specs.Matches.{same_elem, carried}
use Rattle.pgs_syntax.specs.Valid.{is_valid_pattern}
use Rattle.pgs_syntax.proofs.Halves.{any_flat_map}
use Rattle.pgs_match.specs.declared.stand.Stand.{Stand}
use Rattle.pgs_match.specs.Reached.{reached}
use Rattle.pgs_match.specs.Spread.{stand_at, IsNearSome, AreSparseFrom, are_in_range}
use Rattle.pgs_match.specs.Tests.{own_passes}
use Rattle.pgs_match.proofs.Known.{valid_most}
use Rattle.pgs_check_affected.specs.declared.known.Known.{Known}
use Rattle.pgs_check_affected.specs.Changes.{known_in}
use Rattle.pgs_check_affected.specs.Found.{passes, found_alone, found_from, found_in, found_by, found, starts_of, row_in, IsSpread, IsMore, IsFoundByAll}
use Rattle.pgs_check_affected.specs.Local.{is_one_of}
use Rattle.pgs_check_affected.specs.Touched.{AreSparseInBoth}
use Rattle.pgs_check_affected.specs.Unseen.{is_left_unseen, seen_elems}
use Rattle.pgs_check_affected.proofs.Finding.{contains_it, has_it, found_is}
use Rattle.pgs_check_affected.proofs.Loops.{flat_append, flat_one, front_more}
use Rattle.pgs_check_affected.proofs.Passing.{reached_none}
use Rattle.pgs_check_affected.proofs.Touching.{any_of, one_that, itself}

-- ---- a turn more of the loops

starts_more : (resolved : Resolved) (pattern : Pattern) (elem : Elem) (own : Option NodeRow) (var : ℕ) (start now more : List Stand) (b : Bool) → now ≡ start ++ starts_of resolved pattern elem own var →
    option_map_or (own_passes resolved pattern var elem) own false ≡ b → more ≡ now ++ cond b (stand_at var elem ∷ []) [] → more ≡ start ++ starts_of resolved pattern elem own (var + 1)
starts_more resolved pattern elem own var start now more b so_far test added =
    added ∙ ap (λ t. now ++ cond t (stand_at var elem ∷ []) []) (sym test)
    ∙ ap (λ xs. xs ++ cond (option_map_or (own_passes resolved pattern var elem) own false) (stand_at var elem ∷ []) []) so_far
    ∙ append_assoc start (starts_of resolved pattern elem own var) (cond (option_map_or (own_passes resolved pattern var elem) own false) (stand_at var elem ∷ []) [])
    ∙ ap (λ vars. start ++ starts_of resolved pattern elem own vars) (sym (add-one var))

pub starts_passed : (resolved : Resolved) (pattern : Pattern) (elem : Elem) (own : Option NodeRow) (var : ℕ) (start now more : List Stand) → now ≡ start ++ starts_of resolved pattern elem own var →
    option_map_or (own_passes resolved pattern var elem) own false ≡ true → more ≡ now ++ stand_at var elem ∷ [] → more ≡ start ++ starts_of resolved pattern elem own (var + 1)
starts_passed resolved pattern elem own var start now more so_far test added = starts_more resolved pattern elem own var start now more true so_far test added

pub starts_same : (resolved : Resolved) (pattern : Pattern) (elem : Elem) (own : Option NodeRow) (var : ℕ) (start now more : List Stand) → now ≡ start ++ starts_of resolved pattern elem own var →
    option_map_or (own_passes resolved pattern var elem) own false ≡ false → more ≡ now → more ≡ start ++ starts_of resolved pattern elem own (var + 1)
starts_same resolved pattern elem own var start now more so_far test same = starts_more resolved pattern elem own var start now more false so_far test (same ∙ sym (append-nil now))

module _ {X Y : Type 0} (f : X → List Y) (keep : X → Bool) (xs : List X) (i : ℕ) (x : X) (below : i < length xs) (at : get_or xs i x ≡ x) (now : List Y) (so_far : now ≡ flat_map f (filter keep (take i xs))) where
  front_kept : filter keep (take (i + 1) xs) ≡ filter keep (take i xs) ++ cond (keep x) (x ∷ []) []
  front_kept = ap (filter keep) (front_more xs i x below at) ∙ filter-append keep (take i xs) (x ∷ [])

  pub turn_left : keep x ≡ false → now ≡ flat_map f (filter keep (take (i + 1) xs))
  turn_left left =
      so_far ∙ sym (ap (flat_map f) (front_kept ∙ ap (λ b. filter keep (take i xs) ++ cond b (x ∷ []) []) left ∙ append-nil (filter keep (take i xs))))

  pub turn_kept : (more : List Y) → keep x ≡ true → more ≡ now ++ f x → more ≡ flat_map f (filter keep (take (i + 1) xs))
  turn_kept more kept added =
      added ∙ ap (λ ys. ys ++ f x) so_far
      ∙ sym (ap (flat_map f) (front_kept ∙ ap (λ b. filter keep (take i xs) ++ cond b (x ∷ []) []) kept)
      ∙ flat_append f (filter keep (take i xs)) (x ∷ []) ∙ ap (λ ys. flat_map f (filter keep (take i xs)) ++ ys) (flat_one f x))

-- ---- what is known of the elements that are seen

module _ (resolved : Resolved) (g h : Graph) (key : Key) where
  kept_known : (elems : List Elem) → filter (λ one. not (is_left_unseen resolved key one)) (map (known_in g h) elems) ≡ map (known_in g h) (seen_elems resolved g h key elems)
  kept_known [] = refl
  kept_known (elem ∷ elems) = by (not (is_left_unseen resolved key (known_in g h elem))) (kept_known elems)
    where
      by : (b : Bool) → filter (λ one. not (is_left_unseen resolved key one)) (map (known_in g h) elems) ≡ map (known_in g h) (seen_elems resolved g h key elems) →
          cond b (known_in g h elem ∷ filter (λ one. not (is_left_unseen resolved key one)) (map (known_in g h) elems)) (filter (λ one. not (is_left_unseen resolved key one)) (map (known_in g h) elems))
          ≡ map (known_in g h) (cond b (elem ∷ seen_elems resolved g h key elems) (seen_elems resolved g h key elems))
      by true rest = ap (λ xs. known_in g h elem ∷ xs) rest
      by false rest = rest

  abbrev graph_in : Bool → Graph
  graph_in true = h
  graph_in false = g

  -- the starts of all seen elements, by their rows in one graph
  abbrev pub all_starts : Bool → Pattern → List Elem → List Stand
  all_starts is_new pattern elems = flat_map (λ elem. starts_of resolved pattern elem (carried (graph_in is_new) elem) (length pattern.edge_vars)) elems

  pub starts_are : (is_new : Bool) (pattern : Pattern) (known : List Known) (starts : List Stand) → known ≡ map (known_in g h) (map (λ (one : Known). one.elem) known) →
      starts ≡ flat_map (λ (one : Known). starts_of resolved pattern one.elem (row_in is_new one) (length pattern.edge_vars)) (filter (λ one. not (is_left_unseen resolved key one)) known) →
      starts ≡ all_starts is_new pattern (seen_elems resolved g h key (map (λ (one : Known). one.elem) known))
  starts_are is_new pattern known starts rows is =
      let elems = map (λ (one : Known). one.elem) known in
      let from = λ (one : Known). starts_of resolved pattern one.elem (row_in is_new one) (length pattern.edge_vars) in
      is ∙ ap (λ xs. flat_map from (filter (λ one. not (is_left_unseen resolved key one)) xs)) rows ∙ ap (flat_map from) (kept_known elems)
      ∙ flat_map-map from (known_in g h) (seen_elems resolved g h key elems) ∙ by is_new
    where
      by : (b : Bool) → flat_map (λ elem. starts_of resolved pattern elem (row_in b (known_in g h elem)) (length pattern.edge_vars)) (seen_elems resolved g h key (map (λ (one : Known). one.elem) known))
          ≡ all_starts b pattern (seen_elems resolved g h key (map (λ (one : Known). one.elem) known))
      by true = refl
      by false = refl

-- ---- the starts in one graph

module _ (resolved : Resolved) (one : Graph) (pattern : Pattern) where
  abbrev from : Elem → List Stand
  from elem = starts_of resolved pattern elem (carried one elem) (length pattern.edge_vars)

  each_of : (test : Stand → Bool) (elem : Elem) (own : Option NodeRow) (vars : ℕ) → ((var : ℕ) → var < vars → test (stand_at var elem) ≡ true) → list_all test (starts_of resolved pattern elem own vars) ≡ true
  each_of test elem own zero all = refl
  each_of test elem own (suc vars) all =
      list_all-append test (starts_of resolved pattern elem own vars) _
      ∙ and_from _ _ (each_of test elem own vars (λ var below. all var (omega (arith, below)))) (by (option_map_or (own_passes resolved pattern vars elem) own false))
    where
      by : (b : Bool) → list_all test (cond b (stand_at vars elem ∷ []) []) ≡ true
      by true = and_from _ _ (all vars (omega arith)) refl
      by false = refl

  each_in : (test : Stand → Bool) (elems : List Elem) → ((elem : Elem) → is_one_of elems elem ≡ true → (var : ℕ) → var < length pattern.edge_vars → test (stand_at var elem) ≡ true) →
      list_all test (flat_map from elems) ≡ true
  each_in test [] all = refl
  each_in test (elem ∷ elems) all =
      list_all-append test (from elem) (flat_map from elems)
      ∙ and_from _ _ (each_of test elem (carried one elem) (length pattern.edge_vars) (all elem (or_left _ _ (itself elem))))
      (each_in test elems (λ other own. all other (or_right (same_elem other elem) _ own)))

  pub starts_in_range : (elems : List Elem) → are_in_range pattern (flat_map from elems) ≡ true
  starts_in_range elems = each_in (λ (start : Stand). nat_lt start.var (length pattern.edge_vars)) elems (λ elem own var below. lt-ltb var (length pattern.edge_vars) below)

  passed : {X : Type 0} (test : X → Bool) (xs : List X) → list_all test xs ≡ true → (x : X) → Contains xs x → test x ≡ true
  passed {X} test xs all x it = sym (ap test it.2) ∙ at xs all it.0 it.1
    where
      at : (ys : List X) → list_all test ys ≡ true → (k : ℕ) → k < length ys → test (get_or ys k x) ≡ true
      at [] all k below = absurd (omega (arith, below))
      at (y ∷ ys) all zero below = (and_parts (test y) _ all).0
      at (y ∷ ys) all (suc k) below = at ys (and_parts (test y) _ all).1 k (omega (arith, below))

  pub start_own : (elems : List Elem) (start : Stand) → Contains (flat_map from elems) start → is_one_of elems start.elem ≡ true
  start_own elems start it =
      passed (λ (s : Stand). is_one_of elems s.elem) (flat_map from elems) (each_in (λ (s : Stand). is_one_of elems s.elem) elems (λ elem own var below. own)) start it

  -- each variable that an element passes is a start
  start_has : (test : Stand → Bool) (elem : Elem) (own : Option NodeRow) (var vars : ℕ) → var < vars → option_map_or (own_passes resolved pattern var elem) own false ≡ true →
      test (stand_at var elem) ≡ true → list_any test (starts_of resolved pattern elem own vars) ≡ true
  start_has test elem own var zero below does here = absurd (omega (arith, below))
  start_has test elem own var (suc vars) below does here =
      list_any-append test (starts_of resolved pattern elem own vars) _
      ∙ ⊎_elim
      (λ less. or_left _ _ (start_has test elem own var vars less does here))
      (λ last. let same : var ≡ vars = omega (arith, below, last) in
      or_right (list_any test (starts_of resolved pattern elem own vars)) _
      (ap (λ b. list_any test (cond b (stand_at vars elem ∷ []) [])) (subst (λ v. option_map_or (own_passes resolved pattern v elem) own false ≡ true) same does)
      ∙ or_left _ _ (subst (λ v. test (stand_at v elem) ≡ true) same here)))
      (cases_lt var vars)

  pub starts_have : (elems : List Elem) (elem : Elem) → is_one_of elems elem ≡ true → (var : ℕ) → var < length pattern.edge_vars → passes resolved one pattern var elem ≡ true →
      Contains (flat_map from elems) (stand_at var elem)
  starts_have elems elem own var below does =
      let test : Stand → Bool = λ (s : Stand). s.var == var && same_elem elem s.elem in
      let some = any_flat_map test from elems
      ∙ any_of (λ e. list_any test (from e)) elem elems own (start_has test elem (carried one elem) var (length pattern.edge_vars) below does (and_from _ _ (eq-eqb var var refl) (itself elem))) in
      let it = Any-from_list_any test (flat_map from elems) some in
      let both = and_parts (it.1.var == var) _ it.4 in
      let first : it.1.var ≡ var = eqb-true it.1.var var both.0 in
      let second : elem ≡ it.1.elem = exact_elem elem it.1.elem ((Equal-is (elem_cmp elem it.1.elem)).0 both.1) in
      let same : it.1 ≡ stand_at var elem = ap (λ v. stand_at v it.1.elem) first ∙ ap (stand_at var) (sym second) in
      subst (Contains (flat_map from elems)) same (it.0, it.2, it.3)

  few_of : (elem : Elem) (own : Option NodeRow) (vars : ℕ) → length (starts_of resolved pattern elem own vars) ≤ vars
  few_of elem own zero = omega arith
  few_of elem own (suc vars) =
      let rest = few_of elem own vars in
      let last = by (option_map_or (own_passes resolved pattern vars elem) own false) in
      let all = length-append (starts_of resolved pattern elem own vars) (cond (option_map_or (own_passes resolved pattern vars elem) own false) (stand_at vars elem ∷ []) []) in
      omega (arith, rest, last, all)
    where
      by : (b : Bool) → length (cond b (stand_at vars elem ∷ []) []) ≤ 1
      by true = omega arith
      by false = omega arith

  pub few_starts : is_valid_pattern pattern ≡ true → (elems : List Elem) → length (flat_map from elems) ≤ length elems * 20
  few_starts valid [] = omega arith
  few_starts valid (elem ∷ elems) =
      let first = few_of elem (carried one elem) (length pattern.edge_vars) in
      let most = valid_most pattern valid in
      let rest = few_starts valid elems in
      let all = length-append (from elem) (flat_map from elems) in
      omega (arith, first, most, rest, all)

-- ---- what is spread from them

module _ (resolved : Resolved) (g h : Graph) (edges : ℕ) (pattern : Pattern) (valid : is_valid_pattern pattern ≡ true) (elems : List Elem) where
  abbrev old : List Stand
  old = flat_map (from resolved g pattern) elems

  abbrev new : List Stand
  new = flat_map (from resolved h pattern) elems

  -- what is said of a spread in one graph
  pub record IsSpreadIn (one : Graph) (starts : List Stand) (items : List Elem) : Type 0 where
    pub all : (start : Stand) → Contains starts start → (elem : Elem) → Contains (reached resolved one pattern start.var start.elem) elem → Contains items elem
    pub near : All (IsNearSome one edges starts) items
    pub few : (most : ℕ) → AreSparseFrom one edges starts most → length items ≤ length starts * (most + 2) ^ edges

  -- at which variable
  found_var : (elem x : Elem) (vars : ℕ) → is_one_of (found_from resolved g h elem pattern vars) x ≡ true →
      (var : ℕ) × (var < vars) × (is_one_of (reached resolved g pattern var elem ++ reached resolved h pattern var elem) x ≡ true)
  found_var elem x zero some = absurd (true≢false (sym some))
  found_var elem x (suc vars) some =
      ⊎_elim (λ early. let rest = found_var elem x vars early in let below = rest.1 in (rest.0, omega (arith, below), rest.2)) (λ last. (vars, omega arith, last))
      (or_cases (is_one_of (found_from resolved g h elem pattern vars) x) _ (sym (list_any-append (same_elem x) (found_from resolved g h elem pattern vars) _) ∙ some))

  in_one : (one : Graph) (items : List Elem) → IsSpreadIn one (flat_map (from resolved one pattern) elems) items → (elem x : Elem) → is_one_of elems elem ≡ true → (var : ℕ) → var < length pattern.edge_vars →
      is_one_of (reached resolved one pattern var elem) x ≡ true → is_one_of items x ≡ true
  in_one one items is elem x own var below some =
      let does = true_from_ne_false (passes resolved one pattern var elem) (λ fails. true≢false (sym some ∙ ap (λ xs. is_one_of xs x) (reached_none resolved one pattern valid var below elem fails))) in
      has_it items x (is.all (stand_at var elem) (starts_have resolved one pattern elems elem own var below does) x (contains_it (reached resolved one pattern var elem) x some))

  pub sparse_old : (most : ℕ) → AreSparseInBoth g h edges elems most → AreSparseFrom g edges old most
  sparse_old most sparse start it = (sparse start.elem (start_own resolved g pattern elems start it)).0

  pub sparse_new : (most : ℕ) → AreSparseInBoth g h edges elems most → AreSparseFrom h edges new most
  sparse_new most sparse start it = (sparse start.elem (start_own resolved h pattern elems start it)).1

  pub is_spread : (length pattern.edge_vars == 1) ≡ false → (first second : List Elem) → IsSpreadIn g old first → IsSpreadIn h new second → IsSpread resolved g h edges pattern elems (first ++ second)
  is_spread several first second before after = record {
    all = λ x some.
        let it = one_that (λ elem. is_one_of (found_in resolved g h elem pattern) x) elems some in
        let at = found_var it.0 x (length pattern.edge_vars)
        (sym (ap (λ b. is_one_of (cond b (found_alone resolved g h it.0 pattern) (found_from resolved g h it.0 pattern (length pattern.edge_vars))) x) several) ∙ it.2) in
        list_any-append (same_elem x) first second
        ∙ ⊎_elim
        (λ one. or_left _ _ (in_one g first before it.0 x it.1 at.0 at.1 one))
        (λ other. or_right (is_one_of first x) _ (in_one h second after it.0 x it.1 at.0 at.1 other))
        (or_cases (is_one_of (reached resolved g pattern at.0 it.0) x) _ (sym (list_any-append (same_elem x) (reached resolved g pattern at.0 it.0) (reached resolved h pattern at.0 it.0)) ∙ at.2));
    near = λ x some.
        ⊎_elim
        (λ one. let it = All-contains (IsNearSome g edges old) first x before.near (contains_it first x one) in (it.0.elem, start_own resolved g pattern elems it.0 it.1, inl it.2))
        (λ other. let it = All-contains (IsNearSome h edges new) second x after.near (contains_it second x other) in (it.0.elem, start_own resolved h pattern elems it.0 it.1, inr it.2))
        (or_cases (is_one_of first x) _ (sym (list_any-append (same_elem x) first second) ∙ some));
    few = λ most sparse.
        let one = before.few most (sparse_old most sparse) in
        let other = after.few most (sparse_new most sparse) in
        let starts = mul-le-mul_right ((most + 2) ^ edges) (few_starts resolved g pattern valid elems) in
        let others = mul-le-mul_right ((most + 2) ^ edges) (few_starts resolved h pattern valid elems) in
        let all = length-append first second in
        turn (length elems) ((most + 2) ^ edges) _ _ (length first) (length second) (length (first ++ second)) one other starts others all;
  }
    where
      turn : (count power a b first second all : ℕ) → first ≤ a → second ≤ b → a ≤ (count * 20) * power → b ≤ (count * 20) * power → all ≡ first + second → all ≤ count * (40 * power)
      turn count power a b first second all p q r s t = omega (arith, p, q, r, s, t)

  -- how many look-ups it takes
  pub spread_cost : (most start mid now : ℕ) → mid ≤ start + length old * (8 * (most + 2) ^ edges) → now ≤ mid + length new * (8 * (most + 2) ^ edges) → now ≤ start + 640 * length elems * (most + 2) ^ (edges + 1)
  spread_cost most start mid now first second =
      let starts = mul-le-mul_right (8 * (most + 2) ^ edges) (few_starts resolved g pattern valid elems) in
      let others = mul-le-mul_right (8 * (most + 2) ^ edges) (few_starts resolved h pattern valid elems) in
      let power = pow-succ' (most + 2) edges in
      let more : (most + 2) ^ (edges + 1) ≡ (most + 2) ^ suc edges = ap (λ e. (most + 2) ^ e) (let e : edges + 1 ≡ suc edges = omega arith in e) in
      turn (length elems) ((most + 2) ^ edges) ((most + 2) ^ (edges + 1)) _ _ first second starts others (more ∙ power)
    where
      turn : (count power whole a b : ℕ) → mid ≤ start + a → now ≤ mid + b → a ≤ (count * 20) * (8 * power) → b ≤ (count * 20) * (8 * power) → whole ≡ (most + 2) * power → now ≤ start + 640 * count * whole
      turn count power whole a b p q r s t = subst (λ n. now ≤ start + 640 * count * n) (sym t) (omega (arith, p, q, r, s))

  pub spread_cost_first : (most start mid : ℕ) → mid ≤ start + length old * (8 * (most + 2) ^ edges) → mid ≤ start + 640 * length elems * (most + 2) ^ (edges + 1)
  spread_cost_first most start mid first =
      spread_cost most start mid mid first (omega arith)

-- ---- both patterns

module _ (resolved : Resolved) (g h : Graph) (key : Key) (elems : List Elem) (x : Elem) where
  in_found : (scope descriptor : Bool) (elem : Elem) → is_one_of elems elem ≡ true → is_one_of (found_by resolved g h elem scope descriptor key) x ≡ true → is_one_of (found resolved g h scope descriptor key elems) x ≡ true
  in_found scope descriptor elem own some =
      any_flat_map (same_elem x) (λ e. found_by resolved g h e scope descriptor key) elems ∙ any_of (λ e. is_one_of (found_by resolved g h e scope descriptor key) x) elem elems own some

  in_first : (xs ys : List Elem) → is_one_of xs x ≡ true → is_one_of (xs ++ ys) x ≡ true
  in_first xs ys some = list_any-append (same_elem x) xs ys ∙ or_left _ _ some

  in_second : (xs ys : List Elem) → is_one_of ys x ≡ true → is_one_of (xs ++ ys) x ≡ true
  in_second xs ys some = list_any-append (same_elem x) xs ys ∙ or_right (is_one_of xs x) _ some

  by_scope : (w : ℕ) (scope descriptor : Bool) (more : List Elem) → IsMore resolved g h w scope key.scope elems more → (elem : Elem) → is_one_of elems elem ≡ true →
      is_one_of (found_in resolved g h elem key.scope) x ≡ true → is_one_of (found resolved g h scope descriptor key elems ++ more) x ≡ true
  by_scope w true descriptor more is elem own some =
      in_first (found resolved g h true descriptor key elems) more (in_found true descriptor elem own (in_first (found_in resolved g h elem key.scope) _ some))
  by_scope w false descriptor more is elem own some =
      in_second (found resolved g h false descriptor key elems) more (is.all x (any_of (λ e. is_one_of (found_in resolved g h e key.scope) x) elem elems own some))

  by_descriptor : (w : ℕ) (scope descriptor : Bool) (first more : List Elem) → IsMore resolved g h w descriptor key.descriptor elems more → (elem : Elem) → is_one_of elems elem ≡ true →
      is_one_of (found_in resolved g h elem key.descriptor) x ≡ true → is_one_of ((found resolved g h scope descriptor key elems ++ first) ++ more) x ≡ true
  by_descriptor w scope true first more is elem own some =
      in_first (found resolved g h scope true key elems ++ first) more
      (in_first (found resolved g h scope true key elems) first
      (in_found scope true elem own (in_second (cond scope (found_in resolved g h elem key.scope) []) (found_in resolved g h elem key.descriptor) some)))
  by_descriptor w scope false first more is elem own some =
      in_second (found resolved g h scope false key elems ++ first) more (is.all x (any_of (λ e. is_one_of (found_in resolved g h e key.descriptor) x) elem elems own some))

  -- all that is found is there
  pub has_found : (items : List Elem) → IsFoundByAll resolved g h key elems items → is_one_of (found resolved g h true true key elems) x ≡ true → is_one_of items x ≡ true
  has_found items it some =
      let one = one_that (λ elem. is_one_of (found_by resolved g h elem true true key) x) elems (sym (found_is resolved g h elems key x) ∙ some) in
      ap (λ xs. is_one_of xs x) it.is
      ∙ ⊎_elim
      (λ here. in_first (found resolved g h it.by_scope it.by_descriptor key elems ++ it.scope) it.descriptor (by_scope _ it.by_scope it.by_descriptor it.scope it.in_scope one.0 one.1 here))
      (λ other. by_descriptor _ it.by_scope it.by_descriptor it.scope it.descriptor it.in_descriptor one.0 one.1 other)
      (or_cases (is_one_of (found_in resolved g h one.0 key.scope) x) _ (sym (list_any-append (same_elem x) (found_in resolved g h one.0 key.scope) (found_in resolved g h one.0 key.descriptor)) ∙ one.2))
