-- To what the steps of a way lead from nodes, each node once, and how many look-ups that takes.
use Rattle.std.proofs.Common.{◌≡◌, ℕ, suc, ◌+◌, ◌≤◌, ◌<◌, Bool, true, false, ◌==◌, cond, ⊎_elim, List, [], ◌∷◌, ◌++◌, length, map, filter, take, get_or, Option, Some, None, refl, sym, ◌∙◌, ap, subst, true≢false, arith}
use Rattle.std.specs.Prelude.{is_some, option_and_then, filter_map}
use Rattle.std.specs.Option.{option_map_or}
use Rattle.std.specs.List.{Contains, flat_map, sum_by, cons_option}
use Rattle.std.proofs.lemmas.Bool.{and_parts, eqb-true, eq-eqb}
use Rattle.std.proofs.lemmas.List.{append-nil, length-map, map-append, take_more}
use Rattle.std.proofs.lemmas.List.Concat.{flat_map-append, length-flat_map}
use Rattle.std.proofs.lemmas.List.Elements.{Contains-append_left, Contains-append_right, Contains-append_cases}
use Rattle.std.proofs.lemmas.List.Folds.{flat_map-map}
use Rattle.std.proofs.lemmas.List.Sums.{sum_by-cons, sum_by-append, sum_by_more, get_or-le-sum_by}
use Rattle.pgs_base.specs.declared.element.NodeId.{NodeId}
use Rattle.pgs_base.specs.declared.element.EdgeId.{EdgeId}
use Rattle.pgs_base.specs.declared.element.Elem.TheVariants.{Node}
use Rattle.pgs_base.specs.Graph.{Graph}
use Rattle.pgs_syntax.specs.declared.pattern.Atom.{Atom}
use Rattle.pgs_syntax.specs.declared.resolved.Resolved.{Resolved}
use Rattle.pgs_syntax.proofs.Members.{contains_first, contains_later, contains_cases, contains_none, kept_found, given_found}
use Rattle.pgs_match.specs.declared.step.Step.{Step}
use Rattle.pgs_match.specs.declared.step.Step.TheVariants.{Along, End}
use Rattle.pgs_match.specs.declared.stand.Stand.{Stand}
use Rattle.pgs_match.specs.declared.bindings.Bound.{Bound}
use Rattle.pgs_match.specs.declared.bindings.Bound.TheVariants as bounds
use Rattle.pgs_match.specs.declared.notes.Notes.{Notes}
use Rattle.pgs_match.specs.declared.notes.Hop.{Hop}
use Rattle.pgs_match.specs.Answers.{is_given, HasAhead, IsAmong, IsClosed}
use Rattle.pgs_match.specs.Bounds.{elem_of, end_at}
use Rattle.pgs_match.specs.Branches.{next_bounds, can_be_given, step_most, asked_most, degree_at}
use Rattle.pgs_match.specs.Frontier.{kept_bounds, led_on, on_most, hop_steps, hop_bounds, at_nodes, hop_most, hops_most, is_path, AreAllOf, AreApart, HasWay, IsPaidOn, StayFull}
use Rattle.pgs_match.specs.Plans.{bound_by}
use Rattle.pgs_match.specs.Search.{edges_along}
use Rattle.pgs_match.specs.Spread.{stand_at, elem_degree}
use Rattle.pgs_match.specs.Tests.{admitted_node, admitted_edge}
use Rattle.pgs_match.proofs.BranchCosts.{sum_filter_map, listed_few}
use Rattle.pgs_match.proofs.Noting.{sum_less, was_room, node_bound, edge_bound, edge_among}

-- ---- sums and members

module _ {X Y : Type 0} where
  sum_flat : (count : Y → ℕ) (f : X → List Y) (xs : List X) → sum_by count (flat_map f xs) ≡ sum_by (λ x. sum_by count (f x)) xs
  sum_flat count f [] = refl
  sum_flat count f (x ∷ xs) =
      sum_by-append count (f x) (flat_map f xs) ∙ ap (λ n. sum_by count (f x) + n) (sum_flat count f xs) ∙ sym (sum_by-cons (λ y. sum_by count (f y)) x xs)

  sum_map : (count : Y → ℕ) (f : X → Y) (xs : List X) → sum_by count (map f xs) ≡ sum_by (λ x. count (f x)) xs
  sum_map count f [] = refl
  sum_map count f (x ∷ xs) =
      sum_by-cons count (f x) (map f xs) ∙ ap (λ n. count (f x) + n) (sum_map count f xs) ∙ sym (sum_by-cons (λ z. count (f z)) x xs)

  flat_found : (f : X → List Y) (xs : List X) (y : Y) → Contains (flat_map f xs) y → (x : X) × Contains xs x × Contains (f x) y
  flat_found f [] y h = absurd (contains_none y h)
  flat_found f (x ∷ xs) y h =
      ⊎_elim (λ here. (x, contains_first x xs, here))
      (λ later. let found = flat_found f xs y later in (found.0, contains_later x xs found.0 found.1, found.2))
      (Contains-append_cases (f x) (flat_map f xs) y h)

  flat_given : (f : X → List Y) (xs : List X) (x : X) (y : Y) → Contains xs x → Contains (f x) y → Contains (flat_map f xs) y
  flat_given f [] x y h here = absurd (contains_none x h)
  flat_given f (w ∷ ws) x y h here =
      ⊎_elim (λ same. Contains-append_left (f w) (flat_map f ws) y (subst (λ z. Contains (f z) y) (sym same) here))
      (λ later. Contains-append_right (f w) (flat_map f ws) y (flat_given f ws x y later here)) (contains_cases w ws x h)

  map_found : (f : X → Y) (xs : List X) (y : Y) → Contains (map f xs) y → (x : X) × Contains xs x × (f x ≡ y)
  map_found f [] y h = absurd (contains_none y h)
  map_found f (x ∷ xs) y h =
      ⊎_elim (λ same. (x, contains_first x xs, same))
      (λ later. let found = map_found f xs y later in (found.0, contains_later x xs found.0 found.1, found.2))
      (contains_cases (f x) (map f xs) y h)

  map_given : (f : X → Y) (xs : List X) (x : X) → Contains xs x → Contains (map f xs) (f x)
  map_given f [] x h = absurd (contains_none x h)
  map_given f (w ∷ ws) x h =
      ⊎_elim (λ same. subst (Contains (f w ∷ map f ws)) (ap f same) (contains_first (f w) (map f ws)))
      (λ later. contains_later (f w) (map f ws) (f x) (map_given f ws x later)) (contains_cases w ws x h)

  flat_same : (f h : X → List Y) → ((x : X) → f x ≡ h x) → (xs : List X) → flat_map f xs ≡ flat_map h xs
  flat_same f h each [] = refl
  flat_same f h each (x ∷ xs) = ap (λ l. l ++ flat_map f xs) (each x) ∙ ap (λ l. h x ++ l) (flat_same f h each xs)

  flat_none : (f : X → List Y) → ((x : X) → f x ≡ []) → (xs : List X) → flat_map f xs ≡ []
  flat_none f none [] = refl
  flat_none f none (x ∷ xs) = ap (λ l. l ++ flat_map f xs) (none x) ∙ flat_none f none xs

  given_length : (give : X → Option Y) (xs : List X) → length (filter_map give xs) ≤ length xs
  given_length give [] = omega arith
  given_length give (x ∷ xs) = by (give x) (given_length give xs)
    where
      by : (o : Option Y) → length (filter_map give xs) ≤ length xs → length (cons_option o (filter_map give xs)) ≤ suc (length xs)
      by None rest = omega (arith, rest)
      by (Some y) rest = omega (arith, rest)

flat_flat : {X Y Z : Type 0} (h : Y → List Z) (f : X → List Y) (xs : List X) → flat_map h (flat_map f xs) ≡ flat_map (λ x. flat_map h (f x)) xs
flat_flat h f [] = refl
flat_flat h f (x ∷ xs) = flat_map-append h (f x) (flat_map f xs) ∙ ap (λ l. flat_map h (f x) ++ l) (flat_flat h f xs)

module _ {X : Type 0} where
  sum_both : (f h : X → ℕ) (xs : List X) → sum_by (λ x. f x + h x) xs ≡ sum_by f xs + sum_by h xs
  sum_both f h [] = omega arith
  sum_both f h (x ∷ xs) =
      let rest = sum_both f h xs in
      let one = sum_by-cons f x xs in
      let other = sum_by-cons h x xs in
      let both = sum_by-cons (λ y. f y + h y) x xs in
      omega arith

  sum_kept : (f : X → ℕ) (test : X → Bool) (xs : List X) → sum_by f (filter test xs) ≤ sum_by f xs
  sum_kept f test [] = omega arith
  sum_kept f test (x ∷ xs) = by (test x) (sum_kept f test xs)
    where
      by : (b : Bool) → sum_by f (filter test xs) ≤ sum_by f xs → sum_by f (cond b (x ∷ filter test xs) (filter test xs)) ≤ sum_by f (x ∷ xs)
      by true rest = let one = sum_by-cons f x (filter test xs) in let all = sum_by-cons f x xs in omega (arith, rest, one, all)
      by false rest = let all = sum_by-cons f x xs in omega (arith, rest, all)

  kept_length : (test : X → Bool) (xs : List X) → length (filter test xs) ≤ length xs
  kept_length test [] = omega arith
  kept_length test (x ∷ xs) = by (test x) (kept_length test xs)
    where
      by : (b : Bool) → length (filter test xs) ≤ length xs → length (cond b (x ∷ filter test xs) (filter test xs)) ≤ suc (length xs)
      by true rest = omega (arith, rest)
      by false rest = omega (arith, rest)

  ones : (xs : List X) → sum_by (λ x. 1) xs ≡ length xs
  ones [] = refl
  ones (x ∷ xs) = let rest = ones xs in let one = sum_by-cons (λ y. 1) x xs in omega (arith, rest, one)

same_node : (id other : NodeId) → bounds.Node id ≡ bounds.Node other → id ≡ other
same_node id other same = cc

-- ---- bounds that were found

all_same : (found : List Bound) → AreAllOf found found
all_same found = (λ bound h. h, λ bound h. h, λ count. omega arith)

pub all_is : (others found : List Bound) → found ≡ others → AreAllOf others found
all_is others found same = subst (λ list. AreAllOf list found) same (all_same found)

pub all_then : (others mid found : List Bound) → AreAllOf others mid → AreAllOf mid found → AreAllOf others found
all_then others mid found first second = (
  λ bound h. second.0 bound (first.0 bound h),
  λ bound h. first.1 bound (second.1 bound h),
  λ count. let one = first.2 count in let other = second.2 count in omega (arith, one, other),
)

all_flat : (f : Bound → List Bound) (others found : List Bound) → AreAllOf others found → AreAllOf (flat_map f others) (flat_map f found)
all_flat f others found all = (
  λ bound h. let it = flat_found f others bound h in flat_given f found it.0 bound (all.0 it.0 it.1) it.2,
  λ bound h. let it = flat_found f found bound h in flat_given f others it.0 bound (all.1 it.0 it.1) it.2,
  λ count.
      let less = all.2 (λ x. sum_by count (f x)) in
      let one = sum_flat count f found in
      let other = sum_flat count f others in
      omega (arith, less, one, other),
)

all_both : (others found more some : List Bound) → AreAllOf others found → AreAllOf more some → AreAllOf (others ++ more) (found ++ some)
all_both others found more some first second = (
  λ bound h. ⊎_elim (λ at. Contains-append_left found some bound (first.0 bound at)) (λ at. Contains-append_right found some bound (second.0 bound at)) (Contains-append_cases others more bound h),
  λ bound h. ⊎_elim (λ at. Contains-append_left others more bound (first.1 bound at)) (λ at. Contains-append_right others more bound (second.1 bound at)) (Contains-append_cases found some bound h),
  λ count.
      let one = first.2 count in
      let other = second.2 count in
      let front = sum_by-append count found some in
      let back = sum_by-append count others more in
      omega (arith, one, other, front, back),
)

pub all_once : (ids once : List NodeId) → ((id : NodeId) → Contains ids id → Contains once id) → ((id : NodeId) → Contains once id → Contains ids id) →
    ((count : NodeId → ℕ) → sum_by count once ≤ sum_by count ids) → AreAllOf (at_nodes ids) (at_nodes once)
all_once ids once kept no_other few = (
  λ bound h. let it = map_found bounds.Node ids bound h in subst (Contains (at_nodes once)) it.2 (map_given bounds.Node once it.0 (kept it.0 it.1)),
  λ bound h. let it = map_found bounds.Node once bound h in subst (Contains (at_nodes ids)) it.2 (map_given bounds.Node ids it.0 (no_other it.0 it.1)),
  λ count.
      let less = few (λ id. count (bounds.Node id)) in
      let one = sum_map count bounds.Node once in
      let other = sum_map count bounds.Node ids in
      omega (arith, less, one, other),
)

-- ---- what is paid

pub stay_then : (before mid after : Notes) → StayFull before mid → StayFull mid after → StayFull before after
stay_then before mid after first second = (λ was. second.0 (first.0 was), λ was. second.1 (first.1 was))

pub paid_then : (g : Graph) (pairs : List Stand) (before mid after : Notes) (start between now one other own : ℕ) → StayFull mid after → IsPaidOn g pairs before mid start between one →
    IsPaidOn g pairs mid after between now other → one + other ≤ own → IsPaidOn g pairs before after start now own
paid_then g pairs before mid after start between now one other own stay first second less = λ on off.
    let early = first (was_room mid.on after.on stay.0 on) (was_room mid.off after.off stay.1 off) in
    let late = second on off in
    omega (arith, early, late, less)

pub paid_less : (g : Graph) (pairs : List Stand) (before after : Notes) (start now one own : ℕ) → IsPaidOn g pairs before after start now one → one ≤ own → IsPaidOn g pairs before after start now own
paid_less g pairs before after start now one own paid less = λ on off. let cost = paid on off in omega (arith, cost, less)

-- ---- a list of pairs

pub one_apart : (id : NodeId) → AreApart (id ∷ [])
one_apart id = λ var pairs count has.
    let stand : Stand = stand_at var (Node id) in
    let here : Contains pairs stand = has id (contains_first id []) in
    let least = get_or-le-sum_by (λ (s : Stand). cond (s.var == var) (count s) 0) pairs here.0 stand here.1 in
    let own : cond (var == var) (count stand) 0 ≡ count stand = ap (λ b. cond b (count stand) 0) (eq-eqb var var refl) in
    let most : cond (var == var) (count stand) 0 ≤ sum_by (λ (s : Stand). cond (s.var == var) (count s) 0) pairs =
    subst (λ (s : Stand). cond (s.var == var) (count s) 0 ≤ sum_by (λ (s : Stand). cond (s.var == var) (count s) 0) pairs) here.2 least in
    omega (arith, most, own)

at_var : (g : Graph) (var : ℕ) (count : Stand → ℕ) → ((stand : Stand) → count stand ≤ elem_degree g stand.elem + 2) → (pairs : List Stand) →
    sum_by (λ (stand : Stand). cond (stand.var == var) (count stand) 0) pairs ≤ sum_by (λ (stand : Stand). elem_degree g stand.elem + 2) pairs
at_var g var count few pairs = sum_less (λ (stand : Stand). cond (stand.var == var) (count stand) 0) (λ (stand : Stand). elem_degree g stand.elem + 2) each pairs
  where
    by : (stand : Stand) (b : Bool) → count stand ≤ elem_degree g stand.elem + 2 → cond b (count stand) 0 ≤ elem_degree g stand.elem + 2
    by stand true less = less
    by stand false less = omega arith

    each : (stand : Stand) → cond (stand.var == var) (count stand) 0 ≤ elem_degree g stand.elem + 2
    each stand = by stand (stand.var == var) (few stand)

-- ---- along a way

path_parts : (var edge node other end : ℕ) (forward source : Bool) (rest : List Step) → is_path var (Along edge node forward ∷ End other end source ∷ rest) ≡ true →
    (node ≡ var) × (other ≡ edge) × (is_path end rest ≡ true)
path_parts var edge node other end forward source rest path =
    let first = and_parts (node == var) _ path in
    let second = and_parts (other == edge) _ first.1 in
    (eqb-true node var first.0, eqb-true other edge second.0, second.1)

module _ (resolved : Resolved) (g : Graph) (atoms : List Atom) (off : List Step) where
  leads_then : (ways rest : List Step) (bound : Bound) → led_on resolved g atoms off (ways ++ rest) bound ≡ flat_map (led_on resolved g atoms off rest) (led_on resolved g atoms off ways bound)
  leads_then [] rest bound = sym (append-nil (led_on resolved g atoms off rest bound))
  leads_then (step ∷ ways) rest bound =
      flat_same (led_on resolved g atoms off (ways ++ rest)) (λ next. flat_map (led_on resolved g atoms off rest) (led_on resolved g atoms off ways next)) (leads_then ways rest) (kept_bounds resolved g atoms off step bound)
      ∙ sym (flat_flat (led_on resolved g atoms off rest) (led_on resolved g atoms off ways) (kept_bounds resolved g atoms off step bound))

  -- what a step takes, and what is taken from what it leads to
  step_parts : (one other both : Bound → ℕ) → ((next : Bound) → one next + other next ≤ both next) → (step : Step) (bound : Bound) →
      step_most resolved g atoms one step bound + sum_by other (next_bounds resolved g atoms step bound) ≤ step_most resolved g atoms both step bound
  step_parts one other both each (Along edge node forward) bound =
      let ids = edges_along g forward (Some bound) in
      let first = sum_filter_map other (admitted_edge resolved g atoms edge) ids in
      let adds = sum_both (λ id. 3 + option_map_or one (admitted_edge resolved g atoms edge id) 0) (λ id. option_map_or other (admitted_edge resolved g atoms edge id) 0) ids in
      let less = sum_less (λ id. 3 + option_map_or one (admitted_edge resolved g atoms edge id) 0 + option_map_or other (admitted_edge resolved g atoms edge id) 0)
      (λ id. 3 + option_map_or both (admitted_edge resolved g atoms edge id) 0) (λ id. by (admitted_edge resolved g atoms edge id)) ids in
      omega (arith, first, adds, less)
    where
      by : (o : Option Bound) → 3 + option_map_or one o 0 + option_map_or other o 0 ≤ 3 + option_map_or both o 0
      by None = omega arith
      by (Some next) = let own = each next in omega (arith, own)
  step_parts one other both each (End edge node source) bound = by (option_and_then (admitted_node resolved g atoms node) (end_at source (Some bound)))
    where
      by : (o : Option Bound) → 1 + option_map_or one o 0 + sum_by other (option_map_or (λ next. next ∷ []) o []) ≤ 1 + option_map_or both o 0
      by None = omega arith
      by (Some next) = let own = each next in omega (arith, own)

  takes_then : (ways rest : List Step) (bound : Bound) →
      on_most resolved g atoms off 0 ways bound + sum_by (on_most resolved g atoms off 0 rest) (led_on resolved g atoms off ways bound) ≤ on_most resolved g atoms off 0 (ways ++ rest) bound
  takes_then [] rest bound = omega arith
  takes_then (step ∷ ways) rest bound =
      let behind : Bound → ℕ = λ next. sum_by (on_most resolved g atoms off 0 rest) (led_on resolved g atoms off ways next) in
      let all : on_most resolved g atoms off 0 (step ∷ ways) bound + sum_by behind (next_bounds resolved g atoms step bound) ≤ on_most resolved g atoms off 0 (step ∷ ways ++ rest) bound =
      step_parts (λ next. asked_most resolved g atoms off (bound_by step) next + on_most resolved g atoms off 0 ways next) behind
      (λ next. asked_most resolved g atoms off (bound_by step) next + on_most resolved g atoms off 0 (ways ++ rest) next)
      (λ next. let later = takes_then ways rest next in omega (arith, later)) step bound in
      let flat = sum_flat (on_most resolved g atoms off 0 rest) (led_on resolved g atoms off ways) (kept_bounds resolved g atoms off step bound) in
      let kept = sum_kept behind (can_be_given resolved g atoms off (bound_by step)) (next_bounds resolved g atoms step bound) in
      omega (arith, all, flat, kept)

  -- over two steps of a way, from nodes to the nodes behind them
  module _ (hop : Hop) (rest : List Step) (here next : List NodeId) (all : AreAllOf (flat_map (hop_bounds resolved g atoms off hop) here) (at_nodes next)) where
    hop_leads : (ends : List Bound) → AreAllOf (flat_map (led_on resolved g atoms off rest) (at_nodes next)) ends →
        AreAllOf (flat_map (led_on resolved g atoms off (hop_steps hop ++ rest)) (at_nodes here)) ends
    hop_leads ends last =
        let steps : List Step = hop_steps hop ++ rest in
        let same : flat_map (led_on resolved g atoms off rest) (flat_map (hop_bounds resolved g atoms off hop) here) ≡ flat_map (led_on resolved g atoms off steps) (at_nodes here) =
        flat_flat (led_on resolved g atoms off rest) (hop_bounds resolved g atoms off hop) here
        ∙ flat_same (λ id. flat_map (led_on resolved g atoms off rest) (hop_bounds resolved g atoms off hop id)) (λ id. led_on resolved g atoms off steps (bounds.Node id))
        (λ id. sym (leads_then (hop_steps hop) rest (bounds.Node id))) here
        ∙ sym (flat_map-map (led_on resolved g atoms off steps) bounds.Node here) in
        subst (λ list. AreAllOf list ends) same
        (all_then (flat_map (led_on resolved g atoms off rest) (flat_map (hop_bounds resolved g atoms off hop) here)) (flat_map (led_on resolved g atoms off rest) (at_nodes next)) ends
        (all_flat (led_on resolved g atoms off rest) (flat_map (hop_bounds resolved g atoms off hop) here) (at_nodes next) all) last)

    hop_takes : sum_by (λ from. on_most resolved g atoms off 0 (hop_steps hop) (bounds.Node from)) here + sum_by (on_most resolved g atoms off 0 rest) (at_nodes next)
        ≤ sum_by (on_most resolved g atoms off 0 (hop_steps hop ++ rest)) (at_nodes here)
    hop_takes =
        let few = all.2 (on_most resolved g atoms off 0 rest) in
        let flat = sum_flat (on_most resolved g atoms off 0 rest) (hop_bounds resolved g atoms off hop) here in
        let adds = sum_both (λ id. on_most resolved g atoms off 0 (hop_steps hop) (bounds.Node id)) (λ id. sum_by (on_most resolved g atoms off 0 rest) (hop_bounds resolved g atoms off hop id)) here in
        let less = sum_less (λ id. on_most resolved g atoms off 0 (hop_steps hop) (bounds.Node id) + sum_by (on_most resolved g atoms off 0 rest) (hop_bounds resolved g atoms off hop id))
        (λ id. on_most resolved g atoms off 0 (hop_steps hop ++ rest) (bounds.Node id)) (λ id. takes_then (hop_steps hop) rest (bounds.Node id)) here in
        let whole = sum_map (on_most resolved g atoms off 0 (hop_steps hop ++ rest)) bounds.Node here in
        omega (arith, few, flat, adds, less, whole)

  hop_alone : (hop : Hop) (rest : List Step) (here : List NodeId) →
      sum_by (λ from. on_most resolved g atoms off 0 (hop_steps hop) (bounds.Node from)) here ≤ sum_by (on_most resolved g atoms off 0 (hop_steps hop ++ rest)) (at_nodes here)
  hop_alone hop rest here =
      let less = sum_less (λ id. on_most resolved g atoms off 0 (hop_steps hop) (bounds.Node id)) (λ id. on_most resolved g atoms off 0 (hop_steps hop ++ rest) (bounds.Node id))
      (λ id. let all = takes_then (hop_steps hop) rest (bounds.Node id) in omega (arith, all)) here in
      let whole = sum_map (on_most resolved g atoms off 0 (hop_steps hop ++ rest)) bounds.Node here in
      omega (arith, less, whole)

  -- the node at the end of an edge that is among pairs is too
  end_among : (pairs : List Stand) (edge node : ℕ) (source : Bool) (bound : Bound) → IsAmong g pairs edge bound → HasAhead resolved g atoms pairs (End edge node source) →
      (id : NodeId) → Contains (next_bounds resolved g atoms (End edge node source) bound) (bounds.Node id) → Contains pairs (stand_at node (Node id))
  end_among pairs edge node source bound among ahead id listed = by (end_at source (Some bound)) refl listed
    where
      inner : (found : NodeId) → end_at source (Some bound) ≡ Some found → (o : Option Bound) → admitted_node resolved g atoms node found ≡ o → Contains (option_map_or (λ next. next ∷ []) o []) (bounds.Node id) →
          Contains pairs (stand_at node (Node id))
      inner found at None is there = absurd (contains_none (bounds.Node id) there)
      inner found at (Some x) is there =
          let same : x ≡ bounds.Node id = ⊎_elim (λ h. h) (λ h. absurd (contains_none (bounds.Node id) h)) (contains_cases x [] (bounds.Node id) there) in
          let one : found ≡ id = same_node found id (node_bound resolved g atoms node found x is ∙ same) in
          subst (λ n. Contains pairs (stand_at node (Node n))) one (ahead (elem_of bound) found among.0 (among.1 source ∙ at) (ap is_some is))

      by : (o : Option NodeId) → end_at source (Some bound) ≡ o → Contains (option_map_or (λ next. next ∷ []) (option_and_then (admitted_node resolved g atoms node) o) []) (bounds.Node id) →
          Contains pairs (stand_at node (Node id))
      by None at there = absurd (contains_none (bounds.Node id) there)
      by (Some found) at there = inner found at (admitted_node resolved g atoms node found) refl there

  module _ (pairs : List Stand) (var edge node : ℕ) (forward source : Bool) (along : HasAhead resolved g atoms pairs (Along edge var forward)) (ahead : HasAhead resolved g atoms pairs (End edge node source)) where
    behind_among : (from : NodeId) → Contains pairs (stand_at var (Node from)) → (id : NodeId) → Contains (led_on resolved g atoms off (Along edge 0 forward ∷ End edge node source ∷ []) (bounds.Node from)) (bounds.Node id) →
        Contains pairs (stand_at node (Node id))
    behind_among from here id listed =
        let kept = kept_bounds resolved g atoms off (Along edge 0 forward) (bounds.Node from) in
        let one = flat_found (led_on resolved g atoms off (End edge node source ∷ [])) kept (bounds.Node id) listed in
        let next = kept_found (can_be_given resolved g atoms off edge) (next_bounds resolved g atoms (Along edge 0 forward) (bounds.Node from)) one.0 one.1 in
        let found = given_found (admitted_edge resolved g atoms edge) (edges_along g forward (Some (bounds.Node from))) one.0 next.0 in
        let among = edge_among resolved g atoms edge pairs found.0 (λ is. along (Node from) found.0 here found.1 is) (admitted_edge resolved g atoms edge found.0) refl one.0 found.2 in
        let two = flat_found (led_on resolved g atoms off []) (kept_bounds resolved g atoms off (End edge node source) one.0) (bounds.Node id) one.2 in
        let last = kept_found (can_be_given resolved g atoms off node) (next_bounds resolved g atoms (End edge node source) one.0) two.0 two.1 in
        let same : two.0 ≡ bounds.Node id = ⊎_elim (λ h. h) (λ h. absurd (contains_none (bounds.Node id) h)) (contains_cases two.0 [] (bounds.Node id) two.2) in
        end_among pairs edge node source one.0 among ahead id (subst (Contains (next_bounds resolved g atoms (End edge node source) one.0)) same last.0)

    all_among : (here next : List NodeId) → ((id : NodeId) → Contains here id → Contains pairs (stand_at var (Node id))) →
        AreAllOf (flat_map (λ from. led_on resolved g atoms off (Along edge 0 forward ∷ End edge node source ∷ []) (bounds.Node from)) here) (at_nodes next) → (id : NodeId) → Contains next id → Contains pairs (stand_at node (Node id))
    all_among here next has all id among =
        let listed = all.1 (bounds.Node id) (map_given bounds.Node next id among) in
        let it = flat_found (λ from. led_on resolved g atoms off (Along edge 0 forward ∷ End edge node source ∷ []) (bounds.Node from)) here (bounds.Node id) listed in
        behind_among it.0 (has it.0 it.1) id it.2

  -- ---- how many there are

  pub few_nodes : (var : ℕ) (here : List NodeId) (pairs : List Stand) → AreApart here → ((id : NodeId) → Contains here id → Contains pairs (stand_at var (Node id))) →
      length (at_nodes here) ≤ sum_by (λ (stand : Stand). elem_degree g stand.elem + 2) pairs
  few_nodes var here pairs apart has =
      let long : length (at_nodes here) ≡ length here = length-map here bounds.Node in
      let all = ones here in
      let once = apart var pairs (λ stand. 1) has in
      let most = at_var g var (λ stand. 1) (λ stand. omega arith) pairs in
      omega (arith, long, all, once, most)

  few_kept : (edge node : ℕ) (forward : Bool) (bound : Bound) → length (kept_bounds resolved g atoms off (Along edge node forward) bound) ≤ degree_at g bound
  few_kept edge node forward bound =
      let kept = kept_length (can_be_given resolved g atoms off edge) (next_bounds resolved g atoms (Along edge node forward) bound) in
      let given = given_length (admitted_edge resolved g atoms edge) (edges_along g forward (Some bound)) in
      let listed = listed_few resolved g atoms forward bound in
      omega (arith, kept, given, listed)

  few_edges : (edge node : ℕ) (forward : Bool) (var : ℕ) (here : List NodeId) (pairs : List Stand) → AreApart here →
      ((id : NodeId) → Contains here id → Contains pairs (stand_at var (Node id))) →
      length (flat_map (kept_bounds resolved g atoms off (Along edge node forward)) (at_nodes here)) ≤ sum_by (λ (stand : Stand). elem_degree g stand.elem + 2) pairs
  few_edges edge node forward var here pairs apart has =
      let long = length-flat_map (kept_bounds resolved g atoms off (Along edge node forward)) (at_nodes here) in
      let each = sum_map (λ bound. length (kept_bounds resolved g atoms off (Along edge node forward) bound)) bounds.Node here in
      let less = sum_less (λ id. length (kept_bounds resolved g atoms off (Along edge node forward) (bounds.Node id))) (λ id. elem_degree g (Node id))
      (λ id. few_kept edge node forward (bounds.Node id)) here in
      let once = apart var pairs (λ (stand : Stand). elem_degree g stand.elem) has in
      let most = at_var g var (λ (stand : Stand). elem_degree g stand.elem) (λ stand. omega arith) pairs in
      omega (arith, long, each, less, once, most)

  -- ---- where no step goes on

  pub none_from : (ways : List Step) (edge node : ℕ) (source : Bool) (here : List NodeId) → flat_map (led_on resolved g atoms off (End edge node source ∷ ways)) (at_nodes here) ≡ []
  none_from ways edge node source here =
      flat_map-map (led_on resolved g atoms off (End edge node source ∷ ways)) bounds.Node here
      ∙ flat_none (λ id. led_on resolved g atoms off (End edge node source ∷ ways) (bounds.Node id)) (λ id. refl) here

  -- where an edge is bound no edges go on from it
  not_along : (ways : List Step) (kept : List Bound) → ((x : Bound) → Contains kept x → led_on resolved g atoms off ways x ≡ []) → flat_map (led_on resolved g atoms off ways) kept ≡ []
  not_along ways [] each = refl
  not_along ways (x ∷ kept) each =
      ap (λ l. l ++ flat_map (led_on resolved g atoms off ways) kept) (each x (contains_first x kept))
      ∙ not_along ways kept (λ y h. each y (contains_later x kept y h))

  pub none_after : (ways : List Step) (edge node other end : ℕ) (forward onward : Bool) (here : List NodeId) →
      flat_map (led_on resolved g atoms off (Along edge node forward ∷ Along other end onward ∷ ways)) (at_nodes here) ≡ []
  none_after ways edge node other end forward onward here =
      flat_map-map (led_on resolved g atoms off (Along edge node forward ∷ Along other end onward ∷ ways)) bounds.Node here
      ∙ flat_none (λ id. led_on resolved g atoms off (Along edge node forward ∷ Along other end onward ∷ ways) (bounds.Node id)) each here
    where
      from_edge : (x : Bound) (id : EdgeId) → admitted_edge resolved g atoms edge id ≡ Some x → led_on resolved g atoms off (Along other end onward ∷ ways) x ≡ []
      from_edge x id is =
          let it = edge_bound resolved g atoms edge id x is in
          subst (λ y. led_on resolved g atoms off (Along other end onward ∷ ways) y ≡ []) it.2 refl

      each : (id : NodeId) → led_on resolved g atoms off (Along edge node forward ∷ Along other end onward ∷ ways) (bounds.Node id) ≡ []
      each id =
          not_along (Along other end onward ∷ ways) (kept_bounds resolved g atoms off (Along edge node forward) (bounds.Node id))
          (λ x h.
          let next = kept_found (can_be_given resolved g atoms off edge) (next_bounds resolved g atoms (Along edge node forward) (bounds.Node id)) x h in
          let found = given_found (admitted_edge resolved g atoms edge) (edges_along g forward (Some (bounds.Node id))) x next.0 in
          from_edge x found.0 found.2)

  -- the node at the end of an edge, where it stays on the way
  module _ (ways : List Step) (edge node : ℕ) (source : Bool) (bound : Bound) (id : NodeId) (at : Some id ≡ end_at source (Some bound)) where
    abbrev kept_of : Option Bound → List Bound
    kept_of o = filter (can_be_given resolved g atoms off node) (option_map_or (λ next. next ∷ []) o [])

    kept_end : kept_bounds resolved g atoms off (End edge node source) bound ≡ kept_of (admitted_node resolved g atoms node id)
    kept_end = ap (λ (o : Option NodeId). kept_of (option_and_then (admitted_node resolved g atoms node) o)) (sym at)

    is_admitted : is_given resolved g atoms off node id ≡ true → (admitted_node resolved g atoms node id ≡ Some (bounds.Node id)) × (can_be_given resolved g atoms off node (bounds.Node id) ≡ true)
    is_admitted given = by (admitted_node resolved g atoms node id) refl given
      where
        by : (o : Option Bound) → admitted_node resolved g atoms node id ≡ o → option_map_or (can_be_given resolved g atoms off node) o false ≡ true →
            (admitted_node resolved g atoms node id ≡ Some (bounds.Node id)) × (can_be_given resolved g atoms off node (bounds.Node id) ≡ true)
        by None is can = absurd (true≢false (sym can))
        by (Some x) is can =
            let same : bounds.Node id ≡ x = node_bound resolved g atoms node id x is in
            (is ∙ ap Some (sym same), subst (λ y. can_be_given resolved g atoms off node y ≡ true) (sym same) can)

    pub end_leads : is_given resolved g atoms off node id ≡ true → led_on resolved g atoms off (End edge node source ∷ ways) bound ≡ flat_map (led_on resolved g atoms off ways) (at_nodes (id ∷ []))
    end_leads given =
        let it = is_admitted given in
        ap (flat_map (led_on resolved g atoms off ways))
        (kept_end ∙ ap kept_of it.0 ∙ ap (λ b. cond b (bounds.Node id ∷ []) []) it.1)

    -- it is among the pairs that have what the edge comes to
    pub end_has : (pairs : List Stand) → IsAmong g pairs edge bound → HasAhead resolved g atoms pairs (End edge node source) → is_some (admitted_node resolved g atoms node id) ≡ true →
        Contains pairs (stand_at node (Node id))
    end_has pairs among ahead is = ahead (elem_of bound) id among.0 (among.1 source ∙ sym at) is

  -- ---- no step, one step, and two

  flat_ones : (kept : List Bound) → flat_map (led_on resolved g atoms off []) kept ≡ kept
  flat_ones [] = refl
  flat_ones (x ∷ kept) = ap (λ l. x ∷ l) (flat_ones kept)

  module _ (ways : List Step) (here : List NodeId) (none : ways ≡ []) where
    pub last_all : (ends : List Bound) → ends ≡ at_nodes here → AreAllOf (flat_map (led_on resolved g atoms off ways) (at_nodes here)) ends
    last_all ends same =
        subst (λ w. AreAllOf (flat_map (led_on resolved g atoms off w) (at_nodes here)) ends) (sym none)
        (all_is (flat_map (led_on resolved g atoms off []) (at_nodes here)) ends (same ∙ sym (flat_ones (at_nodes here))))

  module _ (ways rest : List Step) (here : List NodeId) (edge node : ℕ) (forward : Bool) (first : ways ≡ Along edge node forward ∷ rest) (none : rest ≡ []) where
    whole_one : ways ≡ Along edge node forward ∷ []
    whole_one = first ∙ ap (λ l. Along edge node forward ∷ l) none

    pub edges_all : (ends : List Bound) → ends ≡ flat_map (kept_bounds resolved g atoms off (Along edge 0 forward)) (at_nodes here) →
        AreAllOf (flat_map (led_on resolved g atoms off ways) (at_nodes here)) ends
    edges_all ends same =
        subst (λ w. AreAllOf (flat_map (led_on resolved g atoms off w) (at_nodes here)) ends) (sym whole_one)
        (all_is (flat_map (led_on resolved g atoms off (Along edge node forward ∷ [])) (at_nodes here)) ends
        (same ∙ flat_same (kept_bounds resolved g atoms off (Along edge 0 forward)) (led_on resolved g atoms off (Along edge node forward ∷ []))
        (λ x. sym (flat_ones (kept_bounds resolved g atoms off (Along edge 0 forward) x))) (at_nodes here)))

    pub edges_cost : (start now : ℕ) → now ≤ start + sum_by (on_most resolved g atoms off 0 (Along edge 0 forward ∷ [])) (at_nodes here) →
        now ≤ start + sum_by (on_most resolved g atoms off 0 ways) (at_nodes here)
    edges_cost start now cost = subst (λ w. now ≤ start + sum_by (on_most resolved g atoms off 0 w) (at_nodes here)) (sym whole_one) cost

    module _ (var : ℕ) (pairs : List Stand) (path : is_path var ways ≡ true) (apart : AreApart here) (way : HasWay resolved g atoms off ways var here pairs) where
      same_var : node ≡ var
      same_var = eqb-true node var (and_parts (node == var) _ (subst (λ w. is_path var w ≡ true) whole_one path)).0

      pub edges_ahead : HasAhead resolved g atoms pairs (Along edge var forward)
      edges_ahead = subst (λ v. HasAhead resolved g atoms pairs (Along edge v forward)) same_var (subst (IsClosed resolved g atoms pairs) whole_one way.1).0

      pub edges_once : (count : ℕ) (before after : Notes) (start now : ℕ) →
          IsPaidOn g pairs before after start now (sum_by (λ id. hop_most g count (stand_at var (Node id))) here) →
          IsPaidOn g pairs before after start now (hops_most g count ways pairs)
      edges_once count before after start now paid =
          let once = apart var pairs (hop_most g count) way.0 in
          let own : hops_most g count ways pairs ≡ sum_by (λ (stand : Stand). cond (stand.var == var) (hop_most g count stand) 0) pairs + 0 =
          ap (λ w. hops_most g count w pairs) whole_one ∙ ap (λ v. sum_by (λ (stand : Stand). cond (stand.var == v) (hop_most g count stand) 0) pairs + 0) same_var in
          paid_less g pairs before after start now (sum_by (λ id. hop_most g count (stand_at var (Node id))) here) (hops_most g count ways pairs) paid (omega (arith, once, own))

      pub edges_few : (ends : List Bound) → ends ≡ flat_map (kept_bounds resolved g atoms off (Along edge 0 forward)) (at_nodes here) →
          length ends ≤ sum_by (λ (stand : Stand). elem_degree g stand.elem + 2) pairs
      edges_few ends same =
          let few = few_edges edge 0 forward var here pairs apart way.0 in
          let long = ap length same in
          omega (arith, few, long)

  pub tried_cost : (ways later rest : List Step) (here : List NodeId) (edge from other node : ℕ) (forward source : Bool) → ways ≡ Along edge from forward ∷ later → later ≡ End other node source ∷ rest →
      (start now : ℕ) → now ≤ start + sum_by (λ id. on_most resolved g atoms off 0 (hop_steps (record { edge = edge; forward = forward; node = node; source = source })) (bounds.Node id)) here →
      now ≤ start + sum_by (on_most resolved g atoms off 0 ways) (at_nodes here)
  tried_cost ways later rest here edge from other node forward source first second start now cost =
      subst (λ w. now ≤ start + sum_by (on_most resolved g atoms off 0 w) (at_nodes here)) (sym (first ∙ ap (λ l. Along edge from forward ∷ l) second))
      (let all = hop_alone (record { edge = edge; forward = forward; node = node; source = source }) rest here in omega (arith, all, cost))

  module _ (ways later rest : List Step) (here next : List NodeId) (edge from other node : ℕ) (forward source : Bool) (first : ways ≡ Along edge from forward ∷ later) (second : later ≡ End other node source ∷ rest)
      (all : AreAllOf (flat_map (hop_bounds resolved g atoms off (record { edge = edge; forward = forward; node = node; source = source })) here) (at_nodes next)) where
    abbrev hop : Hop
    hop = record { edge = edge; forward = forward; node = node; source = source }

    whole_two : ways ≡ Along edge from forward ∷ End other node source ∷ rest
    whole_two = first ∙ ap (λ l. Along edge from forward ∷ l) second

    pub lead_all : (ends : List Bound) → AreAllOf (flat_map (led_on resolved g atoms off rest) (at_nodes next)) ends → AreAllOf (flat_map (led_on resolved g atoms off ways) (at_nodes here)) ends
    lead_all ends last = subst (λ w. AreAllOf (flat_map (led_on resolved g atoms off w) (at_nodes here)) ends) (sym whole_two) (hop_leads hop rest here next all ends last)

    pub lead_cost : (start mid now : ℕ) → mid ≤ start + sum_by (λ id. on_most resolved g atoms off 0 (hop_steps hop) (bounds.Node id)) here →
        now ≤ mid + sum_by (on_most resolved g atoms off 0 rest) (at_nodes next) → now ≤ start + sum_by (on_most resolved g atoms off 0 ways) (at_nodes here)
    lead_cost start mid now early late =
        subst (λ w. now ≤ start + sum_by (on_most resolved g atoms off 0 w) (at_nodes here)) (sym whole_two)
        (let both = hop_takes hop rest here next all in omega (arith, both, early, late))

    module _ (var : ℕ) (pairs : List Stand) (path : is_path var ways ≡ true) (way : HasWay resolved g atoms off ways var here pairs) where
      parts : (from ≡ var) × (other ≡ edge) × (is_path node rest ≡ true)
      parts = path_parts var edge from other node forward source rest (subst (λ w. is_path var w ≡ true) whole_two path)

      closed : IsClosed resolved g atoms pairs (Along edge from forward ∷ End other node source ∷ rest)
      closed = subst (IsClosed resolved g atoms pairs) whole_two way.1

      pub lead_path : is_path node rest ≡ true
      lead_path = parts.2

      pub lead_along : HasAhead resolved g atoms pairs (Along edge var forward)
      lead_along = subst (λ v. HasAhead resolved g atoms pairs (Along edge v forward)) parts.0 closed.0

      pub lead_ahead : HasAhead resolved g atoms pairs (End edge node source)
      lead_ahead = subst (λ e. HasAhead resolved g atoms pairs (End e node source)) parts.1 closed.1.0

      pub lead_way : HasWay resolved g atoms off rest node next pairs
      lead_way = (all_among pairs var edge node forward source lead_along lead_ahead here next way.0 all, closed.1.1, way.2)

      pub lead_once : (count : ℕ) → AreApart here → (before mid after : Notes) (start between now : ℕ) → StayFull mid after →
          IsPaidOn g pairs before mid start between (sum_by (λ id. hop_most g count (stand_at var (Node id))) here) →
          IsPaidOn g pairs mid after between now (hops_most g count rest pairs) → IsPaidOn g pairs before after start now (hops_most g count ways pairs)
      lead_once count apart before mid after start between now stay early late =
          let once = apart var pairs (hop_most g count) way.0 in
          let own : hops_most g count ways pairs ≡ sum_by (λ (stand : Stand). cond (stand.var == var) (hop_most g count stand) 0) pairs + hops_most g count rest pairs =
          ap (λ w. hops_most g count w pairs) whole_two ∙ ap (λ v. sum_by (λ (stand : Stand). cond (stand.var == v) (hop_most g count stand) 0) pairs + hops_most g count rest pairs) parts.0 in
          paid_then g pairs before mid after start between now (sum_by (λ id. hop_most g count (stand_at var (Node id))) here) (hops_most g count rest pairs) (hops_most g count ways pairs)
          stay early late (omega (arith, once, own))

  -- ---- one node more

  module _ (hop : Hop) (here : List NodeId) (i : ℕ) (d : NodeId) (below : i < length here) where
    pub more_all : (old new : List NodeId) → AreAllOf (flat_map (hop_bounds resolved g atoms off hop) (take i here)) (at_nodes old) →
        (ids : List NodeId) × (new ≡ old ++ ids) × AreAllOf (hop_bounds resolved g atoms off hop (get_or here i d)) (at_nodes ids) →
        AreAllOf (flat_map (hop_bounds resolved g atoms off hop) (take (i + 1) here)) (at_nodes new)
    more_all old new before (ids, is, one) =
        let bounds_of : NodeId → List Bound = hop_bounds resolved g atoms off hop in
        let left : flat_map bounds_of (take (i + 1) here) ≡ flat_map bounds_of (take i here) ++ bounds_of (get_or here i d) =
        ap (flat_map bounds_of) (take_more here i d below) ∙ flat_map-append bounds_of (take i here) (get_or here i d ∷ [])
        ∙ ap (λ l. flat_map bounds_of (take i here) ++ l) (append-nil (bounds_of (get_or here i d))) in
        let right : at_nodes new ≡ at_nodes old ++ at_nodes ids = ap at_nodes is ∙ map-append bounds.Node old ids in
        subst (λ l. AreAllOf l (at_nodes new)) (sym left)
        (subst (AreAllOf (flat_map bounds_of (take i here) ++ bounds_of (get_or here i d))) (sym right)
        (all_both (flat_map bounds_of (take i here)) (at_nodes old) (bounds_of (get_or here i d)) (at_nodes ids) before one))

    pub more_cost : (start mid now : ℕ) → mid ≤ start + sum_by (λ from. on_most resolved g atoms off 0 (hop_steps hop) (bounds.Node from)) (take i here) →
        now ≤ mid + on_most resolved g atoms off 0 (hop_steps hop) (bounds.Node (get_or here i d)) →
        now ≤ start + sum_by (λ from. on_most resolved g atoms off 0 (hop_steps hop) (bounds.Node from)) (take (i + 1) here)
    more_cost start mid now early late =
        let more = sum_by_more (λ from. on_most resolved g atoms off 0 (hop_steps hop) (bounds.Node from)) here i d below in omega (arith, more, early, late)

    pub more_once : (var count : ℕ) (pairs : List Stand) (before mid after : Notes) (start between now : ℕ) → StayFull mid after →
        IsPaidOn g pairs before mid start between (sum_by (λ id. hop_most g count (stand_at var (Node id))) (take i here)) →
        IsPaidOn g pairs mid after between now (hop_most g count (stand_at var (Node (get_or here i d)))) →
        IsPaidOn g pairs before after start now (sum_by (λ id. hop_most g count (stand_at var (Node id))) (take (i + 1) here))
    more_once var count pairs before mid after start between now stay early late =
        let most : NodeId → ℕ = λ id. hop_most g count (stand_at var (Node id)) in
        let more = sum_by_more most here i d below in
        paid_then g pairs before mid after start between now (sum_by most (take i here)) (most (get_or here i d)) (sum_by most (take (i + 1) here)) stay early late (omega (arith, more))
