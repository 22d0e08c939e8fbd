-- What a search along a way to one variable takes, over what its parts say.
use Rattle.std.proofs.Common.{◌≡◌, ℕ, ◌+◌, ◌*◌, ◌<◌, ◌≤◌, Bool, true, false, ◌&&◌, ◌==◌, not, List, [], ◌∷◌, length, nat_lt, Option, Some, None, Result, Ok, Err, IfOk, OnOk, refl, sym, ◌∙◌, ap, subst, true≢false, arith}
use Rattle.std.specs.Prelude.{option_and_then}
use Rattle.std.specs.Option.{IfSome, option_map_or}
use Rattle.std.specs.List.{Contains, list_all, sum_by}
use Rattle.std.proofs.Math.Nat.{mul-le-mul_right, mul_comm}
use Rattle.std.proofs.lemmas.Bool.{and_parts, eqb-true, lt-ltb}
use Rattle.std.proofs.lemmas.List.Sums.{sum_by-cons, get_or-le-sum_by}
use Rattle.pgs_base.specs.declared.element.EdgeId.{EdgeId}
use Rattle.pgs_base.specs.declared.element.Elem.{Elem}
use Rattle.pgs_base.specs.Graph.{Graph}
use Rattle.pgs_syntax.specs.declared.key.Key.{Key}
use Rattle.pgs_syntax.specs.declared.pattern.Atom.{Atom}
use Rattle.pgs_syntax.specs.declared.pattern.Expr.{Expr}
use Rattle.pgs_syntax.specs.declared.pattern.Pattern.{Pattern}
use Rattle.pgs_syntax.specs.declared.resolved.Resolved.{Resolved}
use Rattle.pgs_syntax.specs.Valid.{is_valid_pattern}
use Rattle.pgs_match.specs.declared.step.Step.{Step}
use Rattle.pgs_match.specs.declared.step.Step.TheVariants.{Along, End}
use Rattle.pgs_match.specs.declared.stand.Stand.{Stand}
use Rattle.pgs_match.specs.declared.bindings.Bound.{Bound}
use Rattle.pgs_match.specs.declared.learned.WayMemo.{WayMemo}
use Rattle.pgs_match.specs.declared.notes.Notes.{Notes}
use Rattle.pgs_match.specs.declared.plan.Plan.{Plan}
use Rattle.pgs_match.specs.Answers.{is_bound_in, IsAmong, IsClosed, own_most}
use Rattle.pgs_match.specs.Bounds.{bound_at, with_bound, nothing_bound, elem_of, end_at}
use Rattle.pgs_match.specs.Branches.{degree_at, asked_most}
use Rattle.pgs_match.specs.Frontier.{led_on, on_most, is_path, leads_to_one, unasked, hop_most, hops_most, AreAllOf, AreNoted}
use Rattle.pgs_match.specs.Learned.{is_short, IsWayMemo, IsWayTaken}
use Rattle.pgs_match.specs.Planned.{IsSplit, taken}
use Rattle.pgs_match.specs.Plans.{bound_by, is_plan}
use Rattle.pgs_match.specs.Routes.{on_way, way_most}
use Rattle.pgs_match.specs.Search.{edges_along}
use Rattle.pgs_match.specs.Spread.{stand_at, elem_degree}
use Rattle.pgs_match.specs.Tests.{admitted_node, admitted_edge}
use Rattle.pgs_match.proofs.BranchCosts.{listed_few}
use Rattle.pgs_match.proofs.FrontierPlans.{hops_add}
use Rattle.pgs_match.proofs.FrontierRoutes.{ends_cost}
use Rattle.pgs_match.proofs.Learning.{degree_same, own_few, owed_most}
use Rattle.pgs_match.proofs.Searched.{IsSame}
use Rattle.pgs_match.proofs.SpreadEnds.{sum_ones}

-- ---- answers that may fail

pub ok_more : {X E : Type 0} (r : Result X E) (P Q : X → Type 0) → ((x : X) → P x → Q x) → IfOk r P → IfOk r Q
ok_more (Ok x) P Q more h = more x h
ok_more (Err e) P Q more h = h

pub on_more : {X E : Type 0} (r : Result X E) (P Q : Type 0) → (P → Q) → OnOk r P → OnOk r Q
on_more (Ok x) P Q more h = more h
on_more (Err e) P Q more h = h

pub on_any : {X E : Type 0} (r : Result X E) (P : Type 0) → P → OnOk r P
on_any (Ok x) P h = h
on_any (Err e) P h = tt {0}

-- ---- sums over pairs

pub within_sum : {X : Type 0} (f : X → ℕ) (xs : List X) (x : X) → Contains xs x → f x ≤ sum_by f xs
within_sum f xs x has = subst (λ y. f y ≤ sum_by f xs) has.2 (get_or-le-sum_by f xs has.0 x has.1)

pub pair_within : (g : Graph) (pairs : List Stand) (var : ℕ) (elem : Elem) → Contains pairs (stand_at var elem) → elem_degree g elem + 2 ≤ sum_by (λ (stand : Stand). elem_degree g stand.elem + 2) pairs
pair_within g pairs var elem has = within_sum (λ (stand : Stand). elem_degree g stand.elem + 2) pairs (stand_at var elem) has

hop_few : (count degree : ℕ) → count ≤ 19 → 1 + (count + 5) * degree ≤ 24 * (degree + 2)
hop_few count degree few = let less : count + 5 ≤ 24 = omega (arith, few) in let product = mul-le-mul_right degree less in omega (arith, product)

hops_few : (g : Graph) (count : ℕ) → count ≤ 19 → (pairs : List Stand) → sum_by (hop_most g count) pairs ≤ 24 * sum_by (λ (stand : Stand). elem_degree g stand.elem + 2) pairs
hops_few g count few [] = omega arith
hops_few g count few (stand ∷ pairs) =
    let rest = hops_few g count few pairs in
    let own = hop_few count (elem_degree g stand.elem) few in
    let one = sum_by-cons (hop_most g count) stand pairs in
    let two = sum_by-cons (λ (s : Stand). elem_degree g s.elem + 2) stand pairs in
    omega (arith, rest, own, one, two)

pub own_within : (g : Graph) (pairs : List Stand) (off : List Step) (var : ℕ) (x : Bound) → length off ≤ 19 → IsAmong g pairs var x →
    3 + own_most g off x ≤ 440 * sum_by (λ (stand : Stand). elem_degree g stand.elem + 2) pairs
own_within g pairs off var x few among =
    let own = own_few (length off) (degree_at g x) few in
    let same : degree_at g x ≡ elem_degree g (elem_of x) = degree_same g x in
    let here = pair_within g pairs var (elem_of x) among.0 in
    omega (arith, own, same, here)

-- ---- the parts of a way to one variable

not_false : (b : Bool) → not b ≡ true → b ≡ false
not_false true h = sym h
not_false false h = refl

pub leads_parts : (var : ℕ) (ways : List Step) (exprs : List Expr) → leads_to_one var ways exprs ≡ true → (is_path var ways ≡ true) × (is_bound_in ways var ≡ false)
leads_parts var ways exprs leads =
    let both = and_parts (is_path var ways) _ (and_parts (is_path var ways && not (is_bound_in ways var)) _ leads).0 in
    (both.0, not_false (is_bound_in ways var) both.1)

module _ (resolved : Resolved) (g : Graph) (atoms : List Atom) (off : List Step) where
  pub led_cost : (exprs : List Expr) (on : List Step) (var : ℕ) (x : Bound) → var < 20 → list_all (λ step. nat_lt (bound_by step) 20) on ≡ true → leads_to_one var on exprs ≡ true →
      on_most resolved g atoms off 0 on x + length exprs * length (led_on resolved g atoms off on x) ≤ way_most resolved g atoms off (length exprs) on (with_bound nothing_bound var x)
  led_cost exprs on var x below all leads =
      let parts = leads_parts var on exprs leads in ends_cost resolved g atoms off on var x (lt-ltb var 20 below) all parts.0 parts.1 (length exprs)

pub ends_most : (last : ℕ) (others found : List Bound) → AreAllOf others found → last * length found ≤ last * length others
ends_most last others found same =
    let fewer : sum_by (λ (b : Bound). 1) found ≤ sum_by (λ (b : Bound). 1) others = same.2 (λ b. 1) in
    let one = sum_ones found in
    let two = sum_ones others in
    let less : length found ≤ length others = omega (arith, fewer, one, two) in
    let product = mul-le-mul_right last less in
    let left = mul_comm last (length found) in
    let right = mul_comm last (length others) in
    omega (arith, product, left, right)

pub few_ends : (last count most : ℕ) → last ≤ 16 → count ≤ most → last * count ≤ 16 * most
few_ends last count most small few = let product = mul-le-mul_right count small in omega (arith, product, few)

-- ---- the same where schema, graph and demands are others by name only

module _ (other resolved : Resolved) (graph_of g : Graph) (demands atoms : List Atom) (same : IsSame other resolved graph_of g demands atoms) where
  pub noted_as : (off' off : List Step) → off' ≡ off → (notes : Notes) → AreNoted resolved g atoms off notes → AreNoted other graph_of demands off' notes
  noted_as off' off is notes right =
      subst (λ r. AreNoted r graph_of demands off' notes) (sym same.schemas)
      (subst (λ h. AreNoted resolved h demands off' notes) (sym same.graphs)
      (subst (λ a. AreNoted resolved g a off' notes) (sym same.lists)
      (subst (λ o. AreNoted resolved g atoms o notes) (sym is) right)))

  pub noted_back : (off' off : List Step) → off' ≡ off → (notes : Notes) → AreNoted other graph_of demands off' notes → AreNoted resolved g atoms off notes
  noted_back off' off is notes right =
      subst (λ o. AreNoted resolved g atoms o notes) is
      (subst (λ a. AreNoted resolved g a off' notes) same.lists
      (subst (λ h. AreNoted resolved h demands off' notes) same.graphs
      (subst (λ r. AreNoted r graph_of demands off' notes) same.schemas right)))

  pub closed_as : (pairs : List Stand) (ways' ways : List Step) → ways' ≡ ways → IsClosed resolved g atoms pairs ways → IsClosed other graph_of demands pairs ways'
  closed_as pairs ways' ways is closed =
      subst (λ r. IsClosed r graph_of demands pairs ways') (sym same.schemas)
      (subst (λ h. IsClosed resolved h demands pairs ways') (sym same.graphs)
      (subst (λ a. IsClosed resolved g a pairs ways') (sym same.lists)
      (subst (λ o. IsClosed resolved g atoms pairs o) (sym is) closed)))

-- ---- what the whole search takes where each pair is gone over once

pub once_total : (g : Graph) (pattern : Pattern) (var : ℕ) (steps : List Step) (exprs : List Expr) (wanted : List ℕ) → is_valid_pattern pattern ≡ true → is_plan pattern var steps ≡ true →
    (on off : List Step) → on ≡ on_way wanted steps → length off ≤ 19 → leads_to_one var on exprs ≡ true → (pairs : List Stand) (elem : Elem) → Contains pairs (stand_at var elem) →
    (before after : Notes) (start begun now : ℕ) → begun ≤ start + 3 →
    now + 440 * unasked g after pairs ≤ begun + 440 * unasked g before pairs + (456 * sum_by (λ (stand : Stand). elem_degree g stand.elem + 2) pairs + hops_most g (length off) on pairs) →
    now ≤ start + 1400 * sum_by (λ (stand : Stand). elem_degree g stand.elem + 2) pairs
once_total g pattern var steps exprs wanted valid plans on off on_is few leads pairs elem has before after start begun now first cost =
    let path = subst (λ ways. is_path var ways ≡ true) on_is (leads_parts var on exprs leads).0 in
    let hops = hops_add g (length off) pattern var steps wanted pairs valid plans path in
    let same : hops_most g (length off) on pairs ≡ hops_most g (length off) (on_way wanted steps) pairs = ap (λ ways. hops_most g (length off) ways pairs) on_is in
    let most = hops_few g (length off) few pairs in
    let one = owed_most g before.on pairs in
    let two = owed_most g before.off pairs in
    let here = pair_within g pairs var elem has in
    omega (arith, hops, same, most, one, two, here, first, cost)

-- ---- what was noted for key values

-- what was taken out is right where it was
pub values_taken_right : (resolved : Resolved) (g : Graph) (key : Key) (former : Option WayMemo) (plan : Plan) (memo : WayMemo) → IfSome former (IsWayMemo resolved g key) → IsWayTaken former plan memo →
    IsSplit (taken key) key.descriptor 0 plan → IsWayMemo resolved g key memo
values_taken_right resolved g key (Some former) plan memo right same split = subst (IsWayMemo resolved g key) (sym same) right
values_taken_right resolved g key None plan memo right fresh split =
    (subst (IsSplit (taken key) key.descriptor 0) (sym fresh.0) split, fresh.1 resolved g key.descriptor.atoms memo.plan.off)

-- ---- short ways

pub none_off : (off : List Step) → length off ≡ 0 → off ≡ []
none_off [] none = refl
none_off (step ∷ off) none = absurd (omega (arith, none))

module _ (resolved : Resolved) (g : Graph) (atoms : List Atom) (off : List Step) (last : ℕ) (small : last ≤ 16) where
  one_few : (most : ℕ) (rest : Bound → ℕ) → ((y : Bound) → rest y ≤ most) → (o : Option Bound) → option_map_or rest o 0 ≤ most
  one_few most rest each None = omega arith
  one_few most rest each (Some y) = each y

  all_few : (rest : Bound → ℕ) → ((y : Bound) → rest y ≤ 17) → (admits : EdgeId → Option Bound) (ids : List EdgeId) → sum_by (λ id. 3 + option_map_or rest (admits id) 0) ids ≤ 20 * length ids
  all_few rest each admits [] = omega arith
  all_few rest each admits (id ∷ ids) =
      let more = all_few rest each admits ids in
      let own = one_few 17 rest each (admits id) in
      let one = sum_by-cons (λ id. 3 + option_map_or rest (admits id) 0) id ids in
      omega (arith, more, own, one)

  none_asked : off ≡ [] → (node : ℕ) (y : Bound) → asked_most resolved g atoms off node y ≡ 0
  none_asked empty node y = ap (λ steps. asked_most resolved g atoms steps node y) empty

  end_few : off ≡ [] → (edge node : ℕ) (source : Bool) (b : List (Option Bound)) → way_most resolved g atoms off last (End edge node source ∷ []) b ≤ 17
  end_few empty edge node source b =
      let own = one_few 16 (λ y. asked_most resolved g atoms off node y + last) (λ y. let none = none_asked empty node y in omega (arith, none, small))
      (option_and_then (admitted_node resolved g atoms node) (end_at source (bound_at b edge))) in
      omega (arith, own)

  -- the first step of a way, where each that it comes to takes so few
  first_few : off ≡ [] → (var : ℕ) (b : List (Option Bound)) (x : Bound) → bound_at b var ≡ Some x → (first : Step) (ways : List Step) → is_path var (first ∷ []) ≡ true →
      ((c : List (Option Bound)) → way_most resolved g atoms off last ways c ≤ 17) → way_most resolved g atoms off last (first ∷ ways) b ≤ 21 * degree_at g x + 18
  first_few empty var b x here (Along edge node forward) ways path each =
      let from : bound_at b node ≡ Some x = ap (bound_at b) (eqb-true node var (and_parts (node == var) _ path).0) ∙ here in
      let rest : Bound → ℕ = λ y. asked_most resolved g atoms off edge y + way_most resolved g atoms off last ways (with_bound b edge y) in
      let all = all_few rest (λ y. let none = none_asked empty edge y in let one = each (with_bound b edge y) in omega (arith, none, one)) (admitted_edge resolved g atoms edge) (edges_along g forward (Some x)) in
      let few = listed_few resolved g atoms forward x in
      subst (λ o. length (edges_along g forward o) + 1 + sum_by (λ id. 3 + option_map_or rest (admitted_edge resolved g atoms edge id) 0) (edges_along g forward o) ≤ 21 * degree_at g x + 18) (sym from) (omega (arith, all, few))
  first_few empty var b x here (End edge node source) ways path each =
      let own = one_few 17 (λ y. asked_most resolved g atoms off node y + way_most resolved g atoms off last ways (with_bound b node y))
      (λ y. let none = none_asked empty node y in let one = each (with_bound b node y) in omega (arith, none, one))
      (option_and_then (admitted_node resolved g atoms node) (end_at source (bound_at b edge))) in
      omega (arith, own)

  first_path : (var : ℕ) (first : Step) (ways : List Step) → is_path var (first ∷ ways) ≡ true → is_path var (first ∷ []) ≡ true
  first_path var (Along edge node forward) ways path = ap (λ b. b && true) (and_parts (node == var) _ path).0
  first_path var (End edge node source) ways path = ap (λ b. b && true) (and_parts (edge == var) _ path).0

  pub short_way : (var : ℕ) (b : List (Option Bound)) (x : Bound) → bound_at b var ≡ Some x → (ways : List Step) → is_short ways ≡ true → is_path var ways ≡ true → off ≡ [] →
      way_most resolved g atoms off last ways b ≤ 21 * degree_at g x + 18
  short_way var b x here [] short path empty = omega (arith, small)
  short_way var b x here (first ∷ []) short path empty = first_few empty var b x here first [] path (λ c. omega (arith, small))
  short_way var b x here (first ∷ Along edge node forward ∷ rest) short path empty = absurd (true≢false (sym short))
  short_way var b x here (first ∷ End edge node source ∷ []) short path empty =
      first_few empty var b x here first (End edge node source ∷ []) (first_path var first (End edge node source ∷ []) path) (λ c. end_few empty edge node source c)
  short_way var b x here (first ∷ End edge node source ∷ next ∷ rest) short path empty = absurd (true≢false (sym short))
