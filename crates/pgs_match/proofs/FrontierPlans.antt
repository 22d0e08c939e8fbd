-- The steps of a plan on the way to some variables and those off it: each variable is bound by one, and the way to one variable is a path.
use Rattle.std.proofs.Common.{◌≡◌, ◌≢◌, ◌⊎◌, inl, inr, ⊎_elim, ℕ, ◌+◌, ◌<◌, ◌≤◌, Bool, true, false, ◌&&◌, ◌||◌, ◌==◌, not, cond, List, [], ◌∷◌, length, map, replicate, nat_lt, refl, sym, ◌∙◌, ap, subst, true≢false, arith}
use Rattle.std.specs.List.{list_any, list_all, sum_by}
use Rattle.std.proofs.lemmas.Bool.{and_parts, and_from, or_cases, or_left, or_right, eqb-true, eq-eqb, or_parts, ne_eqb, lt-ltb, ltb-true}
use Rattle.std.proofs.lemmas.List.{length-set}
use Rattle.std.proofs.lemmas.List.Sums.{sum_by-cons}
use Rattle.pgs_base.specs.Graph.{Graph}
use Rattle.pgs_syntax.specs.declared.pattern.Atom.{Atom}
use Rattle.pgs_syntax.specs.declared.pattern.Expr.{Expr}
use Rattle.pgs_syntax.specs.declared.pattern.Pattern.{Pattern}
use Rattle.pgs_syntax.specs.declared.resolved.Resolved.{Resolved}
use Rattle.pgs_syntax.specs.Valid.{read_var, is_valid_pattern}
use Rattle.pgs_match.specs.declared.step.Step.{Step}
use Rattle.pgs_match.specs.declared.step.Step.TheVariants.{Along, End}
use Rattle.pgs_match.specs.declared.stand.Stand.{Stand}
use Rattle.pgs_match.specs.Answers.{behind, is_bound_in, EndsIn, HasAhead, IsClosed}
use Rattle.pgs_match.specs.Branches.{goes_from}
use Rattle.pgs_match.specs.Frontier.{is_path, end_var, leads_to_one, hop_most, hops_most}
use Rattle.pgs_match.specs.Plans.{bound_by, is_known, and_known, known_alone, known_after, is_step, are_steps, is_plan}
use Rattle.pgs_match.specs.Routes.{is_on_way, on_way, off_way}
use Rattle.pgs_match.proofs.Counts.{left, one_less}
use Rattle.pgs_match.proofs.Bounded.{all_left}
use Rattle.pgs_match.proofs.Known.{valid_speaks, valid_most, edge_below, node_below, ends_kinds, step_bounds, known_now, known_still, covers_at}
use Rattle.pgs_match.proofs.OnWay.{is_wanted, step_from, step_new}
use Rattle.pgs_match.proofs.Standing.{known_other, one_or_other}
use Rattle.pgs_match.proofs.Started.{none_known}

-- ---- each variable is bound by one step

-- no two steps bind one variable
abbrev IsOnce : List Step → Type 0
IsOnce [] = Unit {0}
IsOnce (step ∷ plan) = (is_bound_in plan (bound_by step) ≡ false) × IsOnce plan

-- the same of the steps on the way and of those off it
none_parts : (wanted : List ℕ) (var : ℕ) (plan : List Step) → is_bound_in plan var ≡ false → (is_bound_in (on_way wanted plan) var ≡ false) × (is_bound_in (off_way wanted plan) var ≡ false)
none_parts wanted var [] none = (refl, refl)
none_parts wanted var (step ∷ plan) none = by (is_on_way wanted (on_way wanted plan) step) (bound_by step == var) refl none (none_parts wanted var plan)
  where
    by : (on b : Bool) → (bound_by step == var) ≡ b → (b || is_bound_in plan var) ≡ false →
        (is_bound_in plan var ≡ false → (is_bound_in (on_way wanted plan) var ≡ false) × (is_bound_in (off_way wanted plan) var ≡ false)) →
        (is_bound_in (cond on (step ∷ on_way wanted plan) (on_way wanted plan)) var ≡ false) × (is_bound_in (cond on (off_way wanted plan) (step ∷ off_way wanted plan)) var ≡ false)
    by on true is h rest = absurd (true≢false h)
    by true false is h rest = let both = rest h in (ap (λ t. t || is_bound_in (on_way wanted plan) var) is ∙ both.0, both.1)
    by false false is h rest = let both = rest h in (both.0, ap (λ t. t || is_bound_in (off_way wanted plan) var) is ∙ both.1)

once_parts : (wanted : List ℕ) (plan : List Step) → IsOnce plan → IsOnce (on_way wanted plan) × IsOnce (off_way wanted plan)
once_parts wanted [] once = (tt {0}, tt {0})
once_parts wanted (step ∷ plan) once = by (is_on_way wanted (on_way wanted plan) step) (none_parts wanted (bound_by step) plan once.0) (once_parts wanted plan once.1)
  where
    by : (on : Bool) → (is_bound_in (on_way wanted plan) (bound_by step) ≡ false) × (is_bound_in (off_way wanted plan) (bound_by step) ≡ false) →
        IsOnce (on_way wanted plan) × IsOnce (off_way wanted plan) →
        IsOnce (cond on (step ∷ on_way wanted plan) (on_way wanted plan)) × IsOnce (cond on (off_way wanted plan) (step ∷ off_way wanted plan))
    by true none rest = ((none.0, rest.0), rest.1)
    by false none rest = (rest.0, (none.1, rest.1))

-- such steps end in themselves
ends_from : (whole plan : List Step) → IsOnce plan → ((var : ℕ) → is_bound_in plan var ≡ true → behind var whole ≡ behind var plan) → EndsIn whole plan
ends_from whole [] once same = tt {0}
ends_from whole (step ∷ plan) once same = (
  same (bound_by step) (or_left _ _ (eq-eqb (bound_by step) (bound_by step) refl)) ∙ ap (λ b. cond b plan (behind (bound_by step) plan)) (eq-eqb (bound_by step) (bound_by step) refl),
  once.0,
  ends_from whole plan once.1 (λ var has. same var (or_right _ _ has) ∙ by var (bound_by step == var) refl has),
)
  where
    by : (var : ℕ) (b : Bool) → (bound_by step == var) ≡ b → is_bound_in plan var ≡ true → behind var (step ∷ plan) ≡ behind var plan
    by var true is has = absurd (true≢false (sym has ∙ ap (is_bound_in plan) (sym (eqb-true (bound_by step) var is)) ∙ once.0))
    by var false is has = ap (λ b. cond b plan (behind var plan)) is

module _ (pattern : Pattern) (valid : is_valid_pattern pattern ≡ true) where
  -- no step binds a variable that is known
  never_again : (plan : List Step) (known : List Bool) (var : ℕ) → are_steps pattern.atoms known plan ≡ true → is_known known var ≡ true → is_bound_in plan var ≡ false
  never_again [] known var steps here = refl
  never_again (step ∷ plan) known var steps here =
      let parts = and_parts (is_step pattern.atoms known step) _ steps in
      by (bound_by step == var) refl (step_new pattern.atoms known step parts.0)
      (never_again plan (and_known known (bound_by step)) var parts.1 (known_still known (bound_by step) var here))
    where
      by : (b : Bool) → (bound_by step == var) ≡ b → is_known known (bound_by step) ≡ false → is_bound_in plan var ≡ false → (b || is_bound_in plan var) ≡ false
      by true is new rest = absurd (true≢false (sym here ∙ ap (is_known known) (sym (eqb-true (bound_by step) var is)) ∙ new))
      by false is new rest = rest

  steps_once : (plan : List Step) (known : List Bool) → length known ≡ 20 → are_steps pattern.atoms known plan ≡ true → IsOnce plan
  steps_once [] known size steps = tt {0}
  steps_once (step ∷ plan) known size steps =
      let parts = and_parts (is_step pattern.atoms known step) _ steps in
      let bounds = step_bounds pattern pattern.atoms known step (bound_by step) valid refl refl parts.0 in
      let now : is_known (and_known known (bound_by step)) (bound_by step) ≡ true = known_now known (bound_by step) (omega (arith, size, bounds.1)) in
      (never_again plan (and_known known (bound_by step)) (bound_by step) parts.1 now, steps_once plan (and_known known (bound_by step)) (length-set known (bound_by step) true ∙ size) parts.1)

  steps_below : (plan : List Step) (known : List Bool) → are_steps pattern.atoms known plan ≡ true → list_all (λ step. nat_lt (bound_by step) 20) plan ≡ true
  steps_below [] known steps = refl
  steps_below (step ∷ plan) known steps =
      let parts = and_parts (is_step pattern.atoms known step) _ steps in
      let bounds = step_bounds pattern pattern.atoms known step (bound_by step) valid refl refl parts.0 in
      and_from _ _ (lt-ltb (bound_by step) 20 bounds.1) (steps_below plan (and_known known (bound_by step)) parts.1)

  few_left : (plan : List Step) (known : List Bool) → length known ≡ 20 → are_steps pattern.atoms known plan ≡ true → length plan ≤ left (λ kind. 1) pattern.edge_vars known
  few_left [] known size steps = omega arith
  few_left (step ∷ plan) known size steps =
      let parts = and_parts (is_step pattern.atoms known step) _ steps in
      let bounds = step_bounds pattern pattern.atoms known step (bound_by step) valid refl refl parts.0 in
      let less = one_less pattern.edge_vars known (bound_by step) bounds.0 bounds.2 (omega (arith, size, bounds.1)) in
      let rest = few_left plan (and_known known (bound_by step)) (length-set known (bound_by step) true ∙ size) parts.1 in
      omega (arith, less, rest)

  -- a step goes from a variable of the pattern, which is known
  from_below : (known : List Bool) (step : Step) → is_step pattern.atoms known step ≡ true → (var : ℕ) × (var < length pattern.edge_vars) × (is_known known var ≡ true)
  from_below known (Along edge node forward) is =
      let parts = and_parts (is_known known node && not (is_known known edge)) _ is in
      let kinds = ends_kinds pattern.edge_vars edge node forward pattern.atoms (valid_speaks pattern valid) parts.1 in
      (node, node_below pattern.edge_vars node kinds.1, (and_parts (is_known known node) _ parts.0).0)
  from_below known (End edge node source) is =
      let parts = and_parts (is_known known edge && not (is_known known node)) _ is in
      let kinds = ends_kinds pattern.edge_vars edge node source pattern.atoms (valid_speaks pattern valid) parts.1 in
      (edge, edge_below pattern.edge_vars edge kinds.0, (and_parts (is_known known edge) _ parts.0).0)

-- at first one variable alone is known
alone : (var other : ℕ) → is_known (known_alone var) other ≡ true → other ≡ var
alone var other is = ⊎_elim (λ same. same) (λ apart. absurd (true≢false (sym is ∙ known_other (replicate 20 false) var other apart ∙ none_known 20 other))) (one_or_other other var)

module _ (pattern : Pattern) (valid : is_valid_pattern pattern ≡ true) (var : ℕ) where
  steps_of : (plan : List Step) → is_plan pattern var plan ≡ true → are_steps pattern.atoms (known_alone var) plan ≡ true
  steps_of plan plans = (and_parts (are_steps pattern.atoms (known_alone var) plan) _ plans).0

  size_alone : length (known_alone var) ≡ 20
  size_alone = length-set (replicate 20 false) var true

  -- where there is a step, the first variable is one of the pattern, and is known
  start_there : (step : Step) (plan : List Step) → is_plan pattern var (step ∷ plan) ≡ true → (var < length pattern.edge_vars) × (is_known (known_alone var) var ≡ true)
  start_there step plan plans =
      let from = from_below pattern valid (known_alone var) step (and_parts (is_step pattern.atoms (known_alone var) step) _ (steps_of (step ∷ plan) plans)).0 in
      let same : from.0 ≡ var = alone var from.0 from.2 in
      (subst (λ v. v < length pattern.edge_vars) same from.1, subst (λ v. is_known (known_alone var) v ≡ true) same from.2)

  start_once : (plan : List Step) → is_plan pattern var plan ≡ true → is_bound_in plan var ≡ false
  start_once [] plans = refl
  start_once (step ∷ plan) plans = never_again pattern valid (step ∷ plan) (known_alone var) var (steps_of (step ∷ plan) plans) (start_there step plan plans).1

  plan_few : (plan : List Step) → is_plan pattern var plan ≡ true → length plan ≤ 19
  plan_few [] plans = omega arith
  plan_few (step ∷ plan) plans =
      let below = (start_there step plan plans).0 in
      let most = valid_most pattern valid in
      let there : var < length (replicate 20 false) = omega arith in
      let one = one_less pattern.edge_vars (replicate 20 false) var below (none_known 20 var) there in
      let all = (all_left pattern.edge_vars 20).1 in
      let few = few_left pattern valid (step ∷ plan) (known_alone var) size_alone (steps_of (step ∷ plan) plans) in
      omega (arith, most, one, all, few)

off_less : (wanted : List ℕ) (plan : List Step) → length (off_way wanted plan) ≤ length plan
off_less wanted [] = omega arith
off_less wanted (step ∷ plan) = by (is_on_way wanted (on_way wanted plan) step) (off_less wanted plan)
  where
    by : (on : Bool) → length (off_way wanted plan) ≤ length plan → length (cond on (off_way wanted plan) (step ∷ off_way wanted plan)) ≤ length (step ∷ plan)
    by true rest = omega arith
    by false rest = omega arith

all_on : (test : Step → Bool) (wanted : List ℕ) (plan : List Step) → list_all test plan ≡ true → list_all test (on_way wanted plan) ≡ true
all_on test wanted [] all = refl
all_on test wanted (step ∷ plan) all =
    let parts = and_parts (test step) _ all in by (is_on_way wanted (on_way wanted plan) step) parts.0 (all_on test wanted plan parts.1)
  where
    by : (on : Bool) → test step ≡ true → list_all test (on_way wanted plan) ≡ true → list_all test (cond on (step ∷ on_way wanted plan) (on_way wanted plan)) ≡ true
    by true one rest = and_from _ _ one rest
    by false one rest = rest

-- ---- what is so of the steps on the way and off it

-- each step on the way binds one of 20 variables
pub vars_in_range : (pattern : Pattern) (var : ℕ) (steps : List Step) (wanted : List ℕ) → is_valid_pattern pattern ≡ true → is_plan pattern var steps ≡ true →
    list_all (λ step. nat_lt (bound_by step) 20) (on_way wanted steps) ≡ true
vars_in_range pattern var steps wanted valid plans =
    all_on (λ step. nat_lt (bound_by step) 20) wanted steps (steps_below pattern valid steps (known_alone var) (steps_of pattern valid var steps plans))

-- the steps off the way end in themselves, and are at most 19
pub off_ends : (pattern : Pattern) (var : ℕ) (steps : List Step) (wanted : List ℕ) → is_valid_pattern pattern ≡ true → is_plan pattern var steps ≡ true →
    EndsIn (off_way wanted steps) (off_way wanted steps)
off_ends pattern var steps wanted valid plans =
    let once = steps_once pattern valid steps (known_alone var) (size_alone pattern valid var) (steps_of pattern valid var steps plans) in
    ends_from (off_way wanted steps) (off_way wanted steps) (once_parts wanted steps once).1 (λ other has. refl)

pub off_few : (pattern : Pattern) (var : ℕ) (steps : List Step) (wanted : List ℕ) → is_valid_pattern pattern ≡ true → is_plan pattern var steps ≡ true → length (off_way wanted steps) ≤ 19
off_few pattern var steps wanted valid plans =
    let few = plan_few pattern valid var steps plans in
    let less = off_less wanted steps in
    omega (arith, few, less)

-- pairs from which no step leads out have none from which one on the way does, or one off it
pub closed_parts : (resolved : Resolved) (g : Graph) (atoms : List Atom) (pairs : List Stand) (wanted : List ℕ) (steps : List Step) → IsClosed resolved g atoms pairs steps →
    IsClosed resolved g atoms pairs (on_way wanted steps) × IsClosed resolved g atoms pairs (off_way wanted steps)
closed_parts resolved g atoms pairs wanted [] closed = (tt {0}, tt {0})
closed_parts resolved g atoms pairs wanted (step ∷ steps) closed =
    by (is_on_way wanted (on_way wanted steps) step) closed.0 (closed_parts resolved g atoms pairs wanted steps closed.1)
  where
    by : (on : Bool) → HasAhead resolved g atoms pairs step → IsClosed resolved g atoms pairs (on_way wanted steps) × IsClosed resolved g atoms pairs (off_way wanted steps) →
        IsClosed resolved g atoms pairs (cond on (step ∷ on_way wanted steps) (on_way wanted steps)) × IsClosed resolved g atoms pairs (cond on (off_way wanted steps) (step ∷ off_way wanted steps))
    by true one rest = ((one, rest.0), rest.1)
    by false one rest = (rest.0, (one, rest.1))

-- ---- paths

-- a path goes from no variable but its first and those that it binds
path_apart : (ways : List Step) (at var : ℕ) → is_path at ways ≡ true → (at == var) ≡ false → is_bound_in ways var ≡ false → list_any (goes_from var) ways ≡ false
path_apart [] at var path apart none = refl
path_apart (step ∷ ways) at var path apart none =
    let parts = and_parts (goes_from at step) _ path in
    by (bound_by step == var) refl none (goes_apart step parts.0) (path_apart ways (bound_by step) var parts.1)
  where
    goes_apart : (step : Step) → goes_from at step ≡ true → goes_from var step ≡ false
    goes_apart (Along edge node forward) goes = ap (λ v. v == var) (eqb-true node at goes) ∙ apart
    goes_apart (End edge node source) goes = ap (λ v. v == var) (eqb-true edge at goes) ∙ apart

    by : (b : Bool) → (bound_by step == var) ≡ b → (b || is_bound_in ways var) ≡ false → goes_from var step ≡ false →
        ((bound_by step == var) ≡ false → is_bound_in ways var ≡ false → list_any (goes_from var) ways ≡ false) → (goes_from var step || list_any (goes_from var) ways) ≡ false
    by true is h goes rest = absurd (true≢false h)
    by false is h goes rest = ap (λ t. t || list_any (goes_from var) ways) goes ∙ rest is h

one_of_both : (n : ℕ) (a b c : Bool) → (a ≡ true → (c ≡ true) × (b ≡ false)) → cond a n 0 + cond b n 0 ≤ cond (c || b) n 0
one_of_both n true true c give = absurd (true≢false (give refl).1)
one_of_both n true false true give = omega arith
one_of_both n true false false give = absurd (true≢false (sym (give refl).0))
one_of_both n false true true give = omega arith
one_of_both n false false true give = omega arith
one_of_both n false true false give = omega arith
one_of_both n false false false give = omega arith

sum_both : (f h all : Stand → ℕ) → ((stand : Stand) → f stand + h stand ≤ all stand) → (pairs : List Stand) → sum_by f pairs + sum_by h pairs ≤ sum_by all pairs
sum_both f h all each [] = omega arith
sum_both f h all each (stand ∷ pairs) =
    let rest = sum_both f h all each pairs in
    let own = each stand in
    let one = sum_by-cons f stand pairs in
    let two = sum_by-cons h stand pairs in
    let three = sum_by-cons all stand pairs in
    omega (arith, rest, own, one, two, three)

module _ (g : Graph) (count : ℕ) where
  -- what is counted of a pair from which some step goes
  abbrev from_most : List Step → Stand → ℕ
  from_most ways stand = cond (list_any (goes_from stand.var) ways) (hop_most g count stand) 0

  hops_from : (pairs : List Stand) (ways : List Step) (at : ℕ) → is_path at ways ≡ true → is_bound_in ways at ≡ false → IsOnce ways → hops_most g count ways pairs ≤ sum_by (from_most ways) pairs
  hops_from pairs [] at path none once = omega arith
  hops_from pairs (Along edge node forward ∷ ways) at path none once =
      let parts = and_parts (node == at) _ path in
      let same : node ≡ at = eqb-true node at parts.0 in
      let free = or_parts (edge == at) (is_bound_in ways at) none in
      let rest = hops_from pairs ways edge parts.1 once.0 once.1 in
      let apart : list_any (goes_from node) ways ≡ false = path_apart ways edge node parts.1 (ap (λ v. edge == v) same ∙ free.0) (ap (is_bound_in ways) same ∙ free.1) in
      let both = sum_both (λ (stand : Stand). cond (stand.var == node) (hop_most g count stand) 0) (from_most ways) (from_most (Along edge node forward ∷ ways)) (λ stand. each stand apart) pairs in
      omega (arith, rest, both)
    where
      each : (stand : Stand) → list_any (goes_from node) ways ≡ false →
          cond (stand.var == node) (hop_most g count stand) 0 + from_most ways stand ≤ from_most (Along edge node forward ∷ ways) stand
      each stand apart =
          one_of_both (hop_most g count stand) (stand.var == node) (list_any (goes_from stand.var) ways) (node == stand.var)
          (λ is. let same : stand.var ≡ node = eqb-true stand.var node is in (eq-eqb node stand.var (sym same), ap (λ v. list_any (goes_from v) ways) same ∙ apart))
  hops_from pairs (End edge node source ∷ ways) at path none once =
      let parts = and_parts (edge == at) _ path in
      let rest = hops_from pairs ways node parts.1 once.0 once.1 in
      let both = sum_both (λ (stand : Stand). 0) (from_most ways) (from_most (End edge node source ∷ ways))
      (λ stand. one_of_both (hop_most g count stand) false (list_any (goes_from stand.var) ways) (edge == stand.var) (λ is. absurd (true≢false (sym is)))) pairs in
      omega (arith, rest, both)

-- along a path over the edges of each pair it is gone once
pub hops_add : (g : Graph) (count : ℕ) (pattern : Pattern) (var : ℕ) (steps : List Step) (wanted : List ℕ) (pairs : List Stand) → is_valid_pattern pattern ≡ true → is_plan pattern var steps ≡ true →
    is_path var (on_way wanted steps) ≡ true → hops_most g count (on_way wanted steps) pairs ≤ sum_by (hop_most g count) pairs
hops_add g count pattern var steps wanted pairs valid plans path =
    let once = steps_once pattern valid steps (known_alone var) (size_alone pattern valid var) (steps_of pattern valid var steps plans) in
    let none = start_once pattern valid var steps plans in
    let ways : List Step = on_way wanted steps in
    let first = hops_from g count pairs ways var path (none_parts wanted var steps none).0 (once_parts wanted steps once).0 in
    let less = sum_both (λ (stand : Stand). 0) (from_most g count ways) (hop_most g count)
    (λ stand. one_of_both (hop_most g count stand) false (list_any (goes_from stand.var) ways) true (λ is. absurd (true≢false (sym is)))) pairs in
    omega (arith, first, less)

-- ---- the way to one variable

one_of_two : (var other v : ℕ) (wanted : List ℕ) → list_all (λ w. w == var || w == other) wanted ≡ true → is_wanted wanted v ≡ true → (v ≡ var) ⊎ (v ≡ other)
one_of_two var other v [] two has = absurd (true≢false (sym has))
one_of_two var other v (w ∷ wanted) two has =
    let parts = and_parts (w == var || w == other) _ two in
    ⊎_elim
    (λ here. let same : w ≡ v = eqb-true w v here in
    ⊎_elim (λ h. inl (sym same ∙ eqb-true w var h)) (λ h. inr (sym same ∙ eqb-true w other h)) (or_cases (w == var) (w == other) parts.0))
    (one_of_two var other v wanted parts.1) (or_cases (w == v) _ has)

-- a path with steps has one from its first variable
path_goes : (ways : List Step) (at other : ℕ) → is_path at ways ≡ true → is_bound_in ways other ≡ true → list_any (goes_from at) ways ≡ true
path_goes [] at other path some = absurd (true≢false (sym some))
path_goes (step ∷ ways) at other path some = or_left _ _ (and_parts (goes_from at step) _ path).0

step_goes : (atoms : List Atom) (known : List Bool) (step : Step) → is_step atoms known step ≡ true → (at : ℕ) × (is_known known at ≡ true) × (goes_from at step ≡ true)
step_goes atoms known (Along edge node forward) is = let goes = eq-eqb node node refl in (node, step_from atoms known (Along edge node forward) node is goes, goes)
step_goes atoms known (End edge node source) is = let goes = eq-eqb edge edge refl in (edge, step_from atoms known (End edge node source) edge is goes, goes)

-- steps are a path from a known variable to one that they bind
record IsLed (known : List Bool) (other : ℕ) (ways : List Step) : Type 0 where
  from : ℕ
  here : is_known known from ≡ true
  path : is_path from ways ≡ true
  end : end_var from ways ≡ other
  bound : is_bound_in ways other ≡ true

-- a step before them
led_more : (known : List Bool) (other : ℕ) (step : Step) (ways : List Step) → (at : ℕ) × (is_known known at ≡ true) × (goes_from at step ≡ true) → is_path (bound_by step) ways ≡ true →
    end_var (bound_by step) ways ≡ other → (bound_by step ≡ other) ⊎ (is_bound_in ways other ≡ true) → IsLed known other (step ∷ ways)
led_more known other step ways from path end bound = record {
  from = from.0;
  here = from.1;
  path = and_from _ _ from.2 path;
  end = end;
  bound = ⊎_elim (λ same. or_left _ _ (eq-eqb (bound_by step) other same)) (λ later. or_right _ _ later) bound;
}

module _ (pattern : Pattern) (valid : is_valid_pattern pattern ≡ true) (var other : ℕ) (wanted : List ℕ) (two : list_all (λ v. v == var || v == other) wanted ≡ true) where
  module _ (step : Step) (plan : List Step) (known : List Bool) (from : (at : ℕ) × (is_known known at ≡ true) × (goes_from at step ≡ true)) (new : is_known known (bound_by step) ≡ false)
      (start : is_known known var ≡ true) (none : is_bound_in (on_way wanted plan) (bound_by step) ≡ false) where
    abbrev ways : List Step
    ways = on_way wanted plan

    -- what a step binds is the first variable on no account
    is_other : is_wanted wanted (bound_by step) ≡ true → bound_by step ≡ other
    is_other want = ⊎_elim (λ same. absurd (true≢false (sym start ∙ ap (is_known known) (sym same) ∙ new))) (λ same. same) (one_of_two var other (bound_by step) wanted two want)

    on_none : is_on_way wanted ways step ≡ true → ways ≡ [] → IsLed known other (step ∷ ways)
    on_none on empty =
        let same : bound_by step ≡ other = ⊎_elim is_other (λ goes. absurd (true≢false (sym goes ∙ ap (list_any (goes_from (bound_by step))) empty)))
        (or_cases (is_wanted wanted (bound_by step)) (list_any (goes_from (bound_by step)) ways) on) in
        led_more known other step ways from (ap (is_path (bound_by step)) empty) (ap (end_var (bound_by step)) empty ∙ same) (inl same)

    on_some : is_on_way wanted ways step ≡ true → IsLed (and_known known (bound_by step)) other ways → IsLed known other (step ∷ ways)
    on_some on led = ⊎_elim joined apart (one_or_other led.from (bound_by step))
      where
        joined : led.from ≡ bound_by step → IsLed known other (step ∷ ways)
        joined same = led_more known other step ways from (subst (λ v. is_path v ways ≡ true) same led.path) (subst (λ v. end_var v ways ≡ other) same led.end) (inr led.bound)

        apart : led.from ≢ bound_by step → IsLed known other (step ∷ ways)
        apart differ = absurd
            (⊎_elim (λ want. true≢false (sym led.bound ∙ ap (is_bound_in ways) (sym (is_other want)) ∙ none))
            (λ goes. true≢false (sym goes ∙ path_apart ways led.from (bound_by step) led.path (ne_eqb led.from (bound_by step) differ) none))
            (or_cases (is_wanted wanted (bound_by step)) (list_any (goes_from (bound_by step)) ways) on))

    off_some : is_on_way wanted ways step ≡ false → IsLed (and_known known (bound_by step)) other ways → IsLed known other ways
    off_some off led = record {
      from = led.from;
      here = ⊎_elim
          (λ same. absurd (true≢false (sym (or_right (is_wanted wanted (bound_by step)) _ (path_goes ways (bound_by step) other (subst (λ v. is_path v ways ≡ true) same led.path) led.bound)) ∙ off)))
          (λ differ. sym (known_other known (bound_by step) led.from differ) ∙ led.here) (one_or_other led.from (bound_by step));
      path = led.path;
      end = led.end;
      bound = led.bound;
    }

    led_by : (on : Bool) → is_on_way wanted ways step ≡ on → (ways ≡ []) ⊎ IsLed (and_known known (bound_by step)) other ways →
        (cond on (step ∷ ways) ways ≡ []) ⊎ IsLed known other (cond on (step ∷ ways) ways)
    led_by true is (inl empty) = inr (on_none is empty)
    led_by true is (inr led) = inr (on_some is led)
    led_by false is (inl empty) = inl empty
    led_by false is (inr led) = inr (off_some is led)

  ways_led : (plan : List Step) (known : List Bool) → length known ≡ 20 → are_steps pattern.atoms known plan ≡ true → is_known known var ≡ true →
      (on_way wanted plan ≡ []) ⊎ IsLed known other (on_way wanted plan)
  ways_led [] known size steps start = inl refl
  ways_led (step ∷ plan) known size steps start =
      let parts = and_parts (is_step pattern.atoms known step) _ steps in
      let bounds = step_bounds pattern pattern.atoms known step (bound_by step) valid refl refl parts.0 in
      let now : is_known (and_known known (bound_by step)) (bound_by step) ≡ true = known_now known (bound_by step) (omega (arith, size, bounds.1)) in
      let none = never_again pattern valid plan (and_known known (bound_by step)) (bound_by step) parts.1 now in
      let rest = ways_led plan (and_known known (bound_by step)) (length-set known (bound_by step) true ∙ size) parts.1 (known_still known (bound_by step) var start) in
      led_by step plan known (step_goes pattern.atoms known step parts.0) bounds.2 start (none_parts wanted (bound_by step) plan none).0
      (is_on_way wanted (on_way wanted plan) step) refl rest

  -- and so are the steps of a plan on the way, where there are any
  way_led : (plan : List Step) → is_plan pattern var plan ≡ true → (on_way wanted plan ≡ []) ⊎ IsLed (known_alone var) other (on_way wanted plan)
  way_led [] plans = inl refl
  way_led (step ∷ plan) plans =
      ways_led (step ∷ plan) (known_alone var) (size_alone pattern valid var) (steps_of pattern valid var (step ∷ plan) plans) (start_there pattern valid var step plan plans).1

-- what is known after steps was known before, or is bound by one
known_by : (plan : List Step) (known : List Bool) (var : ℕ) → is_known (known_after known plan) var ≡ true → (is_known known var ≡ true) ⊎ (is_bound_in plan var ≡ true)
known_by [] known var is = inl is
known_by (step ∷ plan) known var is =
    ⊎_elim
    (λ before. ⊎_elim (λ same. inr (or_left _ _ (eq-eqb (bound_by step) var (sym same)))) (λ apart. inl (sym (known_other known (bound_by step) var apart) ∙ before)) (one_or_other var (bound_by step)))
    (λ later. inr (or_right _ _ later)) (known_by plan (and_known known (bound_by step)) var is)

-- the step that binds a wanted variable is on the way
wanted_on : (wanted : List ℕ) (var : ℕ) → is_wanted wanted var ≡ true → (plan : List Step) → is_bound_in plan var ≡ true → is_bound_in (on_way wanted plan) var ≡ true
wanted_on wanted var want [] has = has
wanted_on wanted var want (step ∷ plan) has = by (is_on_way wanted (on_way wanted plan) step) refl (wanted_on wanted var want plan) (or_cases (bound_by step == var) _ has)
  where
    by : (on : Bool) → is_on_way wanted (on_way wanted plan) step ≡ on → (is_bound_in plan var ≡ true → is_bound_in (on_way wanted plan) var ≡ true) →
        ((bound_by step == var) ≡ true) ⊎ (is_bound_in plan var ≡ true) → is_bound_in (cond on (step ∷ on_way wanted plan) (on_way wanted plan)) var ≡ true
    by true is rest (inl here) = or_left _ _ here
    by true is rest (inr later) = or_right _ _ (rest later)
    by false is rest (inl here) = absurd (true≢false (sym (or_left _ _ (ap (is_wanted wanted) (eqb-true (bound_by step) var here) ∙ want)) ∙ is))
    by false is rest (inr later) = rest later

-- each variable that expressions take is wanted
all_wanted : (wanted : List ℕ) (exprs : List Expr) → ((v : ℕ) → is_wanted (map read_var exprs) v ≡ true → is_wanted wanted v ≡ true) → list_all (λ (expr : Expr). is_wanted wanted (read_var expr)) exprs ≡ true
all_wanted wanted [] within = refl
all_wanted wanted (expr ∷ exprs) within =
    and_from _ _ (within (read_var expr) (or_left _ _ (eq-eqb (read_var expr) (read_var expr) refl))) (all_wanted wanted exprs (λ v has. within v (or_right _ _ has)))

module _ (pattern : Pattern) (valid : is_valid_pattern pattern ≡ true) (var other : ℕ) (steps : List Step) (plans : is_plan pattern var steps ≡ true) (wanted : List ℕ) where
  -- where no step is on the way, a wanted variable is the first
  at_start : on_way wanted steps ≡ [] → (v : ℕ) → is_wanted wanted v ≡ true → v < length pattern.edge_vars → v ≡ var
  at_start empty v want below =
      let known = covers_at pattern.edge_vars (known_after (known_alone var) steps) v (and_parts (are_steps pattern.atoms (known_alone var) steps) _ plans).1 below in
      ⊎_elim (alone var v) (λ bound. absurd (true≢false (sym (wanted_on wanted v want steps bound) ∙ ap (λ ways. is_bound_in ways v) empty))) (known_by steps (known_alone var) v known)

  none_taken : on_way wanted steps ≡ [] → (exprs : List Expr) → list_all (λ (expr : Expr). is_wanted wanted (read_var expr)) exprs ≡ true →
      list_all (λ (expr : Expr). nat_lt (read_var expr) (length pattern.edge_vars)) exprs ≡ true →
      list_all (λ (expr : Expr). read_var expr == var || read_var expr == end_var var (on_way wanted steps)) exprs ≡ true
  none_taken empty [] want reads = refl
  none_taken empty (expr ∷ exprs) want reads =
      let one = and_parts (is_wanted wanted (read_var expr)) _ want in
      let both = and_parts (nat_lt (read_var expr) (length pattern.edge_vars)) _ reads in
      and_from _ _ (or_left _ _ (eq-eqb (read_var expr) var (at_start empty (read_var expr) one.0 (ltb-true (read_var expr) (length pattern.edge_vars) both.0)))) (none_taken empty exprs one.1 both.1)

  two_taken : end_var var (on_way wanted steps) ≡ other → (exprs : List Expr) → list_all (λ v. v == var || v == other) (map read_var exprs) ≡ true →
      list_all (λ (expr : Expr). read_var expr == var || read_var expr == end_var var (on_way wanted steps)) exprs ≡ true
  two_taken end [] two = refl
  two_taken end (expr ∷ exprs) two =
      let parts = and_parts (read_var expr == var || read_var expr == other) _ two in
      and_from _ _ (ap (λ v. read_var expr == var || read_var expr == v) end ∙ parts.0) (two_taken end exprs parts.1)

-- where expressions take one variable beside the first, the steps on the way to what they take are a path to it
pub way_is_path : (pattern : Pattern) (var other : ℕ) (steps : List Step) (exprs : List Expr) → is_valid_pattern pattern ≡ true → is_plan pattern var steps ≡ true →
    list_all (λ v. v == var || v == other) (map read_var exprs) ≡ true → list_all (λ (expr : Expr). nat_lt (read_var expr) (length pattern.edge_vars)) exprs ≡ true →
    leads_to_one var (on_way (map read_var exprs) steps) exprs ≡ true
way_is_path pattern var other steps exprs valid plans two reads =
    ⊎_elim
    (λ empty. and_from _ _ (and_from _ _ (ap (is_path var) empty) (ap not none)) (none_taken pattern valid var other steps plans (map read_var exprs) empty exprs (all_wanted (map read_var exprs) exprs (λ v has. has)) reads))
    (λ led. let same : led.from ≡ var = alone var led.from led.here in
    and_from _ _ (and_from _ _ (subst (λ v. is_path v (on_way (map read_var exprs) steps) ≡ true) same led.path) (ap not none))
    (two_taken pattern valid var other steps plans (map read_var exprs) (subst (λ v. end_var v (on_way (map read_var exprs) steps) ≡ other) same led.end) exprs two))
    (way_led pattern valid var other (map read_var exprs) two steps plans)
  where
    none : is_bound_in (on_way (map read_var exprs) steps) var ≡ false
    none = (none_parts (map read_var exprs) var steps (start_once pattern valid var steps plans)).0
