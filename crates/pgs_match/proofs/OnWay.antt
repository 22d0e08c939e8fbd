-- Where the variables of a pattern hang on one another as a tree, the routes to some of them come to what the completions of all give
-- these.
use Rattle.std.proofs.Common.{◌≡◌, ◌⊎◌, inl, inr, ℕ, ◌<◌, Bool, true, false, ◌&&◌, ◌||◌, ◌==◌, cond, not, ⊎_elim, List, [], ◌∷◌, length, slice_get, replicate, Option, Some, None, refl, sym, ◌∙◌, ap, subst, true≢false, arith}
use Rattle.std.specs.Prelude.{option_and_then}
use Rattle.std.specs.Option.{option_map_or}
use Rattle.std.specs.List.{list_any, list_all}
use Rattle.std.proofs.lemmas.Bool.{and_parts, and_from, or_left, eqb-true, eq-eqb, not-true}
use Rattle.std.proofs.lemmas.List.{length-set}
use Rattle.pgs_base.specs.declared.element.EdgeId.{EdgeId}
use Rattle.pgs_base.specs.declared.element.Elem.{Elem}
use Rattle.pgs_base.specs.declared.element.Elem.TheVariants.{Node, Edge}
use Rattle.pgs_base.specs.declared.row.EdgeRow.{EdgeRow}
use Rattle.pgs_base.specs.Graph.{Graph, edge_at, is_graph}
use Rattle.pgs_syntax.specs.declared.pattern.Atom.{Atom}
use Rattle.pgs_syntax.specs.declared.pattern.Pattern.{Pattern}
use Rattle.pgs_syntax.specs.declared.resolved.Resolved.{Resolved}
use Rattle.pgs_syntax.specs.Matches.{holds, is_match, matches}
use Rattle.pgs_syntax.specs.Valid.{is_valid_pattern}
use Rattle.pgs_syntax.proofs.Assigned.{match_found}
use Rattle.pgs_syntax.proofs.Halves.{any_flat_map}
use Rattle.pgs_match.specs.declared.step.Step.{Step}
use Rattle.pgs_match.specs.declared.step.Step.TheVariants.{Along, End}
use Rattle.pgs_match.specs.declared.bindings.Bound.{Bound}
use Rattle.pgs_match.specs.declared.bindings.Bound.TheVariants as bounds
use Rattle.pgs_match.specs.Bounds.{elem_of, bound_at, with_bound, nothing_bound, end_at, stands_at}
use Rattle.pgs_match.specs.Branches.{goes_from, is_between, is_tree, can_be_given}
use Rattle.pgs_match.specs.Plans.{bound_by, is_known, and_known, known_alone, known_after, has_end, is_step, are_steps, covers, completes, is_plan}
use Rattle.pgs_match.specs.Routes.{is_on_way, on_way, off_way, whole, routes}
use Rattle.pgs_match.specs.Search.{edges_along, completions}
use Rattle.pgs_match.specs.Tests.{admitted_node, admitted_edge, admitted}
use Rattle.pgs_match.proofs.Agreeing.{Agrees, IsFull, edge_form, node_form}
use Rattle.pgs_match.proofs.Along.{one_found}
use Rattle.pgs_match.proofs.Branching.{any_filter_map, any_of_one, has_place, steps_placed, given_by_match}
use Rattle.pgs_match.proofs.Completed.{any_option, completes_more, along_facts, end_facts, step_facts, agrees_more, placed, edge_of_match, node_of_match}
use Rattle.pgs_match.proofs.Hanging.{any_at, passed_some, second_of, between_cases, admitted_row, admitted_is_node, IsMet, all_met, tree_has}
use Rattle.pgs_match.proofs.Known.{covers_at, known_now, known_still, step_bounds, valid_most}
use Rattle.pgs_match.proofs.Listed.{any_along}
use Rattle.pgs_match.proofs.Nearby.{listed_from, bound_is}
use Rattle.pgs_match.proofs.Standing.{IsGood, IsState, admitted_node_good, admitted_edge_good, is_bound, state_more, kept_more, bound_now, bound_other, known_other, one_or_other}
use Rattle.pgs_match.proofs.Started.{same_truth, nothing_at, none_known, admitted_good, admitted_of_match, state_alone, started_are_matches}
use Rattle.pgs_match.proofs.Walked.{stands}

-- whether a variable is wanted
abbrev pub is_wanted : List ℕ → ℕ → Bool
is_wanted wanted var = list_any (λ v. v == var) wanted

-- ---- the steps on the way

-- the variable that a step goes from is known, and what it binds isn't
pub step_from : (atoms : List Atom) (known : List Bool) (step : Step) (var : ℕ) → is_step atoms known step ≡ true → goes_from var step ≡ true → is_known known var ≡ true
step_from atoms known (Along edge node forward) var is from =
    subst (λ v. is_known known v ≡ true) (eqb-true node var from) (and_parts (is_known known node) _ (and_parts (is_known known node && not (is_known known edge)) _ is).0).0
step_from atoms known (End edge node source) var is from =
    subst (λ v. is_known known v ≡ true) (eqb-true edge var from) (and_parts (is_known known edge) _ (and_parts (is_known known edge && not (is_known known node)) _ is).0).0

pub step_new : (atoms : List Atom) (known : List Bool) (step : Step) → is_step atoms known step ≡ true → is_known known (bound_by step) ≡ false
step_new atoms known (Along edge node forward) is = not-true _ (and_parts (is_known known node) _ (and_parts (is_known known node && not (is_known known edge)) _ is).0).1
step_new atoms known (End edge node source) is = not-true _ (and_parts (is_known known edge) _ (and_parts (is_known known edge && not (is_known known node)) _ is).0).1

-- a step is one too where fewer variables are known, if that from which it goes is
step_fewer : (atoms : List Atom) (known few : List Bool) (step : Step) → is_step atoms known step ≡ true → ((var : ℕ) → goes_from var step ≡ true → is_known few var ≡ true) →
    is_known few (bound_by step) ≡ false → is_step atoms few step ≡ true
step_fewer atoms known few (Along edge node forward) is from new =
    and_from _ _ (and_from _ _ (from node (eq-eqb node node refl)) (ap not new)) (and_parts (is_known known node && not (is_known known edge)) _ is).1
step_fewer atoms known few (End edge node source) is from new =
    and_from _ _ (and_from _ _ (from edge (eq-eqb edge edge refl)) (ap not new)) (and_parts (is_known known edge && not (is_known known node)) _ is).1

true_or_false : (b : Bool) → (b ≡ true) ⊎ (b ≡ false)
true_or_false true = inl refl
true_or_false false = inr refl

neither : (a b : Bool) → (a || b) ≡ false → (a ≡ false) × (b ≡ false)
neither true b h = absurd (true≢false h)
neither false b h = (refl, h)

module _ (atoms : List Atom) (wanted : List ℕ) where
  -- what is known on the way, of all that is known: no step on the way goes from another variable
  pub record IsPart (plan : List Step) (known few : List Bool) : Type 0 where
    pub size : length few ≡ 20
    pub within : (var : ℕ) → is_known few var ≡ true → is_known known var ≡ true
    pub apart : (var : ℕ) → is_known known var ≡ true → is_known few var ≡ false → list_any (goes_from var) (on_way wanted plan) ≡ false
    pub has_wanted : (var : ℕ) → is_wanted wanted var ≡ true → is_known known var ≡ true → is_known few var ≡ true

  -- the part after a step on the way, and after one off it
  module _ (step : Step) (plan : List Step) (known few : List Bool) (size : length known ≡ 20) (is : is_step atoms known step ≡ true) (below : bound_by step < 20) where
    part_on : is_on_way wanted (on_way wanted plan) step ≡ true → IsPart (step ∷ plan) known few → IsPart plan (and_known known (bound_by step)) (and_known few (bound_by step))
    part_on on part = record {
      size = length-set few (bound_by step) true ∙ part.size;
      within = λ var h. ⊎_elim
          (λ same. ap (is_known (and_known known (bound_by step))) same ∙ known_now known (bound_by step) (omega (arith, size, below)))
          (λ other. known_other known (bound_by step) var other ∙ part.within var (sym (known_other few (bound_by step) var other) ∙ h)) (one_or_other var (bound_by step));
      apart = λ var h none. ⊎_elim
          (λ same. absurd (true≢false (sym (known_now few (bound_by step) (omega (arith, part.size, below))) ∙ ap (is_known (and_known few (bound_by step))) (sym same) ∙ none)))
          (λ other. (neither (goes_from var step) _ (sym (ap (list_any (goes_from var)) way) ∙ part.apart var (sym (known_other known (bound_by step) var other) ∙ h) (sym (known_other few (bound_by step) var other) ∙ none))).1) (one_or_other var (bound_by step));
      has_wanted = λ var want h. ⊎_elim
          (λ same. ap (is_known (and_known few (bound_by step))) same ∙ known_now few (bound_by step) (omega (arith, part.size, below)))
          (λ other. known_other few (bound_by step) var other ∙ part.has_wanted var want (sym (known_other known (bound_by step) var other) ∙ h)) (one_or_other var (bound_by step));
    }
      where
        way : on_way wanted (step ∷ plan) ≡ step ∷ on_way wanted plan
        way = ap (λ b. cond b (step ∷ on_way wanted plan) (on_way wanted plan)) on

    part_off : is_on_way wanted (on_way wanted plan) step ≡ false → IsPart (step ∷ plan) known few → IsPart plan (and_known known (bound_by step)) few
    part_off off part =
        let none = neither (is_wanted wanted (bound_by step)) _ off in
        record {
          size = part.size;
          within = λ var h. known_still known (bound_by step) var (part.within var h);
          apart = λ var h unknown. ⊎_elim
              (λ same. ap (λ v. list_any (goes_from v) (on_way wanted plan)) same ∙ none.1)
              (λ other. sym (ap (list_any (goes_from var)) way) ∙ part.apart var (sym (known_other known (bound_by step) var other) ∙ h) unknown) (one_or_other var (bound_by step));
          has_wanted = λ var want h. ⊎_elim
              (λ same. absurd (true≢false (sym want ∙ ap (is_wanted wanted) same ∙ none.0)))
              (λ other. part.has_wanted var want (sym (known_other known (bound_by step) var other) ∙ h)) (one_or_other var (bound_by step));
        }
      where
        way : on_way wanted (step ∷ plan) ≡ on_way wanted plan
        way = ap (λ b. cond b (step ∷ on_way wanted plan) (on_way wanted plan)) off

    -- a step on the way is one where the part is known
    step_on : is_on_way wanted (on_way wanted plan) step ≡ true → IsPart (step ∷ plan) known few → is_step atoms few step ≡ true
    step_on on part = step_fewer atoms known few step is from new
      where
        way : on_way wanted (step ∷ plan) ≡ step ∷ on_way wanted plan
        way = ap (λ b. cond b (step ∷ on_way wanted plan) (on_way wanted plan)) on

        from : (var : ℕ) → goes_from var step ≡ true → is_known few var ≡ true
        from var goes = ⊎_elim (λ h. h)
            (λ h. absurd (true≢false (sym (or_left _ _ goes) ∙ sym (ap (list_any (goes_from var)) way) ∙ part.apart var (step_from atoms known step var is goes) h))) (true_or_false (is_known few var))

        new : is_known few (bound_by step) ≡ false
        new = ⊎_elim (λ h. absurd (true≢false (sym (part.within (bound_by step) h) ∙ step_new atoms known step is))) (λ h. h) (true_or_false (is_known few (bound_by step)))

-- ---- from a route to a completion

module _ (resolved : Resolved) (g : Graph) (graph : is_graph g ≡ true) (pattern : Pattern) (valid : is_valid_pattern pattern ≡ true) (wanted : List ℕ) where
  abbrev pub AllGiven : List Step → List (Option Bound) → Type 0
  AllGiven off b = (var : ℕ) (x : Bound) → bound_at b var ≡ Some x → can_be_given resolved g pattern.atoms off var x ≡ true

  abbrev pub AreMet : List Step → List (Option Bound) → Type 0
  AreMet plan b = (edge node : ℕ) (source : Bool) → list_any (has_end edge node source) pattern.atoms ≡ true → list_any (is_between edge node source) plan ≡ false → IsMet b edge node source

  -- what is bound on the way is bound so
  abbrev pub IsWithin : List (Option Bound) → List (Option Bound) → Type 0
  IsWithin small b = (var : ℕ) (x : Bound) → bound_at small var ≡ Some x → bound_at b var ≡ Some x

  -- the wanted variables that are known are bound on the way
  abbrev pub HasWanted : List Bool → List (Option Bound) → Type 0
  HasWanted known small = (var : ℕ) → is_wanted wanted var ≡ true → is_known known var ≡ true → (x : Bound) × (bound_at small var ≡ Some x)

  -- one variable more
  module _ (known : List Bool) (b : List (Option Bound)) (state : IsState resolved g pattern known b) (var : ℕ) (x : Bound) (unknown : is_known known var ≡ false) (below : var < 20) where
    kept : (other : ℕ) (y : Bound) → bound_at b other ≡ Some y → bound_at (with_bound b var x) other ≡ Some y
    kept = kept_more resolved g pattern known b state var x unknown

    given_more : (off : List Step) → AllGiven off b → can_be_given resolved g pattern.atoms off var x ≡ true → AllGiven off (with_bound b var x)
    given_more off all here other y at =
        ⊎_elim
        (λ is. let same : x ≡ y = bound_is b var x y (subst (λ v. bound_at (with_bound b var x) v ≡ Some y) is at) in
        subst (λ v. can_be_given resolved g pattern.atoms off v y ≡ true) (sym is) (subst (λ z. can_be_given resolved g pattern.atoms off var z ≡ true) same here))
        (λ apart. all other y (sym (bound_other b var other x apart) ∙ at)) (one_or_other other var)

    met_more : (step : Step) (plan : List Step) (of end : ℕ) (first : Bool) → ((edge node : ℕ) (source : Bool) → is_between edge node source step ≡ true → (edge ≡ of) × (node ≡ end) × (source ≡ first)) →
        AreMet (step ∷ plan) b → IsMet (with_bound b var x) of end first → AreMet plan (with_bound b var x)
    met_more step plan of end first is_here all here edge node source has none = by (is_between edge node source step) refl
      where
        still : IsMet b edge node source → IsMet (with_bound b var x) edge node source
        still met = (met.0, met.1, met.2, kept edge (bounds.Edge met.0 met.1 met.2) met.3, kept node (bounds.Node (cond source met.1 met.2)) met.4)

        by : (t : Bool) → is_between edge node source step ≡ t → IsMet (with_bound b var x) edge node source
        by true is =
            let same = is_here edge node source is in
            subst (λ e. IsMet (with_bound b var x) e node source) (sym same.0) (subst (λ n. IsMet (with_bound b var x) of n source) (sym same.1) (subst (IsMet (with_bound b var x) of end) (sym same.2) here))
        by false is = still (all edge node source has (ap (λ t. t || list_any (is_between edge node source) plan) is ∙ none))

    -- bound on the way too
    within_on : (small : List (Option Bound)) → length small ≡ 20 → IsWithin small b → IsWithin (with_bound small var x) (with_bound b var x)
    within_on small size all other y at =
        ⊎_elim
        (λ is. let same : x ≡ y = bound_is small var x y (subst (λ v. bound_at (with_bound small var x) v ≡ Some y) is at) in
        ap (bound_at (with_bound b var x)) is ∙ bound_now b var x (omega (arith, state.size, below)) ∙ ap (λ z. Some z) same)
        (λ apart. kept other y (all other y (sym (bound_other small var other x apart) ∙ at))) (one_or_other other var)

    wanted_on : (small : List (Option Bound)) → length small ≡ 20 → HasWanted known small → HasWanted (and_known known var) (with_bound small var x)
    wanted_on small size all other want is_now =
        ⊎_elim
        (λ is. (x, ap (bound_at (with_bound small var x)) is ∙ bound_now small var x (omega (arith, size, below))))
        (λ apart. let found = all other want (sym (known_other known var other apart) ∙ is_now) in (found.0, bound_other small var other x apart ∙ found.1)) (one_or_other other var)

    -- bound off the way
    within_off : (small : List (Option Bound)) → IsWithin small b → IsWithin small (with_bound b var x)
    within_off small all other y at = kept other y (all other y at)

    wanted_off : (small : List (Option Bound)) → is_wanted wanted var ≡ false → HasWanted known small → HasWanted (and_known known var) small
    wanted_off small not_wanted all other want is_now =
        ⊎_elim (λ is. absurd (true≢false (sym want ∙ ap (is_wanted wanted) is ∙ not_wanted)))
        (λ apart. all other want (sym (known_other known var other apart) ∙ is_now)) (one_or_other other var)

  -- ---- what a step comes to

  -- an edge that is listed at the bound node and admitted
  along_met : (edge node : ℕ) (forward : Bool) (plan : List Step) (known : List Bool) (b : List (Option Bound)) → completes pattern known (Along edge node forward ∷ plan) ≡ true → IsState resolved g pattern known b →
      (y : Bound) → bound_at b node ≡ Some y → (i : ℕ) (id : EdgeId) (x : Bound) → slice_get (edges_along g forward (Some y)) i ≡ Some id → admitted_edge resolved g pattern.atoms edge id ≡ Some x →
      IsGood resolved g pattern edge x × IsMet (with_bound b edge x) edge node forward
  along_met edge node forward plan known b whole_plan state y at_node i id x at admits =
      let parts = completes_more pattern known (Along edge node forward) plan whole_plan in
      let facts = along_facts resolved g pattern valid known edge node forward parts.0 in
      let step = step_facts resolved g pattern valid known (Along edge node forward) parts.0 in
      let form = node_form resolved g pattern node y facts.3 (state.good node y at_node) in
      let row = admitted_row resolved g pattern.atoms edge id x admits in
      let listed : slice_get (edges_along g forward (Some (bounds.Node form.0))) i ≡ Some id = subst (λ z. slice_get (edges_along g forward (Some z)) i ≡ Some id) form.1 at in
      let end_is : cond forward row.0.source row.0.target ≡ form.0 = listed_from g graph forward form.0 id row.0 i listed row.1 in (
        admitted_edge_good resolved g pattern edge id x facts.2 admits,
        (
          id,
          row.0.source,
          row.0.target,
          bound_now b edge x (omega (arith, state.size, step.0)) ∙ ap (λ z. Some z) row.2,
          kept_more resolved g pattern known b state edge x step.1 node y at_node ∙ ap (λ z. Some z) form.1 ∙ ap (λ n. Some (bounds.Node n)) (sym end_is),
        ),
      )

  end_met : (edge node : ℕ) (source : Bool) (plan : List Step) (known : List Bool) (b : List (Option Bound)) → completes pattern known (End edge node source ∷ plan) ≡ true → IsState resolved g pattern known b →
      (y : Bound) → bound_at b edge ≡ Some y → (x : Bound) → option_and_then (admitted_node resolved g pattern.atoms node) (end_at source (Some y)) ≡ Some x →
      IsGood resolved g pattern node x × IsMet (with_bound b node x) edge node source
  end_met edge node source plan known b whole_plan state y at_edge x admits =
      let parts = completes_more pattern known (End edge node source) plan whole_plan in
      let facts = end_facts resolved g pattern valid known edge node source parts.0 in
      let step = step_facts resolved g pattern valid known (End edge node source) parts.0 in
      let form = edge_form resolved g pattern edge y facts.2 (state.good edge y at_edge) in
      let id = cond source form.1 form.2 in
      let here : admitted_node resolved g pattern.atoms node id ≡ Some x =
      subst (λ z. option_and_then (admitted_node resolved g pattern.atoms node) (end_at source (Some z)) ≡ Some x) form.4 admits in
      let is_node = admitted_is_node resolved g pattern.atoms node id x here in (
        admitted_node_good resolved g pattern node id x facts.3 here,
        (
          form.0,
          form.1,
          form.2,
          kept_more resolved g pattern known b state node x step.1 edge y at_edge ∙ ap (λ z. Some z) form.4,
          bound_now b node x (omega (arith, state.size, step.0)) ∙ ap (λ z. Some z) is_node,
        ),
      )

  -- ---- what is whole

  whole_parts : (off : List Step) (var : ℕ) (o : Option Bound) (x : Bound) → whole resolved g pattern.atoms off var o ≡ Some x → (o ≡ Some x) × (can_be_given resolved g pattern.atoms off var x ≡ true)
  whole_parts off var None x h = cc
  whole_parts off var (Some y) x h = by (can_be_given resolved g pattern.atoms off var y) refl h
    where
      by : (b : Bool) → can_be_given resolved g pattern.atoms off var y ≡ b → cond b (Some y) None ≡ Some x → (Some y ≡ Some x) × (can_be_given resolved g pattern.atoms off var x ≡ true)
      by true is found = (found, subst (λ z. can_be_given resolved g pattern.atoms off var z ≡ true) (let e : y ≡ x = cc in e) is)
      by false is found = cc

  from_bound : (forward : Bool) (o : Option Bound) (i : ℕ) (id : EdgeId) → slice_get (edges_along g forward o) i ≡ Some id → (y : Bound) × (o ≡ Some y)
  from_bound forward None i id h = let e : None ≡ Some id = h in cc
  from_bound forward (Some y) i id h = (y, refl)

  from_edge : (node : ℕ) (source : Bool) (o : Option Bound) (x : Bound) → option_and_then (admitted_node resolved g pattern.atoms node) (end_at source o) ≡ Some x → (y : Bound) × (o ≡ Some y)
  from_edge node source None x h = let e : None ≡ Some x = h in cc
  from_edge node source (Some y) x h = (y, refl)

  module _ (all_off : List Step) (test : List (Option Bound) → Bool)
      (mono : (small b : List (Option Bound)) → IsWithin small b → ((var : ℕ) → is_wanted wanted var ≡ true → var < length pattern.edge_vars → (x : Bound) × (bound_at small var ≡ Some x)) → test small ≡ true → test b ≡ true) where
    -- where a route has come as far as a plan
    pub record IsAlong (plan : List Step) (known : List Bool) (b small : List (Option Bound)) : Type 0 where
      pub completes_it : completes pattern known plan ≡ true
      pub state : IsState resolved g pattern known b
      pub met : AreMet plan b
      pub given : AllGiven (off_way wanted plan) b
      pub sub : (var : ℕ) (x : Bound) → can_be_given resolved g pattern.atoms all_off var x ≡ true → can_be_given resolved g pattern.atoms (off_way wanted plan) var x ≡ true
      pub size : length small ≡ 20
      pub within : IsWithin small b
      pub has : HasWanted known small

    abbrev pub IsLed : List Step → Type 0
    IsLed plan = (known : List Bool) (b small : List (Option Bound)) → IsAlong plan known b small → list_any test (routes resolved g pattern.atoms all_off (on_way wanted plan) small) ≡ true →
        list_any test (completions resolved g pattern.atoms plan b) ≡ true

    -- one step further on the way, and off it
    module _ (step : Step) (plan : List Step) (known : List Bool) (b small : List (Option Bound)) (here : IsAlong (step ∷ plan) known b small) (x : Bound) where
      facts : (is_step pattern.atoms known step ≡ true) × (completes pattern (and_known known (bound_by step)) plan ≡ true)
      facts = completes_more pattern known step plan here.completes_it

      bounds_of : (bound_by step < 20) × (is_known known (bound_by step) ≡ false)
      bounds_of = step_facts resolved g pattern valid known step facts.0

      along_on : is_on_way wanted (on_way wanted plan) step ≡ true → IsGood resolved g pattern (bound_by step) x → can_be_given resolved g pattern.atoms all_off (bound_by step) x ≡ true → AreMet plan (with_bound b (bound_by step) x) →
          IsAlong plan (and_known known (bound_by step)) (with_bound b (bound_by step) x) (with_bound small (bound_by step) x)
      along_on on good whole_here met_here =
          let same : off_way wanted (step ∷ plan) ≡ off_way wanted plan = ap (λ t. cond t (off_way wanted plan) (step ∷ off_way wanted plan)) on in
          let sub : (var : ℕ) (y : Bound) → can_be_given resolved g pattern.atoms all_off var y ≡ true → can_be_given resolved g pattern.atoms (off_way wanted plan) var y ≡ true =
          λ var y h. sym (ap (λ off. can_be_given resolved g pattern.atoms off var y) same) ∙ here.sub var y h in
          record {
            completes_it = facts.1;
            state = state_more resolved g pattern known b here.state (bound_by step) x bounds_of.0 good;
            met = met_here;
            given = given_more known b here.state (bound_by step) x bounds_of.1 bounds_of.0 (off_way wanted plan) (subst (λ off. AllGiven off b) same here.given) (sub (bound_by step) x whole_here);
            sub = sub;
            size = length-set small (bound_by step) (Some x) ∙ here.size;
            within = within_on known b here.state (bound_by step) x bounds_of.1 bounds_of.0 small here.size here.within;
            has = wanted_on known b here.state (bound_by step) x bounds_of.1 bounds_of.0 small here.size here.has;
          }

      along_off : is_on_way wanted (on_way wanted plan) step ≡ false → IsGood resolved g pattern (bound_by step) x → can_be_given resolved g pattern.atoms (off_way wanted plan) (bound_by step) x ≡ true → AreMet plan (with_bound b (bound_by step) x) →
          IsAlong plan (and_known known (bound_by step)) (with_bound b (bound_by step) x) small
      along_off off good given_here met_here =
          let same : off_way wanted (step ∷ plan) ≡ step ∷ off_way wanted plan = ap (λ t. cond t (off_way wanted plan) (step ∷ off_way wanted plan)) off in
          let less : AllGiven (off_way wanted plan) b = λ var y at. (and_parts _ _ (subst (λ list. AllGiven list b) same here.given var y at)).1 in
          record {
            completes_it = facts.1;
            state = state_more resolved g pattern known b here.state (bound_by step) x bounds_of.0 good;
            met = met_here;
            given = given_more known b here.state (bound_by step) x bounds_of.1 bounds_of.0 (off_way wanted plan) less given_here;
            sub = λ var y h. (and_parts _ _ (sym (ap (λ list. can_be_given resolved g pattern.atoms list var y) same) ∙ here.sub var y h)).1;
            size = here.size;
            within = within_off known b here.state (bound_by step) x bounds_of.1 bounds_of.0 small here.within;
            has = wanted_off known b here.state (bound_by step) x bounds_of.1 bounds_of.0 small (neither (is_wanted wanted (bound_by step)) _ off).0 here.has;
          }

    -- along the edges of a node
    module _ (edge node : ℕ) (forward : Bool) (plan : List Step) (known : List Bool) (b small : List (Option Bound)) (here : IsAlong (Along edge node forward ∷ plan) known b small) where
      complete_along : (y : Bound) → bound_at b node ≡ Some y → (i : ℕ) (id : EdgeId) (x : Bound) → slice_get (edges_along g forward (Some y)) i ≡ Some id → admitted_edge resolved g pattern.atoms edge id ≡ Some x →
          list_any test (completions resolved g pattern.atoms plan (with_bound b edge x)) ≡ true → list_any test (completions resolved g pattern.atoms (Along edge node forward ∷ plan) b) ≡ true
      complete_along y at_node i id x at admits next =
          any_flat_map test (λ other. option_map_or (λ z. completions resolved g pattern.atoms plan (with_bound b edge z)) (admitted_edge resolved g pattern.atoms edge other) []) (edges_along g forward (bound_at b node))
          ∙ ap (λ o. list_any (λ other. list_any test (option_map_or (λ z. completions resolved g pattern.atoms plan (with_bound b edge z)) (admitted_edge resolved g pattern.atoms edge other) [])) (edges_along g forward o)) at_node
          ∙ one_found (λ other. list_any test (option_map_or (λ z. completions resolved g pattern.atoms plan (with_bound b edge z)) (admitted_edge resolved g pattern.atoms edge other) [])) (edges_along g forward (Some y)) i id at
          (ap (λ o. list_any test (option_map_or (λ z. completions resolved g pattern.atoms plan (with_bound b edge z)) o [])) admits ∙ next)

      met_along : (x : Bound) → IsMet (with_bound b edge x) edge node forward → AreMet plan (with_bound b edge x)
      met_along x here_met =
          let parts = completes_more pattern known (Along edge node forward) plan here.completes_it in
          let step = step_facts resolved g pattern valid known (Along edge node forward) parts.0 in
          met_more known b here.state edge x step.1 step.0 (Along edge node forward) plan edge node forward (λ e n s. between_cases e n edge node s forward) here.met here_met

      led_along : IsLed plan → (t : Bool) → is_on_way wanted (on_way wanted plan) (Along edge node forward) ≡ t →
          list_any test (routes resolved g pattern.atoms all_off (cond t (Along edge node forward ∷ on_way wanted plan) (on_way wanted plan)) small) ≡ true →
          list_any test (completions resolved g pattern.atoms (Along edge node forward ∷ plan) b) ≡ true
      led_along rest true on h =
          let ways = on_way wanted plan in
          let f = λ (id : EdgeId). option_map_or (λ z. routes resolved g pattern.atoms all_off ways (with_bound small edge z)) (whole resolved g pattern.atoms all_off edge (admitted_edge resolved g pattern.atoms edge id)) [] in
          let at = any_at (λ id. list_any test (f id)) (edges_along g forward (bound_at small node)) (sym (any_flat_map test f (edges_along g forward (bound_at small node))) ∙ h) in
          let bound = any_option test (λ z. routes resolved g pattern.atoms all_off ways (with_bound small edge z)) (whole resolved g pattern.atoms all_off edge (admitted_edge resolved g pattern.atoms edge at.1)) at.3 in
          let parts = whole_parts all_off edge (admitted_edge resolved g pattern.atoms edge at.1) bound.0 bound.1 in
          let from = from_bound forward (bound_at small node) at.0 at.1 at.2 in
          let at_node = here.within node from.0 from.1 in
          let listed = subst (λ o. slice_get (edges_along g forward o) at.0 ≡ Some at.1) from.1 at.2 in
          let met = along_met edge node forward plan known b here.completes_it here.state from.0 at_node at.0 at.1 bound.0 listed parts.0 in
          complete_along from.0 at_node at.0 at.1 bound.0 listed parts.0
          (rest (and_known known edge) (with_bound b edge bound.0) (with_bound small edge bound.0)
          (along_on (Along edge node forward) plan known b small here bound.0 on met.0 parts.1 (met_along bound.0 met.1)) bound.2)
      led_along rest false off h =
          let facts = completes_more pattern known (Along edge node forward) plan here.completes_it in
          let kinds = along_facts resolved g pattern valid known edge node forward facts.0 in
          let at_node = is_bound resolved g pattern known b here.state node kinds.0 in
          let same : off_way wanted (Along edge node forward ∷ plan) ≡ Along edge node forward ∷ off_way wanted plan = ap (λ t. cond t (off_way wanted plan) (Along edge node forward ∷ off_way wanted plan)) off in
          let all = subst (λ list. AllGiven list b) same here.given node at_node.0 at_node.1 in
          let branch = second_of (node == node) _ (eq-eqb node node refl) (and_parts _ _ all).0 in
          let p = λ (id : EdgeId). option_map_or (can_be_given resolved g pattern.atoms (off_way wanted plan) edge) (admitted_edge resolved g pattern.atoms edge id) false in
          let at = any_at p (edges_along g forward (Some at_node.0)) (sym (any_filter_map (can_be_given resolved g pattern.atoms (off_way wanted plan) edge) (admitted_edge resolved g pattern.atoms edge) (edges_along g forward (Some at_node.0))) ∙ branch) in
          let found = passed_some (can_be_given resolved g pattern.atoms (off_way wanted plan) edge) (admitted_edge resolved g pattern.atoms edge at.1) at.3 in
          let met = along_met edge node forward plan known b here.completes_it here.state at_node.0 at_node.1 at.0 at.1 found.0 at.2 found.1 in
          complete_along at_node.0 at_node.1 at.0 at.1 found.0 at.2 found.1
          (rest (and_known known edge) (with_bound b edge found.0) small
          (along_off (Along edge node forward) plan known b small here found.0 off met.0 found.2 (met_along found.0 met.1)) h)

    -- to an end of an edge
    module _ (edge node : ℕ) (source : Bool) (plan : List Step) (known : List Bool) (b small : List (Option Bound)) (here : IsAlong (End edge node source ∷ plan) known b small) where
      complete_end : (y : Bound) → bound_at b edge ≡ Some y → (x : Bound) → option_and_then (admitted_node resolved g pattern.atoms node) (end_at source (Some y)) ≡ Some x →
          list_any test (completions resolved g pattern.atoms plan (with_bound b node x)) ≡ true → list_any test (completions resolved g pattern.atoms (End edge node source ∷ plan) b) ≡ true
      complete_end y at_edge x admits next =
          ap (λ o. list_any test (option_map_or (λ z. completions resolved g pattern.atoms plan (with_bound b node z)) (option_and_then (admitted_node resolved g pattern.atoms node) (end_at source o)) [])) at_edge
          ∙ ap (λ o. list_any test (option_map_or (λ z. completions resolved g pattern.atoms plan (with_bound b node z)) o [])) admits ∙ next

      met_end : (x : Bound) → IsMet (with_bound b node x) edge node source → AreMet plan (with_bound b node x)
      met_end x here_met =
          let parts = completes_more pattern known (End edge node source) plan here.completes_it in
          let step = step_facts resolved g pattern valid known (End edge node source) parts.0 in
          met_more known b here.state node x step.1 step.0 (End edge node source) plan edge node source (λ e n s. between_cases e n edge node s source) here.met here_met

      led_end : IsLed plan → (t : Bool) → is_on_way wanted (on_way wanted plan) (End edge node source) ≡ t →
          list_any test (routes resolved g pattern.atoms all_off (cond t (End edge node source ∷ on_way wanted plan) (on_way wanted plan)) small) ≡ true →
          list_any test (completions resolved g pattern.atoms (End edge node source ∷ plan) b) ≡ true
      led_end rest true on h =
          let ways = on_way wanted plan in
          let bound = any_option test (λ z. routes resolved g pattern.atoms all_off ways (with_bound small node z))
          (whole resolved g pattern.atoms all_off node (option_and_then (admitted_node resolved g pattern.atoms node) (end_at source (bound_at small edge)))) h in
          let parts = whole_parts all_off node (option_and_then (admitted_node resolved g pattern.atoms node) (end_at source (bound_at small edge))) bound.0 bound.1 in
          let from = from_edge node source (bound_at small edge) bound.0 parts.0 in
          let at_edge = here.within edge from.0 from.1 in
          let admits = subst (λ o. option_and_then (admitted_node resolved g pattern.atoms node) (end_at source o) ≡ Some bound.0) from.1 parts.0 in
          let met = end_met edge node source plan known b here.completes_it here.state from.0 at_edge bound.0 admits in
          complete_end from.0 at_edge bound.0 admits
          (rest (and_known known node) (with_bound b node bound.0) (with_bound small node bound.0)
          (along_on (End edge node source) plan known b small here bound.0 on met.0 parts.1 (met_end bound.0 met.1)) bound.2)
      led_end rest false off h =
          let facts = completes_more pattern known (End edge node source) plan here.completes_it in
          let kinds = end_facts resolved g pattern valid known edge node source facts.0 in
          let at_edge = is_bound resolved g pattern known b here.state edge kinds.0 in
          let same : off_way wanted (End edge node source ∷ plan) ≡ End edge node source ∷ off_way wanted plan = ap (λ t. cond t (off_way wanted plan) (End edge node source ∷ off_way wanted plan)) off in
          let all = subst (λ list. AllGiven list b) same here.given edge at_edge.0 at_edge.1 in
          let branch = second_of (edge == edge) _ (eq-eqb edge edge refl) (and_parts _ _ all).0 in
          let found = passed_some (can_be_given resolved g pattern.atoms (off_way wanted plan) node) (option_and_then (admitted_node resolved g pattern.atoms node) (end_at source (Some at_edge.0)))
          (sym (any_of_one (can_be_given resolved g pattern.atoms (off_way wanted plan) node) (option_and_then (admitted_node resolved g pattern.atoms node) (end_at source (Some at_edge.0)))) ∙ branch) in
          let met = end_met edge node source plan known b here.completes_it here.state at_edge.0 at_edge.1 found.0 found.1 in
          complete_end at_edge.0 at_edge.1 found.0 found.1
          (rest (and_known known node) (with_bound b node found.0) small
          (along_off (End edge node source) plan known b small here found.0 off met.0 found.2 (met_end found.0 met.1)) h)

    -- all wanted variables are bound at the end
    at_end : (known : List Bool) (b small : List (Option Bound)) → IsAlong [] known b small → (var : ℕ) → is_wanted wanted var ≡ true → var < length pattern.edge_vars → (x : Bound) × (bound_at small var ≡ Some x)
    at_end known b small here var want below = here.has var want (covers_at pattern.edge_vars known var (and_parts true _ here.completes_it).1 below)

    pub led : (plan : List Step) → IsLed plan
    led [] known b small here h =
        ap (λ t. list_any test (cond t (b ∷ []) [])) (all_met b pattern.atoms (λ edge node source has. here.met edge node source has refl))
        ∙ or_left (test b) false (mono small b here.within (at_end known b small here) (alone (test small) h))
      where
        alone : (t : Bool) → (t || false) ≡ true → t ≡ true
        alone true k = refl
        alone false k = k
    led (Along edge node forward ∷ plan) known b small here h =
        led_along edge node forward plan known b small here (led plan) (is_on_way wanted (on_way wanted plan) (Along edge node forward)) refl h
    led (End edge node source ∷ plan) known b small here h =
        led_end edge node source plan known b small here (led plan) (is_on_way wanted (on_way wanted plan) (End edge node source)) refl h

-- ---- the steps on the way are steps

module _ (pattern : Pattern) (valid : is_valid_pattern pattern ≡ true) (wanted : List ℕ) where
  abbrev pub AreWays : List Step → List Bool → List Bool → Type 0
  AreWays plan known few =
      (are_steps pattern.atoms few (on_way wanted plan) ≡ true)
      × ((var : ℕ) → is_wanted wanted var ≡ true → is_known (known_after known plan) var ≡ true → is_known (known_after few (on_way wanted plan)) var ≡ true)

  ways_steps : (plan : List Step) (known few : List Bool) → length known ≡ 20 → are_steps pattern.atoms known plan ≡ true → IsPart pattern.atoms wanted plan known few → AreWays plan known few
  ways_steps [] known few size steps part = (refl, λ var want h. part.has_wanted var want h)
  ways_steps (step ∷ plan) known few size steps part =
      let parts = and_parts (is_step pattern.atoms known step) _ steps in
      let bounds = step_bounds pattern pattern.atoms known step (bound_by step) valid refl refl parts.0 in
      by (is_on_way wanted (on_way wanted plan) step) refl parts.0 bounds.1
      (λ more part_here. ways_steps plan (and_known known (bound_by step)) more (length-set known (bound_by step) true ∙ size) parts.1 part_here)
    where
      by : (t : Bool) → is_on_way wanted (on_way wanted plan) step ≡ t → is_step pattern.atoms known step ≡ true → bound_by step < 20 →
          ((more : List Bool) → IsPart pattern.atoms wanted plan (and_known known (bound_by step)) more → AreWays plan (and_known known (bound_by step)) more) →
          (are_steps pattern.atoms few (cond t (step ∷ on_way wanted plan) (on_way wanted plan)) ≡ true)
          × ((var : ℕ) → is_wanted wanted var ≡ true → is_known (known_after known (step ∷ plan)) var ≡ true → is_known (known_after few (cond t (step ∷ on_way wanted plan) (on_way wanted plan))) var ≡ true)
      by true on is below rest =
          let next = rest (and_known few (bound_by step)) (part_on pattern.atoms wanted step plan known few size is below on part) in
          (and_from _ _ (step_on pattern.atoms wanted step plan known few size is below on part) next.0, next.1)
      by false off is below rest = rest few (part_off pattern.atoms wanted step plan known few size is below off part)

-- ---- from a match to a route

module _ (resolved : Resolved) (g : Graph) (pattern : Pattern) (valid : is_valid_pattern pattern ≡ true) (wanted : List ℕ) (elems : List Elem) (match : is_match resolved g pattern elems ≡ true)
    (off : List Step) (places : list_all (has_place pattern.atoms) off ≡ true) (test : List (Option Bound) → Bool)
    (passes : (final : List (Option Bound)) → Agrees final elems → ((var : ℕ) → is_wanted wanted var ≡ true → var < length pattern.edge_vars → (x : Bound) × (bound_at final var ≡ Some x)) → test final ≡ true) where
  all_hold : list_all (holds resolved g elems) pattern.atoms ≡ true
  all_hold = (and_parts _ _ match).1

  -- what a match has is whole
  is_whole : (var : ℕ) (x : Bound) → IsGood resolved g pattern var x → slice_get elems var ≡ Some (elem_of x) → whole resolved g pattern.atoms off var (Some x) ≡ Some x
  is_whole var x good at = ap (λ b. cond b (Some x) None) (given_by_match resolved g pattern valid elems match all_hold off places var x good at)

  pub routed : (ways : List Step) (known : List Bool) (b : List (Option Bound)) → are_steps pattern.atoms known ways ≡ true → IsState resolved g pattern known b → Agrees b elems →
      ((var : ℕ) → is_wanted wanted var ≡ true → var < length pattern.edge_vars → is_known (known_after known ways) var ≡ true) → list_any test (routes resolved g pattern.atoms off ways b) ≡ true
  routed [] known b steps state agree all =
      or_left (test b) false (passes b agree (λ var want below. is_bound resolved g pattern known b state var (all var want below)))
  routed (Along edge node forward ∷ ways) known b steps state agree all =
      let parts = and_parts (is_step pattern.atoms known (Along edge node forward)) _ steps in
      let facts = along_facts resolved g pattern valid known edge node forward parts.0 in
      let step = step_facts resolved g pattern valid known (Along edge node forward) parts.0 in
      let at_node = is_bound resolved g pattern known b state node facts.0 in
      let form = node_form resolved g pattern node at_node.0 facts.3 (state.good node at_node.0 at_node.1) in
      let place = placed resolved g pattern valid elems match edge node forward pattern.atoms facts.1 all_hold in
      let id = place.0 in
      let row = place.1 in
      let bound = bounds.Edge id row.source row.target in
      let end_is : cond forward row.source row.target ≡ form.0 = (let e : Some (Node (cond forward row.source row.target)) ≡ Some (Node form.0) =
      sym place.4 ∙ agree node at_node.0 at_node.1 ∙ ap (λ x. Some (elem_of x)) form.1 in cc) in
      let admits = edge_of_match resolved g pattern valid elems match edge id row place.2 place.3 in
      let good = admitted_edge_good resolved g pattern edge id bound facts.2 admits in
      let rest = routed ways (and_known known edge) (with_bound b edge bound) parts.1 (state_more resolved g pattern known b state edge bound step.0 good)
      (agrees_more resolved g pattern valid elems match b edge bound (omega (arith, state.size, step.0)) agree place.2) all in
      let f = λ (other : EdgeId). option_map_or (λ x. routes resolved g pattern.atoms off ways (with_bound b edge x)) (whole resolved g pattern.atoms off edge (admitted_edge resolved g pattern.atoms edge other)) [] in
      any_flat_map test f (edges_along g forward (bound_at b node))
      ∙ ap (λ o. list_any (λ other. list_any test (f other)) (edges_along g forward o)) (at_node.1 ∙ ap (λ x. Some x) form.1)
      ∙ any_along g id row place.3 (λ other. list_any test (f other))
      (ap (λ o. list_any test (option_map_or (λ x. routes resolved g pattern.atoms off ways (with_bound b edge x)) (whole resolved g pattern.atoms off edge o) [])) admits
      ∙ ap (λ o. list_any test (option_map_or (λ x. routes resolved g pattern.atoms off ways (with_bound b edge x)) o [])) (is_whole edge bound good place.2) ∙ rest) forward form.0 end_is
  routed (End edge node source ∷ ways) known b steps state agree all =
      let parts = and_parts (is_step pattern.atoms known (End edge node source)) _ steps in
      let facts = end_facts resolved g pattern valid known edge node source parts.0 in
      let step = step_facts resolved g pattern valid known (End edge node source) parts.0 in
      let at_edge = is_bound resolved g pattern known b state edge facts.0 in
      let form = edge_form resolved g pattern edge at_edge.0 facts.2 (state.good edge at_edge.0 at_edge.1) in
      let place = placed resolved g pattern valid elems match edge node source pattern.atoms facts.1 all_hold in
      let number : place.0 ≡ form.0 = (let e : Some (Edge place.0) ≡ Some (Edge form.0) = sym place.2 ∙ agree edge at_edge.0 at_edge.1 ∙ ap (λ x. Some (elem_of x)) form.4 in cc) in
      let rows : place.1 ≡ form.3 = (let e : Some place.1 ≡ Some form.3 = sym place.3 ∙ ap (edge_at g) number ∙ form.5 in cc) in
      let end_is : cond source place.1.source place.1.target ≡ cond source form.1 form.2 =
      ap (λ (r : EdgeRow). cond source r.source r.target) rows ∙ ap (λ n. cond source n form.3.target) form.6 ∙ ap (λ n. cond source form.1 n) form.7 in
      let id = cond source form.1 form.2 in
      let at_elem : slice_get elems node ≡ Some (Node id) = place.4 ∙ ap (λ n. Some (Node n)) end_is in
      let admits = node_of_match resolved g pattern valid elems match node id facts.3 at_elem in
      let good = admitted_node_good resolved g pattern node id (bounds.Node id) facts.3 admits in
      let rest = routed ways (and_known known node) (with_bound b node (bounds.Node id)) parts.1 (state_more resolved g pattern known b state node (bounds.Node id) step.0 good)
      (agrees_more resolved g pattern valid elems match b node (bounds.Node id) (omega (arith, state.size, step.0)) agree at_elem) all in
      ap (λ o. list_any test (option_map_or (λ x. routes resolved g pattern.atoms off ways (with_bound b node x)) (whole resolved g pattern.atoms off node (option_and_then (admitted_node resolved g pattern.atoms node) (end_at source o))) [])) (at_edge.1 ∙ ap (λ x. Some x) form.4)
      ∙ ap (λ o. list_any test (option_map_or (λ x. routes resolved g pattern.atoms off ways (with_bound b node x)) (whole resolved g pattern.atoms off node o) [])) admits
      ∙ ap (λ o. list_any test (option_map_or (λ x. routes resolved g pattern.atoms off ways (with_bound b node x)) o [])) (is_whole node (bounds.Node id) good at_elem) ∙ rest

-- ---- the routes from an element come to what its matches do

module _ (resolved : Resolved) (g : Graph) (graph : is_graph g ≡ true) (pattern : Pattern) (valid : is_valid_pattern pattern ≡ true) (var : ℕ) (below : var < length pattern.edge_vars) (plan : List Step)
    (plans : is_plan pattern var plan ≡ true) (tree : is_tree pattern.atoms plan ≡ true) (elem : Elem) (wanted : List ℕ) where
  abbrev pub IsAllWanted : List (Option Bound) → Type 0
  IsAllWanted b = (v : ℕ) → is_wanted wanted v ≡ true → v < length pattern.edge_vars → (x : Bound) × (bound_at b v ≡ Some x)

  abbrev pub routes_from : List (List (Option Bound))
  routes_from =
      option_map_or (λ x. routes resolved g pattern.atoms (off_way wanted plan) (on_way wanted plan) (with_bound nothing_bound var x))
      (whole resolved g pattern.atoms (off_way wanted plan) var (admitted resolved g pattern var elem)) []

  below_20 : var < 20
  below_20 = let most = valid_most pattern valid in omega arith

  parts : (are_steps pattern.atoms (known_alone var) plan ≡ true) × (covers pattern.edge_vars (known_after (known_alone var) plan) ≡ true)
  parts = and_parts (are_steps pattern.atoms (known_alone var) plan) _ plans

  size_of_known : length (known_alone var) ≡ 20
  size_of_known = length-set (replicate 20 false) var true

  part : IsPart pattern.atoms wanted plan (known_alone var) (known_alone var)
  part = record {
    size = size_of_known;
    within = λ v h. h;
    apart = λ v h none. absurd (true≢false (sym h ∙ none));
    has_wanted = λ v want h. h;
  }

  ways : AreWays pattern valid wanted plan (known_alone var) (known_alone var)
  ways = ways_steps pattern valid wanted plan (known_alone var) (known_alone var) size_of_known parts.0 part

  -- what hangs off the way is at edge places too
  off_places : (steps : List Step) → list_all (has_place pattern.atoms) steps ≡ true → list_all (has_place pattern.atoms) (off_way wanted steps) ≡ true
  off_places [] h = refl
  off_places (step ∷ steps) h =
      let both = and_parts (has_place pattern.atoms step) _ h in
      by (is_on_way wanted (on_way wanted steps) step) both.0 (off_places steps both.1)
    where
      by : (t : Bool) → has_place pattern.atoms step ≡ true → list_all (has_place pattern.atoms) (off_way wanted steps) ≡ true → list_all (has_place pattern.atoms) (cond t (off_way wanted steps) (step ∷ off_way wanted steps)) ≡ true
      by true here rest = rest
      by false here rest = and_from _ _ here rest

  -- one variable is bound alone
  alone_is : (x : Bound) (v : ℕ) (y : Bound) → bound_at (with_bound nothing_bound var x) v ≡ Some y → (v ≡ var) × (x ≡ y)
  alone_is x v y at =
      ⊎_elim (λ is. (is, bound_is nothing_bound var x y (subst (λ u. bound_at (with_bound nothing_bound var x) u ≡ Some y) is at)))
      (λ apart. let e : None ≡ Some y = sym (nothing_at 20 v) ∙ sym (bound_other nothing_bound var v x apart) ∙ at in cc) (one_or_other v var)

  module _ (test : List (Option Bound) → Bool) (of_elems : List Elem → Bool) (same_test : (final : List (Option Bound)) (elems : List Elem) → Agrees final elems → IsAllWanted final → test final ≡ of_elems elems)
      (same_small : (small b : List (Option Bound)) → IsWithin resolved g graph pattern valid wanted small b → IsAllWanted small → test small ≡ test b) where
    from_full : (final : List (Option Bound)) (elems : List Elem) → Agrees final elems → IsFull resolved g pattern final → test final ≡ of_elems elems
    from_full final elems agree full = same_test final elems agree (λ v want inside. full v inside)

    to_completion : list_any test routes_from ≡ true → list_any test (option_map_or (λ y. completions resolved g pattern.atoms plan (with_bound nothing_bound var y)) (admitted resolved g pattern var elem) []) ≡ true
    to_completion h =
        let x = any_option test (λ y. routes resolved g pattern.atoms (off_way wanted plan) (on_way wanted plan) (with_bound nothing_bound var y))
        (whole resolved g pattern.atoms (off_way wanted plan) var (admitted resolved g pattern var elem)) h in
        let both = whole_parts resolved g graph pattern valid wanted (off_way wanted plan) var (admitted resolved g pattern var elem) x.0 x.1 in
        let good = admitted_good resolved g pattern var elem x.0 both.0 in
        let along : IsAlong resolved g graph pattern valid wanted (off_way wanted plan) test (λ small b within all is. sym (same_small small b within all) ∙ is) plan (known_alone var) (with_bound nothing_bound var x.0) (with_bound nothing_bound var x.0) =
        record {
          completes_it = plans;
          state = state_alone resolved g pattern var x.0 below_20 good.0;
          met = λ edge node source has none. absurd (true≢false (sym (tree_has plan pattern.atoms tree edge node source has) ∙ none));
          given = λ v y at. let is = alone_is x.0 v y at in
              subst (λ u. can_be_given resolved g pattern.atoms (off_way wanted plan) u y ≡ true) (sym is.0) (subst (λ z. can_be_given resolved g pattern.atoms (off_way wanted plan) var z ≡ true) is.1 both.1);
          sub = λ v y given. given;
          size = length-set nothing_bound var (Some x.0);
          within = λ v y at. at;
          has = λ v want known. ⊎_elim (λ is. (x.0, ap (bound_at (with_bound nothing_bound var x.0)) is ∙ bound_now nothing_bound var x.0 below_20))
              (λ apart. absurd (true≢false (sym known ∙ known_other (replicate 20 false) var v apart ∙ none_known 20 v))) (one_or_other v var);
        } in
        let next = led resolved g graph pattern valid wanted (off_way wanted plan) test (λ small b within all is. sym (same_small small b within all) ∙ is) plan (known_alone var)
        (with_bound nothing_bound var x.0) (with_bound nothing_bound var x.0) along x.2 in
        ap (λ o. list_any test (option_map_or (λ y. completions resolved g pattern.atoms plan (with_bound nothing_bound var y)) o [])) both.0 ∙ next

    to_route : list_any (λ elems. stands_at var elem elems && of_elems elems) (matches resolved g pattern) ≡ true → list_any test routes_from ≡ true
    to_route h =
        let it = match_found resolved g pattern (λ elems. stands_at var elem elems && of_elems elems) h in
        let both = and_parts (stands_at var elem it.0) _ it.2 in
        let at = stands var elem it.0 both.0 in
        let x = admitted_of_match resolved g pattern valid it.0 it.1 var elem below at in
        let good = admitted_good resolved g pattern var elem x.0 x.1 in
        let places = off_places plan (steps_placed pattern.atoms (known_alone var) plan parts.0) in
        let at_x : slice_get it.0 var ≡ Some (elem_of x.0) = at ∙ ap (λ e. Some e) (sym x.2) in
        let passes : (final : List (Option Bound)) → Agrees final it.0 → IsAllWanted final → test final ≡ true = λ final agree all. same_test final it.0 agree all ∙ both.1 in
        let is = is_whole resolved g pattern valid wanted it.0 it.1 (off_way wanted plan) places test passes var x.0 good.0 at_x in
        let found = routed resolved g pattern valid wanted it.0 it.1 (off_way wanted plan) places test passes (on_way wanted plan) (known_alone var) (with_bound nothing_bound var x.0) ways.0
        (state_alone resolved g pattern var x.0 below_20 good.0)
        (agrees_more resolved g pattern valid it.0 it.1 nothing_bound var x.0 below_20 (λ v y none. let e : None ≡ Some y = sym (nothing_at 20 v) ∙ none in cc) at_x)
        (λ v want inside. ways.1 v want (covers_at pattern.edge_vars (known_after (known_alone var) plan) v parts.1 inside)) in
        ap (λ o. list_any test (option_map_or (λ y. routes resolved g pattern.atoms (off_way wanted plan) (on_way wanted plan) (with_bound nothing_bound var y)) (whole resolved g pattern.atoms (off_way wanted plan) var o) [])) x.1
        ∙ ap (λ o. list_any test (option_map_or (λ y. routes resolved g pattern.atoms (off_way wanted plan) (on_way wanted plan) (with_bound nothing_bound var y)) o [])) is ∙ found

    pub routes_are_matches : list_any test routes_from ≡ list_any (λ elems. stands_at var elem elems && of_elems elems) (matches resolved g pattern)
    routes_are_matches =
        same_truth _ _ (λ h. sym (started_are_matches resolved g pattern valid var below plan plans elem test of_elems from_full) ∙ to_completion h) to_route
