-- Where the variables of a pattern hang on one another as a tree, a plan can complete bindings on each of which all can be given that
-- hangs there.
use Rattle.std.proofs.Common.{◌≡◌, ℕ, suc, Bool, true, false, ◌&&◌, ◌||◌, ◌==◌, cond, not, ⊎_elim, List, [], ◌∷◌, slice_get, Option, Some, None, refl, sym, ◌∙◌, ap, subst, true≢false, arith}
use Rattle.std.specs.Prelude.{option_and_then}
use Rattle.std.specs.Option.{option_map_or}
use Rattle.std.specs.List.{list_any, list_all}
use Rattle.std.proofs.lemmas.Bool.{and_parts, and_from, or_cases, or_left, or_right, eqb-true, eq-eqb}
use Rattle.pgs_base.specs.declared.element.NodeId.{NodeId}
use Rattle.pgs_base.specs.declared.element.EdgeId.{EdgeId}
use Rattle.pgs_base.specs.declared.row.NodeRow.{NodeRow}
use Rattle.pgs_base.specs.declared.row.EdgeRow.{EdgeRow}
use Rattle.pgs_base.specs.Graph.{Graph, node_at, edge_at, is_graph}
use Rattle.pgs_syntax.specs.declared.pattern.Atom.{Atom}
use Rattle.pgs_syntax.specs.declared.pattern.Atom.TheVariants.{Ends, HasLabel, FitsNode, FitsEdge, Equals}
use Rattle.pgs_syntax.specs.declared.pattern.Pattern.{Pattern}
use Rattle.pgs_syntax.specs.declared.resolved.Resolved.{Resolved}
use Rattle.pgs_syntax.specs.Valid.{is_valid_pattern}
use Rattle.pgs_match.specs.declared.step.Step.{Step}
use Rattle.pgs_match.specs.declared.step.Step.TheVariants.{Along, End}
use Rattle.pgs_match.specs.declared.bindings.Bound.{Bound}
use Rattle.pgs_match.specs.declared.bindings.Bound.TheVariants as bounds
use Rattle.pgs_match.specs.Bounds.{bound_at, with_bound, end_at}
use Rattle.pgs_match.specs.Branches.{is_between, has_steps, can_be_given}
use Rattle.pgs_match.specs.Plans.{is_known, and_known, has_end, completes}
use Rattle.pgs_match.specs.Search.{edges_along, can_complete}
use Rattle.pgs_match.specs.Tests.{node_passes, edge_passes, admitted_node, admitted_edge, are_ends, agrees}
use Rattle.pgs_match.proofs.Agreeing.{edge_form, node_form}
use Rattle.pgs_match.proofs.Along.{one_found}
use Rattle.pgs_match.proofs.Branching.{any_filter_map, any_of_one}
use Rattle.pgs_match.proofs.Completed.{completes_more, along_facts, end_facts, step_facts}
use Rattle.pgs_match.proofs.Nearby.{listed_from, bound_is}
use Rattle.pgs_match.proofs.Standing.{IsState, admitted_node_good, admitted_edge_good, is_bound, state_more, kept_more, bound_now, bound_other, one_or_other}

-- one that passes a test, and its place
pub any_at : {X : Type 0} (p : X → Bool) (xs : List X) → list_any p xs ≡ true → (i : ℕ) × (x : X) × (slice_get xs i ≡ Some x) × (p x ≡ true)
any_at p [] h = absurd (true≢false (sym h))
any_at p (x ∷ xs) h =
    ⊎_elim (λ here. (0, x, refl, here)) (λ later. let rest = any_at p xs later in (suc rest.0, rest.1, rest.2, rest.3)) (or_cases (p x) _ h)

-- what passes of what may be there
pub passed_some : {Y : Type 0} (p : Y → Bool) (o : Option Y) → option_map_or p o false ≡ true → (y : Y) × (o ≡ Some y) × (p y ≡ true)
passed_some p None h = absurd (true≢false (sym h))
passed_some p (Some y) h = (y, refl, h)

-- a branch that hangs on a variable
pub second_of : (a b : Bool) → a ≡ true → (not a || b) ≡ true → b ≡ true
second_of true b is h = h
second_of false b is h = absurd (true≢false (sym is))

-- a step at an end of an edge place, or one before
pub between_cases : (edge node of end : ℕ) (source first : Bool) → (of == edge && end == node && cond source first (not first)) ≡ true →
    (edge ≡ of) × (node ≡ end) × (source ≡ first)
between_cases edge node of end source first h =
    let parts = and_parts (of == edge && end == node) _ h in
    let both = and_parts (of == edge) _ parts.0 in
    (sym (eqb-true of edge both.0), sym (eqb-true end node both.1), by source first parts.1)
  where
    by : (source first : Bool) → cond source first (not first) ≡ true → source ≡ first
    by true true h = refl
    by true false h = absurd (true≢false (sym h))
    by false true h = absurd (true≢false (sym h))
    by false false h = refl

-- what an edge's row is where the edge is admitted
pub admitted_row : (resolved : Resolved) (g : Graph) (atoms : List Atom) (var : ℕ) (id : EdgeId) (x : Bound) → admitted_edge resolved g atoms var id ≡ Some x →
    (row : EdgeRow) × (edge_at g id ≡ Some row) × (x ≡ bounds.Edge id row.source row.target)
admitted_row resolved g atoms var id x h = by (edge_at g id) refl h
  where
    inner : (row : EdgeRow) → edge_at g id ≡ Some row → (b : Bool) → cond b (Some (bounds.Edge id row.source row.target)) None ≡ Some x →
        (r : EdgeRow) × (edge_at g id ≡ Some r) × (x ≡ bounds.Edge id r.source r.target)
    inner row at true found = (row, at, let e : x ≡ bounds.Edge id row.source row.target = cc in e)
    inner row at false found = cc

    by : (o : Option EdgeRow) → edge_at g id ≡ o →
        option_and_then (λ (row : EdgeRow). cond (edge_passes resolved g atoms var row) (Some (bounds.Edge id row.source row.target)) None) o ≡ Some x →
        (r : EdgeRow) × (edge_at g id ≡ Some r) × (x ≡ bounds.Edge id r.source r.target)
    by None at found = cc
    by (Some row) at found = inner row at (edge_passes resolved g atoms var row) found

pub admitted_is_node : (resolved : Resolved) (g : Graph) (atoms : List Atom) (var : ℕ) (id : NodeId) (x : Bound) → admitted_node resolved g atoms var id ≡ Some x → x ≡ bounds.Node id
admitted_is_node resolved g atoms var id x h = by (node_at g id) h
  where
    inner : (b : Bool) → cond b (Some (bounds.Node id)) None ≡ Some x → x ≡ bounds.Node id
    inner true found = cc
    inner false found = cc

    by : (o : Option NodeRow) → option_and_then (λ (own : NodeRow). cond (node_passes resolved atoms var own) (Some (bounds.Node id)) None) o ≡ Some x → x ≡ bounds.Node id
    by None found = cc
    by (Some own) found = inner (node_passes resolved atoms var own) found

-- an end of an edge place where the bindings agree
abbrev pub IsMet : List (Option Bound) → ℕ → ℕ → Bool → Type 0
IsMet b edge node source = (id : EdgeId) × (first : NodeId) × (second : NodeId) × (bound_at b edge ≡ Some (bounds.Edge id first second)) × (bound_at b node ≡ Some (bounds.Node (cond source first second)))

-- where the bindings of each end agree, those of each edge place do
pub all_met : (b : List (Option Bound)) (atoms : List Atom) → ((edge node : ℕ) (source : Bool) → list_any (has_end edge node source) atoms ≡ true → IsMet b edge node source) →
    list_all (agrees b) atoms ≡ true
all_met b [] met = refl
all_met b (Ends edge source target ∷ atoms) met =
    let first = met edge source true (or_left _ _ (and_from _ _ (eq-eqb edge edge refl) (eq-eqb source source refl))) in
    let second = met edge target false (or_left _ _ (and_from _ _ (eq-eqb edge edge refl) (eq-eqb target target refl))) in
    let one : bounds.Edge first.0 first.1 first.2 ≡ bounds.Edge second.0 second.1 second.2 =
    (let e : Some (bounds.Edge first.0 first.1 first.2) ≡ Some (bounds.Edge second.0 second.1 second.2) = sym first.3 ∙ second.3 in cc) in
    let last : second.2 ≡ first.2 = cc in
    let here : agrees b (Ends edge source target) ≡ true =
    ap (λ x. are_ends x (bound_at b source) (bound_at b target)) first.3
    ∙ ap (λ x. are_ends (Some (bounds.Edge first.0 first.1 first.2)) x (bound_at b target)) first.4
    ∙ ap (λ x. are_ends (Some (bounds.Edge first.0 first.1 first.2)) (Some (bounds.Node first.1)) x) (second.4 ∙ ap (λ n. Some (bounds.Node n)) last)
    ∙ and_from _ _ (eq-eqb first.1.0 first.1.0 refl) (eq-eqb first.2.0 first.2.0 refl) in
    and_from _ _ here (all_met b atoms (λ e n s has. met e n s (or_right _ _ has)))
all_met b (HasLabel var label ∷ atoms) met = all_met b atoms (λ e n s has. met e n s has)
all_met b (FitsNode var number ∷ atoms) met = all_met b atoms (λ e n s has. met e n s has)
all_met b (FitsEdge var number ∷ atoms) met = all_met b atoms (λ e n s has. met e n s has)
all_met b (Equals var key value ∷ atoms) met = all_met b atoms (λ e n s has. met e n s has)

-- both steps of each edge place
pub tree_has : (plan : List Step) (atoms : List Atom) → list_all (has_steps plan) atoms ≡ true → (edge node : ℕ) (source : Bool) → list_any (has_end edge node source) atoms ≡ true →
    list_any (is_between edge node source) plan ≡ true
tree_has plan [] tree edge node source has = absurd (true≢false (sym has))
tree_has plan (Ends of first second ∷ atoms) tree edge node source has =
    let parts = and_parts (has_steps plan (Ends of first second)) _ tree in
    let ends = and_parts (list_any (is_between of first true) plan) _ parts.0 in
    ⊎_elim (λ here. let is = and_parts (of == edge) _ here in by source is.1 (eqb-true of edge is.0) ends.0 ends.1) (λ later. tree_has plan atoms parts.1 edge node source later)
    (or_cases (has_end edge node source (Ends of first second)) _ has)
  where
    by : (source : Bool) → (cond source first second == node) ≡ true → of ≡ edge → list_any (is_between of first true) plan ≡ true → list_any (is_between of second false) plan ≡ true →
        list_any (is_between edge node source) plan ≡ true
    by true at same one other = subst (λ e. list_any (is_between e node true) plan ≡ true) same (subst (λ n. list_any (is_between of n true) plan ≡ true) (eqb-true first node at) one)
    by false at same one other = subst (λ e. list_any (is_between e node false) plan ≡ true) same (subst (λ n. list_any (is_between of n false) plan ≡ true) (eqb-true second node at) other)
tree_has plan (HasLabel var label ∷ atoms) tree edge node source has = tree_has plan atoms tree edge node source has
tree_has plan (FitsNode var number ∷ atoms) tree edge node source has = tree_has plan atoms tree edge node source has
tree_has plan (FitsEdge var number ∷ atoms) tree edge node source has = tree_has plan atoms tree edge node source has
tree_has plan (Equals var key value ∷ atoms) tree edge node source has = tree_has plan atoms tree edge node source has

module _ (resolved : Resolved) (g : Graph) (graph : is_graph g ≡ true) (pattern : Pattern) (valid : is_valid_pattern pattern ≡ true) where
  -- on each bound variable all can be given that hangs there by the steps that are left
  abbrev AllGiven : List Step → List (Option Bound) → Type 0
  AllGiven plan b = (var : ℕ) (x : Bound) → bound_at b var ≡ Some x → can_be_given resolved g pattern.atoms plan var x ≡ true

  -- the bindings agree at each end for which no step is left
  abbrev AreMet : List Step → List (Option Bound) → Type 0
  AreMet plan b = (edge node : ℕ) (source : Bool) → list_any (has_end edge node source) pattern.atoms ≡ true → list_any (is_between edge node source) plan ≡ false → IsMet b edge node source

  -- one variable more
  module _ (known : List Bool) (b : List (Option Bound)) (state : IsState resolved g pattern known b) (var : ℕ) (x : Bound) (unknown : is_known known var ≡ false) where
    kept : (other : ℕ) (y : Bound) → bound_at b other ≡ Some y → bound_at (with_bound b var x) other ≡ Some y
    kept = kept_more resolved g pattern known b state var x unknown

    met_still : (edge node : ℕ) (source : Bool) → IsMet b edge node source → IsMet (with_bound b var x) edge node source
    met_still edge node source met = (met.0, met.1, met.2, kept edge (bounds.Edge met.0 met.1 met.2) met.3, kept node (bounds.Node (cond source met.1 met.2)) met.4)

    given_more : (step : Step) (plan : List Step) → AllGiven (step ∷ plan) b → can_be_given resolved g pattern.atoms plan var x ≡ true → AllGiven plan (with_bound b var x)
    given_more step plan all here other y at =
        ⊎_elim
        (λ is. let same : x ≡ y = bound_is b var x y (subst (λ v. bound_at (with_bound b var x) v ≡ Some y) is at) in
        subst (λ v. can_be_given resolved g pattern.atoms plan v y ≡ true) (sym is) (subst (λ z. can_be_given resolved g pattern.atoms plan var z ≡ true) same here))
        (λ apart. (and_parts _ _ (all other y (sym (bound_other b var other x apart) ∙ at))).1) (one_or_other other var)

    met_more : (step : Step) (plan : List Step) (of end : ℕ) (first : Bool) → ((edge node : ℕ) (source : Bool) → is_between edge node source step ≡ true → (edge ≡ of) × (node ≡ end) × (source ≡ first)) →
        AreMet (step ∷ plan) b → IsMet (with_bound b var x) of end first → AreMet plan (with_bound b var x)
    met_more step plan of end first is_here all here edge node source has none =
        by (is_between edge node source step) refl
      where
        by : (t : Bool) → is_between edge node source step ≡ t → IsMet (with_bound b var x) edge node source
        by true is =
            let same = is_here edge node source is in
            subst (λ e. IsMet (with_bound b var x) e node source) (sym same.0) (subst (λ n. IsMet (with_bound b var x) of n source) (sym same.1) (subst (IsMet (with_bound b var x) of end) (sym same.2) here))
        by false is = met_still edge node source (all edge node source has (ap (λ t. t || list_any (is_between edge node source) plan) is ∙ none))

  completed_along : (edge node : ℕ) (forward : Bool) (plan : List Step) (known : List Bool) (b : List (Option Bound)) → completes pattern known (Along edge node forward ∷ plan) ≡ true → IsState resolved g pattern known b →
      AreMet (Along edge node forward ∷ plan) b → AllGiven (Along edge node forward ∷ plan) b →
      ((x : Bound) → completes pattern (and_known known edge) plan ≡ true → IsState resolved g pattern (and_known known edge) (with_bound b edge x) → AreMet plan (with_bound b edge x) → AllGiven plan (with_bound b edge x) →
      can_complete resolved g pattern.atoms plan (with_bound b edge x) ≡ true) →
      can_complete resolved g pattern.atoms (Along edge node forward ∷ plan) b ≡ true
  completed_along edge node forward plan known b whole state met given rest =
      let parts = completes_more pattern known (Along edge node forward) plan whole in
      let facts = along_facts resolved g pattern valid known edge node forward parts.0 in
      let step = step_facts resolved g pattern valid known (Along edge node forward) parts.0 in
      let at_node = is_bound resolved g pattern known b state node facts.0 in
      let form = node_form resolved g pattern node at_node.0 facts.3 (state.good node at_node.0 at_node.1) in
      let branch = second_of (node == node) _ (eq-eqb node node refl) (and_parts _ _ (given node at_node.0 at_node.1)).0 in
      let listed : list_any (λ id. option_map_or (can_be_given resolved g pattern.atoms plan edge) (admitted_edge resolved g pattern.atoms edge id) false) (edges_along g forward (Some (bounds.Node form.0))) ≡ true =
      subst (λ y. list_any (λ id. option_map_or (can_be_given resolved g pattern.atoms plan edge) (admitted_edge resolved g pattern.atoms edge id) false) (edges_along g forward (Some y)) ≡ true) form.1
      (sym (any_filter_map (can_be_given resolved g pattern.atoms plan edge) (admitted_edge resolved g pattern.atoms edge) (edges_along g forward (Some at_node.0))) ∙ branch) in
      let place = any_at (λ id. option_map_or (can_be_given resolved g pattern.atoms plan edge) (admitted_edge resolved g pattern.atoms edge id) false) (edges_along g forward (Some (bounds.Node form.0))) listed in
      let found = passed_some (can_be_given resolved g pattern.atoms plan edge) (admitted_edge resolved g pattern.atoms edge place.1) place.3 in
      let row = admitted_row resolved g pattern.atoms edge place.1 found.0 found.1 in
      let x = found.0 in
      let end_is : cond forward row.0.source row.0.target ≡ form.0 = listed_from g graph forward form.0 place.1 row.0 place.0 place.2 row.1 in
      let here : IsMet (with_bound b edge x) edge node forward = (
        place.1,
        row.0.source,
        row.0.target,
        bound_now b edge x (omega (arith, state.size, step.0)) ∙ ap (λ y. Some y) row.2,
        kept known b state edge x step.1 node at_node.0 at_node.1 ∙ ap (λ y. Some y) form.1 ∙ ap (λ n. Some (bounds.Node n)) (sym end_is),
      ) in
      let good = admitted_edge_good resolved g pattern edge place.1 x facts.2 found.1 in
      let next = rest x parts.1 (state_more resolved g pattern known b state edge x step.0 good)
      (met_more known b state edge x step.1 (Along edge node forward) plan edge node forward (λ e n s. between_cases e n edge node s forward) met here)
      (given_more known b state edge x step.1 (Along edge node forward) plan given found.2) in
      ap (λ o. list_any (λ id. option_map_or (λ y. can_complete resolved g pattern.atoms plan (with_bound b edge y)) (admitted_edge resolved g pattern.atoms edge id) false) (edges_along g forward o))
      (at_node.1 ∙ ap (λ y. Some y) form.1)
      ∙ one_found (λ id. option_map_or (λ y. can_complete resolved g pattern.atoms plan (with_bound b edge y)) (admitted_edge resolved g pattern.atoms edge id) false)
      (edges_along g forward (Some (bounds.Node form.0))) place.0 place.1 place.2
      (ap (λ o. option_map_or (λ y. can_complete resolved g pattern.atoms plan (with_bound b edge y)) o false) found.1 ∙ next)

  completed_end : (edge node : ℕ) (source : Bool) (plan : List Step) (known : List Bool) (b : List (Option Bound)) → completes pattern known (End edge node source ∷ plan) ≡ true → IsState resolved g pattern known b →
      AreMet (End edge node source ∷ plan) b → AllGiven (End edge node source ∷ plan) b →
      ((x : Bound) → completes pattern (and_known known node) plan ≡ true → IsState resolved g pattern (and_known known node) (with_bound b node x) → AreMet plan (with_bound b node x) → AllGiven plan (with_bound b node x) →
      can_complete resolved g pattern.atoms plan (with_bound b node x) ≡ true) →
      can_complete resolved g pattern.atoms (End edge node source ∷ plan) b ≡ true
  completed_end edge node source plan known b whole state met given rest =
      let parts = completes_more pattern known (End edge node source) plan whole in
      let facts = end_facts resolved g pattern valid known edge node source parts.0 in
      let step = step_facts resolved g pattern valid known (End edge node source) parts.0 in
      let at_edge = is_bound resolved g pattern known b state edge facts.0 in
      let form = edge_form resolved g pattern edge at_edge.0 facts.2 (state.good edge at_edge.0 at_edge.1) in
      let id = cond source form.1 form.2 in
      let branch = second_of (edge == edge) _ (eq-eqb edge edge refl) (and_parts _ _ (given edge at_edge.0 at_edge.1)).0 in
      let one : option_map_or (can_be_given resolved g pattern.atoms plan node) (admitted_node resolved g pattern.atoms node id) false ≡ true =
      subst (λ y. option_map_or (can_be_given resolved g pattern.atoms plan node) (option_and_then (admitted_node resolved g pattern.atoms node) (end_at source (Some y))) false ≡ true) form.4
      (sym (any_of_one (can_be_given resolved g pattern.atoms plan node) (option_and_then (admitted_node resolved g pattern.atoms node) (end_at source (Some at_edge.0)))) ∙ branch) in
      let found = passed_some (can_be_given resolved g pattern.atoms plan node) (admitted_node resolved g pattern.atoms node id) one in
      let x = found.0 in
      let is_node = admitted_is_node resolved g pattern.atoms node id x found.1 in
      let here : IsMet (with_bound b node x) edge node source = (
        form.0,
        form.1,
        form.2,
        kept known b state node x step.1 edge at_edge.0 at_edge.1 ∙ ap (λ y. Some y) form.4,
        bound_now b node x (omega (arith, state.size, step.0)) ∙ ap (λ y. Some y) is_node,
      ) in
      let good = admitted_node_good resolved g pattern node id x facts.3 found.1 in
      let next = rest x parts.1 (state_more resolved g pattern known b state node x step.0 good)
      (met_more known b state node x step.1 (End edge node source) plan edge node source (λ e n s. between_cases e n edge node s source) met here)
      (given_more known b state node x step.1 (End edge node source) plan given found.2) in
      ap (λ o. option_map_or (λ y. can_complete resolved g pattern.atoms plan (with_bound b node y)) (option_and_then (admitted_node resolved g pattern.atoms node) (end_at source o)) false)
      (at_edge.1 ∙ ap (λ y. Some y) form.4)
      ∙ ap (λ o. option_map_or (λ y. can_complete resolved g pattern.atoms plan (with_bound b node y)) o false) found.1 ∙ next

  pub completed : (plan : List Step) (known : List Bool) (b : List (Option Bound)) → completes pattern known plan ≡ true → IsState resolved g pattern known b → AreMet plan b → AllGiven plan b →
      can_complete resolved g pattern.atoms plan b ≡ true
  completed [] known b whole state met given = all_met b pattern.atoms (λ edge node source has. met edge node source has refl)
  completed (Along edge node forward ∷ plan) known b whole state met given =
      completed_along edge node forward plan known b whole state met given (λ x. completed plan (and_known known edge) (with_bound b edge x))
  completed (End edge node source ∷ plan) known b whole state met given =
      completed_end edge node source plan known b whole state met given (λ x. completed plan (and_known known node) (with_bound b node x))
