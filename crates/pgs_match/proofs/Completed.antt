-- The bindings to which a plan completes bindings are the matches that agree with them.
use Rattle.std.proofs.Common.{◌≡◌, ℕ, ◌<◌, Bool, true, false, ◌&&◌, ◌||◌, ◌==◌, cond, not, ⊎_elim, List, [], ◌∷◌, length, slice_get, Option, Some, None, refl, sym, ◌∙◌, ap, subst, true≢false, arith}
use Rattle.std.specs.Prelude.{option_and_then}
use Rattle.std.specs.Option.{option_map_or}
use Rattle.std.specs.List.{list_any, list_all, flat_map}
use Rattle.std.proofs.lemmas.Bool.{and_parts, and_from, or_cases, or_left, eqb-true, eq-eqb}
use Rattle.pgs_base.specs.declared.element.NodeId.{NodeId}
use Rattle.pgs_base.specs.declared.element.EdgeId.{EdgeId}
use Rattle.pgs_base.specs.declared.element.Elem.{Elem}
use Rattle.pgs_base.specs.declared.element.Elem.TheVariants.{Node, Edge}
use Rattle.pgs_base.specs.declared.row.EdgeRow.{EdgeRow}
use Rattle.pgs_base.specs.Graph.{Graph, node_at, edge_at}
use Rattle.pgs_syntax.specs.declared.pattern.Atom.{Atom}
use Rattle.pgs_syntax.specs.declared.pattern.Atom.TheVariants.{Ends, HasLabel, FitsNode, FitsEdge, Equals}
use Rattle.pgs_syntax.specs.declared.pattern.Pattern.{Pattern}
use Rattle.pgs_syntax.specs.declared.resolved.Resolved.{Resolved}
use Rattle.pgs_syntax.specs.Matches.{leads, are_there, holds, is_match}
use Rattle.pgs_syntax.specs.Valid.{is_edge_var, is_node_var, speaks_of, is_valid_pattern}
use Rattle.pgs_syntax.proofs.Halves.{any_flat_map}
use Rattle.pgs_match.specs.declared.step.Step.{Step}
use Rattle.pgs_match.specs.declared.step.Step.TheVariants.{Along, End}
use Rattle.pgs_match.specs.Plans.{bound_by, is_known, and_known, has_end, is_step, are_steps, covers, completes}
use Rattle.pgs_match.proofs.Known.{edge_below, node_below, valid_speaks, ends_kinds, step_bounds, covers_at}
use Rattle.pgs_match.specs.declared.bindings.Bound.{Bound}
use Rattle.pgs_match.specs.declared.bindings.Bound.TheVariants as bounds
use Rattle.pgs_match.specs.Bounds.{elem_of, bound_at, with_bound, end_at}
use Rattle.pgs_match.specs.Search.{edges_along, completions}
use Rattle.pgs_match.specs.Tests.{admitted_node, admitted_edge, are_ends, agrees}
use Rattle.pgs_match.proofs.Agreeing.{Agrees, IsFull, edge_form, node_form, elems_of, elems_agree, elems_there, match_from}
use Rattle.pgs_match.proofs.AskedOf.{node_passes_from, edge_passes_from}
use Rattle.pgs_match.proofs.Listed.{any_along}
use Rattle.pgs_match.proofs.Standing.{IsGood, IsState, admitted_node_good, admitted_edge_good, node_admitted, edge_admitted, is_bound, state_more, kept_more, bound_now, bound_other, one_or_other}
use Rattle.pgs_match.proofs.There.{there_at, node_kind}

-- ---- small steps

pub any_gives : {X : Type 0} (p : X → Bool) (xs : List X) → list_any p xs ≡ true → (x : X) × (p x ≡ true)
any_gives p [] h = absurd (true≢false (sym h))
any_gives p (x ∷ xs) h = ⊎_elim (λ here. (x, here)) (any_gives p xs) (or_cases (p x) _ h)

any_flat_gives : {X Y : Type 0} (test : Y → Bool) (f : X → List Y) (xs : List X) → list_any test (flat_map f xs) ≡ true → (x : X) × (list_any test (f x) ≡ true)
any_flat_gives test f xs h = any_gives (λ x. list_any test (f x)) xs (sym (any_flat_map test f xs) ∙ h)

pub then_gives : {X Y : Type 0} (f : X → Option Y) (o : Option X) (y : Y) → option_and_then f o ≡ Some y → (x : X) × (o ≡ Some x) × (f x ≡ Some y)
then_gives f None y h = cc
then_gives f (Some x) y h = (x, refl, h)

pub any_option : {X Y : Type 0} (test : Y → Bool) (f : X → List Y) (o : Option X) → list_any test (option_map_or f o []) ≡ true → (x : X) × (o ≡ Some x) × (list_any test (f x) ≡ true)
any_option test f None h = absurd (true≢false (sym h))
any_option test f (Some x) h = (x, refl, h)

-- the rest of a plan is one where the first step is done
pub completes_more : (pattern : Pattern) (known : List Bool) (step : Step) (plan : List Step) → completes pattern known (step ∷ plan) ≡ true →
    (is_step pattern.atoms known step ≡ true) × (completes pattern (and_known known (bound_by step)) plan ≡ true)
completes_more pattern known step plan h =
    let parts = and_parts (are_steps pattern.atoms known (step ∷ plan)) _ h in
    let steps = and_parts (is_step pattern.atoms known step) _ parts.0 in
    (steps.0, and_from _ _ steps.1 parts.1)

module _ (resolved : Resolved) (g : Graph) (pattern : Pattern) (valid : is_valid_pattern pattern ≡ true) where
  pub full_where_covered : (known : List Bool) (b : List (Option Bound)) → IsState resolved g pattern known b → covers pattern.edge_vars known ≡ true → IsFull resolved g pattern b
  full_where_covered known b state covered var below = is_bound resolved g pattern known b state var (covers_at pattern.edge_vars known var covered below)

  -- ---- what a step binds

  pub step_facts : (known : List Bool) (step : Step) → is_step pattern.atoms known step ≡ true → (bound_by step < 20) × (is_known known (bound_by step) ≡ false)
  step_facts known step h = let bounds = step_bounds pattern pattern.atoms known step (bound_by step) valid refl refl h in (bounds.1, bounds.2)

  pub along_facts : (known : List Bool) (edge node : ℕ) (forward : Bool) → is_step pattern.atoms known (Along edge node forward) ≡ true →
      (is_known known node ≡ true) × (list_any (has_end edge node forward) pattern.atoms ≡ true) × (is_edge_var pattern.edge_vars edge ≡ true) × (is_node_var pattern.edge_vars node ≡ true)
  along_facts known edge node forward h =
      let parts = and_parts (is_known known node && not (is_known known edge)) _ h in
      let kinds = ends_kinds pattern.edge_vars edge node forward pattern.atoms (valid_speaks pattern valid) parts.1 in
      ((and_parts (is_known known node) _ parts.0).0, parts.1, kinds.0, kinds.1)

  pub end_facts : (known : List Bool) (edge node : ℕ) (source : Bool) → is_step pattern.atoms known (End edge node source) ≡ true →
      (is_known known edge ≡ true) × (list_any (has_end edge node source) pattern.atoms ≡ true) × (is_edge_var pattern.edge_vars edge ≡ true) × (is_node_var pattern.edge_vars node ≡ true)
  end_facts known edge node source h =
      let parts = and_parts (is_known known edge && not (is_known known node)) _ h in
      let kinds = ends_kinds pattern.edge_vars edge node source pattern.atoms (valid_speaks pattern valid) parts.1 in
      ((and_parts (is_known known edge) _ parts.0).0, parts.1, kinds.0, kinds.1)

  -- ---- each completion is a match

  module _ (test : List (Option Bound) → Bool) where
    abbrev pub IsFound : List (Option Bound) → Type 0
    IsFound b = (final : List (Option Bound)) × (elems : List Elem) × (test final ≡ true) × (is_match resolved g pattern elems ≡ true) × Agrees final elems × IsFull resolved g pattern final
        × ((var : ℕ) (x : Bound) → bound_at b var ≡ Some x → bound_at final var ≡ Some x)

    -- what is found with one variable more is found
    found_before : (known : List Bool) (b : List (Option Bound)) (state : IsState resolved g pattern known b) (var : ℕ) (x : Bound) → is_known known var ≡ false →
        IsFound (with_bound b var x) → IsFound b
    found_before known b state var x unknown found =
        (found.0, found.1, found.2, found.3, found.4, found.5, λ other y at. found.6 other y (kept_more resolved g pattern known b state var x unknown other y at))

    pub found : (plan : List Step) (known : List Bool) (b : List (Option Bound)) → completes pattern known plan ≡ true → IsState resolved g pattern known b →
        list_any test (completions resolved g pattern.atoms plan b) ≡ true → IsFound b
    found [] known b whole state h = by (list_all (agrees b) pattern.atoms) refl h
      where
        by : (t : Bool) → list_all (agrees b) pattern.atoms ≡ t → list_any test (cond t (b ∷ []) []) ≡ true → IsFound b
        by true agree_all passes =
            let full = full_where_covered known b state (and_parts true _ whole).1 in
            let elems = elems_of resolved g pattern known b state full in
            let agree = elems_agree resolved g pattern known b state full in (
              b,
              elems,
              alone (test b) passes,
              match_from resolved g pattern known b state full elems agree (valid_speaks pattern valid) agree_all (elems_there resolved g pattern known b state full),
              agree,
              full,
              λ var x at. at,
            )
          where
            alone : (t : Bool) → (t || false) ≡ true → t ≡ true
            alone true h = refl
            alone false h = h
        by false agree_all passes = absurd (true≢false (sym passes))
    found (Along edge node forward ∷ plan) known b whole state h =
        let parts = completes_more pattern known (Along edge node forward) plan whole in
        let facts = along_facts known edge node forward parts.0 in
        let step = step_facts known (Along edge node forward) parts.0 in
        let at = any_flat_gives test (λ id. option_map_or (λ x. completions resolved g pattern.atoms plan (with_bound b edge x)) (admitted_edge resolved g pattern.atoms edge id) [])
        (edges_along g forward (bound_at b node)) h in
        let bound = any_option test (λ x. completions resolved g pattern.atoms plan (with_bound b edge x)) (admitted_edge resolved g pattern.atoms edge at.0) at.1 in
        let good = admitted_edge_good resolved g pattern edge at.0 bound.0 facts.2 bound.1 in
        found_before known b state edge bound.0 step.1
        (found plan (and_known known edge) (with_bound b edge bound.0) parts.1 (state_more resolved g pattern known b state edge bound.0 step.0 good) bound.2)
    found (End edge node source ∷ plan) known b whole state h =
        let parts = completes_more pattern known (End edge node source) plan whole in
        let facts = end_facts known edge node source parts.0 in
        let step = step_facts known (End edge node source) parts.0 in
        let bound = any_option test (λ x. completions resolved g pattern.atoms plan (with_bound b node x))
        (option_and_then (admitted_node resolved g pattern.atoms node) (end_at source (bound_at b edge))) h in
        let from = then_gives (admitted_node resolved g pattern.atoms node) (end_at source (bound_at b edge)) bound.0 bound.1 in
        let good = admitted_node_good resolved g pattern node from.0 bound.0 facts.3 from.2 in
        found_before known b state node bound.0 step.1
        (found plan (and_known known node) (with_bound b node bound.0) parts.1 (state_more resolved g pattern known b state node bound.0 step.0 good) bound.2)

  -- ---- each match is a completion

  module _ (elems : List Elem) (match : is_match resolved g pattern elems ≡ true) where
    all_hold : list_all (holds resolved g elems) pattern.atoms ≡ true
    all_hold = (and_parts (are_there g pattern.edge_vars elems) _ match).1

    pub agrees_more : (b : List (Option Bound)) (var : ℕ) (x : Bound) → var < length b → Agrees b elems → slice_get elems var ≡ Some (elem_of x) → Agrees (with_bound b var x) elems
    agrees_more b var x below agree here other y at =
        ⊎_elim
        (λ is. let same : x ≡ y = (let e : Some x ≡ Some y = sym (bound_now b var x below) ∙ subst (λ v. bound_at (with_bound b var x) v ≡ Some y) is at in cc) in
        subst (λ v. slice_get elems v ≡ Some (elem_of y)) (sym is) (subst (λ z. slice_get elems var ≡ Some (elem_of z)) same here))
        (λ apart. agree other y (sym (bound_other b var other x apart) ∙ at)) (one_or_other other var)

    -- the forms of what an edge place has
    abbrev IsLed : Option Elem → Option Elem → Option Elem → Type 0
    IsLed edge source target = (id : EdgeId) × (row : EdgeRow) × (edge ≡ Some (Edge id)) × (edge_at g id ≡ Some row) × (source ≡ Some (Node row.source)) × (target ≡ Some (Node row.target))

    one_node : (a b : NodeId) → (a.0 == b.0) ≡ true → a ≡ b
    one_node a b h = ap (λ n. record { 0 = n }) (eqb-true a.0 b.0 h)

    led : (edge source target : Option Elem) → leads g edge source target ≡ true → IsLed edge source target
    led (Some (Edge id)) (Some (Node a)) (Some (Node c)) h = by (edge_at g id) refl h
      where
        by : (o : Option EdgeRow) → edge_at g id ≡ o → option_map_or (λ (r : EdgeRow). r.source.0 == a.0 && r.target.0 == c.0) o false ≡ true → IsLed (Some (Edge id)) (Some (Node a)) (Some (Node c))
        by None at same = absurd (true≢false (sym same))
        by (Some row) at same =
            let parts = and_parts (row.source.0 == a.0) (row.target.0 == c.0) same in
            (id, row, refl, at, ap (λ (n : NodeId). Some (Node n)) (sym (one_node row.source a parts.0)), ap (λ (n : NodeId). Some (Node n)) (sym (one_node row.target c parts.1)))
    led edge source target h = absurd (true≢false (sym h))

    abbrev pub IsPlaced : ℕ → ℕ → Bool → Type 0
    IsPlaced edge node source = (id : EdgeId) × (row : EdgeRow) × (slice_get elems edge ≡ Some (Edge id)) × (edge_at g id ≡ Some row)
        × (slice_get elems node ≡ Some (Node (cond source row.source row.target)))

    placed_once : (edge node : ℕ) (source : Bool) (of first second : ℕ) → has_end edge node source (Ends of first second) ≡ true → holds resolved g elems (Ends of first second) ≡ true → IsPlaced edge node source
    placed_once edge node source of first second has hold =
        let parts = and_parts (of == edge) (cond source first second == node) has in
        let led_here = led (slice_get elems of) (slice_get elems first) (slice_get elems second) hold in
        (led_here.0, led_here.1, subst (λ v. slice_get elems v ≡ Some (Edge led_here.0)) (eqb-true of edge parts.0) led_here.2, led_here.3, by source parts.1 led_here.1 led_here.4 led_here.5)
      where
        by : (source : Bool) → (cond source first second == node) ≡ true → (row : EdgeRow) → slice_get elems first ≡ Some (Node row.source) → slice_get elems second ≡ Some (Node row.target) →
            slice_get elems node ≡ Some (Node (cond source row.source row.target))
        by true at row one other = subst (λ v. slice_get elems v ≡ Some (Node row.source)) (eqb-true first node at) one
        by false at row one other = subst (λ v. slice_get elems v ≡ Some (Node row.target)) (eqb-true second node at) other

    pub placed : (edge node : ℕ) (source : Bool) (atoms : List Atom) → list_any (has_end edge node source) atoms ≡ true → list_all (holds resolved g elems) atoms ≡ true → IsPlaced edge node source
    placed edge node source [] has hold = absurd (true≢false (sym has))
    placed edge node source (Ends of first second ∷ atoms) has hold =
        let parts = and_parts (holds resolved g elems (Ends of first second)) _ hold in
        ⊎_elim (λ here. placed_once edge node source of first second here parts.0) (λ later. placed edge node source atoms later parts.1)
        (or_cases (has_end edge node source (Ends of first second)) _ has)
    placed edge node source (HasLabel var label ∷ atoms) has hold = placed edge node source atoms has (and_parts (holds resolved g elems (HasLabel var label)) _ hold).1
    placed edge node source (FitsNode var number ∷ atoms) has hold = placed edge node source atoms has (and_parts (holds resolved g elems (FitsNode var number)) _ hold).1
    placed edge node source (FitsEdge var number ∷ atoms) has hold = placed edge node source atoms has (and_parts (holds resolved g elems (FitsEdge var number)) _ hold).1
    placed edge node source (Equals var key value ∷ atoms) has hold = placed edge node source atoms has (and_parts (holds resolved g elems (Equals var key value)) _ hold).1

    -- an edge that a match has, and a node, is admitted
    pub edge_of_match : (var : ℕ) (id : EdgeId) (row : EdgeRow) → slice_get elems var ≡ Some (Edge id) → edge_at g id ≡ Some row →
        admitted_edge resolved g pattern.atoms var id ≡ Some (bounds.Edge id row.source row.target)
    edge_of_match var id row at row_at = edge_admitted resolved g pattern var id row row_at (edge_passes_from resolved g elems var id row at row_at pattern.atoms all_hold)

    pub node_of_match : (var : ℕ) (id : NodeId) → is_node_var pattern.edge_vars var ≡ true → slice_get elems var ≡ Some (Node id) → admitted_node resolved g pattern.atoms var id ≡ Some (bounds.Node id)
    node_of_match var id kind at =
        let there = there_at g pattern.edge_vars elems var false (and_parts _ _ match).0 (node_kind pattern.edge_vars var kind) in
        let found_row = there.2 in
        let same : found_row.0 ≡ id = (let e : Some (Node found_row.0) ≡ Some (Node id) = ap Some (sym found_row.2) ∙ sym there.1 ∙ at in cc) in
        let row_at : node_at g id ≡ Some found_row.1 = subst (λ n. node_at g n ≡ Some found_row.1) same found_row.3 in
        node_admitted resolved g pattern var id found_row.1 row_at (node_passes_from resolved g elems var id found_row.1 at row_at pattern.atoms all_hold)

    -- the bindings of each edge place agree
    module _ (b : List (Option Bound)) (good : (var : ℕ) (x : Bound) → bound_at b var ≡ Some x → IsGood resolved g pattern var x) (agree : Agrees b elems) (full : IsFull resolved g pattern b) where
      ends_agree : (edge source target : ℕ) → speaks_of pattern.edge_vars (Ends edge source target) ≡ true → holds resolved g elems (Ends edge source target) ≡ true →
          agrees b (Ends edge source target) ≡ true
      ends_agree edge source target speaks hold =
          let kinds = and_parts (is_edge_var pattern.edge_vars edge && is_node_var pattern.edge_vars source) (is_node_var pattern.edge_vars target) speaks in
          let inner = and_parts (is_edge_var pattern.edge_vars edge) (is_node_var pattern.edge_vars source) kinds.0 in
          let at_edge = full edge (edge_below pattern.edge_vars edge inner.0) in
          let at_source = full source (node_below pattern.edge_vars source inner.1) in
          let at_target = full target (node_below pattern.edge_vars target kinds.1) in
          let e = edge_form resolved g pattern edge at_edge.0 inner.0 (good edge at_edge.0 at_edge.1) in
          let s = node_form resolved g pattern source at_source.0 inner.1 (good source at_source.0 at_source.1) in
          let t = node_form resolved g pattern target at_target.0 kinds.1 (good target at_target.0 at_target.1) in
          let is_led = led (slice_get elems edge) (slice_get elems source) (slice_get elems target) hold in
          let number : is_led.0 ≡ e.0 = (let f : Some (Edge is_led.0) ≡ Some (elem_of at_edge.0) = sym is_led.2 ∙ agree edge at_edge.0 at_edge.1 in
          let h : Some (Edge is_led.0) ≡ Some (Edge e.0) = f ∙ ap (λ x. Some (elem_of x)) e.4 in cc) in
          let rows : is_led.1 ≡ e.3 = (let f : Some is_led.1 ≡ Some e.3 = sym is_led.3 ∙ ap (edge_at g) number ∙ e.5 in cc) in
          let first : is_led.1.source ≡ s.0 = (let f : Some (Node is_led.1.source) ≡ Some (Node s.0) = sym is_led.4 ∙ agree source at_source.0 at_source.1 ∙ ap (λ x. Some (elem_of x)) s.1 in cc) in
          let second : is_led.1.target ≡ t.0 = (let f : Some (Node is_led.1.target) ≡ Some (Node t.0) = sym is_led.5 ∙ agree target at_target.0 at_target.1 ∙ ap (λ x. Some (elem_of x)) t.1 in cc) in
          let one : e.1 ≡ s.0 = sym e.6 ∙ ap (λ (r : EdgeRow). r.source) (sym rows) ∙ first in
          let other : e.2 ≡ t.0 = sym e.7 ∙ ap (λ (r : EdgeRow). r.target) (sym rows) ∙ second in
          ap (λ x. are_ends x (bound_at b source) (bound_at b target)) (at_edge.1 ∙ ap Some e.4)
          ∙ ap (λ x. are_ends (Some (bounds.Edge e.0 e.1 e.2)) x (bound_at b target)) (at_source.1 ∙ ap Some s.1)
          ∙ ap (λ x. are_ends (Some (bounds.Edge e.0 e.1 e.2)) (Some (bounds.Node s.0)) x) (at_target.1 ∙ ap Some t.1)
          ∙ and_from _ _ (eq-eqb e.1.0 s.0.0 (ap (λ (n : NodeId). n.0) one)) (eq-eqb e.2.0 t.0.0 (ap (λ (n : NodeId). n.0) other))

      all_agree : (atoms : List Atom) → list_all (speaks_of pattern.edge_vars) atoms ≡ true → list_all (holds resolved g elems) atoms ≡ true → list_all (agrees b) atoms ≡ true
      all_agree [] speaks hold = refl
      all_agree (Ends edge source target ∷ atoms) speaks hold =
          let s = and_parts (speaks_of pattern.edge_vars (Ends edge source target)) _ speaks in
          let h = and_parts (holds resolved g elems (Ends edge source target)) _ hold in
          and_from _ _ (ends_agree edge source target s.0 h.0) (all_agree atoms s.1 h.1)
      all_agree (HasLabel var label ∷ atoms) speaks hold =
          all_agree atoms (and_parts (speaks_of pattern.edge_vars (HasLabel var label)) _ speaks).1 (and_parts (holds resolved g elems (HasLabel var label)) _ hold).1
      all_agree (FitsNode var number ∷ atoms) speaks hold =
          all_agree atoms (and_parts (speaks_of pattern.edge_vars (FitsNode var number)) _ speaks).1 (and_parts (holds resolved g elems (FitsNode var number)) _ hold).1
      all_agree (FitsEdge var number ∷ atoms) speaks hold =
          all_agree atoms (and_parts (speaks_of pattern.edge_vars (FitsEdge var number)) _ speaks).1 (and_parts (holds resolved g elems (FitsEdge var number)) _ hold).1
      all_agree (Equals var key value ∷ atoms) speaks hold =
          all_agree atoms (and_parts (speaks_of pattern.edge_vars (Equals var key value)) _ speaks).1 (and_parts (holds resolved g elems (Equals var key value)) _ hold).1

    module _ (test : List (Option Bound) → Bool) (passes : (final : List (Option Bound)) → Agrees final elems → IsFull resolved g pattern final → test final ≡ true) where
      pub given : (plan : List Step) (known : List Bool) (b : List (Option Bound)) → completes pattern known plan ≡ true → IsState resolved g pattern known b → Agrees b elems →
          list_any test (completions resolved g pattern.atoms plan b) ≡ true
      given [] known b whole state agree =
          let full = full_where_covered known b state (and_parts true _ whole).1 in
          ap (λ t. list_any test (cond t (b ∷ []) [])) (all_agree b state.good agree full pattern.atoms (valid_speaks pattern valid) all_hold)
          ∙ or_left (test b) false (passes b agree full)
      given (Along edge node forward ∷ plan) known b whole state agree =
          let parts = completes_more pattern known (Along edge node forward) plan whole in
          let facts = along_facts known edge node forward parts.0 in
          let step = step_facts known (Along edge node forward) parts.0 in
          let at_node = is_bound resolved g pattern known b state node facts.0 in
          let form = node_form resolved g pattern node at_node.0 facts.3 (state.good node at_node.0 at_node.1) in
          let place = placed edge node forward pattern.atoms facts.1 all_hold in
          let id = place.0 in
          let row = place.1 in
          let bound = bounds.Edge id row.source row.target in
          let end_is : cond forward row.source row.target ≡ form.0 = (let e : Some (Node (cond forward row.source row.target)) ≡ Some (Node form.0) =
          sym place.4 ∙ agree node at_node.0 at_node.1 ∙ ap (λ x. Some (elem_of x)) form.1 in cc) in
          let admits = edge_of_match edge id row place.2 place.3 in
          let good = admitted_edge_good resolved g pattern edge id bound facts.2 admits in
          let rest = given plan (and_known known edge) (with_bound b edge bound) parts.1 (state_more resolved g pattern known b state edge bound step.0 good)
          (agrees_more b edge bound (omega (arith, state.size, step.0)) agree place.2) in
          any_flat_map test (λ other. option_map_or (λ x. completions resolved g pattern.atoms plan (with_bound b edge x)) (admitted_edge resolved g pattern.atoms edge other) []) (edges_along g forward (bound_at b node))
          ∙ ap (λ o. list_any (λ other. list_any test (option_map_or (λ x. completions resolved g pattern.atoms plan (with_bound b edge x)) (admitted_edge resolved g pattern.atoms edge other) [])) (edges_along g forward o))
          (at_node.1 ∙ ap Some form.1)
          ∙ any_along g id row place.3 (λ other. list_any test (option_map_or (λ x. completions resolved g pattern.atoms plan (with_bound b edge x)) (admitted_edge resolved g pattern.atoms edge other) []))
          (ap (λ o. list_any test (option_map_or (λ x. completions resolved g pattern.atoms plan (with_bound b edge x)) o [])) admits ∙ rest) forward form.0 end_is
      given (End edge node source ∷ plan) known b whole state agree =
          let parts = completes_more pattern known (End edge node source) plan whole in
          let facts = end_facts known edge node source parts.0 in
          let step = step_facts known (End edge node source) parts.0 in
          let at_edge = is_bound resolved g pattern known b state edge facts.0 in
          let form = edge_form resolved g pattern edge at_edge.0 facts.2 (state.good edge at_edge.0 at_edge.1) in
          let place = placed edge node source pattern.atoms facts.1 all_hold in
          let number : place.0 ≡ form.0 = (let e : Some (Edge place.0) ≡ Some (Edge form.0) = sym place.2 ∙ agree edge at_edge.0 at_edge.1 ∙ ap (λ x. Some (elem_of x)) form.4 in cc) in
          let rows : place.1 ≡ form.3 = (let e : Some place.1 ≡ Some form.3 = sym place.3 ∙ ap (edge_at g) number ∙ form.5 in cc) in
          let end_is : cond source place.1.source place.1.target ≡ cond source form.1 form.2 =
          ap (λ (r : EdgeRow). cond source r.source r.target) rows ∙ ap (λ n. cond source n form.3.target) form.6 ∙ ap (λ n. cond source form.1 n) form.7 in
          let id = cond source form.1 form.2 in
          let at_elem : slice_get elems node ≡ Some (Node id) = place.4 ∙ ap (λ n. Some (Node n)) end_is in
          let admits = node_of_match node id facts.3 at_elem in
          let good = admitted_node_good resolved g pattern node id (bounds.Node id) facts.3 admits in
          let rest = given plan (and_known known node) (with_bound b node (bounds.Node id)) parts.1 (state_more resolved g pattern known b state node (bounds.Node id) step.0 good)
          (agrees_more b node (bounds.Node id) (omega (arith, state.size, step.0)) agree at_elem) in
          ap (λ o. list_any test (option_map_or (λ x. completions resolved g pattern.atoms plan (with_bound b node x)) (option_and_then (admitted_node resolved g pattern.atoms node) (end_at source o)) []))
          (at_edge.1 ∙ ap Some form.4)
          ∙ ap (λ o. list_any test (option_map_or (λ x. completions resolved g pattern.atoms plan (with_bound b node x)) o [])) admits ∙ rest
