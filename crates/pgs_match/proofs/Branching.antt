-- Where the variables of a pattern hang on one another as a tree, some match has an element at a variable exactly where all that hangs on
-- the variable can be given one.
use Rattle.std.proofs.Common.{◌≡◌, ℕ, Bool, true, false, ◌&&◌, ◌||◌, cond, not, List, [], ◌∷◌, slice_get, Option, Some, None, refl, sym, ◌∙◌, ap, subst}
use Rattle.std.specs.Prelude.{filter_map, option_and_then}
use Rattle.std.specs.Option.{option_map_or}
use Rattle.std.specs.List.{list_any, list_all, cons_option}
use Rattle.std.proofs.lemmas.Bool.{and_parts, and_from, or_left, or_right, eqb-true}
use Rattle.pgs_base.specs.declared.element.Elem.{Elem}
use Rattle.pgs_base.specs.declared.element.Elem.TheVariants.{Node, Edge}
use Rattle.pgs_base.specs.declared.row.EdgeRow.{EdgeRow}
use Rattle.pgs_base.specs.Graph.{Graph, edge_at}
use Rattle.pgs_syntax.specs.declared.pattern.Atom.{Atom}
use Rattle.pgs_syntax.specs.declared.pattern.Pattern.{Pattern}
use Rattle.pgs_syntax.specs.declared.resolved.Resolved.{Resolved}
use Rattle.pgs_syntax.specs.Matches.{holds, is_match}
use Rattle.pgs_syntax.specs.Valid.{is_valid_pattern}
use Rattle.pgs_match.specs.declared.step.Step.{Step}
use Rattle.pgs_match.specs.declared.step.Step.TheVariants.{Along, End}
use Rattle.pgs_match.specs.declared.bindings.Bound.{Bound}
use Rattle.pgs_match.specs.declared.bindings.Bound.TheVariants as bounds
use Rattle.pgs_match.specs.Bounds.{elem_of, end_at}
use Rattle.pgs_match.specs.Branches.{goes_from, next_bounds, can_be_given}
use Rattle.pgs_match.specs.Plans.{bound_by, is_known, and_known, has_end, is_step, are_steps}
use Rattle.pgs_match.specs.Search.{edges_along}
use Rattle.pgs_match.specs.Tests.{admitted_node, admitted_edge}
use Rattle.pgs_match.proofs.Agreeing.{edge_form, node_form}
use Rattle.pgs_match.proofs.Completed.{placed, edge_of_match, node_of_match}
use Rattle.pgs_match.proofs.Known.{valid_speaks, ends_kinds}
use Rattle.pgs_match.proofs.Listed.{any_along}
use Rattle.pgs_match.proofs.Standing.{IsGood, admitted_node_good, admitted_edge_good}

-- what some of those that a function gives pass
pub any_filter_map : {X Y : Type 0} (p : Y → Bool) (h : X → Option Y) (xs : List X) → list_any p (filter_map h xs) ≡ list_any (λ x. option_map_or p (h x) false) xs
any_filter_map p h [] = refl
any_filter_map {X} {Y} p h (x ∷ xs) = by (h x) (any_filter_map p h xs)
  where
    by : (o : Option Y) → list_any p (filter_map h xs) ≡ list_any (λ z. option_map_or p (h z) false) xs →
        list_any p (cons_option o (filter_map h xs)) ≡ (option_map_or p o false || list_any (λ z. option_map_or p (h z) false) xs)
    by None rest = rest
    by (Some y) rest = ap (λ b. p y || b) rest

pub any_of_one : {Y : Type 0} (p : Y → Bool) (o : Option Y) → list_any p (option_map_or (λ y. y ∷ []) o []) ≡ option_map_or p o false
any_of_one p None = refl
any_of_one {Y} p (Some y) = by (p y)
  where
    by : (b : Bool) → (b || false) ≡ b
    by true = refl
    by false = refl

-- whether a step is at an edge place
abbrev pub has_place : List Atom → Step → Bool
has_place atoms (Along edge node forward) = list_any (has_end edge node forward) atoms
has_place atoms (End edge node source) = list_any (has_end edge node source) atoms

pub steps_placed : (atoms : List Atom) (known : List Bool) (plan : List Step) → are_steps atoms known plan ≡ true → list_all (has_place atoms) plan ≡ true
steps_placed atoms known [] h = refl
steps_placed atoms known (Along edge node forward ∷ plan) h =
    let parts = and_parts (is_step atoms known (Along edge node forward)) _ h in
    and_from _ _ (and_parts (is_known known node && not (is_known known edge)) _ parts.0).1 (steps_placed atoms (and_known known edge) plan parts.1)
steps_placed atoms known (End edge node source ∷ plan) h =
    let parts = and_parts (is_step atoms known (End edge node source)) _ h in
    and_from _ _ (and_parts (is_known known edge && not (is_known known node)) _ parts.0).1 (steps_placed atoms (and_known known node) plan parts.1)

-- ---- a match gives each variable its element

module _ (resolved : Resolved) (g : Graph) (pattern : Pattern) (valid : is_valid_pattern pattern ≡ true) (elems : List Elem) (match : is_match resolved g pattern elems ≡ true)
    (all_hold : list_all (holds resolved g elems) pattern.atoms ≡ true) where
  -- a step from a variable with the match's element comes to the match's element, on which some test is passed
  abbrev IsPassed : (Bound → Bool) → ℕ → Type 0
  IsPassed test var = (x : Bound) → IsGood resolved g pattern var x → slice_get elems var ≡ Some (elem_of x) → test x ≡ true

  along_given : (edge node : ℕ) (forward : Bool) (test : Bound → Bool) → list_any (has_end edge node forward) pattern.atoms ≡ true → IsPassed test edge →
      (x : Bound) → IsGood resolved g pattern node x → slice_get elems node ≡ Some (elem_of x) → list_any test (next_bounds resolved g pattern.atoms (Along edge node forward) x) ≡ true
  along_given edge node forward test has passed x good at =
      let kinds = ends_kinds pattern.edge_vars edge node forward pattern.atoms (valid_speaks pattern valid) has in
      let form = node_form resolved g pattern node x kinds.1 good in
      let place = placed resolved g pattern valid elems match edge node forward pattern.atoms has all_hold in
      let id = place.0 in
      let row = place.1 in
      let bound = bounds.Edge id row.source row.target in
      let end_is : cond forward row.source row.target ≡ form.0 = (let e : Some (Node (cond forward row.source row.target)) ≡ Some (Node form.0) =
      sym place.4 ∙ at ∙ ap (λ y. Some (elem_of y)) form.1 in cc) in
      let admits = edge_of_match resolved g pattern valid elems match edge id row place.2 place.3 in
      let next = passed bound (admitted_edge_good resolved g pattern edge id bound kinds.0 admits) place.2 in
      any_filter_map test (admitted_edge resolved g pattern.atoms edge) (edges_along g forward (Some x))
      ∙ ap (λ o. list_any (λ other. option_map_or test (admitted_edge resolved g pattern.atoms edge other) false) (edges_along g forward o)) (ap (λ y. Some y) form.1)
      ∙ any_along g id row place.3 (λ other. option_map_or test (admitted_edge resolved g pattern.atoms edge other) false)
      (ap (λ o. option_map_or test o false) admits ∙ next) forward form.0 end_is

  end_given : (edge node : ℕ) (source : Bool) (test : Bound → Bool) → list_any (has_end edge node source) pattern.atoms ≡ true → IsPassed test node →
      (x : Bound) → IsGood resolved g pattern edge x → slice_get elems edge ≡ Some (elem_of x) → list_any test (next_bounds resolved g pattern.atoms (End edge node source) x) ≡ true
  end_given edge node source test has passed x good at =
      let kinds = ends_kinds pattern.edge_vars edge node source pattern.atoms (valid_speaks pattern valid) has in
      let form = edge_form resolved g pattern edge x kinds.0 good in
      let place = placed resolved g pattern valid elems match edge node source pattern.atoms has all_hold in
      let number : place.0 ≡ form.0 = (let e : Some (Edge place.0) ≡ Some (Edge form.0) = sym place.2 ∙ at ∙ ap (λ y. Some (elem_of y)) form.4 in cc) in
      let rows : place.1 ≡ form.3 = (let e : Some place.1 ≡ Some form.3 = sym place.3 ∙ ap (edge_at g) number ∙ form.5 in cc) in
      let end_is : cond source place.1.source place.1.target ≡ cond source form.1 form.2 =
      ap (λ (r : EdgeRow). cond source r.source r.target) rows ∙ ap (λ n. cond source n form.3.target) form.6 ∙ ap (λ n. cond source form.1 n) form.7 in
      let id = cond source form.1 form.2 in
      let at_elem : slice_get elems node ≡ Some (Node id) = place.4 ∙ ap (λ n. Some (Node n)) end_is in
      let admits = node_of_match resolved g pattern valid elems match node id kinds.1 at_elem in
      let next = passed (bounds.Node id) (admitted_node_good resolved g pattern node id (bounds.Node id) kinds.1 admits) at_elem in
      any_of_one test (option_and_then (admitted_node resolved g pattern.atoms node) (end_at source (Some x)))
      ∙ ap (λ y. option_map_or test (option_and_then (admitted_node resolved g pattern.atoms node) (end_at source (Some y))) false) form.4
      ∙ ap (λ o. option_map_or test o false) admits ∙ next

  step_given : (step : Step) (var : ℕ) (test : Bound → Bool) → goes_from var step ≡ true → has_place pattern.atoms step ≡ true → IsPassed test (bound_by step) →
      (x : Bound) → IsGood resolved g pattern var x → slice_get elems var ≡ Some (elem_of x) → list_any test (next_bounds resolved g pattern.atoms step x) ≡ true
  step_given (Along edge node forward) var test from has passed x good at =
      let is = eqb-true node var from in
      along_given edge node forward test has passed x (subst (λ v. IsGood resolved g pattern v x) (sym is) good) (subst (λ v. slice_get elems v ≡ Some (elem_of x)) (sym is) at)
  step_given (End edge node source) var test from has passed x good at =
      let is = eqb-true edge var from in
      end_given edge node source test has passed x (subst (λ v. IsGood resolved g pattern v x) (sym is) good) (subst (λ v. slice_get elems v ≡ Some (elem_of x)) (sym is) at)

  pub given_by_match : (plan : List Step) → list_all (has_place pattern.atoms) plan ≡ true → (var : ℕ) → IsPassed (can_be_given resolved g pattern.atoms plan var) var
  given_by_match [] placed_all var x good at = refl
  given_by_match (step ∷ plan) placed_all var x good at =
      let parts = and_parts (has_place pattern.atoms step) _ placed_all in
      and_from _ _ (by (goes_from var step) refl (step_given step var (can_be_given resolved g pattern.atoms plan (bound_by step))) parts.0 (given_by_match plan parts.1 (bound_by step)))
      (given_by_match plan parts.1 var x good at)
    where
      by : (b : Bool) → goes_from var step ≡ b →
          (goes_from var step ≡ true → has_place pattern.atoms step ≡ true → IsPassed (can_be_given resolved g pattern.atoms plan (bound_by step)) (bound_by step) →
          (y : Bound) → IsGood resolved g pattern var y → slice_get elems var ≡ Some (elem_of y) → list_any (can_be_given resolved g pattern.atoms plan (bound_by step)) (next_bounds resolved g pattern.atoms step y) ≡ true) →
          has_place pattern.atoms step ≡ true → IsPassed (can_be_given resolved g pattern.atoms plan (bound_by step)) (bound_by step) →
          (not (goes_from var step) || list_any (can_be_given resolved g pattern.atoms plan (bound_by step)) (next_bounds resolved g pattern.atoms step x)) ≡ true
      by true from next has passed = or_right _ _ (next from has passed x good at)
      by false from next has passed = or_left _ _ (ap not from)
