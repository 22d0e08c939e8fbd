-- The steps of a plan lead back along each match: from the element of any variable to that of the first.
use Rattle.std.proofs.Common.{◌≡◌, ℕ, Bool, true, false, ◌==◌, cond, List, [], ◌∷◌, slice_get, Some, refl, sym, ◌∙◌, ap, subst}
use Rattle.std.specs.Prelude.{option_and_then, option_map}
use Rattle.std.specs.List.{list_any, list_all}
use Rattle.std.proofs.lemmas.Bool.{and_parts, or_left, eqb-true}
use Rattle.pgs_base.specs.declared.element.Elem.{Elem}
use Rattle.pgs_base.specs.declared.element.Elem.TheVariants.{Node, Edge}
use Rattle.pgs_base.specs.declared.row.EdgeRow.{EdgeRow}
use Rattle.pgs_base.specs.Graph.{Graph}
use Rattle.pgs_syntax.specs.declared.pattern.Pattern.{Pattern}
use Rattle.pgs_syntax.specs.declared.resolved.Resolved.{Resolved}
use Rattle.pgs_syntax.specs.Matches.{are_there, holds, is_match}
use Rattle.pgs_syntax.specs.Valid.{is_valid_pattern}
use Rattle.pgs_syntax.proofs.Halves.{any_flat_map}
use Rattle.pgs_match.specs.declared.step.Step.{Step}
use Rattle.pgs_match.specs.declared.step.Step.TheVariants.{Along, End}
use Rattle.pgs_match.specs.declared.stand.Stand.{Stand}
use Rattle.pgs_match.specs.Plans.{bound_by, and_known, is_step, are_steps}
use Rattle.pgs_match.specs.Spread.{stand_at, stands_of, edges_in, back, one_back, led_back}
use Rattle.pgs_match.specs.Tests.{admitted_node, admitted_edge}
use Rattle.pgs_match.proofs.Completed.{placed, along_facts, end_facts, edge_of_match, node_of_match}
use Rattle.pgs_match.proofs.Led.{left_by, root}
use Rattle.pgs_match.proofs.Listed.{any_along}

module _ (resolved : Resolved) (g : Graph) (pattern : Pattern) (valid : is_valid_pattern pattern ≡ true) (elems : List Elem) (match : is_match resolved g pattern elems ≡ true) where
  all_hold : list_all (holds resolved g elems) pattern.atoms ≡ true
  all_hold = (and_parts (are_there g pattern.edge_vars elems) _ match).1

  -- a test that the element of a variable passes there
  abbrev Passes : (Stand → Bool) → ℕ → Type 0
  Passes test var = (elem : Elem) → slice_get elems var ≡ Some elem → test (stand_at var elem) ≡ true

  end_leads : (known : List Bool) (edge node : ℕ) (forward : Bool) → is_step pattern.atoms known (Along edge node forward) ≡ true → (test : Stand → Bool) → Passes test node →
      (elem : Elem) → slice_get elems edge ≡ Some elem → list_any test (back resolved g pattern.atoms (Along edge node forward) elem) ≡ true
  end_leads known edge node forward step test passes elem at =
      let facts = along_facts resolved g pattern valid known edge node forward step in
      let place = placed resolved g pattern valid elems match edge node forward pattern.atoms facts.1 all_hold in
      let end = cond forward place.1.source place.1.target in
      let same : elem ≡ Edge place.0 = (let e : Some elem ≡ Some (Edge place.0) = sym at ∙ place.2 in cc) in
      ap (λ e. list_any test (back resolved g pattern.atoms (Along edge node forward) e)) same
      ∙ ap (λ o. list_any test (stands_of node (option_and_then (admitted_node resolved g pattern.atoms node) (option_map (λ (row : EdgeRow). cond forward row.source row.target) o)))) place.3
      ∙ ap (λ o. list_any test (stands_of node o)) (node_of_match resolved g pattern valid elems match node end facts.3 place.4)
      ∙ or_left _ _ (passes (Node end) place.4)

  edges_lead : (known : List Bool) (edge node : ℕ) (source : Bool) → is_step pattern.atoms known (End edge node source) ≡ true → (test : Stand → Bool) → Passes test edge →
      (elem : Elem) → slice_get elems node ≡ Some elem → list_any test (back resolved g pattern.atoms (End edge node source) elem) ≡ true
  edges_lead known edge node source step test passes elem at =
      let facts = end_facts resolved g pattern valid known edge node source step in
      let place = placed resolved g pattern valid elems match edge node source pattern.atoms facts.1 all_hold in
      let end = cond source place.1.source place.1.target in
      let same : elem ≡ Node end = (let e : Some elem ≡ Some (Node end) = sym at ∙ place.4 in cc) in
      ap (λ e. list_any test (back resolved g pattern.atoms (End edge node source) e)) same
      ∙ any_flat_map test (λ id. stands_of edge (admitted_edge resolved g pattern.atoms edge id)) (edges_in g source (Node end))
      ∙ any_along g place.0 place.1 place.3 (λ id. list_any test (stands_of edge (admitted_edge resolved g pattern.atoms edge id)))
      (ap (λ o. list_any test (stands_of edge o)) (edge_of_match resolved g pattern valid elems match edge place.0 place.1 place.2 place.3) ∙ or_left _ _ (passes (Edge place.0) place.2))
      source end refl

  one_leads : (known : List Bool) (step : Step) → is_step pattern.atoms known step ≡ true → (test : Stand → Bool) (var : ℕ) → Passes test (cond (var == bound_by step) (left_by step) var) →
      Passes (λ stand. list_any test (one_back resolved g pattern.atoms step stand)) var
  one_leads known step is test var passes elem at = by step is (var == bound_by step) refl passes
    where
      by : (step : Step) → is_step pattern.atoms known step ≡ true → (b : Bool) → (var == bound_by step) ≡ b → Passes test (cond b (left_by step) var) →
          list_any test (cond b (back resolved g pattern.atoms step elem) (stand_at var elem ∷ [])) ≡ true
      by (Along edge node forward) is true own passes = end_leads known edge node forward is test passes elem (subst (λ v. slice_get elems v ≡ Some elem) (eqb-true var edge own) at)
      by (End edge node source) is true own passes = edges_lead known edge node source is test passes elem (subst (λ v. slice_get elems v ≡ Some elem) (eqb-true var node own) at)
      by step is false own passes = or_left _ _ (passes elem at)

  pub leads : (plan : List Step) (known : List Bool) → are_steps pattern.atoms known plan ≡ true → (var : ℕ) (elem : Elem) → slice_get elems var ≡ Some elem → (test : Stand → Bool) →
      Passes test (root plan var) → list_any test (led_back resolved g pattern.atoms plan (stand_at var elem)) ≡ true
  leads [] known steps var elem at test passes = or_left _ _ (passes elem at)
  leads (step ∷ plan) known steps var elem at test passes =
      let parts = and_parts (is_step pattern.atoms known step) _ steps in
      any_flat_map test (one_back resolved g pattern.atoms step) (led_back resolved g pattern.atoms plan (stand_at var elem))
      ∙ leads plan (and_known known (bound_by step)) parts.1 var elem at (λ stand. list_any test (one_back resolved g pattern.atoms step stand)) (one_leads known step parts.0 test (root plan var) passes)
