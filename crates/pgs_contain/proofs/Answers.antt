-- What is answered of a type, from what is found outside of its shapes.
use Rattle.std.proofs.Common.{◌≡◌, ℕ, List, Option, Some, None, MatchOption, sym, ◌∙◌}
use Rattle.std.specs.Prelude.{IfSome, option_map}
use Rattle.pgs_syntax.specs.declared.resolved.Resolved.{Resolved}
use Rattle.pgs_syntax.specs.declared.resolved.TypeNo.{TypeNo}
use Rattle.pgs_syntax.specs.declared.resolved.TypeNo.TheVariants as types
use Rattle.pgs_conform.specs.declared.shape.Shape.{Shape}
use Rattle.pgs_conform.specs.declared.shape.Triple.{Triple as ShapeTriple}
use Rattle.pgs_contain.specs.declared.outside.Outside.{Outside}
use Rattle.pgs_contain.specs.declared.outside.Outside.TheVariants.{Node}
use Rattle.pgs_contain.specs.declared.outside.OwnedPair.{OwnedPair}
use Rattle.pgs_contain.specs.declared.triples.OwnedTriple.{OwnedTriple}
use Rattle.pgs_contain.specs.Contained.{pair_in, IsContained, IsOutside}
use Rattle.pgs_contain.specs.Containing.{ContainingState, NodeAnswers, EdgeAnswers, outside_triple}
use Rattle.pgs_contain.specs.Frames.{AreInOthers, IsOutOfOthers}
use Rattle.pgs_contain.specs.Strange.{Names, AreShapesOf, AreTriplesOf, AreTypedShapes, AreTypedTriples, IsStrange}
use Rattle.pgs_contain.specs.Threes.{owned_triple, AreInOtherTriples, IsOutOfOtherTriples}

module _ (avoid : Names) (first : Resolved) (number : ℕ) (second : Resolved) where
  pub node_answers : (own others : List Shape) → AreShapesOf first number own → AreTypedShapes second others → (answer : Option OwnedPair) →
      MatchOption answer (AreInOthers own others) (λ found. IsOutOfOthers avoid own others (pair_in found)) → NodeAnswers avoid first number second answer
  node_answers own others own_are others_are None h = λ p pair fits. sym (others_are.denote p pair) ∙ h p pair (own_are.denote p pair ∙ fits)
  node_answers own others own_are others_are (Some found) out = (
    record {
      pair = out.pair;
      fits = sym (own_are.denote (pair_in found) out.pair) ∙ out.inside;
      untyped = sym (others_are.denote (pair_in found) out.pair) ∙ out.outside;
      plain = out.plain;
    },
    record { own = own; own_are = own_are; others = others; others_are = others_are; strange = out.strange },
  )

  pub edge_answers : (own others : List ShapeTriple) → AreTriplesOf first number own → AreTypedTriples second others → (answer : Option OwnedTriple) →
      MatchOption answer (AreInOtherTriples own others) (λ found. IsOutOfOtherTriples avoid own others (owned_triple found)) → EdgeAnswers avoid first number second answer
  edge_answers own others own_are others_are None h = λ t triple fits. sym (others_are.denote t triple) ∙ h t triple (own_are.denote t triple ∙ fits)
  edge_answers own others own_are others_are (Some found) out = (
    record {
      triple = out.triple;
      fits = sym (own_are.denote (owned_triple found) out.triple) ∙ out.inside;
      untyped = sym (others_are.denote (owned_triple found) out.triple) ∙ out.outside;
      plain = out.plain;
    },
    record { own = own; own_are = own_are; others = others; others_are = others_are; source = out.source; middle = out.middle; target = out.target },
  )

  -- the same of what is handed out
  pub node_told : (answer : Option OwnedPair) → NodeAnswers avoid first number second answer →
      MatchOption (option_map Node answer) (IsContained first (types.Node number) second) (IsOutside first (types.Node number) second)
  node_told None h = h
  node_told (Some found) h = h.0

  pub node_strange : (answer : Option OwnedPair) → NodeAnswers avoid first number second answer → IfSome (option_map Node answer) (IsStrange avoid first (types.Node number) second)
  node_strange None h = tt
  node_strange (Some found) h = h.1

  pub edge_told : (answer : Option OwnedTriple) → EdgeAnswers avoid first number second answer →
      MatchOption (option_map outside_triple answer) (IsContained first (types.Edge number) second) (IsOutside first (types.Edge number) second)
  edge_told None h = h
  edge_told (Some found) h = h.0

  pub edge_strange : (answer : Option OwnedTriple) → EdgeAnswers avoid first number second answer → IfSome (option_map outside_triple answer) (IsStrange avoid first (types.Edge number) second)
  edge_strange None h = tt
  edge_strange (Some found) h = h.1

-- ---- of a value that is made once

module _ (first : Resolved) (number : TypeNo) (place : ℕ) (state : ContainingState) where
  pub of_node : (answer : Option OwnedPair) (result : Option Outside) → number ≡ types.Node place → result ≡ option_map Node answer → NodeAnswers state.avoid first place state.second answer →
      MatchOption result (IsContained first number state.second) (IsOutside first number state.second) × IfSome result (IsStrange state.avoid first number state.second)
  of_node answer result is same h =
      rw (is, same) (node_told state.avoid first place state.second answer h, node_strange state.avoid first place state.second answer h)

  pub of_edge : (answer : Option OwnedTriple) (result : Option Outside) → number ≡ types.Edge place → result ≡ option_map outside_triple answer → EdgeAnswers state.avoid first place state.second answer →
      MatchOption result (IsContained first number state.second) (IsOutside first number state.second) × IfSome result (IsStrange state.avoid first number state.second)
  of_edge answer result is same h =
      rw (is, same) (edge_told state.avoid first place state.second answer h, edge_strange state.avoid first place state.second answer h)
