-- What contracts see of a value that tells what a schema contains, what it keeps, and its answers.
use Rattle.std.specs.Prelude.{◌≡◌, ℕ, true, List, Option, MatchOption}
use Rattle.std.specs.List.{list_all}
use Rattle.pgs_syntax.specs.declared.resolved.Resolved.{Resolved}
use Rattle.pgs_conform.specs.declared.shape.Shape.{Shape}
use Rattle.pgs_conform.specs.declared.shape.Triple.{Triple as ShapeTriple}
use Rattle.pgs_contain.specs.declared.outside.Outside.{Outside}
use Rattle.pgs_contain.specs.declared.outside.Outside.TheVariants.{Edge}
use Rattle.pgs_contain.specs.declared.outside.OwnedPair.{OwnedPair}
use Rattle.pgs_contain.specs.declared.triples.OwnedTriple.{OwnedTriple}
use Rattle.pgs_contain.specs.Contained.{pair_in, IsNodeContained, IsNodeOutside, IsEdgeContained, IsEdgeOutside}
use Rattle.pgs_contain.specs.Known.{lacks_label, lacks_label_three}
use Rattle.pgs_contain.specs.Strange.{Names, AreTypedShapes, AreTypedTriples, IsNodeStrange, IsEdgeStrange}
use Rattle.pgs_contain.specs.Threes.{owned_triple}

-- the second schema, and the names to avoid
pub record ContainingState : Type 0 where
  pub second : Resolved
  pub avoid : Names

-- the shapes are those of what the schema types, and none of them names the further label
pub record IsContaining (second : Resolved) (label : List ℕ) (shapes : List Shape) (triples : List ShapeTriple) : Type 0 where
  pub nodes : AreTypedShapes second shapes
  pub edges : AreTypedTriples second triples
  pub new_to_nodes : list_all (lacks_label label) shapes ≡ true
  pub new_to_edges : list_all (lacks_label_three label) triples ≡ true

-- what is answered of a node type, and of an edge type
abbrev pub NodeAnswers : Names → Resolved → ℕ → Resolved → Option OwnedPair → Type 0
NodeAnswers avoid first number second answer =
    MatchOption answer (IsNodeContained first number second)
    (λ own. IsNodeOutside first number second (pair_in own) × IsNodeStrange avoid first number second (pair_in own))

abbrev pub EdgeAnswers : Names → Resolved → ℕ → Resolved → Option OwnedTriple → Type 0
EdgeAnswers avoid first number second answer =
    MatchOption answer (IsEdgeContained first number second)
    (λ own. IsEdgeOutside first number second (owned_triple own) × IsEdgeStrange avoid first number second (owned_triple own))

abbrev pub outside_triple : OwnedTriple → Outside
outside_triple own = Edge own.source own.middle own.target
