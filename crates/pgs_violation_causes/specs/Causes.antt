-- The causes of a violation of a graph under the schema of a text.
use Rattle.std.specs.Prelude.{ℕ, List}
use Rattle.pgs_base.specs.Graph.{Graph, node_at}
use Rattle.pgs_syntax.specs.declared.resolved.Resolved.{Resolved}
use Rattle.pgs_violation.specs.declared.violation.Violation.{Violation}
use Rattle.pgs_violation.specs.declared.violation.Violation.TheVariants.{UntypedNode, UntypedEdge}
use Rattle.pgs_violation_causes.specs.Keys.{AreCausesOfKey}
use Rattle.pgs_violation_causes.specs.Types.{AreEdgeCauses, AreNodeCauses, triple_of_edge}

-- of an element that fits no type the nearest types; of the violation of a key the key, and where its pattern ends
abbrev pub AreViolationCauses : (text : List ℕ) → Resolved → Graph → Violation → List (List ℕ) → Type 0
AreViolationCauses text schema g (UntypedNode node) texts = AreNodeCauses schema (node_at g node) texts
AreViolationCauses text schema g (UntypedEdge edge) texts = AreEdgeCauses schema (triple_of_edge g edge) texts
AreViolationCauses text schema g violation texts = AreCausesOfKey text schema g violation texts
