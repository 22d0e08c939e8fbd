-- What a type of the first schema is answered, nothing where it is contained in the second, else what is outside, and its line.
use Rattle.std.specs.Prelude.{ℕ, Bool, List, [], ◌∷◌, Option, Some, None, MatchOption, slice_get, filter_map, option_map, option_and_then, if◌then◌else◌}
use Rattle.pgs_graph.specs.declared.operation.Op.TheVariants.{AddNode, AddEdge}
use Rattle.pgs_graph.specs.declared.operation.Txn.{Txn}
use Rattle.pgs_syntax.specs.declared.element_type.NodeType.{NodeType}
use Rattle.pgs_syntax.specs.declared.element_type.EdgeType.{EdgeType}
use Rattle.pgs_syntax.specs.declared.resolved.Resolved.{Resolved}
use Rattle.pgs_syntax.specs.declared.resolved.TypeNo.{TypeNo}
use Rattle.pgs_syntax.specs.declared.resolved.TypeNo.TheVariants as types
use Rattle.pgs_syntax.specs.declared.specification.Leaf.{Leaf}
use Rattle.pgs_answer.specs.Lines.{contained_line, outside_line}
use Rattle.pgs_contain.specs.declared.outside.Outside.{Outside}
use Rattle.pgs_contain.specs.declared.outside.Outside.TheVariants as outsides
use Rattle.pgs_contain.specs.Contained.{IsContained, IsOutside}
use Rattle.pgs_contain.specs.Strange.{IsStrange}
use Rattle.pgs_run_contain.specs.Names.{Names}

abbrev pub Answer : Type 0
Answer = Option Outside

-- a type of the guard that isn't abstract, with its name
abbrev pub Listed : Type 0
Listed = TypeNo × List ℕ

-- the name of a type that is there and isn't abstract
abbrev pub shown_name : Bool → List ℕ → Option (List ℕ)
shown_name hidden name = if hidden then None else Some name

abbrev pub listed_name : Resolved → TypeNo → Option (List ℕ)
listed_name resolved (types.Node number) =
    option_and_then (λ (type : NodeType Leaf). shown_name type.hidden type.name) (slice_get resolved.nodes number)
listed_name resolved (types.Edge number) =
    option_and_then (λ (type : EdgeType Leaf). shown_name type.hidden type.name) (slice_get resolved.edges number)

abbrev pub listed_at : Resolved → TypeNo → Option Listed
listed_at resolved number = option_map (λ (name : List ℕ). (number, name)) (listed_name resolved number)

-- of these types those that aren't abstract
abbrev pub listed : Resolved → List TypeNo → List Listed
listed resolved numbers = filter_map (listed_at resolved) numbers

-- the transaction that adds what is outside: a node, or two nodes and an edge from the first to the second
abbrev pub txn_of : Outside → Txn
txn_of (outsides.Node own) = record { ops = AddNode (record { 0 = 1 }) own.labels own.props ∷ [] }
txn_of (outsides.Edge source middle target) = record {
  ops =
      AddNode (record { 0 = 1 }) source.labels source.props ∷ AddNode (record { 0 = 2 }) target.labels target.props
      ∷ AddEdge (record { 0 = 1 }) (record { 0 = 1 }) (record { 0 = 2 }) middle.labels middle.props ∷ [];
}

-- the line of an answer, and those of some
abbrev pub answer_line : List ℕ → Answer → List ℕ
answer_line name None = contained_line name
answer_line name (Some outside) = outside_line name (txn_of outside)

abbrev pub answer_lines : List Listed → List Answer → List (List ℕ)
answer_lines [] answers = []
answer_lines (type ∷ more) [] = []
answer_lines (type ∷ more) (answer ∷ answers) = answer_line type.1 answer ∷ answer_lines more answers

-- an answer is right: with none the type is contained, else what it has is outside, and strange to names but for those of shapes
abbrev pub IsRightAnswer : Resolved → Resolved → Names → TypeNo → Answer → Type 0
IsRightAnswer first second names type answer =
    MatchOption answer (IsContained first type second) (λ outside. IsOutside first type second outside × IsStrange names first type second outside)

-- each of these types has its answer, and each answer is right
abbrev pub AreRight : Resolved → Resolved → Names → List Listed → List Answer → Type 0
AreRight first second names [] [] = Unit {0}
AreRight first second names [] (answer ∷ answers) = ⊥
AreRight first second names (type ∷ more) [] = ⊥
AreRight first second names (type ∷ more) (answer ∷ answers) = IsRightAnswer first second names type.0 answer × AreRight first second names more answers
