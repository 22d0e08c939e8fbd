-- Ways from name to name, however long.
use Rattle.std.specs.Prelude.{◌⊎◌, ℕ, List, ◌++◌, map, Contains}
use Rattle.pgs_syntax.specs.declared.element_type.NodeType.{NodeType}
use Rattle.pgs_syntax.specs.declared.element_type.EdgeType.{EdgeType}
use Rattle.pgs_syntax.specs.declared.script.GraphType.{GraphType}
use Rattle.pgs_syntax.specs.declared.script.Script.{Script}
use Rattle.pgs_resolve_declared.specs.Declarations.{nodes_of, edges_of, graphs_of}
use Rattle.pgs_resolve_declared.specs.Refused.{named_by, imported_by}

-- whether steps lead from one name to another, one or more of them, each to a name that the one before it gives
pub data LeadsTo (next : List ℕ → List (List ℕ)) : List ℕ → List ℕ → Type 0 where
  step : {from to : List ℕ} → Contains (next from) to → LeadsTo next from to
  further : {from via to : List ℕ} → Contains (next from) via → LeadsTo next via to → LeadsTo next from to

-- whether an element type leads back to itself by what it names, or a graph type by what it imports
abbrev pub IsOnCycle : Script → List ℕ → Type 0
IsOnCycle script name = LeadsTo (named_by script) name name ⊎ LeadsTo (imported_by script) name name

-- the names of all element types, and of all graph types
abbrev pub type_names : Script → List (List ℕ)
type_names script =
    map (λ (type : NodeType (List ℕ)). type.name) (nodes_of script) ++ map (λ (type : EdgeType (List ℕ)). type.name) (edges_of script)

abbrev pub graph_names : Script → List (List ℕ)
graph_names script = map (λ (type : GraphType). type.name) (graphs_of script)
