-- The types of a script with look-ups by their names.
use Rattle.std.specs.Prelude.{◌≡◌, ℕ, List, map}
use Rattle.pgs_syntax.specs.declared.element_type.NodeType.{NodeType}
use Rattle.pgs_syntax.specs.declared.element_type.EdgeType.{EdgeType}
use Rattle.pgs_syntax.specs.declared.script.GraphType.{GraphType}
use Rattle.pgs_syntax.specs.declared.script.Script.{Script}
use Rattle.pgs_resolve_declared.specs.declared.declarations.Declarations.{Declarations}
use Rattle.pgs_resolve_declared.specs.Declarations.{nodes_of, edges_of, graphs_of}

-- whether declarations are those of a script: all its types in order, and their names
pub record AreOf (script : Script) (declarations : Declarations) : Type 0 where
  pub nodes : map (λ type. type.now) declarations.nodes.items ≡ nodes_of script
  pub edges : map (λ type. type.now) declarations.edges.items ≡ edges_of script
  pub graphs : map (λ type. type.now) declarations.graphs.items ≡ graphs_of script
  pub node_names : declarations.node_names ≡ map (λ (type : NodeType (List ℕ)). type.name) (nodes_of script)
  pub edge_names : declarations.edge_names ≡ map (λ (type : EdgeType (List ℕ)). type.name) (edges_of script)
  pub graph_names : declarations.graph_names ≡ map (λ (type : GraphType). type.name) (graphs_of script)
