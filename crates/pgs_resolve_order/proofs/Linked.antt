-- The links of a script: of element types by the types that they name, and of graph types by their imports.
use Rattle.std.proofs.Common.{◌≡◌, ℕ, Bool, true, false, ◌||◌, List, [], ◌++◌, map, Option, Some, None, is_some, refl, sym, ◌∙◌, ap}
use Rattle.std.specs.List.{filter_map, find}
use Rattle.std.specs.Option.{option_map_or}
use Rattle.std.proofs.lemmas.List.Folds.{list_any-append}
use Rattle.pgs_base.specs.Pair.{same_name, has_name}
use Rattle.pgs_syntax.specs.declared.element_type.NodeType.{NodeType}
use Rattle.pgs_syntax.specs.declared.element_type.EdgeType.{EdgeType}
use Rattle.pgs_syntax.specs.declared.script.GraphType.{GraphType}
use Rattle.pgs_syntax.specs.declared.script.Script.{Script}
use Rattle.pgs_resolve_declared.specs.declared.declarations.Declarations.{Declarations}
use Rattle.pgs_resolve_declared.specs.Declarations.{words_of, nodes_of, edges_of, graphs_of, edge_named}
use Rattle.pgs_resolve_order.specs.Links.{AreLinks, lesser_of}
use Rattle.pgs_resolve_declared.specs.Order.{number_in}
use Rattle.pgs_resolve_declared.specs.Refused.{named_by, imported_by, cyclic, least, cycle}
use Rattle.pgs_resolve_declared.specs.Tables.{AreOf}
use Rattle.pgs_resolve_declared.proofs.Firsts.{some_found}
use Rattle.pgs_resolve_order.proofs.Leasts.{least_of_two}

-- what is asked of a type that there isn't
module _ {X A : Type 0} (f : X → List A) where
  nothing_of : (o : Option X) → is_some o ≡ false → option_map_or f o [] ≡ []
  nothing_of None e = refl
  nothing_of (Some x) e = cc

  nothing_named : (key : X → List ℕ) (name : List ℕ) (types : List X) → has_name name (map key types) ≡ false →
      option_map_or f (find (λ x. same_name name (key x)) types) [] ≡ []
  nothing_named key name types away = nothing_of (find (λ x. same_name name (key x)) types) (sym (some_found key (same_name name) types) ∙ away)

neither : (a b : Bool) → (a || b) ≡ false → (a ≡ false) × (b ≡ false)
neither true b e = absurd (cc)
neither false b e = (refl, e)

module _ (script : Script) (declarations : Declarations) (are : AreOf script declarations) where
  pub type_links : (names rows : List (List ℕ)) → names ≡ declarations.node_names ++ declarations.edge_names →
      rows ≡ map (λ name. filter_map (number_in names) (named_by script name)) names → AreLinks (named_by script) names rows
  type_links names rows these those = record { closed = closed; rows_are = those }
    where
      closed : (name : List ℕ) → has_name name names ≡ false → named_by script name ≡ []
      closed name away =
          let both = neither (has_name name declarations.node_names) (has_name name declarations.edge_names)
          (sym (list_any-append (same_name name) declarations.node_names declarations.edge_names) ∙ ap (has_name name) (sym these) ∙ away) in
          let nodes = nothing_named (λ (type : NodeType (List ℕ)). words_of type.spec) (λ (type : NodeType (List ℕ)). type.name) name (nodes_of script)
          (ap (has_name name) (sym are.node_names) ∙ both.0) in
          let edges = nothing_named (λ (type : EdgeType (List ℕ)). words_of type.source ++ words_of type.middle ++ words_of type.target) (λ (type : EdgeType (List ℕ)). type.name) name (edges_of script)
          (ap (has_name name) (sym are.edge_names) ∙ both.1) in
          ap (λ (words : List (List ℕ)). words ++ option_map_or (λ (type : EdgeType (List ℕ)). words_of type.source ++ words_of type.middle ++ words_of type.target) (edge_named script name) []) nodes
          ∙ edges

  pub graph_links : (rows : List (List ℕ)) → rows ≡ map (λ name. filter_map (number_in declarations.graph_names) (imported_by script name)) declarations.graph_names →
      AreLinks (imported_by script) declarations.graph_names rows
  graph_links rows those = record {
    closed = λ name away. nothing_named (λ (type : GraphType). type.imports) (λ (type : GraphType). type.name) name (graphs_of script)
        (ap (has_name name) (sym are.graph_names) ∙ away);
    rows_are = those;
  }

  pub cycle_is : (types graphs : Option (List ℕ)) → types ≡ least (cyclic (named_by script) (declarations.node_names ++ declarations.edge_names)) →
      graphs ≡ least (cyclic (imported_by script) declarations.graph_names) → lesser_of types graphs ≡ cycle script
  cycle_is types graphs one two =
      ap (λ (o : Option (List ℕ)). lesser_of o graphs)
      (one ∙ ap (λ (all : List (List ℕ)). least (cyclic (named_by script) (all ++ declarations.edge_names))) are.node_names
      ∙ ap (λ (all : List (List ℕ)). least (cyclic (named_by script) (map (λ (type : NodeType (List ℕ)). type.name) (nodes_of script) ++ all))) are.edge_names)
      ∙ ap (lesser_of (least (cyclic (named_by script) (map (λ (type : NodeType (List ℕ)). type.name) (nodes_of script) ++ map (λ (type : EdgeType (List ℕ)). type.name) (edges_of script)))))
      (two ∙ ap (λ (all : List (List ℕ)). least (cyclic (imported_by script) all)) are.graph_names)
      ∙ sym (least_of_two
      (cyclic (named_by script) (map (λ (type : NodeType (List ℕ)). type.name) (nodes_of script) ++ map (λ (type : EdgeType (List ℕ)). type.name) (edges_of script)))
      (cyclic (imported_by script) (map (λ (type : GraphType). type.name) (graphs_of script))))
