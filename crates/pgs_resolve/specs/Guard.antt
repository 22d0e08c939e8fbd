-- The guard of a script: its last graph type, with the members of those that it imports before its own.
use Rattle.std.specs.Prelude.{ℕ, false, not, List, [], ◌∷◌, Option, Some, map, filter, filter_map, flat_map, option_map}
use Rattle.std.specs.Option.{option_map_or}
use Rattle.pgs_syntax.specs.declared.resolved.Guarding.{Guarding}
use Rattle.pgs_syntax.specs.declared.resolved.TypeNo.{TypeNo}
use Rattle.pgs_syntax.specs.declared.resolved.TypeNo.TheVariants.{Node, Edge}
use Rattle.pgs_syntax.specs.declared.script.GraphType.{GraphType}
use Rattle.pgs_syntax.specs.declared.script.Member.{Member}
use Rattle.pgs_syntax.specs.declared.script.Member.TheVariants as members
use Rattle.pgs_syntax.specs.declared.script.Script.{Script}
use Rattle.pgs_base.specs.Pair.{same_name}
use Rattle.pgs_resolve_declared.specs.Declarations.{graphs_of}
use Rattle.pgs_resolve_declared.specs.Imports.{last_of, walked_graphs}
use Rattle.pgs_resolve_declared.specs.declared.order.Numbering.{Numbering}
use Rattle.pgs_resolve_declared.specs.Order.{number_in}
use Rattle.pgs_resolve_keys.specs.Patterns.{resolved_key}

-- the name of a member
abbrev pub name_of : Member → List ℕ
name_of (members.Named name) = name
name_of (members.Node type) = type.name
name_of (members.Edge type) = type.name

-- names, each once, by their first places
abbrev pub each_once : List (List ℕ) → List (List ℕ)
each_once [] = []
each_once (name ∷ names) = name ∷ filter (λ other. not (same_name name other)) (each_once names)

-- the type of a name: a node type of a number, or an edge type
abbrev pub type_no : Numbering → List ℕ → Option TypeNo
type_no numbering name =
    option_map_or (λ number. Some (Node number)) (number_in numbering.nodes name) (option_map Edge (number_in numbering.edges name))

-- what the guard asks: only its own word STRICT or LOOSE counts
abbrev pub guarding : Script → Numbering → Guarding
guarding script numbering =
    let graphs = walked_graphs script in
    let names = each_once (map name_of (flat_map (λ (type : GraphType). type.members) graphs)) in
    record {
      strict = option_map_or (λ (type : GraphType). type.strict) (last_of (graphs_of script)) false;
      types = filter_map (type_no numbering) names;
      keys = map (resolved_key numbering) (flat_map (λ (type : GraphType). type.keys) graphs);
    }
