-- What a guard doesn't use: the graph types that it doesn't import, also through imports.
use Rattle.std.specs.Prelude.{ℕ, Bool, not, List, map, filter}
use Rattle.pgs_base.specs.Pair.{has_name}
use Rattle.pgs_syntax.specs.declared.script.GraphType.{GraphType}
use Rattle.pgs_syntax.specs.declared.script.Script.{Script}
use Rattle.pgs_resolve_declared.specs.Declarations.{graphs_of}
use Rattle.pgs_resolve_declared.specs.Imports.{walked_graphs}

-- whether a graph type has none of these names
abbrev pub is_outside : List (List ℕ) → GraphType → Bool
is_outside names type = not (has_name type.name names)

abbrev pub name_of : GraphType → List ℕ
name_of type = type.name

abbrev pub unused_graphs : Script → List GraphType
unused_graphs script = filter (is_outside (map name_of (walked_graphs script))) (graphs_of script)
