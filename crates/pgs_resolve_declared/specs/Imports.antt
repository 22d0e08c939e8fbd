-- The imports of a script. Those of the last graph type are walked depth first, each graph type once, after its imports.
use Rattle.std.specs.Prelude.{ℕ, zero, suc, List, [], ◌∷◌, ◌++◌, length, Option, Some, None, filter_map, if◌then◌else◌}
use Rattle.std.specs.List.{fold}
use Rattle.std.specs.Option.{option_map_or}
use Rattle.pgs_syntax.specs.declared.script.GraphType.{GraphType}
use Rattle.pgs_syntax.specs.declared.script.Script.{Script}
use Rattle.pgs_base.specs.Pair.{has_name}
use Rattle.pgs_resolve_declared.specs.Declarations.{graphs_of, graph_named}
use Rattle.pgs_resolve_declared.specs.Refused.{imported_by}

-- the last graph type
abbrev pub last_of : List GraphType → Option GraphType
last_of [] = None
last_of (type ∷ types) = Some (option_map_or (λ last. last) (last_of types) type)

-- The names that are walked from a graph type on, behind those that are walked: first its imports, and then itself. Imports
-- are at most so deep.
abbrev pub walked : Script → ℕ → List (List ℕ) → List ℕ → List (List ℕ)
walked script zero before name = before
walked script (suc depth) before name =
    if has_name name before then before else fold (walked script depth) before (imported_by script name) ++ name ∷ []

-- the graph types whose members count, in order
abbrev pub walked_graphs : Script → List GraphType
walked_graphs script =
    let names =
    option_map_or (λ (type : GraphType). walked script (length (graphs_of script)) [] type.name) (last_of (graphs_of script)) [] in
    filter_map (graph_named script) names
