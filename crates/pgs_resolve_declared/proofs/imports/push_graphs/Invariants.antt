use Rattle.std.proofs.Common.{◌≡◌, ◌++◌, map, take}
use Rattle.std.specs.List.{filter_map}
use Rattle.pgs_syntax.specs.declared.script.Script.{Script}
use Rattle.pgs_resolve_declared.specs.Declarations.{graph_named}
use Rattle.pgs_resolve_declared.specs.Tables.{AreOf}
use Rattle.pgs_resolve_declared.proofs.imports.push_graphs.Given as goal

abbrev pub invariant-loop-name : goal.invariant-loop-name
invariant-loop-name l =
    (script : Script) → AreOf script l.declarations →
    map (λ graph. graph.now) l.graphs.items ≡ map (λ graph. graph.now) l.fn.graphs.items ++ filter_map (graph_named script) (take l.name-index l.names)
