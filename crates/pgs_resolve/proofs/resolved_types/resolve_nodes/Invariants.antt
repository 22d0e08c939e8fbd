use Rattle.std.proofs.Common.{◌≡◌, take}
use Rattle.std.specs.List.{filter_map}
use Rattle.std.specs.Option.{option_map}
use Rattle.pgs_syntax.specs.declared.script.Script.{Script}
use Rattle.pgs_resolve_declared.specs.Declarations.{node_named}
use Rattle.pgs_resolve_declared.specs.Order.{resolved_node}
use Rattle.pgs_resolve_declared.specs.Tables.{AreOf}
use Rattle.pgs_resolve.proofs.resolved_types.resolve_nodes.Given as goal

abbrev pub invariant-loop-name : goal.invariant-loop-name
invariant-loop-name l =
    (script : Script) → AreOf script l.declarations →
    l.resolved.items ≡ filter_map (λ name. option_map (resolved_node l.numbering) (node_named script name)) (take l.name-index l.name-items)
