use Rattle.std.proofs.Common.{◌≡◌, map, take}
use Rattle.std.specs.List.{filter_map}
use Rattle.pgs_syntax.specs.declared.script.Script.{Script}
use Rattle.pgs_resolve_declared.specs.Order.{number_in}
use Rattle.pgs_resolve_declared.specs.Refused.{imported_by}
use Rattle.pgs_resolve_declared.specs.Tables.{AreOf}
use Rattle.pgs_resolve_order.proofs.links.graph_rows.Given as goal

abbrev pub invariant-loop-name : goal.invariant-loop-name
invariant-loop-name l =
    (script : Script) → AreOf script l.declarations →
    l.rows.items ≡ map (λ name. filter_map (number_in l.declarations.graph_names) (imported_by script name)) (take l.name-index l.name-items)
