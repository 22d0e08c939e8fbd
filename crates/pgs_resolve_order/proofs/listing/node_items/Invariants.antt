use Rattle.std.proofs.Common.{◌≡◌, map, take}
use Rattle.pgs_syntax.specs.declared.script.Script.{Script}
use Rattle.pgs_resolve_order.specs.Listing.{entry_of}
use Rattle.pgs_resolve_declared.specs.Order.{node_entry}
use Rattle.pgs_resolve_declared.specs.Tables.{AreOf}
use Rattle.pgs_resolve_order.proofs.listing.node_items.Given as goal

abbrev pub invariant-loop-node : goal.invariant-loop-node
invariant-loop-node l =
    (script : Script) → AreOf script l.declarations → map entry_of l.items.items ≡ map (λ type. node_entry script type.now) (take l.node-index l.node-items)
