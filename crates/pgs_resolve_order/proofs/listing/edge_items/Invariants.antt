use Rattle.std.proofs.Common.{◌≡◌, map, take}
use Rattle.pgs_syntax.specs.declared.script.Script.{Script}
use Rattle.pgs_resolve_order.specs.Listing.{entry_of}
use Rattle.pgs_resolve_declared.specs.Order.{edge_entry}
use Rattle.pgs_resolve_declared.specs.Tables.{AreOf}
use Rattle.pgs_resolve_order.proofs.listing.edge_items.Given as goal

abbrev pub invariant-loop-edge : goal.invariant-loop-edge
invariant-loop-edge l =
    (script : Script) → AreOf script l.declarations → map entry_of l.items.items ≡ map (λ type. edge_entry script type.now) (take l.edge-index l.edge-items)
