use Rattle.std.proofs.Common.{◌≡◌, [], drop}
use Rattle.pgs_json.specs.Tree.{items_view}
use Rattle.pgs_json.specs.Form.{op_of}
use Rattle.pgs_json.proofs.FormLoops.{after_items, put_op}
use Rattle.pgs_json.proofs.json_op.some_ops.Given as goal

abbrev pub invariant-loop-item : goal.invariant-loop-item
invariant-loop-item l = after_items op_of put_op l.ops (items_view (drop l.item-index l.items)) ≡ after_items op_of put_op [] (items_view l.items)
