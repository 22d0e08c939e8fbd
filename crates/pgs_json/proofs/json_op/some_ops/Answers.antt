use Rattle.std.proofs.Common.{◌∙◌, ap, sym}
use Rattle.std.proofs.lemmas.List.{drop_all}
use Rattle.pgs_json.specs.Tree.{items_view}
use Rattle.pgs_json.specs.Form.{op_of}
use Rattle.pgs_json.proofs.FormLoops.{after_items, put_op, ops_in_order}
use Rattle.pgs_json.proofs.json_op.some_ops.Goals as goal

pub returns : goal.returns
returns c =
    let items = c.args.items.now in
    sym (ops_in_order (items_view items)) ∙ sym c.loop-item.invariant ∙ ap (λ vs. after_items op_of put_op c.loop-item.ops (items_view vs)) (drop_all c.loop-item.item-index items c.loop-item-test.false)
