use Rattle.std.proofs.Common.{◌==◌, ◌∙◌, cond, ap}
use Rattle.pgs_base_slots.specs.Slots.{present}
use Rattle.pgs_graph.specs.Lists.{listed_after, list_edited}
use Rattle.pgs_graph.proofs.Relisted.{listed-made, same_or_other}
use Rattle.pgs_graph.proofs.relist.relist_node.Goals as goal

pub returns : goal.returns
returns c q =
    let lists = present c.args.lists.now in
    let edit = list_edited c.args.adds c.args.edge in
    rw c.in_ok-set.ensures.ok
    (listed-made lists c.args.made.now c.args.id c.some_unless_empty.result q
    ∙ ap (λ l. cond (c.args.id.0 == q.0) l (listed_after lists c.args.made.now q))
    (c.some_unless_empty.ensures ∙ c.in_ok-list.ensures ∙ ap edit c.list_at.ensures)
    ∙ same_or_other (λ id. edit (listed_after lists c.args.made.now id)) (listed_after lists c.args.made.now q) c.args.id q)
