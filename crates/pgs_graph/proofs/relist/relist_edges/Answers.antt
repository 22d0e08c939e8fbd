use Rattle.std.proofs.Common.{◌+◌, ◌∙◌, drop, sym, ap}
use Rattle.std.proofs.lemmas.List.{drop_all}
use Rattle.pgs_base_slots.specs.Slots.{present}
use Rattle.pgs_graph.specs.Lists.{listed_after, relisted, relisted_all}
use Rattle.pgs_graph.proofs.Relisted.{first_of_rest, listed-changed}
use Rattle.pgs_graph.proofs.relist.relist_edges.Goals as goal

pub loop-change-preserved : goal.loop-change-preserved
loop-change-preserved c q =
    let end = c.args.end in
    let edges = present c.args.edges.now in
    let lists = present c.args.lists.now in
    let changes = c.args.changes.now in
    let change = c.change-item.result in
    let front = first_of_rest changes c.loop-change.change-index change c.loop-change-test.true c.change-item.is in
    ap (relisted_all end q edges (drop (c.loop-change.change-index + 1) changes))
    (c.in_ok-relist_change.ensures q
    ∙ ap (λ o. relisted end q (λ edge. o) (listed_after lists c.loop-change.made q) change) c.get-old.ensures)
    ∙ ap (λ l. relisted_all end q edges l (listed_after lists c.loop-change.made q)) (sym front)
    ∙ c.loop-change.invariant q

pub returns-clause-listed : goal.returns-clause-listed
returns-clause-listed c =
    let end = c.args.end in
    let edges = present c.args.edges.now in
    let lists = present c.args.lists.now in
    let changes = c.args.changes.now in
    let done = drop_all c.loop-change.change-index changes c.loop-change-test.false in
    let made = c.from_vec.ensures ∙ c.in_ok-made.ensures.rows in
    rw made
    (listed-changed end edges changes lists c.loop-change.made c.len-edges.ensures.ascending c.requires.ascending c.len-lists.ensures.ascending (rw (sym c.in_ok-made.ensures.rows) c.in_ok-made.ensures.ascending)
    c.requires.listed (λ q. ap (λ l. relisted_all end q edges l (listed_after lists c.loop-change.made q)) (sym done) ∙ c.loop-change.invariant q))
