use Rattle.std.proofs.Common.{◌≡◌, ◌∙◌, ◌++◌, take, drop, IfOk, sym, ap, subst}
use Rattle.pgs_tables_edges.proofs.Behind.{spliced_within}
use Rattle.pgs_tables_edges.proofs.long.spliced_before.Goals as goal

pub returns : goal.returns
returns c =
    let xs = c.args.body.now in
    let ys = c.args.tail.now in
    let from = c.args.range.0 in
    let to = c.args.range.1 in
    let ids = c.args.ids.now in
    let made = ap (λ l. l ++ c.in_ok-tail.tail.items) (c.in_ok-body.ensures ∙ c.in_ok-chunks.ensures ∙ ap (λ l. take from l ++ (ids ++ drop to l)) c.as_chunks.ensures)
    ∙ ap (λ l. (take from xs ++ (ids ++ drop to xs)) ++ l) c.in_ok-tail.ensures.items
    ∙ sym (spliced_within xs ys from to ids c.requires.from c.requires.to) in
    subst (λ l. IfOk c.with_tail.result (λ long. long ≡ l)) made c.with_tail.ensures
