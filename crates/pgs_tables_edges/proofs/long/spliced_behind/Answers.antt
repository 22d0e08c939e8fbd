use Rattle.std.proofs.Common.{◌≡◌, ◌∙◌, ◌++◌, ◌-◌, length, take, drop, IfOk, sym, ap, subst}
use Rattle.pgs_tables_edges.proofs.Behind.{spliced_behind}
use Rattle.pgs_tables_edges.proofs.long.spliced_behind.Goals as goal

pub returns-then-len-le-MOST : goal.returns-then-len-le-MOST
returns-then-len-le-MOST c =
    let xs = c.args.body.now in
    let ys = c.args.tail.now in
    let from = c.args.range.0 in
    let to = c.args.range.1 in
    let ids = c.args.ids.now in
    let counted : c.len-len.result ≡ length xs = c.len-len.ensures ∙ ap length c.as_chunks-chunks.ensures in
    let made = ap (λ l. l ++ c.in_ok-tail.tail.items) c.in_ok-share.ensures
    ∙ ap (λ l. xs ++ l) (c.in_ok-tail.ensures ∙ ap (λ n. take (from - n) ys ++ (ids ++ drop (to - n) ys)) counted)
    ∙ sym (spliced_behind xs ys from to ids c.requires.from c.requires.to) in
    subst (λ l. IfOk c.with_tail.result (λ long. long ≡ l)) made c.with_tail.ensures

pub returns : goal.returns
returns c =
    let xs = c.args.body.now in
    let ys = c.args.tail.now in
    let from = c.args.range.0 in
    let to = c.args.range.1 in
    let ids = c.args.ids.now in
    let counted : c.len-len.result ≡ length xs = c.len-len.ensures ∙ ap length c.as_chunks-chunks.ensures in
    let made = c.in_ok-chunks.ensures ∙ ap (λ l. l ++ c.as_slice.result.now) c.as_chunks-chunks.ensures
    ∙ ap (λ l. xs ++ l) (c.as_slice.ensures.value ∙ c.in_ok-tail.ensures ∙ ap (λ n. take (from - n) ys ++ (ids ++ drop (to - n) ys)) counted)
    ∙ sym (spliced_behind xs ys from to ids c.requires.from c.requires.to) in
    subst (λ l. IfOk c.from_chunks.result (λ long. long ≡ l)) made c.from_chunks.ensures
