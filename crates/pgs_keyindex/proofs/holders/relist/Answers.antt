use Rattle.std.proofs.Common.{cond, ◌∙◌, sym, ap}
use Rattle.std.specs.BTreeMap.{is_at}
use Rattle.pgs_keyindex.specs.Members.{digest_cmp}
use Rattle.pgs_keyindex.specs.Table.{listed_at}
use Rattle.pgs_keyindex.proofs.Held.{listed_put, listed_taken}
use Rattle.pgs_keyindex.proofs.holders.relist.Goals as goal

pub returns-then-is_empty : goal.returns-then-is_empty
returns-then-is_empty c other =
    let holders = c.args.holders.now.rows in
    ap (λ l. listed_at l other) c.take.ensures.rows ∙ listed_taken c.args.digest other holders c.take.ensures.ascending
    ∙ ap (λ e. cond (is_at (digest_cmp c.args.digest) other) e (listed_at holders other)) (sym (c.is_empty.ensures.0 c.if-is_empty.true))

pub returns-else-is_empty : goal.returns-else-is_empty
returns-else-is_empty c other =
    ap (λ l. listed_at l other) c.put.ensures.rows ∙ listed_put c.args.digest other c.args.holders.now.rows c.args.few
