use Rattle.std.proofs.Common.{◌∙◌, ap, arith, length, length-set}
use Rattle.pgs_resolve_order.specs.Searching.{unseen_work}
use Rattle.pgs_resolve_order.proofs.Work.{no_more}
use Rattle.pgs_resolve_order.proofs.components.rank_open.Goals as goal

pub loop-passed-preserved : goal.loop-passed-preserved
loop-passed-preserved c = record {
  len = ap length c.set_mark.ensures ∙ length-set c.loop-passed.marks.items c.in-Some.number c.args.rank ∙ c.loop-passed.invariant.len;
  work = λ rows.
      let a = no_more rows c.loop-passed.marks.items c.in-Some.number c.args.rank c.requires in
      let b = c.loop-passed.invariant.work rows in
      let e = ap (unseen_work rows) c.set_mark.ensures in
      omega (arith, a, b, e);
}
