use Rattle.std.proofs.Common.{arith}
use Rattle.pgs_contain.proofs.Three.{triple_pushed}
use Rattle.pgs_contain.proofs.typed.push_triples.Goals as goal

pub loop-triple-preserved : goal.loop-triple-preserved
loop-triple-preserved c = record {
  denote =
      triple_pushed c.args.all.now.items c.loop-triple.all.items c.push.new.self.items c.args.triples.now c.loop-triple.triple-index c.triple-item.result c.in_ok-copy.copy
      c.loop-triple-test.true c.triple-item.is c.in_ok-copy.ensures c.in_ok-push.ensures.items c.loop-triple.invariant.denote;
  count = grind (arith, c.loop-triple.invariant.count, c.in_ok-push.ensures.items);
}
