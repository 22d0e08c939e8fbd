use Rattle.std.proofs.Common.{◌+◌, ◌-◌, ◌/◌, refl, arith}
use Rattle.pgs_overlay.proofs.Halving.{halved_once}
use Rattle.pgs_overlay.proofs.search.place_between.Goals as goal

pub loop-low-preserved-then-is_below : goal.loop-low-preserved-then-is_below
loop-low-preserved-then-is_below g c =
    let known = c.loop-low.invariant in
    let low = c.loop-low.low in
    let high = c.loop-low.high in
    let below = c.if-is_below.ensures.lower refl in
    record {
      in_range = omega (arith, below.in_range);
      order = omega arith;
      lower = below.all;
      upper = known.upper;
      never_back = omega (arith, known.never_back, c.is_below.ensures.tick);
      within = λ k short. halved_once k c.args.steps.now c.loop-low.steps c.is_below.new.steps low high (low + (high - low) / 2 + 1) high
          (known.within k short) c.is_below.ensures.tick c.loop-low-test.true (omega arith);
    }

pub loop-low-preserved : goal.loop-low-preserved
loop-low-preserved g c =
    let known = c.loop-low.invariant in
    let low = c.loop-low.low in
    let high = c.loop-low.high in
    record {
      in_range = known.in_range;
      order = omega arith;
      lower = known.lower;
      upper = c.if-is_below.ensures.others refl;
      never_back = omega (arith, known.never_back, c.is_below.ensures.tick);
      within = λ k short. halved_once k c.args.steps.now c.loop-low.steps c.is_below.new.steps low high low (low + (high - low) / 2)
          (known.within k short) c.is_below.ensures.tick c.loop-low-test.true (omega arith);
    }
