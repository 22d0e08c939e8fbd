use Rattle.std.proofs.Common.{◌≡◌, suc, ◌+◌, ◌-◌, ◌*◌, ◌^◌, ◌<◌, ◌≤◌, length, refl, arith}
use Rattle.pgs_overlay.proofs.Halving.{doubled, doublings}
use Rattle.pgs_overlay.proofs.search.bounds.Goals as goal

pub returns-then-not-is_below-clause-cost : goal.returns-then-not-is_below-clause-cost
returns-then-not-is_below-clause-cost g c k short =
    let known = c.loop-edge.invariant in
    let rounds = doublings (c.loop-edge.steps - c.args.steps.now) k (length c.args.list.now) c.args.from c.loop-edge.low known.far known.in_range short in
    omega (arith, rounds, known.never_back, c.is_below.ensures.tick)

pub loop-edge-preserved : goal.loop-edge-preserved
loop-edge-preserved g c =
    let known = c.loop-edge.invariant in
    let below = c.if-not-is_below.ensures.lower refl in
    let within = c.facts.ensures in
    let begun = c.loop-edge.steps - c.args.steps.now in
    let spent = c.is_below.new.steps - c.args.steps.now in
    let next : spent ≡ suc begun = omega (arith, known.never_back, c.is_below.ensures.tick) in
    let twice : 2 ^ spent ≡ 2 ^ begun * 2 = doubled begun spent next in
    let whole : c.saturating_add-place.result ≡ c.loop-edge.low + (c.loop-edge.step - 1) = omega (arith, c.saturating_add-place.ensures, below.in_range, within) in
    let room : c.loop-edge.low + 1 < 2 ^ 64 = omega (arith, below.in_range, within) in
    let before : 2 ^ begun ≤ c.loop-edge.step = known.doubled room in
    let far : 2 ^ spent + c.args.from ≤ c.saturating_add-place.result + 1 + 1 = omega (arith, twice, whole, before, known.far, known.some) in
    record {
      in_range = omega (arith, below.in_range);
      lower = below.all;
      forward = omega (arith, known.forward);
      some = omega (arith, known.some, c.saturating_mul-step.ensures);
      step = omega (arith, known.some, known.step, whole, c.saturating_mul-step.ensures);
      never_back = omega (arith, known.never_back, c.is_below.ensures.tick);
      far = far;
      doubled = λ fits. omega (arith, fits, far, twice, before, c.saturating_mul-step.ensures);
    }
