use Rattle.std.proofs.Common.{rules, ◌≡◌, length, replicate, arith}
use Rattle.pgs_resolve_order.proofs.DepthFirst.{begins, first_work}
use Rattle.pgs_resolve_order.proofs.depth_first.some_back.Goals as goal

pub loop-start-init : goal.loop-start-init
loop-start-init g c =
    let rows = c.args.rows.now in
    let marks = c.in_ok-vec.field-0.items in
    let zeros : marks ≡ replicate (length rows) 0 = search rules in
    let work = first_work rows marks zeros in
    record {
      search = begins rows marks zeros;
      empty = search rules;
      done = λ number l. absurd (omega (arith, l));
      work = omega (arith, work);
    }
