use Rattle.std.proofs.Common.{◌≤◌, subst}
use Rattle.pgs_scratch.proofs.Apart.{count, apart}
use Rattle.pgs_scratch.proofs.marks.are_apart.Goals as goal

pub returns : goal.returns
returns c = λ is number.
    apart number c.args.rows.now (λ n. subst (λ xs. count n xs ≤ 1) c.in_ok-marks.ensures (c.are_distinct.ensures is n))
