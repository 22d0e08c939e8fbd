use Rattle.std.proofs.lemmas.Result.{IfOk-weaker}
use Rattle.pgs_contain.proofs.Whole.{leaves_moved}
use Rattle.pgs_contain.proofs.shapes.left_in_frame.Goals as goal

pub returns : goal.returns
returns c =
    IfOk-weaker c.left_of.result _ _
    (λ left. leaves_moved _ c.args.frame.now.region c.as_slice.result.now c.in_ok-taken.taken c.as_slice-2.result.now left
    c.as_slice.ensures c.as_slice-2.ensures c.in_ok-taken.ensures) c.left_of.ensures
