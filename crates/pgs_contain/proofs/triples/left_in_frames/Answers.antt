use Rattle.std.proofs.Common.{◌∙◌, sym}
use Rattle.std.proofs.lemmas.Result.{IfOk-weaker}
use Rattle.pgs_contain.specs.Threes.{region_in}
use Rattle.pgs_contain.proofs.Holding.{covered_by_one}
use Rattle.pgs_contain.proofs.Whole.{leaves_moved}
use Rattle.pgs_contain.proofs.triples.left_in_frames.Goals as goal

pub returns-then-one_has_frames : goal.returns-then-one_has_frames
returns-then-one_has_frames c = covered_by_one c.args.frames.now c.args.others.now (sym c.one_has_frames.ensures ∙ c.if-one_has_frames.true)

pub returns : goal.returns
returns c =
    IfOk-weaker c.left_of.result _ _
    (λ left. leaves_moved _ (region_in c.args.frames.now) c.as_slice.result.now c.in_ok-taken.taken c.as_slice-2.result.now left
    (c.as_slice.ensures ∙ c.in_ok-region.ensures) c.as_slice-2.ensures c.in_ok-taken.ensures) c.left_of.ensures
