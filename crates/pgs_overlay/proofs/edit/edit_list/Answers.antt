use Rattle.std.proofs.Common.{◌∙◌, ap}
use Rattle.std.proofs.lemmas.Result.{on_ok_weaker}
use Rattle.pgs_overlay.specs.Passed.{takes_out}
use Rattle.pgs_overlay.proofs.Edits.{not_there, not_absent, found_behind, gap_behind, taken, put}
use Rattle.pgs_overlay.proofs.edit.edit_list.Goals as goal

pub returns-in-Err-PutIn-clause-edited : goal.returns-in-Err-PutIn-clause-edited
returns-in-Err-PutIn-clause-edited g c edited later was rising =
    let xs = c.args.base.now in
    let gap = c.in-Err-PutIn.ensures.place in
    rw c.in-Err-PutIn.is-1 (on_ok_weaker c.put_in.result (put xs c.search.ensures.ascending c.args.edit.edge c.in-Err-PutIn.place edited later _ was rising _ gap)
    (c.put_in.ensures xs was.stands (gap_behind xs c.search.ensures.ascending c.args.edit.edge c.in-Err-PutIn.place edited later _ was rising gap) gap.in_range))

pub returns-in-Ok-TakeOut-clause-edited : goal.returns-in-Ok-TakeOut-clause-edited
returns-in-Ok-TakeOut-clause-edited g c edited later was rising =
    let xs = c.args.base.now in
    let at = c.in-Ok-TakeOut.ensures.place in
    rw c.in-Ok-TakeOut.is-1 (on_ok_weaker c.take_out.result (taken xs c.search.ensures.ascending c.args.edit.edge c.in-Ok-TakeOut.place edited later _ was rising _ at)
    (c.take_out.ensures xs was.stands (found_behind xs c.search.ensures.ascending c.args.edit.edge c.in-Ok-TakeOut.place edited later _ was rising at) at.in_range))

pub returns-in-Ok-PutIn-clause-edited : goal.returns-in-Ok-PutIn-clause-edited
returns-in-Ok-PutIn-clause-edited g c edited later was rising =
    absurd (not_there c.args.base.now c.search.ensures.ascending c.args.edit.edge _ c.in-Ok-PutIn.ensures.place (c.requires.fits ∙ ap takes_out c.in-Ok-PutIn.is-1))

pub returns-in-Err-TakeOut-clause-edited : goal.returns-in-Err-TakeOut-clause-edited
returns-in-Err-TakeOut-clause-edited g c edited later was rising =
    absurd (not_absent c.args.base.now c.search.ensures.ascending c.args.edit.edge _ c.in-Err-TakeOut.ensures.place (c.requires.fits ∙ ap takes_out c.in-Err-TakeOut.is-1))
