use Rattle.std.proofs.Common.{arith}
use Rattle.pgs_key_causes.specs.declared.walk.Visit.{Visit}
use Rattle.pgs_key_causes.specs.Fronts.{visit_front}
use Rattle.pgs_key_causes.proofs.Places.{one_more_numbered, all_numbered}
use Rattle.pgs_key_causes.proofs.written.Written.fronts_of.Goals as goal

pub loop-number-preserved : goal.loop-number-preserved
loop-number-preserved c =
    let d : Visit = record { place = 0; from = 0 } in
    one_more_numbered (visit_front c.args.numbering.now c.args.self.now c.args.qualifiers c.args.visits.now) c.args.visits.now c.loop-number.number d
    c.loop-number.fronts.items c.push.new.self.items c.in_ok-visit_front.field-0 (omega arith) c.loop-number.invariant (c.in_ok-visit_front.ensures d)
    c.in_ok-push.ensures.items

pub returns : goal.returns
returns c =
    all_numbered (visit_front c.args.numbering.now c.args.self.now c.args.qualifiers c.args.visits.now) c.args.visits.now c.loop-number.number
    c.loop-number.fronts.items (omega arith) c.loop-number.invariant
