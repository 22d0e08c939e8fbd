use Rattle.std.proofs.lemmas.Result.{IfOk-weaker}
use Rattle.pgs_contain.proofs.Three.{framed_long, framed_answer}
use Rattle.pgs_contain.proofs.triples.outside_of_triple.Goals as goal

pub outside_of_frames-requires : goal.outside_of_frames-requires
outside_of_frames-requires c =
    let further = c.args.further.now in
    framed_long c.args.triple.now c.args.others.now further.name further.avoid.now c.in_ok-frames.frames c.in_ok-frames.ensures c.requires

pub returns : goal.returns
returns c =
    let further = c.args.further.now in
    IfOk-weaker c.outside_of_frames.result _ _
    (framed_answer c.args.triple.now c.args.others.now further.name further.avoid.now c.in_ok-frames.frames c.in_ok-frames.ensures c.requires further.new c.facts.ensures)
    c.outside_of_frames.ensures
