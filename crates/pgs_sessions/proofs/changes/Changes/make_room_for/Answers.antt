use Rattle.pgs_sessions.proofs.Kept.{room_more, same_more}
use Rattle.pgs_sessions.proofs.changes.Changes.make_room_for.Goals as goal

pub loop-elem-preserved : goal.loop-elem-preserved
loop-elem-preserved c = record {
  same = same_more c.args.self.now c.loop-elem.self c.make_room.new.self c.loop-elem.invariant.same c.make_room.ensures.same;
  there = room_more c.loop-elem.self c.make_room.new.self c.args.elems.now c.loop-elem.elem-index _ c.loop-elem-test.true c.make_room.ensures.kept c.loop-elem.invariant.there c.in_ok-make_room.ensures.there;
}
