use Rattle.std.proofs.Common.{take}
use Rattle.pgs_keyindex.specs.Table.{has_room}
use Rattle.pgs_keyindex.proofs.Held.{all_given, all_one_more, grows_again, room_kept}
use Rattle.pgs_keyindex.proofs.index.make_room.Goals as goal

pub returns-in_err-make_room-clause-grows : goal.returns-in_err-make_room-clause-grows
returns-in_err-make_room-clause-grows c = grows_again _ _ _ c.loop-change.invariant.grows c.in_err-make_room.ensures.grows

pub loop-change-preserved : goal.loop-change-preserved
loop-change-preserved c =
    let old = c.loop-change.table in
    let new = c.make_room.new.self in
    let grows = c.in_ok-make_room.ensures.grows in
    record {
      grows = grows_again _ _ _ c.loop-change.invariant.grows grows;
      room = all_one_more (has_room new) c.args.changes.now c.loop-change.change-index c.change-item.result c.loop-change-test.true c.change-item.is
          (all_given (has_room old) (has_room new) (room_kept old new grows.room) (take c.loop-change.change-index c.args.changes.now) c.loop-change.invariant.room)
          c.in_ok-make_room.ensures.room;
    }
