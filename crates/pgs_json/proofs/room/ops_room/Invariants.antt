use Rattle.std.proofs.Common.{length, take, flat_map}
use Rattle.pgs_json.specs.Canonical.{op_text}
use Rattle.pgs_json.specs.Pieces.{further}
use Rattle.pgs_json.specs.Room.{IsRoom}
use Rattle.pgs_json.proofs.room.ops_room.Given as goal

abbrev pub invariant-loop-op : goal.invariant-loop-op
invariant-loop-op l = IsRoom l.room (length (flat_map (further op_text) (take l.op-index l.ops)))
