use Rattle.std.proofs.Common.{length, take, flat_map}
use Rattle.pgs_json.specs.Pieces.{further, prop_text}
use Rattle.pgs_json.specs.Room.{IsRoom}
use Rattle.pgs_json.proofs.room.props_room.Given as goal

abbrev pub invariant-loop-name : goal.invariant-loop-name
invariant-loop-name l = IsRoom l.room (length (flat_map (further prop_text) (take l.name-index l.props)))
