use Rattle.std.proofs.Common.{length, take, flat_map}
use Rattle.pgs_base_text.specs.Text.{quoted}
use Rattle.pgs_json.specs.Pieces.{further}
use Rattle.pgs_json.specs.Room.{IsRoom}
use Rattle.pgs_json.proofs.room.labels_room.Given as goal

abbrev pub invariant-loop-label : goal.invariant-loop-label
invariant-loop-label l = IsRoom l.room (length (flat_map (further quoted) (take l.label-index l.labels)))
