use Rattle.std.proofs.Common.{◌≡◌, true, take}
use Rattle.std.specs.List.{list_all}
use Rattle.pgs_sessions.specs.Changes.{has_room, IsSame}
use Rattle.pgs_sessions.proofs.changes.Changes.make_room_for.Given as goal

abbrev pub invariant-loop-elem : goal.invariant-loop-elem
invariant-loop-elem l = record {
  same : IsSame l.initial.self l.self;
  there : list_all (has_room l.self) (take l.elem-index l.elems) ≡ true;
}
