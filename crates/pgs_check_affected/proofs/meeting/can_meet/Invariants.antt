use Rattle.std.proofs.Common.{take}
use Rattle.std.specs.List.{All}
use Rattle.pgs_check_affected.specs.Met.{IsApart}
use Rattle.pgs_check_affected.proofs.meeting.can_meet.Given as goal

abbrev pub invariant-loop-one : goal.invariant-loop-one
invariant-loop-one l = record { apart : All (IsApart l.compiled l.key) (take l.one-index l.known) }
