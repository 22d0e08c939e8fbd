use Rattle.std.proofs.Common.{◌≡◌}
use Rattle.pgs_sessions_machine.specs.Machine.{least_after}
use Rattle.pgs_sessions.specs.Changes.{last_in}
use Rattle.pgs_sessions.specs.Least.{lesser_of}
use Rattle.pgs_sessions.proofs.changes.Changes.since_read.Given as goal

abbrev pub invariant-loop-elem : goal.invariant-loop-elem
invariant-loop-elem l = lesser_of l.found (least_after (last_in l.self) l.began l.elem-iterator) ≡ least_after (last_in l.self) l.began l.read.keys
