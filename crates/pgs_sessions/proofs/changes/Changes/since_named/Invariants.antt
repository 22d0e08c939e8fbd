use Rattle.std.proofs.Common.{◌≡◌, drop}
use Rattle.std.specs.Prelude.{flat_map}
use Rattle.pgs_sessions_machine.specs.Machine.{least_after, named}
use Rattle.pgs_sessions.specs.Changes.{last_in}
use Rattle.pgs_sessions.specs.Least.{lesser_of}
use Rattle.pgs_sessions.proofs.changes.Changes.since_named.Given as goal

abbrev pub invariant-loop-op : goal.invariant-loop-op
invariant-loop-op l = lesser_of l.found (least_after (last_in l.self) l.began (flat_map named (drop l.op-index l.ops)))
    ≡ least_after (last_in l.self) l.began (flat_map named l.ops)
