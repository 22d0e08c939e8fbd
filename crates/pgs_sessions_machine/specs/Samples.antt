-- Events on which the machine is tried. Nodes are added under a schema that asks nothing.
use Rattle.std.specs.Prelude.{ℕ, List, [], ◌∷◌, ◌++◌}
use Rattle.pgs_syntax.specs.KeySamples.{the_node}
use Rattle.pgs_syntax.specs.Samples.{keyed}
use Rattle.pgs_violation.specs.Decision.{decide}
use Rattle.pgs_violation.specs.Samples.{limits, txn, add_node}
use Rattle.pgs_violation.specs.Violations.{verdict}
use Rattle.pgs_sessions_machine.specs.declared.event.Event.{Event}
use Rattle.pgs_sessions_machine.specs.declared.event.Event.TheVariants.{Begin, Read, Stage, Commit}
use Rattle.pgs_sessions_machine.specs.declared.event.Reply.{Reply}
use Rattle.pgs_sessions_machine.specs.Machine.{start, replies}

-- the replies from the beginning, under a schema that asks nothing
abbrev pub answered : List Event → List Reply
answered events = replies (decide limits (verdict (keyed []))) start events

abbrev pub stage_node : ℕ → ℕ → Event
stage_node session number = Stage session (txn (add_node number [] ∷ []))

-- two sessions begin and each adds a node; the second reads the node of the first, commits too late, and is then closed
abbrev pub second_too_late : List Event
second_too_late =
    Begin 1 ∷ Begin 2 ∷ stage_node 1 1 ∷ Read 2 (the_node 1) ∷ Commit 1 ∷ stage_node 2 2 ∷ Commit 2 ∷ Commit 2 ∷ []

-- the same without the read and the last commit
abbrev pub both_in_time : List Event
both_in_time = Begin 1 ∷ Begin 2 ∷ stage_node 1 1 ∷ Commit 1 ∷ stage_node 2 2 ∷ Commit 2 ∷ []

-- the closed session reads, and a new one does
abbrev pub read_afterwards : List Event
read_afterwards = both_in_time ++ (Read 2 (the_node 2) ∷ Begin 3 ∷ Read 3 (the_node 2) ∷ [])
