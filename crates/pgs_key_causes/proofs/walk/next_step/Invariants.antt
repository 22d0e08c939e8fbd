use Rattle.std.proofs.Common.{◌≡◌, drop}
use Rattle.std.specs.List.{find}
use Rattle.pgs_key_causes.specs.Walk.{is_next, numbers}
use Rattle.pgs_key_causes.proofs.walk.next_step.Given as goal

abbrev pub invariant-loop-place : goal.invariant-loop-place
invariant-loop-place l =
    find (is_next l.places l.visits) (numbers l.places) ≡ find (is_next l.places l.visits) (drop l.place (numbers l.places))
