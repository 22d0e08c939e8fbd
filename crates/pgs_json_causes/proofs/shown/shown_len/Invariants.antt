use Rattle.std.proofs.Common.{◌≡◌, ◌++◌, take, drop}
use Rattle.pgs_json_causes.specs.Shown.{characters}
use Rattle.pgs_json_causes.proofs.shown.shown_len.Given as goal

abbrev pub invariant-loop-at : goal.invariant-loop-at
invariant-loop-at l = take l.at l.text ++ characters l.left (drop l.at l.text) ≡ characters 64 l.text
