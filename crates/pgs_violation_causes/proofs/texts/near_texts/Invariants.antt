use Rattle.std.proofs.Common.{◌≡◌, take}
use Rattle.std.specs.Prelude.{filter_map}
use Rattle.pgs_violation_causes.specs.Types.{near_text}
use Rattle.pgs_violation_causes.proofs.texts.near_texts.Given as goal

abbrev pub invariant-loop-near : goal.invariant-loop-near
invariant-loop-near l = l.texts.items ≡ filter_map (near_text l.resolved) (take l.near-index l.nears)
