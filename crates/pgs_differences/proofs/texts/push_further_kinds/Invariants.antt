use Rattle.std.proofs.Common.{◌≡◌, ◌++◌, flat_map, take}
use Rattle.pgs_differences.specs.Texts.{further_kind}
use Rattle.pgs_differences.proofs.texts.push_further_kinds.Given as goal

abbrev pub invariant-loop-kind : goal.invariant-loop-kind
invariant-loop-kind l = l.text ≡ l.fn.text ++ flat_map further_kind (take l.kind-index l.kinds)
