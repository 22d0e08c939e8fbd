use Rattle.std.proofs.Common.{◌≡◌, ◌++◌, flat_map, take}
use Rattle.pgs_differences.specs.Texts.{further_text}
use Rattle.pgs_differences.proofs.near_texts.push_further_texts.Given as goal

abbrev pub invariant-loop-text : goal.invariant-loop-text
invariant-loop-text l = l.line ≡ l.fn.line ++ flat_map further_text (take l.text-index l.texts)
