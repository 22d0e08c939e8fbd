use Rattle.std.proofs.Common.{◌≡◌, ◌++◌, map, take}
use Rattle.pgs_differences.specs.Texts.{placed_text}
use Rattle.pgs_differences.proofs.near_texts.push_placed_texts.Given as goal

abbrev pub invariant-loop-difference : goal.invariant-loop-difference
invariant-loop-difference l = l.texts.items ≡ l.fn.texts.items ++ map (placed_text l.place) (take l.difference-index l.differences)
