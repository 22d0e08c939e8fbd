use Rattle.std.proofs.Common.{◌≡◌, ◌++◌, map}
use Rattle.std.specs.Prelude.{string_bytes}
use Rattle.std.specs.Vec.Iter.{into_iter_items}
use Rattle.pgs_world_streams.specs.ProgramWords.{words_behind}
use Rattle.pgs_world_streams.proofs.command_line.words_in.Given as goal

abbrev pub invariant-loop-argument : goal.invariant-loop-argument
invariant-loop-argument l = l.words ++ map string_bytes (into_iter_items l.argument-iterator) ≡ words_behind (into_iter_items l.fn.arguments)
