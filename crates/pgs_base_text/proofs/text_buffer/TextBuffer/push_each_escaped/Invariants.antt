use Rattle.std.proofs.Common.{◌≡◌, ◌++◌, flat_map, take}
use Rattle.pgs_base_text.specs.Text.{escaped}
use Rattle.pgs_base_text.proofs.text_buffer.TextBuffer.push_each_escaped.Given as goal

abbrev pub invariant-loop-byte : goal.invariant-loop-byte
invariant-loop-byte l = l.self ≡ l.fn.self ++ flat_map escaped (take l.byte-index l.text)
