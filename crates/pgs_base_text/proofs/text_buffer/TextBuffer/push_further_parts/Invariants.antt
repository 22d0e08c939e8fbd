use Rattle.std.proofs.Common.{◌≡◌, ◌++◌, flat_map, take}
use Rattle.pgs_base_text.specs.Text.{further_part}
use Rattle.pgs_base_text.proofs.text_buffer.TextBuffer.push_further_parts.Given as goal

abbrev pub invariant-loop-part : goal.invariant-loop-part
invariant-loop-part l = l.self ≡ l.fn.self ++ flat_map further_part (take l.part-index l.parts)
