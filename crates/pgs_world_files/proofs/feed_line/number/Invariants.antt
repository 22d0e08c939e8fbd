use Rattle.std.proofs.Common.{◌≡◌, drop}
use Rattle.pgs_world_files.specs.FeedLines.{number_after}
use Rattle.pgs_world_files.proofs.feed_line.number.Given as goal

abbrev pub invariant-loop-byte : goal.invariant-loop-byte
invariant-loop-byte l = number_after l.number (drop l.byte-index l.digits) ≡ number_after 0 l.digits
