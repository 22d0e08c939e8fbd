-- The texts of faults, and their line.
use Rattle.std.specs.Prelude.{ℕ, List}
use Rattle.pgs_base.specs.declared.limits.Limits.{Limits}
use Rattle.pgs_answer.specs.Lines.{feed_refused_line}
use Rattle.pgs_answer.specs.Refusals.{line_too_long_at_text, not_a_commit_text, gap_text, bad_commit_text}
use Rattle.pgs_follow.specs.declared.fault.FollowFault.{FollowFault}
use Rattle.pgs_follow.specs.declared.fault.FollowFault.TheVariants.{LineTooLong, BadLine, Gap, BadCommit}

-- the limits of the program
abbrev pub standard : Limits
standard = record { ops = 10000; elements = 1000000 }

-- the number and the words of a fault
abbrev pub fault_text : FollowFault → List ℕ
fault_text (LineTooLong line) = line_too_long_at_text line
fault_text (BadLine line) = not_a_commit_text line
fault_text (Gap expected found) = gap_text expected found
fault_text (BadCommit commit cause) = bad_commit_text commit cause standard

abbrev pub fault_line : FollowFault → List ℕ
fault_line fault = feed_refused_line (fault_text fault)
