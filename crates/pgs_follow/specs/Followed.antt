-- What is followed of all bytes of a feed: the graph that its commits lead to, from the empty graph on.
use Rattle.std.specs.Prelude.{ℕ, ◌+◌, List, [], ◌∷◌, length, Option, Some, None, is_some, Result, Ok, Err, nat_le, nat_lt, ◌==◌, if◌then◌else◌}
use Rattle.pgs_base.specs.declared.limits.Limits.{Limits}
use Rattle.pgs_base.specs.Graph.{Graph, empty_graph}
use Rattle.pgs_graph.specs.declared.operation.Txn.{Txn}
use Rattle.pgs_violation.specs.declared.structural.Structural.{Structural}
use Rattle.pgs_violation.specs.Staging.{staged}
use Rattle.pgs_json.specs.declared.commit.TheConstants.{COMMIT_LIMIT}
use Rattle.pgs_json.specs.declared.commit_fault.CommitFault.{CommitFault}
use Rattle.pgs_json.specs.declared.commit_fault.CommitFault.TheVariants as commits
use Rattle.pgs_json.specs.Commit.{read_commit_line}
use Rattle.pgs_run_lines.specs.Input.{lines_of}
use Rattle.pgs_follow.specs.declared.fault.FollowFault.{FollowFault}
use Rattle.pgs_follow.specs.declared.fault.FollowFault.TheVariants.{LineTooLong, BadLine, Gap, BadCommit}

-- the graph after so many commits, how many lines were read without a fault, and the fault that ended it
pub record Followed : Type 0 where
  pub graph : Graph
  pub commits : ℕ
  pub lines : ℕ
  pub fault : Option FollowFault

abbrev pub nothing_followed : Followed
nothing_followed = record { graph = empty_graph; commits = 0; lines = 0; fault = None }

-- ended by a fault
abbrev pub faulted : Followed → FollowFault → Followed
faulted f fault = record f { fault = Some fault }

-- the next commit: its transaction was staged, or it can't be
abbrev pub committed : Followed → Result Graph Structural → Followed
committed f (Ok g) = record f { graph = g; commits = f.commits + 1; lines = f.lines + 1 }
committed f (Err cause) = faulted f (BadCommit (f.commits + 1) cause)

-- a commit: passed over where it came before, staged where it is the next one, and else a gap is before it
abbrev pub after_commit : Limits → Followed → ℕ → Txn → Followed
after_commit limits f number txn =
    if nat_le number f.commits then record f { lines = f.lines + 1 }
    else (if number == f.commits + 1 then committed f (staged limits f.graph txn) else faulted f (Gap (f.commits + 1) number))

-- what was read of a line
abbrev pub after_reading : Limits → Followed → Result (ℕ × Txn) CommitFault → Followed
after_reading limits f (Ok commit) = after_commit limits f commit.0 commit.1
after_reading limits f (Err commits.Unreadable) = faulted f (BadLine (f.lines + 1))
after_reading limits f (Err commits.LineTooLong) = faulted f (LineTooLong (f.lines + 1))
-- no line gives this
after_reading limits f (Err commits.Memory) = f

-- a line, without its line feed; after a fault nothing is followed
abbrev pub after_line : Limits → Followed → List ℕ → Followed
after_line limits f line = if is_some f.fault then f else after_reading limits f (read_commit_line line)

abbrev pub after_lines : Limits → Followed → List (List ℕ) → Followed
after_lines limits f [] = f
after_lines limits f (line ∷ lines) = after_lines limits (after_line limits f line) lines

-- an unfinished line, which isn't read, but may be too long already
abbrev pub with_rest : Followed → List ℕ → Followed
with_rest f rest =
    if is_some f.fault then f else (if nat_lt COMMIT_LIMIT (length rest) then faulted f (LineTooLong (f.lines + 1)) else f)

-- what is followed of all these bytes: of the lines that a line feed ends, in order, and of what stands behind the last line feed
unfoldable pub followed : Limits → List ℕ → Followed
followed limits bytes = with_rest (after_lines limits nothing_followed (lines_of bytes).ended) (lines_of bytes).rest

-- how many bytes stand behind the last line feed; none once there is a fault
unfoldable pub rest_of : Limits → List ℕ → ℕ
rest_of limits bytes = if is_some (followed limits bytes).fault then 0 else length (lines_of bytes).rest
