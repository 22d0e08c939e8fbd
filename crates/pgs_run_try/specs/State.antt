-- What contracts see of a session, and of what decides its transactions.
use Rattle.std.specs.Prelude.{◌≡◌, ℕ, List}
use Rattle.pgs_base.specs.Graph.{Graph}
use Rattle.pgs_syntax.specs.declared.resolved.Resolved.{Resolved}
use Rattle.pgs_run_input.specs.Session.{Standing, standard, after_line, pieces_of_line}
use Rattle.pgs_run_try.specs.declared.decider.Decider.{Decider}
use Rattle.pgs_run_try.specs.declared.decider.Decider.TheVariants.{Guarded, Unjudged}
use Rattle.pgs_run_try.specs.declared.judging.Judging.{Judging}
use Rattle.pgs_run_try.specs.declared.judging.Judging.TheVariants.{EachLine, AtEnd}
use Rattle.pgs_run_try.specs.Judging.{verdict_by, telling_by}

-- how it judges, its schema, and where it stands between two lines
pub record SessionState : Type 0 where
  pub judging : Judging
  pub schema : Resolved
  pub standing : Standing

-- the session after a line, and what the line tells
abbrev pub session_after : SessionState → List ℕ → SessionState
session_after s line =
    record { judging = s.judging; schema = s.schema; standing = after_line (verdict_by s.judging s.schema) s.standing line }

abbrev pub session_pieces : SessionState → List ℕ → List (List ℕ)
session_pieces s line = pieces_of_line (telling_by s.judging) (verdict_by s.judging s.schema) s.standing line

-- a guard judges the graph of each transaction; without one the graph is judged at the end
abbrev pub judging_in : Decider → Judging
judging_in (Guarded guard) = EachLine
judging_in (Unjudged staged) = AtEnd

abbrev pub schema_in : Decider → Resolved
schema_in (Guarded guard) = guard.schema
schema_in (Unjudged staged) = staged.schema.resolved

abbrev pub graph_in : Decider → Graph
graph_in (Guarded guard) = guard.graph
graph_in (Unjudged staged) = staged.graph.graph

abbrev pub commits_in : Decider → ℕ
commits_in (Guarded guard) = guard.commits
commits_in (Unjudged staged) = staged.commits

-- the limits of the program
abbrev pub HasStandardLimits : Decider → Type 0
HasStandardLimits (Guarded guard) = guard.limits ≡ standard
HasStandardLimits (Unjudged staged) = Unit {0}

abbrev pub state_in : Decider → Standing → SessionState
state_in decider standing = record { judging = judging_in decider; schema = schema_in decider; standing = standing }
