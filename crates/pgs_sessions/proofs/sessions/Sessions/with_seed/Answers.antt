use Rattle.std.proofs.Common.{refl}
use Rattle.pgs_sessions.proofs.Starting.{none_kept}
use Rattle.pgs_sessions.proofs.sessions.Sessions.with_seed.Goals as goal

pub returns-clause-stands : goal.returns-clause-stands
returns-clause-stands c = record {
  schema = refl;
  limits = c.in_ok-guard.ensures.limits;
  graph = c.in_ok-guard.ensures.empty;
  commits = c.in_ok-guard.ensures.commits;
  numbers = none_kept _ _ c.new.ensures.nodes c.new.ensures.edges;
  sessions = c.new-2.ensures;
}
