use Rattle.std.proofs.Common.{subst}
use Rattle.pgs_base.specs.declared.seed.Seed.{Seed}
use Rattle.pgs_program.specs.Outside.{IsFresh}
use Rattle.pgsession.proofs.program.run_program.Goals as goal

pub returns : goal.returns
returns g c = record {
  start = c.without_files-outside.result;
  fresh = subst (λ (seed : Seed). IsFresh c.args.reader c.args.writer seed c.without_files-outside.result) c.seed_of.ensures c.without_files-outside.ensures.fresh;
  areas = c.without_files-outside.ensures.no_files;
  promise = λ places. rw c.status.ensures (c.run_sessions-ended.ensures.promise places);
  last = rw c.status.ensures c.run_sessions-ended.ensures.last;
  calls = rw c.status.ensures c.run_sessions-ended.ensures.calls;
}
