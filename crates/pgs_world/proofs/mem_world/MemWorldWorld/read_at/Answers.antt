use Rattle.std.proofs.Common.{sym, subst, rules}
use Rattle.pgs_world.specs.Count.{Rose}
use Rattle.pgs_world.specs.Moment.{IsQuiet, ShowsOne}
use Rattle.pgs_world.specs.MemWorld.{Kept, view_of, fails_next}
use Rattle.pgs_world.proofs.MemSteps.{quiet-read, rises-read, shows-read}
use Rattle.pgs_world.proofs.mem_world.MemWorldWorld.read_at.Goals as goal

pub returns-clause-quiet : goal.returns-clause-quiet
returns-clause-quiet c =
    let known = c.read_exact.ensures.known in
    let after = c.read_exact.ensures.after in
    subst (λ (k : Kept). IsQuiet (view_of c.args.self.now) (view_of k)) (sym after) (quiet-read c.args.self.now (fails_next c.args.self.now.meter) known)

pub returns-clause-call : goal.returns-clause-call
returns-clause-call c =
    let known = c.read_exact.ensures.known in
    let after = c.read_exact.ensures.after in
    record {
      moment = subst (λ (k : Kept). Rose (view_of c.args.self.now).moment (view_of k).moment) (sym after) (rises-read c.args.self.now (fails_next c.args.self.now.meter) known);
      image = subst (λ (k : Kept). ShowsOne (view_of k)) (sym after) (shows-read c.args.self.now (fails_next c.args.self.now.meter) known.well);
      cause = search rules;
      no_cause = search rules;
      no_put = search rules;
    }
