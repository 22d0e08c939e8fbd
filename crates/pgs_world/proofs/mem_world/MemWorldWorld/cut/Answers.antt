use Rattle.std.proofs.Common.{sym, subst, rules}
use Rattle.pgs_world.specs.Disk.{Cuts}
use Rattle.pgs_world.specs.Count.{Rose}
use Rattle.pgs_world.specs.Moment.{Passes, StopsBy, ShowsOne}
use Rattle.pgs_world.specs.MemWorld.{Kept, view_of}
use Rattle.pgs_world.proofs.MemSteps.{stops-cut, passes-cut, shows-cut, rises-cut}
use Rattle.pgs_world.proofs.mem_world.MemWorldWorld.cut.Goals as goal

pub returns-clause-stops : goal.returns-clause-stops
returns-clause-stops c =
    let known = c.cut_exact.ensures.known in
    let after = c.cut_exact.ensures.after in
    subst (λ (k : Kept). StopsBy (Cuts c.args.area c.args.len) (view_of c.args.self.now) (view_of k)) (sym after) (stops-cut c.args.self.now known c.args.area c.args.len)

pub returns-clause-passes : goal.returns-clause-passes
returns-clause-passes c =
    let known = c.cut_exact.ensures.known in
    let after = c.cut_exact.ensures.after in
    subst (λ (k : Kept). Passes (view_of c.args.self.now) (view_of k)) (sym after) (passes-cut c.args.self.now known c.args.area c.args.len)

pub returns-clause-call : goal.returns-clause-call
returns-clause-call c =
    let known = c.cut_exact.ensures.known in
    let after = c.cut_exact.ensures.after in
    record {
      moment = subst (λ (k : Kept). Rose (view_of c.args.self.now).moment (view_of k).moment) (sym after) (rises-cut c.args.self.now known c.args.area c.args.len);
      image = subst (λ (k : Kept). ShowsOne (view_of k)) (sym after) (shows-cut c.args.self.now known c.args.area c.args.len);
      cause = search rules;
      no_cause = search rules;
      no_put = search rules;
    }
