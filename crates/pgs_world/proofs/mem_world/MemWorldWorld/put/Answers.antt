use Rattle.std.proofs.Common.{◌≤◌, sym, subst, rules}
use Rattle.pgs_world.specs.Disk.{PutsFront}
use Rattle.pgs_world.specs.Count.{Rose}
use Rattle.pgs_world.specs.Moment.{Passes, StopsBy, ShowsOne}
use Rattle.pgs_world.specs.MemWorld.{Kept, view_of}
use Rattle.pgs_world.proofs.MemSteps.{stops-put, passes-put, shows-put, rises-put}
use Rattle.pgs_world.proofs.mem_world.MemWorldWorld.put.Goals as goal

pub returns-then-put_exact-clause-stops : goal.returns-then-put_exact-clause-stops
returns-then-put_exact-clause-stops c =
    let known = c.put_exact.ensures.known in
    let after = c.put_exact.ensures.after in
    subst (λ (k : Kept). StopsBy (PutsFront c.args.piece.now) (view_of c.args.self.now) (view_of k)) (sym after) (stops-put c.args.self.now known c.args.piece.now)

pub returns-then-put_exact-clause-passes : goal.returns-then-put_exact-clause-passes
returns-then-put_exact-clause-passes c =
    let known = c.put_exact.ensures.known in
    let after = c.put_exact.ensures.after in
    subst (λ (k : Kept). Passes (view_of c.args.self.now) (view_of k)) (sym after) (passes-put c.args.self.now known c.args.piece.now)

pub returns-else-put_exact-clause-passes : goal.returns-else-put_exact-clause-passes
returns-else-put_exact-clause-passes c =
    let known = c.put_exact.ensures.known in
    let after = c.put_exact.ensures.after in
    subst (λ (k : Kept). Passes (view_of c.args.self.now) (view_of k)) (sym after) (passes-put c.args.self.now known c.args.piece.now)

pub returns-else-put_exact-clause-stops : goal.returns-else-put_exact-clause-stops
returns-else-put_exact-clause-stops c =
    let known = c.put_exact.ensures.known in
    let after = c.put_exact.ensures.after in
    subst (λ (k : Kept). StopsBy (PutsFront c.args.piece.now) (view_of c.args.self.now) (view_of k)) (sym after) (stops-put c.args.self.now known c.args.piece.now)

pub returns-then-put_exact-clause-call : goal.returns-then-put_exact-clause-call
returns-then-put_exact-clause-call c =
    let known = c.put_exact.ensures.known in
    let after = c.put_exact.ensures.after in
    record {
      moment = subst (λ (k : Kept). Rose (view_of c.args.self.now).moment (view_of k).moment) (sym after) (rises-put c.args.self.now known c.args.piece.now);
      image = subst (λ (k : Kept). ShowsOne (view_of k)) (sym after) (shows-put c.args.self.now known c.args.piece.now);
      a = search rules;
      b = search rules;
      cause = search rules;
      no_cause = search rules;
      faults_stay = subst (λ (k : Kept). c.args.self.now.meter.put_faults ≤ k.meter.put_faults) (sym after) ((passes-put c.args.self.now known c.args.piece.now).put_faults);
      counted = search rules;
      not_counted = search rules;
      no_area = search rules;
    }

pub returns-else-put_exact-clause-call : goal.returns-else-put_exact-clause-call
returns-else-put_exact-clause-call c =
    let known = c.put_exact.ensures.known in
    let after = c.put_exact.ensures.after in
    record {
      moment = subst (λ (k : Kept). Rose (view_of c.args.self.now).moment (view_of k).moment) (sym after) (rises-put c.args.self.now known c.args.piece.now);
      image = subst (λ (k : Kept). ShowsOne (view_of k)) (sym after) (shows-put c.args.self.now known c.args.piece.now);
      a = search rules;
      b = search rules;
      cause = search rules;
      no_cause = search rules;
      faults_stay = subst (λ (k : Kept). c.args.self.now.meter.put_faults ≤ k.meter.put_faults) (sym after) ((passes-put c.args.self.now known c.args.piece.now).put_faults);
      counted = search rules;
      not_counted = search rules;
      no_area = search rules;
    }
