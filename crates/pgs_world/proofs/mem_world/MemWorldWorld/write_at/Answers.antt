use Rattle.std.proofs.Common.{length, refl, sym, subst, rules}
use Rattle.pgs_world.specs.Disk.{Writes}
use Rattle.pgs_world.specs.Count.{Rose}
use Rattle.pgs_world.specs.Moment.{Passes, StopsBy, ShowsOne}
use Rattle.pgs_world.specs.MemWorld.{Kept, view_of}
use Rattle.pgs_world.proofs.MemSteps.{stops-write, passes-write, shows-write, rises-write, part_within}
use Rattle.pgs_world.proofs.mem_world.MemWorldWorld.write_at.Goals as goal

pub returns-clause-stops : goal.returns-clause-stops
returns-clause-stops c =
    let known = c.write_exact.ensures.known in
    let after = c.write_exact.ensures.after in
    subst (λ (k : Kept). StopsBy (Writes c.args.area c.args.at (length c.args.bytes.now)) (view_of c.args.self.now) (view_of k)) (sym after) (stops-write c.args.self.now known c.args.area c.args.at c.args.bytes.now (part_within c.args.area c.args.self.now.now c.args.at (c.requires refl)))

pub returns-clause-passes : goal.returns-clause-passes
returns-clause-passes c =
    let known = c.write_exact.ensures.known in
    let after = c.write_exact.ensures.after in
    subst (λ (k : Kept). Passes (view_of c.args.self.now) (view_of k)) (sym after) (passes-write c.args.self.now known c.args.area c.args.at c.args.bytes.now (part_within c.args.area c.args.self.now.now c.args.at (c.requires refl)))

pub returns-clause-call : goal.returns-clause-call
returns-clause-call c =
    let known = c.write_exact.ensures.known in
    let after = c.write_exact.ensures.after in
    record {
      moment = subst (λ (k : Kept). Rose (view_of c.args.self.now).moment (view_of k).moment) (sym after) (rises-write c.args.self.now known c.args.area c.args.at c.args.bytes.now (part_within c.args.area c.args.self.now.now c.args.at (c.requires refl)));
      image = subst (λ (k : Kept). ShowsOne (view_of k)) (sym after) (shows-write c.args.self.now known c.args.area c.args.at c.args.bytes.now (part_within c.args.area c.args.self.now.now c.args.at (c.requires refl)));
      cause = search rules;
      no_cause = search rules;
      no_put = search rules;
    }
