use Rattle.std.proofs.Common.{sym, ◌∙◌, subst, rules}
use Rattle.pgs_world.specs.Count.{Rose}
use Rattle.pgs_world.specs.Moment.{IsQuiet, ShowsOne, IsSynced}
use Rattle.pgs_world.specs.MemWorld.{Kept, view_of, counted}
use Rattle.pgs_world.proofs.MemSteps.{quiet-sync, rises-sync, shows-sync, on_ok_did}
use Rattle.pgs_world.proofs.MemMoments.{synced_from}
use Rattle.pgs_world.proofs.Sounds.{sync-done}
use Rattle.pgs_world.proofs.mem_world.MemWorldWorld.sync.Goals as goal

pub returns-clause-quiet : goal.returns-clause-quiet
returns-clause-quiet c =
    let known = c.sync_exact.ensures.known in
    let after = c.sync_exact.ensures.after in
    subst (λ (k : Kept). IsQuiet (view_of c.args.self.now) (view_of k)) (sym after) (quiet-sync c.args.self.now known c.args.area)

pub returns-clause-synced : goal.returns-clause-synced
returns-clause-synced c =
    let known = c.sync_exact.ensures.known in
    let after = c.sync_exact.ensures.after in
    let world = c.args.self.now in
    on_ok_did c.area_answer.result c.sync_exact.result (IsSynced c.args.area (view_of c.sync_exact.new.self)) c.area_answer.ensures
    (λ did. subst (λ (k : Kept). IsSynced c.args.area (view_of k)) (sym (after ∙ sync-done world c.args.area (sym c.sync_exact.ensures.did ∙ did))) (synced_from c.args.area world (counted world.meter)))

pub returns-clause-call : goal.returns-clause-call
returns-clause-call c =
    let known = c.sync_exact.ensures.known in
    let after = c.sync_exact.ensures.after in
    record {
      moment = subst (λ (k : Kept). Rose (view_of c.args.self.now).moment (view_of k).moment) (sym after) (rises-sync c.args.self.now known c.args.area);
      image = subst (λ (k : Kept). ShowsOne (view_of k)) (sym after) (shows-sync c.args.self.now known c.args.area);
      cause = search rules;
      no_cause = search rules;
      no_put = search rules;
    }
