use Rattle.std.proofs.Common.{refl, sym, ◌∙◌, ap, subst}
use Rattle.std.proofs.lemmas.Result.{err_from_is_err_and}
use Rattle.pgs_base.specs.declared.limits.Limits.{Limits}
use Rattle.pgs_snapshot.specs.Choice as choices
use Rattle.pgs_snapshot.specs.Saved.{SavedState, saved_of}
use Rattle.pgs_snapshot.proofs.Histories.{commits_within}
use Rattle.pgs_store.specs.Recovers.{IsUnrecovered}
use Rattle.pgs_store.proofs.Replaying.{chosen_saves, unchosen_saves}
use Rattle.pgs_store.proofs.store.Store.recover.Goals as goal

pub returns-in_err-chosen-clause-answer : goal.returns-in_err-chosen-clause-answer
returns-in_err-chosen-clause-answer g c =
    let p = err_from_is_err_and c.from_residual.result c.from_residual.ensures.1 in
    let shown = (g.W.World.view c.args.world.now).shown in
    rw (p.1, p.2) (λ told. unchosen_saves c.args.limits shown.a shown.b c.in_err-chosen.field-0.0 (c.in_err-chosen.ensures.found.refused told))

pub returns-in_err-guard-clause-answer : goal.returns-in_err-guard-clause-answer
returns-in_err-guard-clause-answer g c =
    let p = err_from_is_err_and c.from_residual-in_err-guard.result c.from_residual-in_err-guard.ensures.1 in
    let shown = (g.W.World.view c.args.world.now).shown in
    let it = c.in_ok-chosen.chosen in
    rw (p.1, p.2)
    (λ told.
    subst (λ (s : SavedState). IsUnrecovered s c.in_err-guard.field-0.0)
    (sym (chosen_saves c.args.limits shown.a shown.b (choices.chosen it.area it.epoch it.end it.next it.payloads) (c.in_ok-chosen.ensures.found.chosen told)))
    c.in_err-guard.ensures.refused)

pub invariant_of-result : goal.invariant_of-result
invariant_of-result g c =
    let it = c.in_ok-chosen.chosen in
    let guard = c.in_ok-guard.guard in
    let bounds = c.in_ok-chosen.ensures.found.bounds in
    record {
      epoch = bounds.numbered;
      end = bounds.end_below;
      next = bounds.next_within;
      most = commits_within c.args.limits it.epoch it.end it.next it.payloads guard.text guard.commits guard.graph bounds c.in_ok-guard.ensures.recovered;
    }

pub returns-clause-answer : goal.returns-clause-answer
returns-clause-answer g c =
    let it = c.in_ok-chosen.chosen in
    let guard = c.in_ok-guard.guard in
    let old = g.W.World.view c.args.world.now in
    let quiet = c.choose_area.ensures.quiet in
    let saves = c.in_ok-guard.ensures.recovered in
    record {
      limits_kept = c.in_ok-guard.ensures.limits;
      whole = refl;
      saves = λ told.
          chosen_saves c.args.limits old.shown.a old.shown.b (choices.chosen it.area it.epoch it.end it.next it.payloads) (c.in_ok-chosen.ensures.found.chosen told) ∙ saves;
      stands = record {
        saved = λ told. (
          it.payloads,
          record {
            has = c.in_ok-chosen.ensures.found.stands told;
            saves = ap (λ (l : Limits). saved_of l it.payloads) c.in_ok-guard.ensures.limits ∙ saves;
          },
        );
        settled = λ honest told. c.in_ok-chosen.ensures.settled refl (sym quiet.passes.honest ∙ honest) (sym quiet.passes.tells_bytes ∙ told);
      };
    }
