use Rattle.std.proofs.Common.{◌≡◌, Ok, sym, ◌∙◌, ap, subst, drop}
use Rattle.std.proofs.lemmas.Result.{err_from_is_err_and}
use Rattle.pgs_base.specs.declared.limits.Limits.{Limits}
use Rattle.pgs_snapshot.specs.Saved.{Replayed, replay, start, text_of}
use Rattle.pgs_store.specs.Recovers.{IsUnreplayed, replayed_in}
use Rattle.pgs_store.proofs.Replaying.{unreplayed_saves, replayed_saves, not_of_area, at_start}
use Rattle.pgs_store.proofs.recovering.guard_of_records.Goals as goal

pub returns-in_err-replay-clause-refused : goal.returns-in_err-replay-clause-refused
returns-in_err-replay-clause-refused g c =
    let p = err_from_is_err_and c.from_residual-in_err-replay.result c.from_residual-in_err-replay.ensures.1 in
    let guard = c.in_ok-guard.guard in
    let made = c.in_ok-guard.ensures in
    let rest = drop 1 c.args.payloads in
    let fault = c.in_err-replay.field-0.0 in
    rw (p.1, p.2)
    (unreplayed_saves c.args.limits c.args.payloads guard.text (made.text ∙ ap text_of c.as_slice.ensures) guard.schema fault made.schema
    (subst (λ (l : Limits). IsUnreplayed (replay l 2 (start guard.text guard.schema) rest) fault) made.limits
    (subst (λ (r : Replayed). IsUnreplayed (replay guard.limits 2 r rest) fault) (at_start guard made.empty made.commits) c.in_err-replay.ensures.untaken)))

pub returns-in_err-replay-clause-judged : goal.returns-in_err-replay-clause-judged
returns-in_err-replay-clause-judged g c =
    let p = err_from_is_err_and c.from_residual-in_err-replay.result c.from_residual-in_err-replay.ensures.1 in
    rw (p.1, p.2) (not_of_area _ c.in_err-replay.field-0.0 c.in_err-replay.ensures.untaken)

pub returns-clause-recovered : goal.returns-clause-recovered
returns-clause-recovered g c =
    let guard = c.in_ok-guard.guard in
    let made = c.in_ok-guard.ensures in
    let new = c.replay.new.guard in
    let rest = drop 1 c.args.payloads in
    let replays : replay c.args.limits 2 (start guard.text guard.schema) rest ≡ Ok (replayed_in new) =
    sym (ap (λ (l : Limits). replay l 2 (replayed_in guard) rest) made.limits ∙ ap (λ (r : Replayed). replay c.args.limits 2 r rest) (at_start guard made.empty made.commits))
    ∙ c.in_ok-replay.ensures.replayed in
    replayed_saves c.args.limits c.args.payloads guard.text (made.text ∙ ap text_of c.as_slice.ensures) guard.schema (replayed_in new) made.schema replays
