use Rattle.std.proofs.Common.{List, ℕ, Result, Ok, Err, IfOk, OnOk, sym, subst, ◌∙◌}
use Rattle.pgs_journal.specs.Format.{Holds}
use Rattle.pgs_snapshot.proofs.checkpointing.checkpoint.Goals as goal

both_of : {T E : Type 0} (r : Result T E) (P Q : T → Type 0) (S : Type 0) → ((x : T) → P x → S → Q x) → IfOk r P → OnOk r S → IfOk r Q
both_of (Ok x) P Q S follows p s = follows x p s
both_of (Err e) P Q S follows p s = tt

pub returns-clause-every_image : goal.returns-clause-every_image
returns-clause-every_image g c = λ payloads frames.
    let made = c.create.ensures.made in
    both_of c.create.result _ _ _
    (λ journal holds synced honest told triple left.
    subst (λ (image : List ℕ). Holds journal.next c.args.epoch payloads journal.end image)
    (sym (synced (made.step.passes.honest ∙ honest) (made.step.passes.tells_bytes ∙ told) triple left)) (holds told))
    (made.holds payloads frames) c.create.ensures.synced
