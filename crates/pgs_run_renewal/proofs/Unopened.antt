-- What is left where no store was opened.
use Rattle.std.proofs.Common.{◌≡◌, ◌∙◌, inl, inr, ℕ, false, List, Option, Err, IsTrue, refl, sym, subst}
use Rattle.pgs_base.specs.Graph.{Graph}
use Rattle.pgs_run_lines.specs.Pieces.{shown_of}
use Rattle.pgs_command.specs.declared.status.Status.{Status}
use Rattle.pgs_command.specs.declared.status.Status.TheVariants.{PutFault, Memory}
use Rattle.pgs_run_store.specs.declared.opening.Unopened.{Unopened}
use Rattle.pgs_run_store.specs.declared.opening.Unopened.TheVariants as unopened
use Rattle.pgs_run_store.specs.Ending.{EndsUnopened, is_refusal}
use Rattle.pgs_run_store.specs.Opening.{IsRefusal, Opens}
use Rattle.pgs_run_store.proofs.Shown.{shown_quiet}
use Rattle.pgs_run_store.proofs.Saving.{never_refused}
use Rattle.pgs_run_store.proofs.Unread.{RunsUnopened, unopened_by, unopened_images}
use Rattle.pgs_snapshot.specs.Choice.{chosen_next}
use Rattle.pgs_world.specs.Moment.{EachSince, IsTimed}
use Rattle.pgs_world.specs.World.{View}
use Rattle.pgs_world.proofs.Moments.{each_quiet}
use Rattle.pgs_run_renewal.specs.Evolving.{IsEvolvingAt}
use Rattle.pgs_run_store.specs.Spec.{IsUnput}
use Rattle.pgs_run_renewal.specs.EvolveLeaving.{LeavesEvolved, IsMade, SavesAs, kept_of}
use Rattle.pgs_run_renewal.proofs.EvolveUnmoved.{starts_at}
use Rattle.pgs_run_renewal.proofs.EvolveLeaving.{Unput, leaves_kept, shows_same}

-- what is saved isn't refused
not_refused : (reason : Unopened) (old mid : View) (before : List ℕ) (commits : ℕ) (graph : Graph) → Opens (Err reason) old mid → IsTrue old.tells_bytes → SavesAs old before commits graph → is_refusal reason ≡ false
not_refused (unopened.Refused reply) old mid before commits graph opens tells saves = absurd (never_refused old before commits graph reply.line reply.status tells saves opens.1)
not_refused unopened.DiskFault old mid before commits graph opens tells saves = refl
not_refused unopened.Memory old mid before commits graph opens tells saves = refl

-- then an area failed, or there was no memory
unmade : (reason : Unopened) (old mid new : View) (result : Status) (before : List ℕ) (commits : ℕ) (graph : Graph) → Opens (Err reason) old mid → EndsUnopened reason mid result new → IsTrue old.tells_bytes
    → SavesAs old before commits graph → (next : Option ℕ) (input : List ℕ) → IsMade next input graph result → ⊥
unmade (unopened.Refused reply) old mid new result before commits graph opens ends tells saves next input made =
    absurd (never_refused old before commits graph reply.line reply.status tells saves opens.1)
unmade unopened.DiskFault old mid new result before commits graph opens ends tells saves next input made = subst (IsMade next input graph) ends.0 made
unmade unopened.Memory old mid new result before commits graph opens ends tells saves next input made = subst (IsMade next input graph) ends.0 made

-- with 8 nothing was put
unput_memory : (reason : Unopened) (old mid new : View) (result : Status) → Opens (Err reason) old mid → EndsUnopened reason mid result new → result ≡ Memory → shown_of new ≡ shown_of mid
unput_memory (unopened.Refused reply) old mid new result opens (inl whole) is = absurd (subst IsRefusal (sym whole.0 ∙ is) opens.0)
unput_memory (unopened.Refused reply) old mid new result opens (inr torn) is = absurd (let no : PutFault ≡ Memory = sym torn.0 ∙ is in cc)
unput_memory unopened.DiskFault old mid new result opens ends is = ends.1.shown
unput_memory unopened.Memory old mid new result opens ends is = ends.1.shown

unput : (reason : Unopened) (old mid new : View) (result : Status) → RunsUnopened reason old mid new result → Unput old new result
unput reason old mid new result ran is =
    let memory = unopened_by reason old mid new result ran (λ s. IsUnput s → s ≡ Memory) (λ no. absurd no) (λ no. absurd no) (λ no. absurd no) (λ yes. refl) (λ no. absurd no) is in
    shows_same (shown_of old) (shown_of new) (unput_memory reason old mid new result ran.opens ran.ends memory ∙ shown_quiet old mid ran.quiet ran.no_put)

pub leaves_unopened : (left : Option (List ℕ)) (reason : Unopened) (old mid new : View) (result : Status) → IsTimed old → RunsUnopened reason old mid new result → (is_refusal reason ≡ false → new ≡ mid) → LeavesEvolved left old new result
leaves_unopened left reason old mid new result timed ran early =
    leaves_kept left old new result (unopened_images reason old mid new result ran)
    (λ input before commits graph is saves tells settled.
    let P = IsEvolvingAt (kept_of old commits graph) before input in
    subst (λ (v : View). EachSince P old v) (sym (early (not_refused reason old mid before commits graph ran.opens settled.tells_bytes saves)))
    (each_quiet old mid P settled.honest ran.quiet (starts_at old before commits graph saves input timed tells settled)))
    (λ tells input before commits graph is saves made.
    unmade reason old mid new result before commits graph ran.opens ran.ends tells saves (chosen_next old.shown.a old.shown.b) input made)
    (unput reason old mid new result ran)
