-- What is promised of a run that puts its one line with the status that all transactions were accepted.
use Rattle.std.proofs.Common.{◌≡◌, ◌≤◌, false, [], ◌∷◌, inl, inr, refl, sym, subst, ◌∙◌, ℕ, List}
use Rattle.pgs_run_lines.specs.AreasKept.{KeepsAreas}
use Rattle.pgs_run_lines.specs.Replies.{EndsReply}
use Rattle.pgs_world.specs.World.{View}
use Rattle.pgs_command.specs.declared.status.Status.{Status}
use Rattle.pgs_command.specs.declared.status.Status.TheVariants.{Accepted, PutFault}
use Rattle.pgs_command.specs.Promise.{PromiseAlone}
use Rattle.pgs_command.proofs.Images.{images_areas, settled_images}
use Rattle.pgs_command.proofs.Promising.{promise_alone}
use Rattle.pgs_command.proofs.Replied.{IsOwn, reply_cause, reply_ends}
use Rattle.pgs_run_gen.specs.Spec.{IsOfGen, gen_spec}
use Rattle.pgs_run_gen.specs.Told.{told_gen}
use Rattle.pgs_run_gen.proofs.Telling.{told_accepted}

may_end : (line : List ℕ) (status answer : Status) (old new : View) → status ≡ Accepted → EndsReply line status PutFault old answer new → IsOfGen answer
may_end line status answer old new is (inl whole) = subst IsOfGen (sym (whole.0 ∙ is)) tt
may_end line status answer old new is (inr torn) = subst IsOfGen (sym torn.0) tt

pub promised : (start count : ℕ) (line : List ℕ) (status answer : Status) (old new : View) → count ≤ 500000 → status ≡ Accepted → (told_gen start count).pieces ≡ line ∷ []
    → EndsReply line status PutFault old answer new → KeepsAreas old new → PromiseAlone (gen_spec start count) old new answer
promised start count line status answer old new few accepted pieces ends areas budget source places =
    let own : IsOwn false status = subst (IsOwn false) (sym accepted) tt in
    promise_alone (gen_spec start count) budget (record { source = source; view = old; places = places }) (record { source = source; view = new; places = places }) answer refl (record {
      choice = tt;
      right = tt;
      shown = λ input knows. reply_ends false (told_gen start count) line status answer old new own pieces (told_accepted start count few ∙ sym accepted) ends;
      unread = refl;
      may_end = may_end line status answer old new accepted ends;
      cause = reply_cause false false source.faults line status answer old new own ends;
      leaves = areas;
      settles = λ settled no. settled_images old new settled (images_areas old new areas);
      feeds = refl;
    })
