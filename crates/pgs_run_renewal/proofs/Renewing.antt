-- What an opened store leaves that is renewed, and the line behind it.
use Rattle.std.proofs.Common.{◌≡◌, inl, inr, ⊎_elim, ℕ, ◌+◌, ◌≤◌, Bool, true, false, IsTrue, List, [], ◌∷◌, ◌++◌, Option, Some, refl, sym, ◌∙◌, ap, subst, arith, eq-eqb}
use Rattle.std.specs.Prelude.{◌==◌, if◌then◌else◌}
use Rattle.std.proofs.lemmas.Bool.Decides.{nat_tests}
use Rattle.pgs_answer.specs.Lines.{checkpoint_line}
use Rattle.pgs_answer.specs.Refusals.{epochs_spent_text}
use Rattle.pgs_base.specs.declared.limits.Limits.{Limits}
use Rattle.pgs_journal.specs.declared.journal.Journal.{Journal}
use Rattle.pgs_journal.specs.Format.{is_epoch}
use Rattle.pgs_run_lines.specs.Machine.{Told}
use Rattle.pgs_run_lines.specs.Replies.{PutsReply}
use Rattle.pgs_command.specs.declared.status.Status.{Status}
use Rattle.pgs_command.specs.declared.status.Status.TheVariants.{Accepted, DiskFault, PutFault}
use Rattle.pgs_command.specs.Areas.{areas_of}
use Rattle.pgs_command.specs.Images.{IsUnwritten, KeepsArea}
use Rattle.pgs_command.proofs.Images.{area_beside, area_of_images, area_on, images_areas, images_quiet}
use Rattle.pgs_run_input.specs.Session.{standard}
use Rattle.pgs_run_store.specs.Opening.{saved_in}
use Rattle.pgs_run_store.specs.Refusing.{store_refused}
use Rattle.pgs_run_store.proofs.Images.{same_by}
use Rattle.pgs_run_store.proofs.Reading.{RunsOpened, told_opened}
use Rattle.pgs_snapshot.specs.Choice.{area_chosen, chosen, chosen_area, chosen_epoch, epoch_chosen}
use Rattle.pgs_snapshot.specs.Saved.{saved, saved_by, saved_of, store}
use Rattle.pgs_store.specs.Checkpoints as checkpoints
use Rattle.pgs_store.specs.Stored.{StoreState, IsRenewedIn, IsSavedBy, IsSavedIn, next_journal, renewed}
use Rattle.pgs_store.specs.World.{StaysBeside}
use Rattle.pgs_world.specs.declared.area.Area.{Area}
use Rattle.pgs_world.specs.declared.area.Area.TheVariants.{A, B}
use Rattle.pgs_world.specs.Moment.{EachSince, IsSettled}
use Rattle.pgs_world.specs.World.{Triple, View, other}
use Rattle.pgs_world.proofs.Moments.{each_on, passes_on, quiet_now}
use Rattle.pgs_run_store.specs.Spec.{IsUnput}
use Rattle.pgs_run_renewal.specs.CheckpointLeaving.{IsAsBefore, IsRenewed, IsTorn, LeavesRenewed, PutsFront, StopsRenewing, records_of, saved_there}
use Rattle.pgs_run_renewal.specs.CheckpointTold.{told_by, told_checkpoint}
use Rattle.pgs_run_renewal.proofs.CheckpointKept.{puts_none, stops_quiet}

-- ---- which line is told

abbrev told_if : Bool → ℕ → ℕ → Told Status
told_if last epoch commits = if last then store_refused epochs_spent_text else record { pieces = checkpoint_line (epoch + 1) commits ∷ []; status = Accepted }

not_spent : (epoch : ℕ) → epoch + 1 ≤ 16777215 → (epoch == 16777215) ≡ false
not_spent epoch below = grind (arith, nat_tests)

at_most : (epoch : ℕ) → IsTrue (is_epoch epoch) → epoch ≤ 16777215
at_most epoch numbered = grind (arith, nat_tests)

-- behind a renewed store's epoch there was one more
next_below : (before after : Journal) → after ≡ next_journal before after.end → IsTrue (is_epoch after.epoch) → before.epoch + 1 ≤ 16777215
next_below before after is numbered =
    let next : after.epoch ≡ before.epoch + 1 = ap (λ (j : Journal). j.epoch) is in
    omega (arith, at_most after.epoch numbered)

-- of a reply that was put, or whose put failed
pub reply_by : (P : Status → Type 0) (line : List ℕ) (status result : Status) (old new : View) → P status → P PutFault → PutsReply line status PutFault old result new → P result
reply_by P line status result old new own fault put = ⊎_elim (λ whole. subst P (sym whole.0) own) (λ torn. subst P (sym torn.0) fault) put.ends

other_twice : (area : Area) → other (other area) ≡ area
other_twice A = refl
other_twice B = refl

module _ (it : StoreState) (old mid : View) (ran : RunsOpened it old mid) where
  -- the new records in the other area, of the next epoch, hold the store
  abbrev IsNew : Triple → Type 0
  IsNew c = (end : ℕ) × IsSavedBy it.guard (next_journal it.journal end) (renewed it.guard) c

  saves_by : (journal : Journal) (payloads : List (List ℕ)) (c : Triple) → IsSavedBy it.guard journal payloads c → saved_there c ≡ store it.guard.text it.guard.commits it.guard.graph
  unfolding saved
  saves_by journal payloads c is = ap (saved_by standard) is.has.choice ∙ ap (λ (l : Limits). saved_of l payloads) (sym ran.opened.limits) ∙ is.saves

  module _ (tells : IsTrue old.tells_bytes) where
    -- the store is the one that the start showed
    there : IsSavedIn it.guard it.journal old.shown
    there = subst (λ (t : Triple). IsSavedIn it.guard it.journal t) ran.quiet.shown (ran.opened.stands.saved (ran.quiet.passes.tells_bytes ∙ tells))

    was_area : chosen_area old.shown.a old.shown.b ≡ Some it.journal.area
    was_area = ap area_chosen there.1.has.choice

    was_epoch : chosen_epoch old.shown.a old.shown.b ≡ Some it.journal.epoch
    was_epoch = ap epoch_chosen there.1.has.choice

    told_is : (last : Bool) → (it.journal.epoch == 16777215) ≡ last → told_checkpoint (areas_of old) ≡ told_if last it.journal.epoch it.guard.commits
    unfolding told_checkpoint
    told_is last is =
        told_opened it old mid (told_by (chosen_epoch old.shown.a old.shown.b)) ran.opened tells
        ∙ ap (λ (e : Option ℕ). told_by e (saved_in it)) was_epoch
        ∙ ap (λ (l : Bool). told_if l it.journal.epoch it.guard.commits) is

    pub told_spent : it.journal.epoch ≡ 16777215 → told_checkpoint (areas_of old) ≡ store_refused epochs_spent_text
    told_spent is = told_is true (eq-eqb it.journal.epoch 16777215 is)

    same_saved : (c : Triple) → IsRenewedIn it.guard it.journal c → saved_there c ≡ saved_there old.shown
    same_saved c is =
        ⊎_elim (λ before. saves_by it.journal before.0 c before.1) (λ after. saves_by (next_journal it.journal after.0) (renewed it.guard) c after.1) is
        ∙ sym (ran.opened.saves tells)

    is_renewed : (c : Triple) → IsNew c → IsRenewed old.shown c
    is_renewed c new = record {
      area = it.journal.area;
      epoch = it.journal.epoch;
      end = new.0;
      was_area = was_area;
      was_epoch = was_epoch;
      choice = new.1.has.choice
          ∙ ap (λ (records : List (List ℕ)). chosen (other it.journal.area) (it.journal.epoch + 1) new.0 (Some 3) records) (ap records_of (sym (ran.opened.saves tells)));
    }

    as_before : (c : Triple) → IsSavedIn it.guard it.journal c → IsAsBefore old.shown c
    as_before c before = record { area = ap area_chosen before.1.has.choice ∙ sym was_area; epoch = ap epoch_chosen before.1.has.choice ∙ sym was_epoch }

    stops_at : (c : Triple) → IsRenewedIn it.guard it.journal c → (puts : PutsFront (told_checkpoint (areas_of old)) old c)
        → (puts.back ≡ [] → (told_checkpoint (areas_of old)).status ≡ Accepted → IsRenewed old.shown c) → StopsRenewing old c
    stops_at c is puts whole = record {
      puts = puts;
      saves = same_saved c is;
      chosen_as = ⊎_elim (λ before. inl (as_before c before)) (λ after. inr (is_renewed c after)) is;
      whole = whole;
    }

  module _ (late : View) (beside : StaysBeside (other it.journal.area) mid late) (stops : IsTrue mid.honest → IsTrue mid.tells_bytes → EachSince (IsRenewedIn it.guard it.journal) mid late) where
    late_honest : IsTrue old.honest → IsTrue late.honest
    late_honest honest = beside.passes.honest ∙ ran.quiet.passes.honest ∙ honest

    late_tells : IsTrue old.tells_bytes → IsTrue late.tells_bytes
    late_tells tells = beside.passes.tells_bytes ∙ ran.quiet.passes.tells_bytes ∙ tells

    -- an area failed
    pub leaves_failed : LeavesRenewed old late DiskFault
    leaves_failed = record {
      passes = passes_on old mid late ran.quiet.passes beside.passes;
      stops = λ settled store. each_on old mid late (StopsRenewing old) ran.quiet.passes beside.passes (stops_quiet old mid ran.quiet settled) (renewing settled);
      unsaved = λ tells none. absurd (none (it.guard.text, it.guard.commits, it.guard.graph, ran.opened.saves tells));
      unwritten = λ is. absurd is;
      beside = λ tells area is.
          let some : Some it.journal.area ≡ Some area = sym (was_area tells) ∙ is in
          let same : it.journal.area ≡ area = cc in
          subst (λ (a : Area). KeepsArea a old late) same (area_on it.journal.area old mid late (area_of_images it.journal.area old mid (images_quiet old mid ran.quiet)) chosen_kept);
      kept = λ tells no. absurd (no refl);
      renewed = λ tells accepted. absurd (let no : DiskFault ≡ Accepted = accepted in cc);
      torn = λ tells is. absurd (let no : DiskFault ≡ PutFault = is in cc);
      unput = λ is. absurd is;
    }
      where
        renewing : IsSettled old → EachSince (StopsRenewing old) mid late
        renewing settled c left =
            let from = beside.stops (ran.quiet.passes.honest ∙ settled.honest) c left in
            let puts = puts_none old from.0 c (quiet_now old mid ran.quiet settled.honest from.0 from.1) from.2.output in
            stops_at settled.tells_bytes c (stops (ran.quiet.passes.honest ∙ settled.honest) (ran.quiet.passes.tells_bytes ∙ settled.tells_bytes) c left) puts.0 (λ none accepted. absurd (puts.1 none accepted))

        chosen_kept : KeepsArea it.journal.area mid late
        chosen_kept = subst (λ (area : Area). KeepsArea area mid late) (other_twice it.journal.area) (area_beside (other it.journal.area) mid late beside.passes beside.shown beside.stops)

    -- the store was renewed, and then its line was put
    module _ (after : Journal) (epoch : ℕ) (done : checkpoints.IsRenewed it.guard it.journal after epoch late) (numbered : IsTrue (is_epoch after.epoch)) where
      abbrev line : List ℕ
      line = checkpoint_line (it.journal.epoch + 1) it.guard.commits

      pub told_next : IsTrue old.tells_bytes → told_checkpoint (areas_of old) ≡ record { pieces = line ∷ []; status = Accepted }
      told_next tells = told_is tells false (not_spent it.journal.epoch (next_below it.journal after done.journal numbered))

      pub settled_late : IsSettled old → IsSettled late
      settled_late settled = done.stands.settled (late_honest settled.honest) (late_tells settled.tells_bytes)

      module _ (new : View) (result : Status) (put : PutsReply line Accepted PutFault late result new) where
        behind : IsTrue old.tells_bytes → (c : Triple) → c.a ≡ late.shown.a → c.b ≡ late.shown.b → IsNew c
        behind tells c a b =
            (after.end, subst (λ (j : Journal). IsSavedBy it.guard j (renewed it.guard) c) done.journal (same_by it.guard after (renewed it.guard) late.shown c (done.alone (late_tells tells)) a b))

        -- while the line is put
        putting : IsSettled old → EachSince (StopsRenewing old) late new
        putting settled c left =
            let from = put.stops (late_honest settled.honest) c left in
            let first = beside.stops (ran.quiet.passes.honest ∙ settled.honest) from.0 (beside.passes.timed.now mid.moment from.0 beside.passes.later from.1) in
            let is = behind settled.tells_bytes c (from.2.a ∙ (settled_late settled).a from.0 from.1) (from.2.b ∙ (settled_late settled).b from.0 from.1) in
            stops_at settled.tells_bytes c (inr is)
            (record {
              line = line;
              one = ap (λ (t : Told Status). t.pieces) (told_next settled.tells_bytes);
              left = first.0;
              before = quiet_now old mid ran.quiet settled.honest first.0 first.1;
              front = from.2.front;
              back = from.2.back;
              parts = from.2.parts;
              output = from.2.added ∙ ap (λ (o : List ℕ). o ++ from.2.front) first.2.output;
            }) (λ none accepted. is_renewed settled.tells_bytes c is)

        pub leaves_renewed : LeavesRenewed old new result
        leaves_renewed =
            let during = leaves_failed in
            record {
              passes = passes_on old late new during.passes put.areas.passes;
              stops = λ settled store. each_on old late new (StopsRenewing old) during.passes put.areas.passes (during.stops settled store) (putting settled);
              unsaved = λ tells none. absurd (none (it.guard.text, it.guard.commits, it.guard.graph, ran.opened.saves tells));
              unwritten = λ is. absurd (reply_by (λ s. IsUnwritten s → ⊥) line Accepted result late new (λ no. no) (λ no. no) put is);
              beside = λ tells area is. area_on area old late new (during.beside tells area is) (area_of_images area late new (images_areas late new put.areas));
              kept = λ tells no. same_saved tells new.shown (inr (behind tells new.shown put.areas.a put.areas.b));
              renewed = λ tells accepted. is_renewed tells new.shown (behind tells new.shown put.areas.a put.areas.b);
              torn = λ tells is.
                  subst (λ (t : Told Status). IsTorn t.status old new) (sym (told_next tells)) (is_renewed tells new.shown (behind tells new.shown put.areas.a put.areas.b));
              unput = λ is. absurd (reply_by (λ s. IsUnput s → ⊥) line Accepted result late new (λ no. no) (λ no. no) put is);
            }
