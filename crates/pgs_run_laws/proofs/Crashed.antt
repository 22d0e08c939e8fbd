-- A crash inside a run leaves the store after its first changes, and runs behind it go on from there.
use Rattle.std.proofs.Common.{◌≡◌, ◌⊎◌, inl, inr, ⊎_elim, ℕ, ◌+◌, ◌^◌, ◌==◌, Bool, true, false, IsTrue, List, [], ◌∷◌, ◌++◌, Option, Some, Result, Ok, refl, sym, ap, ap₂, subst, ◌∙◌, append_assoc, arith}
use Rattle.std.specs.List.{concat}
use Rattle.std.proofs.lemmas.Bool.{eqb-true}
use Rattle.std.proofs.lemmas.List.{append-nil, append_cancel_left}
use Rattle.std.proofs.lemmas.List.Folds.{concat-append}
use Rattle.pgs_answer.specs.Lines.{checkpoint_line}
use Rattle.pgs_base.specs.Graph.{Graph, empty_graph}
use Rattle.pgs_run_lines.specs.Machine.{Told}
use Rattle.pgs_run_lines.specs.Pieces.{ShowsAll, shown_of}
use Rattle.pgs_snapshot.specs.Choice.{choice_of, chosen_epoch, epoch_chosen}
use Rattle.pgs_snapshot.specs.Choice as choices
use Rattle.pgs_snapshot.specs.Saved.{SavedState, saved, saved_by, store, no_store}
use Rattle.pgs_store.specs.Loads.{FindsNone}
use Rattle.pgs_syntax.specs.declared.resolved.Resolved.{Resolved}
use Rattle.pgs_violation.specs.declared.violation.Verdict.TheVariants.{Conforms}
use Rattle.pgs_violation.specs.Violations.{verdict}
use Rattle.pgs_run_words.specs.declared.command.Command.{Command}
use Rattle.pgs_run_words.specs.declared.command.Command.TheVariants.{Load, Apply, Checkpoint, Evolve}
use Rattle.pgs_world.specs.Moment.{IsQuiet, IsSettled, IsTimed}
use Rattle.pgs_world.specs.World.{Triple, View}
use Rattle.pgs_command.specs.declared.status.Status.{Status}
use Rattle.pgs_command.specs.declared.status.Status.TheVariants.{Accepted}
use Rattle.pgs_command.specs.Areas.{areas_of}
use Rattle.pgs_command.specs.Promise.{IsUnbegun, Promise, Runs}
use Rattle.pgs_command.specs.Setting.{Setting}
use Rattle.pgs_run_input.specs.Answers.{schema_answer}
use Rattle.pgs_run_input.specs.Session.{every_verdict, standard}
use Rattle.pgs_run_input.proofs.Following.{pieces_of_lines-append, pieces_of_one}
use Rattle.pgs_run_apply.specs.Run.{IsAppliedAt, Saves, SavesAll, SavesAt, SavesNext}
use Rattle.pgs_run_apply.specs.Told.{after, all_lines, start, verdicts}
use Rattle.pgs_run_renewal.specs.CheckpointLeaving.{IsAsBefore, IsRenewed, StopsRenewing}
use Rattle.pgs_run_renewal.specs.CheckpointTold.{told_by, told_checkpoint}
use Rattle.pgs_run_renewal.specs.Evolving.{IsEvolvingAt, IsUnder}
use Rattle.pgs_run_renewal.specs.Evolving.{IsRenewed as IsEvolved}
use Rattle.pgs_run_renewal.specs.EvolveLeaving.{kept_of}
use Rattle.pgs_run_renewal.specs.EvolveTold.{line_of as evolved_line_of}
use Rattle.pgs_run_renewal.specs.Loading.{IsLoadingAt, IsNewStore}
use Rattle.pgs_run_renewal.specs.LoadTold.{line_of}
use Rattle.pgs_run_store.specs.Refusing.{SavedStore}
use Rattle.pgs_run.specs.Commands.{spec_named, spec_of}
use Rattle.pgs_run_laws.specs.Crashes.{DoesInto, IsBegun, IsFrontOf, IsOutButLast, Leaves, LeavesEpoch, LeavesNone, RanInto, ShowsImages, Stands, after_lines, lost_behind}
use Rattle.pgs_run_laws.specs.Sequence.{Applied, Deed, DoAll, Evolved, Renewed, new_store, told_deeds, under_text, under_verdict}
use Rattle.pgs_run_laws.proofs.AddUp.{do_all, same_epoch, told_renewed}

-- ---- a run that was begun, or wasn't

module _ (command : Command) (input : List ℕ) (lost : ℕ) (old new : View) (ran : RanInto command input lost old new) where
  abbrev at_start : Setting
  at_start = record { source = ran.source_before; view = old; places = ran.places_before }

  abbrev at_end : Setting
  at_end = record { source = ran.source_now; view = new; places = ran.places_now }

  by_begun : {A : Type 0} → (IsQuiet old new → A) → (Promise (spec_of command) (2 ^ 40) at_start at_end ran.status → A) → A
  by_begun none begun = ⊎_elim (λ (unbegun : IsUnbegun at_start at_end ran.status). none unbegun.quiet) begun
      (subst (λ (c : Option Command). Runs (spec_named c) (2 ^ 40) at_start at_end ran.status) ran.named ran.kept)

-- what a stop leaves where nothing was done
record IsStill (was crash : Triple) : Type 0 where
  pub a : crash.a ≡ was.a
  pub b : crash.b ≡ was.b
  pub output : crash.output ≡ was.output

-- the store that a crash left
record Left (deed : Deed) (it : SavedStore) (epoch : ℕ) (was crash : Triple) : Type 0 where
  pub now : SavedStore
  pub later : ℕ
  pub leaves : Leaves deed it epoch was crash now later
  pub saves : Saves now crash
  pub epoch_is : chosen_epoch crash.a crash.b ≡ Some later

-- no line is empty
abbrev IsEmpty : List ℕ → Type 0
IsEmpty [] = Unit {0}
IsEmpty (byte ∷ bytes) = ⊥

-- what is out is nothing, or this line
same_front : (was crash : Triple) (front line : List ℕ) → crash.output ≡ was.output ++ front → crash.output ≡ was.output ++ line → front ≡ line
same_front was crash front line out told = append_cancel_left was.output front line (sym out ∙ told)

same_schema : (x y : Resolved) (answer : Result Resolved (List ℕ)) → answer ≡ Ok x → answer ≡ Ok y → x ≡ y
same_schema x y answer one other = cc

front_of_pieces : (first : List (List ℕ)) (front back : List ℕ) (rest : List (List ℕ)) → concat (first ++ (front ++ back) ∷ rest) ≡ concat first ++ front ++ (back ++ concat rest)
front_of_pieces first front back rest =
    concat-append first ((front ++ back) ∷ rest) ∙ ap (λ (bytes : List ℕ). concat first ++ bytes) (append_assoc front back (concat rest)) ∙ sym (append_assoc (concat first) front (back ++ concat rest))

module _ (it : SavedStore) (epoch : ℕ) (old new : View) (crash : Triple) (stands : Stands it epoch old) (timed : IsTimed old) (settled : IsSettled old) (tells : IsTrue old.tells_output)
    (left : new.left_since old.moment crash) where
  still : IsQuiet old new → IsStill old.shown crash
  still quiet =
      let may = quiet.stops settled.honest crash left in record { a = settled.a crash may; b = settled.b crash may; output = timed.output settled.honest tells crash may }

  nothing_out : IsStill old.shown crash → crash.output ≡ old.shown.output ++ []
  nothing_out same = same.output ∙ sym (append-nil old.shown.output)

  saves_it : IsStill old.shown crash → Saves it crash
  saves_it same = record { saves = ap₂ (saved standard) same.a same.b ∙ stands.saves.saves; schema = stands.saves.schema }

  epoch_it : IsStill old.shown crash → chosen_epoch crash.a crash.b ≡ Some epoch
  epoch_it same = ap₂ chosen_epoch same.a same.b ∙ stands.epoch_is

  -- ---- `apply`

  module _ (input : List ℕ) (lost : ℕ) where
    lines_left : (until more : List (List ℕ)) → all_lines input ≡ until ++ more → IsFrontOf (verdicts it until ++ lost_behind more lost) old.shown crash → IsOutButLast it until old.shown crash
        → SavesAt it (after it until) crash → chosen_epoch crash.a crash.b ≡ Some epoch → Left (Applied input lost) it epoch old.shown crash
    lines_left until more parts out all_out saves epoch_is = record {
      now = after_lines it until;
      later = epoch;
      leaves = record { until = until; more = more; parts = parts; out = out; all_out = all_out; store = refl; same_epoch = refl };
      saves = record { saves = saves.saves; schema = stands.saves.schema };
      epoch_is = epoch_is;
    }

    lines_still : IsStill old.shown crash → Left (Applied input lost) it epoch old.shown crash
    lines_still same = record {
      now = it;
      later = epoch;
      leaves = record {
        until = [];
        more = all_lines input;
        parts = refl;
        out = record { front = []; back = concat (verdicts it [] ++ lost_behind (all_lines input) lost); parts = refl; out = nothing_out same };
        all_out = record { before = []; last = []; parts = refl; at_most_one = omega arith; behind = []; out = nothing_out same };
        store = refl;
        same_epoch = refl;
      };
      saves = saves_it same;
      epoch_is = epoch_it same;
    }

    -- all of it is out
    whole_out : (at : IsAppliedAt old.shown it input lost crash) → IsOutButLast it at.until old.shown crash
    whole_out at = record { before = at.until; last = []; parts = sym (append-nil at.until); at_most_one = omega arith; behind = at.front; out = at.out }

    lines_next : (at : IsAppliedAt old.shown it input lost crash) → SavesNext it at.until at.later at.front crash → Left (Applied input lost) it epoch old.shown crash
    lines_next at next =
        let before = verdicts it at.until in
        let behind = lost_behind next.more lost in
        let told : verdicts it (at.until ++ next.line ∷ []) ≡ before ++ (at.front ++ next.back) ∷ [] =
        pieces_of_lines-append every_verdict (verdict it.schema) (start it) at.until (next.line ∷ [])
        ∙ ap (λ (pieces : List (List ℕ)). before ++ pieces) (pieces_of_one every_verdict (verdict it.schema) (after it at.until) next.line ∙ next.piece) in
        lines_left (at.until ++ next.line ∷ []) next.more
        (at.parts ∙ ap (λ (lines : List (List ℕ)). at.until ++ lines) next.next ∙ sym (append_assoc at.until (next.line ∷ []) next.more))
        (record {
          front = concat before ++ at.front;
          back = next.back ++ concat behind;
          parts =
              ap (λ (pieces : List (List ℕ)). concat (pieces ++ behind)) told ∙ ap concat (append_assoc before ((at.front ++ next.back) ∷ []) behind)
              ∙ front_of_pieces before at.front next.back behind;
          out = at.out;
        })
        (record { before = at.until; last = next.line ∷ []; parts = refl; at_most_one = omega arith; behind = at.front; out = at.out })
        next.saves (at.epoch ∙ stands.epoch_is)

    lines_all : (at : IsAppliedAt old.shown it input lost crash) → SavesAll it lost at.until at.later at.front crash → Left (Applied input lost) it epoch old.shown crash
    lines_all at all =
        let before = verdicts it at.until in
        lines_left at.until at.later at.parts
        (record {
          front = concat before ++ at.front;
          back = all.back ++ concat [];
          parts =
              ap (λ (pieces : List (List ℕ)). concat (before ++ pieces)) (ap (λ (more : List (List ℕ)). lost_behind more lost) all.all ∙ all.piece)
              ∙ front_of_pieces before at.front all.back [];
          out = at.out;
        })
        (whole_out at)
        all.saves (at.epoch ∙ stands.epoch_is)

    lines_at : (at : IsAppliedAt old.shown it input lost crash) → ((at.front ≡ []) × SavesAt it (after it at.until) crash) ⊎ (SavesNext it at.until at.later at.front crash ⊎ SavesAll it lost at.until at.later at.front crash)
        → Left (Applied input lost) it epoch old.shown crash
    lines_at at (inl (empty, saves)) =
        let before = verdicts it at.until in
        lines_left at.until at.later at.parts
        (record {
          front = concat before;
          back = concat (lost_behind at.later lost);
          parts = concat-append before (lost_behind at.later lost);
          out = at.out ∙ ap (λ (front : List ℕ). old.shown.output ++ (concat before ++ front)) empty ∙ ap (λ (bytes : List ℕ). old.shown.output ++ bytes) (append-nil (concat before));
        })
        (whole_out at)
        saves (at.epoch ∙ stands.epoch_is)
    lines_at at (inr (inl next)) = lines_next at next
    lines_at at (inr (inr all)) = lines_all at all

    by_lines : (ran : RanInto Apply input lost old new) → Left (Applied input lost) it epoch old.shown crash
    by_lines ran =
        by_begun Apply input lost old new ran (λ quiet. lines_still (still quiet))
        (λ kept.
        let at = subst (λ (n : ℕ). IsAppliedAt old.shown it input n crash) ran.lost_is (kept.leaves.stops input it (ran.source refl) stands.saves tells settled crash left) in
        lines_at at at.state)

  -- ---- `checkpoint`

  renewed_epoch : IsRenewed old.shown crash → chosen_epoch crash.a crash.b ≡ Some (epoch + 1)
  renewed_epoch renewed = ap epoch_chosen renewed.choice ∙ ap (λ (n : ℕ). Some (n + 1)) (same_epoch renewed.epoch epoch (sym renewed.was_epoch ∙ stands.epoch_is))

  told_line : (epoch ≡ 16777215 → ⊥) → told_checkpoint (areas_of old) ≡ record { pieces = checkpoint_line (epoch + 1) it.commits ∷ []; status = Accepted }
  told_line last = told_renewed it epoch old stands ∙ by (epoch == 16777215) refl
    where
      by : (b : Bool) → (epoch == 16777215) ≡ b → told_by (Some epoch) it ≡ record { pieces = checkpoint_line (epoch + 1) it.commits ∷ []; status = Accepted }
      by true is = absurd (last (eqb-true epoch 16777215 is))
      by false is = rw is refl

  -- the whole line of a checkpoint is out
  whole_line : StopsRenewing old crash → (epoch ≡ 16777215 → ⊥) → crash.output ≡ old.shown.output ++ checkpoint_line (epoch + 1) it.commits → IsRenewed old.shown crash
  whole_line at last out =
      let line = checkpoint_line (epoch + 1) it.commits in
      let told = told_line last in
      let one : line ∷ [] ≡ at.puts.line ∷ [] = sym (ap (λ (t : Told Status). t.pieces) told) ∙ at.puts.one in
      let same : line ≡ at.puts.line = cc in
      let started = timed.output settled.honest tells at.puts.left at.puts.before in
      let front : at.puts.front ≡ line = same_front old.shown crash at.puts.front line (at.puts.output ∙ ap (λ (bytes : List ℕ). bytes ++ at.puts.front) started) out in
      let parts : line ++ [] ≡ line ++ at.puts.back = append-nil line ∙ same ∙ at.puts.parts ∙ ap (λ (bytes : List ℕ). bytes ++ at.puts.back) front in
      at.whole (sym (append_cancel_left line [] at.puts.back parts)) (ap (λ (t : Told Status). t.status) told)

  epoch_left : (later : ℕ) → Saves it crash → chosen_epoch crash.a crash.b ≡ Some later → LeavesEpoch it epoch old.shown crash it later → Left Renewed it epoch old.shown crash
  epoch_left later saves epoch_is leaves = record { now = it; later = later; leaves = leaves; saves = saves; epoch_is = epoch_is }

  epoch_still : IsStill old.shown crash → Left Renewed it epoch old.shown crash
  epoch_still same =
      epoch_left epoch (saves_it same) (epoch_it same) (record {
        store = refl;
        either = inl refl;
        told = λ last out. absurd (subst IsEmpty (same_front old.shown crash [] (checkpoint_line (epoch + 1) it.commits) (nothing_out same) out) tt);
      })

  epoch_at : (at : StopsRenewing old crash) → IsAsBefore old.shown crash ⊎ IsRenewed old.shown crash → Left Renewed it epoch old.shown crash
  epoch_at at (inl before) =
      let epoch_is = before.epoch ∙ stands.epoch_is in
      epoch_left epoch (record { saves = at.saves ∙ stands.saves.saves; schema = stands.saves.schema }) epoch_is (record {
        store = refl;
        either = inl refl;
        told = λ last out. same_epoch epoch (epoch + 1) (sym epoch_is ∙ renewed_epoch (whole_line at last out));
      })
  epoch_at at (inr renewed) =
      epoch_left (epoch + 1) (record { saves = at.saves ∙ stands.saves.saves; schema = stands.saves.schema }) (renewed_epoch renewed) (record {
        store = refl;
        either = inr refl;
        told = λ last out. refl;
      })

  by_epoch : (input : List ℕ) (lost : ℕ) (ran : RanInto Checkpoint input lost old new) → Left Renewed it epoch old.shown crash
  by_epoch input lost ran =
      by_begun Checkpoint input lost old new ran (λ quiet. epoch_still (still quiet))
      (λ kept.
      let at = kept.leaves.stops settled (it.text, it.commits, it.graph, stands.saves.saves) crash left in
      epoch_at at at.chosen_as)

  -- ---- `evolve`

  module _ (input : List ℕ) where
    abbrev under_text_of : List ℕ → Resolved → SavedStore
    under_text_of text schema = record { text = text; schema = schema; commits = it.commits; graph = it.graph }

    abbrev under : Resolved → SavedStore
    under schema = under_text_of input schema

    under_is : (schema : Resolved) → schema_answer input ≡ Ok schema → verdict schema it.graph ≡ Conforms → under_text it input (schema_answer input) ≡ under schema
    under_is schema is conforms = ap (under_text it input) is ∙ ap (under_verdict it input schema) conforms

    schema_still : IsStill old.shown crash → Left (Evolved input) it epoch old.shown crash
    schema_still same = record {
      now = it;
      later = epoch;
      leaves = record {
        either = inl refl;
        told = λ schema is out. absurd (subst IsEmpty (same_front old.shown crash [] (evolved_line_of schema) (nothing_out same) out) tt);
        same_epoch = refl;
      };
      saves = saves_it same;
      epoch_is = epoch_it same;
    }

    -- the new store is there, and so it is the same as the old one where that is there
    same_store : (renewed : IsEvolved (kept_of old it.commits it.graph) input crash) → saved standard crash.a crash.b ≡ store it.text it.commits it.graph → it ≡ under_text it input (schema_answer input)
    same_store renewed saves =
        let stores : store it.text it.commits it.graph ≡ store input it.commits it.graph = sym saves ∙ renewed.under.saves in
        let text : it.text ≡ input = cc in
        let schema : it.schema ≡ renewed.schema = same_schema it.schema renewed.schema (schema_answer it.text) stands.saves.schema (ap schema_answer text ∙ renewed.of_text) in
        ap₂ under_text_of text schema ∙ sym (under_is renewed.schema renewed.of_text renewed.conforms)

    schema_at : (at : IsEvolvingAt (kept_of old it.commits it.graph) it.text input crash) → Left (Evolved input) it epoch old.shown crash
    schema_at at = by at.state
      where
        by : IsUnder (kept_of old it.commits it.graph) it.text crash ⊎ IsEvolved (kept_of old it.commits it.graph) input crash → Left (Evolved input) it epoch old.shown crash
        by (inl as_before) = record {
          now = it;
          later = epoch;
          leaves = record {
            either = inl refl;
            told = λ schema is out. same_store (at.evolved schema is (same_front old.shown crash at.front (evolved_line_of schema) at.out out)) as_before.saves;
            same_epoch = refl;
          };
          saves = record { saves = as_before.saves; schema = stands.saves.schema };
          epoch_is = as_before.epoch ∙ stands.epoch_is;
        }
        by (inr renewed) =
            let same = sym (under_is renewed.schema renewed.of_text renewed.conforms) in
            record {
              now = under renewed.schema;
              later = epoch;
              leaves = record { either = inr same; told = λ schema is out. same; same_epoch = refl };
              saves = record { saves = renewed.under.saves; schema = renewed.of_text };
              epoch_is = renewed.under.epoch ∙ stands.epoch_is;
            }

    by_schema : (lost : ℕ) (ran : RanInto Evolve input lost old new) → Left (Evolved input) it epoch old.shown crash
    by_schema lost ran =
        by_begun Evolve input lost old new ran (λ quiet. schema_still (still quiet))
        (λ kept. schema_at (kept.leaves.stops input it.text it.commits it.graph (ran.source refl) stands.saves.saves tells settled crash left))

  by_deed : (deed : Deed) → DoesInto deed old new → Left deed it epoch old.shown crash
  by_deed (Applied input lost) ran = by_lines input lost ran
  by_deed Renewed ran = by_epoch ran.0 ran.1 ran.2
  by_deed (Evolved input) ran = by_schema input ran.0 ran.1

-- ---- the runs behind

stands_in : (now : SavedStore) (later : ℕ) (crash : Triple) (fresh : View) → ShowsImages crash fresh → Saves now crash → chosen_epoch crash.a crash.b ≡ Some later → Stands now later fresh
stands_in now later crash fresh shows saves epoch_is = record {
  saves = record { saves = ap₂ (saved standard) shows.a shows.b ∙ saves.saves; schema = saves.schema };
  epoch_is = ap₂ chosen_epoch shows.a shows.b ∙ epoch_is;
  tells = shows.tells;
}

-- ---- `load`

pub none_saved : (view : View) → choice_of view.shown.a view.shown.b ≡ choices.no_store → saved standard view.shown.a view.shown.b ≡ no_store
unfolding saved
none_saved view none = ap (saved_by standard) none

pub none_or_store : (text : List ℕ) (commits : ℕ) (graph : Graph) (state : SavedState) → state ≡ no_store → state ≡ store text commits graph → ⊥
none_or_store text commits graph state none some = let no : no_store ≡ store text commits graph = sym none ∙ some in cc

module _ (text : List ℕ) (schema : Resolved) (lost : ℕ) (old new : View) (crash : Triple) (free : FindsNone old) (timed : IsTimed old) (settled : IsSettled old) (tells : IsTrue old.tells_output)
    (of_text : schema_answer text ≡ Ok schema) (left : new.left_since old.moment crash) where
  none_still : IsQuiet old new → LeavesNone (line_of schema) old.shown crash
  none_still quiet =
      let may = quiet.stops settled.honest crash left in
      let out = timed.output settled.honest tells crash may in
      record {
        none = ap₂ (saved standard) (settled.a crash may) (settled.b crash may) ∙ none_saved old (free settled.tells_bytes);
        untold = λ told. subst IsEmpty (same_front old.shown crash [] (line_of schema) (out ∙ sym (append-nil old.shown.output)) told) tt;
      }

  new_at : (at : IsLoadingAt old.shown text crash) → LeavesNone (line_of schema) old.shown crash ⊎ IsNewStore text crash
  new_at at = by at.state
    where
      by : (saved standard crash.a crash.b ≡ no_store) ⊎ IsNewStore text crash → LeavesNone (line_of schema) old.shown crash ⊎ IsNewStore text crash
      by (inl none) =
          inl (record {
            none = none;
            untold = λ told.
                none_or_store text 0 empty_graph (saved standard crash.a crash.b) none (at.loaded schema of_text (same_front old.shown crash at.front (line_of schema) at.out told)).saves;
          })
      by (inr made) = inr made

  by_load : (ran : RanInto Load text lost old new) → LeavesNone (line_of schema) old.shown crash ⊎ IsNewStore text crash
  by_load ran =
      by_begun Load text lost old new ran (λ quiet. inl (none_still quiet))
      (λ kept. new_at (kept.leaves.stops text (ran.source refl) free tells settled crash left))

module _ {W : Type 0} (view : W → View) where
  pub crashed : (it : SavedStore) (epoch : ℕ) (deed : Deed) (deeds : List Deed) (old new : View) (fresh last : W) (crash : Triple) → Stands it epoch old → IsTimed old → IsSettled old → IsTrue old.tells_output
      → DoesInto deed old new → new.left_since old.moment crash → ShowsImages crash (view fresh) → DoAll view deeds fresh last
      → (now : SavedStore) × (later : ℕ) × Leaves deed it epoch old.shown crash now later × Stands now later (view fresh) × ShowsAll (shown_of (view fresh)) (told_deeds now later deeds) (shown_of (view last))
  crashed it epoch deed deeds old new fresh last crash stands timed settled tells ran left shows behind =
      let found = by_deed it epoch old new crash stands timed settled tells left deed ran in
      let there = stands_in found.now found.later crash (view fresh) shows found.saves found.epoch_is in
      let all = do_all view found.now found.later deeds fresh last there behind in
      (found.now, found.later, found.leaves, there, all.shown)

  pub load_crashed : (text : List ℕ) (schema : Resolved) (lost : ℕ) (deeds : List Deed) (old new : View) (fresh last : W) (crash : Triple) → IsTimed old → FindsNone old → IsSettled old
      → IsTrue old.tells_output → schema_answer text ≡ Ok schema → RanInto Load text lost old new → new.left_since old.moment crash → ShowsImages crash (view fresh)
      → LeavesNone (line_of schema) old.shown crash ⊎ IsBegun view (new_store text schema) deeds fresh last
  load_crashed text schema lost deeds old new fresh last crash timed free settled tells of_text ran left shows =
      ⊎_elim (λ (none : LeavesNone (line_of schema) old.shown crash). inl none)
      (λ (made : IsNewStore text crash).
      let stands = stands_in (new_store text schema) 1 crash (view fresh) shows (record { saves = made.saves; schema = of_text }) made.epoch in
      inr (record { stands = stands; shown = λ behind. (do_all view (new_store text schema) 1 deeds fresh last stands behind).shown }))
      (by_load text schema lost old new crash free timed settled tells of_text left ran)
