-- A run that ended with any status but 5 leads from what the areas hold to what they hold behind it.
use Rattle.std.proofs.Common.{◌≡◌, ◌⊎◌, inl, inr, ⊎_elim, ℕ, zero, suc, ◌+◌, ◌^◌, ◌==◌, Bool, true, false, nat_le, IsTrue, List, [], ◌∷◌, ◌++◌, length, take, drop, Option, Some, None, Result, Ok, Err, refl, sym, ap, ap₂, subst, ◌∙◌, append_assoc, length-append, arith, if◌then◌else◌}
use Rattle.std.proofs.lemmas.List.{append-nil, take-append-drop}
use Rattle.pgs_answer.specs.Lines.{words_refused_line}
use Rattle.pgs_answer.specs.Refusals.{already_store_text, no_store_text}
use Rattle.pgs_run_lines.specs.Input.{lines_of}
use Rattle.pgs_run_lines.specs.Machine.{Told}
use Rattle.pgs_run_lines.specs.Pieces.{Shown, ShowsAll, ShowsFirst, ShowsTorn, pieces_in, shown_of}
use Rattle.pgs_run_lines.proofs.Cutting.{lines_of_goes_on}
use Rattle.pgs_run_lines.proofs.Showing.{shows_none}
use Rattle.pgs_base.specs.Graph.{Graph}
use Rattle.pgs_snapshot.specs.Choice.{Choice, choice_of, chosen_epoch, chosen_next, epoch_chosen}
use Rattle.pgs_snapshot.specs.Choice as choices
use Rattle.pgs_snapshot.specs.Saved.{SavedState, saved, saved_by, store}
use Rattle.pgs_snapshot.specs.Saved as states
use Rattle.pgs_store.specs.Loads.{FindsNone}
use Rattle.pgs_syntax.specs.declared.resolved.Resolved.{Resolved}
use Rattle.pgs_violation.specs.declared.violation.Verdict.{Verdict}
use Rattle.pgs_violation.specs.declared.violation.Verdict.TheVariants.{Conforms, Refused as Violated}
use Rattle.pgs_violation.specs.Violations.{verdict}
use Rattle.pgs_run_words.specs.declared.command.Command.{Command}
use Rattle.pgs_run_words.specs.declared.command.Command.TheVariants.{Load, Apply, Recover, Checkpoint, Evolve}
use Rattle.pgs_world.specs.Moment.{IsQuiet}
use Rattle.pgs_world.specs.World.{Triple, View}
use Rattle.pgs_command.specs.declared.status.Status.{Status}
use Rattle.pgs_command.specs.declared.status.Status.TheVariants.{Accepted, Refused, BadWords, SchemaRefused, StoreRefused, DiskFault, ReadFault, PutFault, Memory, InputTooLong}
use Rattle.pgs_run_input.specs.Answers.{schema_answer}
use Rattle.pgs_run_input.specs.Session.{every_verdict, pieces_of_lines, standard}
use Rattle.pgs_run_input.proofs.Following.{pieces_of_lines-append}
use Rattle.pgs_command.specs.Areas.{areas_of}
use Rattle.pgs_command.specs.Ending.{Ends}
use Rattle.pgs_command.specs.Images.{KeepsImages}
use Rattle.pgs_command.specs.Promise.{IsUnbegun, Knows, Promise, Runs}
use Rattle.pgs_command.specs.Setting.{Setting}
use Rattle.pgs_command.specs.Spec.{CommandSpec}
use Rattle.pgs_command.specs.Words.{refused_words}
use Rattle.pgs_run_apply.specs.Run.{IsDecided, IsPutBy, Saves}
use Rattle.pgs_run_apply.specs.Told.{after, all_lines, last_piece, lost_pieces, start, told_apply, told_lines, verdicts, with_last}
use Rattle.pgs_run_apply.specs.State.{status_after}
use Rattle.pgs_run_renewal.specs.CheckpointLeaving.{IsRenewed, IsTorn}
use Rattle.pgs_run_renewal.specs.CheckpointLeaving.{IsUnput as IsUnrenewed}
use Rattle.pgs_run_renewal.specs.CheckpointTold.{told_by, told_checkpoint}
use Rattle.pgs_run_renewal.specs.EvolveLeaving.{IsConforming}
use Rattle.pgs_run_renewal.specs.EvolveLeaving.{IsMade as MadeAt}
use Rattle.pgs_run_renewal.specs.EvolveLeaving.{IsUnput as IsUnevolved}
use Rattle.pgs_run_renewal.specs.EvolveTold.{told_evolve, told_input}
use Rattle.pgs_run_renewal.specs.LoadLeaving.{IsUnput as IsUnloaded}
use Rattle.pgs_run_renewal.specs.Loading.{IsMade}
use Rattle.pgs_run_renewal.specs.LoadTold.{told_choice, told_load}
use Rattle.pgs_run_store.specs.Dump.{told_dump}
use Rattle.pgs_run_store.specs.Refusing.{SavedStore, store_refused, told_of_areas, told_saved, told_under}
use Rattle.pgs_run.specs.Commands.{spec_named, spec_of}
use Rattle.pgs_run_laws.specs.Crashes.{RanInto, Stands, after_lines}
use Rattle.pgs_run_laws.specs.Endings.{AddUp, DoesTo, Done, Held, Holding, Holds, IsAppliedTo, IsOut, IsSilent, Leads, LeadsTo, Loaded, Misread, Misreads, Nothing, RanTo, Recovered, RunAll, ShowsButLast, Step, evolved_to, loaded_of, loaded_to, told_step}
use Rattle.pgs_run_laws.specs.Sequence.{Applied, Deed, Evolved, Renewed, under_text, under_verdict}
use Rattle.pgs_run_laws.proofs.AddUp.{same_epoch, told_evolved, told_renewed, told_stands}
use Rattle.pgs_run_laws.proofs.Crashed.{none_or_store, none_saved}

-- ---- a run

-- nothing is out
first_none : (start now : Shown) (pieces : List (List ℕ)) → now ≡ start → ShowsFirst start pieces now
first_none start now pieces same = record { first = []; later = pieces; parts = refl; shows = subst (λ (at : Shown). ShowsAll start [] at) (sym same) (shows_none start) }

module _ (command : Command) (input : List ℕ) (lost : ℕ) (old new : View) (ran : RanInto command input lost old new) where
  abbrev before : Setting
  before = record { source = ran.source_before; view = old; places = ran.places_before }

  abbrev behind : Setting
  behind = record { source = ran.source_now; view = new; places = ran.places_now }

  -- it was begun, or memory was wanting before
  by_run : {A : Type 0} → (IsUnbegun before behind ran.status → A) → (Promise (spec_of command) (2 ^ 40) before behind ran.status → A) → A
  by_run none begun = ⊎_elim none begun (subst (λ (c : Option Command). Runs (spec_named c) (2 ^ 40) before behind ran.status) ran.named ran.kept)

  -- so with 8, or with the status of the run
  by_status : (Goal : Status → Type 0) (status : Status) → ran.status ≡ status → (IsUnbegun before behind ran.status → Goal Memory) → (Promise (spec_of command) (2 ^ 40) before behind ran.status → Goal status) → Goal status
  by_status Goal status is none begun = by_run (λ u. subst Goal (sym u.memory ∙ is) (none u)) begun

  pub prints : (said : Told Status) → ((choice : (spec_of command).Choice) → (spec_of command).told choice input (areas_of old) (2 ^ 40) lost ≡ said) → IsTrue old.tells_bytes → Ends (shown_of old) said ran.status (shown_of new)
  prints said is tells =
      by_run
      (λ u.
      subst (λ (s : Status). Ends (shown_of old) said s (shown_of new)) (sym u.memory)
      (first_none (shown_of old) (shown_of new) said.pieces u.shown))
      (λ p.
      let knows : Knows (spec_of command) before input = record { source = ran.source; bytes = λ asks. tells } in
      subst (λ (t : Told Status). Ends (shown_of old) t ran.status (shown_of new)) (is p.choice)
      (subst (λ (n : ℕ). Ends (shown_of old) ((spec_of command).told p.choice input (areas_of old) (2 ^ 40) n) ran.status (shown_of new)) ran.lost_is (p.shown input knows)))

-- ---- what the areas hold

same_areas : (was : Held) (old new : View) → new.shown.a ≡ old.shown.a → new.shown.b ≡ old.shown.b → new.tells_bytes ≡ old.tells_bytes → Holds was old → Holds was new
same_areas Nothing old new a b tells holds = (tells ∙ holds.0, λ told. ap₂ choice_of a b ∙ holds.1 holds.0)
same_areas (Holding it epoch) old new a b tells holds = record {
  saves = record { saves = ap₂ (saved standard) a b ∙ holds.saves.saves; schema = holds.saves.schema };
  epoch_is = ap₂ chosen_epoch a b ∙ holds.epoch_is;
  tells = tells ∙ holds.tells;
}

by_images : (was : Held) (old new : View) → Holds was old → KeepsImages old new → Holds was new
by_images was old new holds kept = same_areas was old new kept.a kept.b kept.passes.tells_bytes holds

by_quiet : (was : Held) (old new : View) → Holds was old → IsQuiet old new → Holds was new
by_quiet was old new holds quiet =
    same_areas was old new (ap (λ (t : Triple). t.a) quiet.shown) (ap (λ (t : Triple). t.b) quiet.shown) quiet.passes.tells_bytes holds

tells_of : (was : Held) (view : View) → Holds was view → IsTrue view.tells_bytes
tells_of Nothing view holds = holds.0
tells_of (Holding it epoch) view holds = holds.tells

-- where nothing is held, no store is saved
none_there : (view : View) → Holds Nothing view → (text : List ℕ) (commits : ℕ) (graph : Graph) → saved standard view.shown.a view.shown.b ≡ store text commits graph → ⊥
none_there view holds text commits graph saves = none_or_store text commits graph (saved standard view.shown.a view.shown.b) (none_saved view (holds.1 holds.0)) saves

-- where a store is held, the areas aren't free
not_free : (it : SavedStore) (epoch : ℕ) (view : View) → Holds (Holding it epoch) view → FindsNone view → ⊥
not_free it epoch view holds free = none_or_store it.text it.commits it.graph (saved standard view.shown.a view.shown.b) (none_saved view (free holds.tells)) holds.saves.saves

-- ---- what is told

told_none : (view : View) (go : SavedStore → Told Status) → Holds Nothing view → told_of_areas (areas_of view) go ≡ store_refused no_store_text
unfolding told_of_areas
told_none view go holds = ap (λ (s : SavedState). told_saved s go) (none_saved view (holds.1 holds.0))

told_of : (was : Held) (view : View) → Holds was view → (next : Option ℕ) → told_of_areas (areas_of view) told_dump ≡ told_step Recovered was next
told_of Nothing view holds next = told_none view told_dump holds
told_of (Holding it epoch) view holds next = told_stands view it told_dump holds.saves

one_there : (c : Choice) (text : List ℕ) (commits : ℕ) (graph : Graph) (schema : Resolved) → saved_by standard c ≡ store text commits graph → told_choice schema c ≡ store_refused already_store_text
one_there choices.no_store text commits graph schema saves = absurd (let no : states.no_store ≡ store text commits graph = saves in cc)
one_there choices.foreign text commits graph schema saves = absurd (let no : states.foreign ≡ store text commits graph = saves in cc)
one_there (choices.damaged area epoch number) text commits graph schema saves = refl
one_there (choices.chosen area epoch end next payloads) text commits graph schema saves = refl

told_there : (c : Choice) (text : List ℕ) (commits : ℕ) (graph : Graph) → saved_by standard c ≡ store text commits graph → (answer : Result Resolved (List ℕ))
    → told_under answer (λ schema. told_choice schema c) ≡ told_under answer (λ schema. store_refused already_store_text)
told_there c text commits graph saves (Ok schema) = one_there c text commits graph schema saves
told_there c text commits graph saves (Err refusal) = refl

saved_choice : (view : View) (state : SavedState) → saved standard view.shown.a view.shown.b ≡ state → saved_by standard (choice_of view.shown.a view.shown.b) ≡ state
unfolding saved
saved_choice view state saves = saves

told_loads : (text : List ℕ) (was : Held) (view : View) → Holds was view → (next : Option ℕ) → told_load text (areas_of view) (2 ^ 40) ≡ told_step (Loaded text) was next
unfolding told_load
told_loads text Nothing view holds next =
    ap (λ (c : Choice). if nat_le (2 ^ 40) (length text) then record { pieces = []; status = InputTooLong } else told_under (schema_answer text) (λ schema. told_choice schema c)) (holds.1 holds.0)
told_loads text (Holding it epoch) view holds next =
    ap (λ (t : Told Status). if nat_le (2 ^ 40) (length text) then record { pieces = []; status = InputTooLong } else t)
    (told_there (choice_of view.shown.a view.shown.b) it.text it.commits it.graph
    (saved_choice view (store it.text it.commits it.graph) holds.saves.saves) (schema_answer text))

told_applies : (input : List ℕ) (lost : ℕ) (was : Held) (view : View) → Holds was view → (next : Option ℕ) → told_apply input (areas_of view) (2 ^ 40) lost ≡ told_step (Done (Applied input lost)) was next
unfolding told_apply
told_applies input lost Nothing view holds next = told_none view (λ store. with_last lost (told_lines input (2 ^ 40) store)) holds
told_applies input lost (Holding it epoch) view holds next = told_stands view it (λ store. with_last lost (told_lines input (2 ^ 40) store)) holds.saves

told_renews : (was : Held) (view : View) → Holds was view → (next : Option ℕ) → told_checkpoint (areas_of view) ≡ told_step (Done Renewed) was next
unfolding told_checkpoint
told_renews Nothing view holds next = told_none view (told_by (chosen_epoch view.shown.a view.shown.b)) holds
told_renews (Holding it epoch) view holds next = told_renewed it epoch view holds

told_evolves : (input : List ℕ) (was : Held) (view : View) → Holds was view → told_evolve input (areas_of view) (2 ^ 40) ≡ told_step (Done (Evolved input)) was (chosen_next view.shown.a view.shown.b)
unfolding told_evolve
told_evolves input Nothing view holds = told_none view (λ (it : SavedStore). told_input input (2 ^ 40) (chosen_next view.shown.a view.shown.b) it.graph) holds
told_evolves input (Holding it epoch) view holds = told_evolved it input view holds.saves

-- ---- what a run leads to

-- what the areas hold behind it
record Led (step : Step) (status : Status) (was : Held) (old new : View) : Type 0 where
  pub now : Held
  pub holds : Holds now new
  pub to : LeadsTo step status was (chosen_next old.shown.a old.shown.b) (shown_of old) now (shown_of new)

-- the statuses of what lines tell
abbrev IsOfLines : Status → Type 0
IsOfLines Accepted = Unit {0}
IsOfLines Refused = Unit {0}
IsOfLines InputTooLong = Unit {0}
IsOfLines status = ⊥

status_of : (refused : Bool) → IsOfLines (status_after refused)
status_of true = tt
status_of false = tt

same_fronts : (xs ys us vs : List (List ℕ)) → xs ++ us ≡ ys ++ vs → length xs ≡ length ys → xs ≡ ys
same_fronts [] [] us vs same long = refl
same_fronts [] (y ∷ ys) us vs same long = absurd (let no : zero ≡ suc (length ys) = long in cc)
same_fronts (x ∷ xs) [] us vs same long = absurd (let no : suc (length xs) ≡ zero = long in cc)
same_fronts (x ∷ xs) (y ∷ ys) us vs same long =
    let all : x ∷ (xs ++ us) ≡ y ∷ (ys ++ vs) = same in
    let first : x ≡ y = cc in
    let rest : xs ++ us ≡ ys ++ vs = cc in
    let longs : suc (length xs) ≡ suc (length ys) = long in
    let short : length xs ≡ length ys = cc in
    ap₂ (λ (z : List ℕ) (zs : List (List ℕ)). z ∷ zs) first (same_fronts xs ys us vs rest short)

-- ---- what `apply` tells

module _ (it : SavedStore) (input : List ℕ) (lost : ℕ) where
  abbrev told : Told Status
  told = with_last lost (told_lines input (2 ^ 40) it)

  abbrev all_told : List (List ℕ)
  all_told = verdicts it (all_lines input) ++ lost_pieces lost

  of_lines_by : (cut : Bool) → nat_le (2 ^ 40) (length input) ≡ cut → IsOfLines told.status
  of_lines_by true e = rw e tt
  of_lines_by false e = rw e (status_of (after it (all_lines input)).refused)

  of_lines : IsOfLines told.status
  of_lines = of_lines_by (nat_le (2 ^ 40) (length input)) refl

  -- all that lines tell, from what some first ones tell
  more_told : (until more : List (List ℕ)) → all_lines input ≡ until ++ more → (rest : List (List ℕ)) × (all_told ≡ verdicts it until ++ rest)
  more_told until more parts =
      let behind = pieces_of_lines every_verdict (verdict it.schema) (after it until) more in (
        behind ++ lost_pieces lost,
        ap (λ (lines : List (List ℕ)). verdicts it lines ++ lost_pieces lost) parts
            ∙ ap (λ (pieces : List (List ℕ)). pieces ++ lost_pieces lost) (pieces_of_lines-append every_verdict (verdict it.schema) (start it) until more)
            ∙ append_assoc (verdicts it until) behind (lost_pieces lost),
      )

  whole_told : (refused : Bool) → all_told ≡ (verdicts it (all_lines input) ++ pieces_in (last_piece (status_after refused) lost)) ++ []
  whole_told true = sym (append-nil all_told)
  whole_told false = sym (append-nil all_told)

  told_front_by : (cut : Bool) → nat_le (2 ^ 40) (length input) ≡ cut → (rest : List (List ℕ)) × (all_told ≡ told.pieces ++ rest)
  told_front_by true e =
      let seen = lines_of (take (2 ^ 40) input) in
      let on = lines_of_goes_on (take (2 ^ 40) input) (drop (2 ^ 40) input) in
      let ended : (lines_of input).ended ≡ seen.ended ++ on.later = ap (λ (text : List ℕ). (lines_of text).ended) (sym (take-append-drop (2 ^ 40) input)) ∙ on.is in
      let last = (lines_of input).rest ∷ [] in
      let parts : all_lines input ≡ seen.ended ++ (on.later ++ last) = ap (λ (lines : List (List ℕ)). lines ++ last) ended ∙ append_assoc seen.ended on.later last in
      let more = more_told seen.ended (on.later ++ last) parts in
      (more.0, rw e (more.1 ∙ ap (λ (pieces : List (List ℕ)). pieces ++ more.0) (sym (append-nil (verdicts it seen.ended)))))
  told_front_by false e = ([], rw e (whole_told (after it (all_lines input)).refused))

  told_front : (rest : List (List ℕ)) × (all_told ≡ told.pieces ++ rest)
  told_front = told_front_by (nat_le (2 ^ 40) (length input)) refl

  module _ (start end : Shown) where
    -- a put failed, by the number of puts that of the last of some first pieces
    torn_front : (pieces more : List (List ℕ)) → all_told ≡ pieces ++ more → ShowsTorn start told.pieces end → end.puts + 1 ≡ start.puts + length pieces → ShowsButLast start pieces end
    torn_front pieces more parts torn counted =
        let piece = torn.front ++ torn.back in
        let first = torn.first ++ piece ∷ [] in
        let same : pieces ++ more ≡ first ++ (torn.later ++ told_front.0) = sym parts ∙ told_front.1 ∙ ap (λ (ps : List (List ℕ)). ps ++ told_front.0) torn.parts
        ∙ append_assoc torn.first (piece ∷ torn.later) told_front.0
        ∙ sym (append_assoc torn.first (piece ∷ []) (torn.later ++ told_front.0)) in
        let count : length first ≡ length torn.first + 1 = length-append torn.first (piece ∷ []) in
        let puts = torn.puts in
        let long : length pieces ≡ length first = omega arith in
        record {
          before = torn.first;
          front = torn.front;
          back = torn.back;
          parts = same_fronts pieces first more (torn.later ++ told_front.0) same long;
          output = torn.output;
          puts = torn.puts;
        }

    torn_lines : (until more : List (List ℕ)) → all_lines input ≡ until ++ more → ShowsTorn start told.pieces end → IsPutBy it until more lost start end PutFault → IsOut (verdicts it until) more lost PutFault start end
    torn_lines until more parts torn (inl counted) =
        let rest = more_told until more parts in inl (torn_front (verdicts it until) rest.0 rest.1 torn counted)
    torn_lines until more parts torn (inr at) =
        let all : all_lines input ≡ until = parts ∙ ap (λ (lines : List (List ℕ)). until ++ lines) at.0 ∙ append-nil until in
        let pieces = verdicts it until ++ lost_pieces lost in
        let is : all_told ≡ pieces ++ [] = ap (λ (lines : List (List ℕ)). verdicts it lines ++ lost_pieces lost) all ∙ sym (append-nil pieces) in
        inr (at.0, torn_front pieces [] is torn at.1)

-- ---- by the command

module _ (input : List ℕ) (lost : ℕ) (old new : View) where
  -- ---- `recover`

  recovers : (was : Held) → Holds was old → RanInto Recover input lost old new → Holds was new
  recovers was holds ran =
      by_run Recover input lost old new ran (λ u. by_quiet was old new holds u.quiet) (λ p. by_images was old new holds p.leaves)

  -- ---- `load`

  module _ (holds : Holds Nothing old) (ran : RanInto Load input lost old new) where
    abbrev Begun : Status → Type 0
    Begun s = Promise (spec_of Load) (2 ^ 40) (before Load input lost old new ran) (behind Load input lost old new ran) s

    abbrev Loads : Status → Type 0
    Loads s = Holds (loaded_to s input) new

    free : KeepsImages old new → Holds Nothing new
    free kept = by_images Nothing old new holds kept

    by_text : (s : Status) (answer : Result Resolved (List ℕ)) → schema_answer input ≡ answer → Begun s → ((schema : Resolved) → schema_answer input ≡ Ok schema → IsMade input s) → Holds (loaded_of input (schema_answer input)) new
    by_text s (Ok schema) of_text p made =
        let there = p.leaves.made holds.0 input (ran.source refl) holds.1 (made schema of_text) in
        subst (λ (a : Result Resolved (List ℕ)). Holds (loaded_of input a) new) (sym of_text)
        (record { saves = record { saves = there.saves; schema = of_text }; epoch_is = there.epoch; tells = p.leaves.passes.tells_bytes ∙ holds.0 })
    by_text s (Err why) of_text p made =
        subst (λ (a : Result Resolved (List ℕ)). Holds (loaded_of input a) new) (sym of_text) (free (p.leaves.refused input why (ran.source refl) of_text))

    loads_at : (s : Status) → (s ≡ DiskFault → ⊥) → Begun s → Loads s
    loads_at Accepted sound p = by_text Accepted (schema_answer input) refl p (λ schema is. tt)
    loads_at PutFault sound p = by_text PutFault (schema_answer input) refl p (λ schema is. (schema, is))
    loads_at DiskFault sound p = absurd (sound refl)
    loads_at Refused sound p = free (p.leaves.unwritten tt)
    loads_at BadWords sound p = free (p.leaves.unwritten tt)
    loads_at SchemaRefused sound p = free (p.leaves.unwritten tt)
    loads_at StoreRefused sound p = free (p.leaves.unwritten tt)
    loads_at ReadFault sound p = free (p.leaves.unwritten tt)
    loads_at Memory sound p = free (p.leaves.unwritten tt)
    loads_at InputTooLong sound p = free (p.leaves.unwritten tt)

    loads : (status : Status) → ran.status ≡ status → (status ≡ DiskFault → ⊥) → Loads status
    loads status is sound =
        by_status Load input lost old new ran Loads status is (λ u. by_quiet Nothing old new holds u.quiet) (λ p. loads_at status sound (subst Begun is p))

  loads_beside : (it : SavedStore) (epoch : ℕ) → Stands it epoch old → RanInto Load input lost old new → Stands it epoch new
  loads_beside it epoch stands ran =
      by_run Load input lost old new ran (λ u. by_quiet (Holding it epoch) old new stands u.quiet)
      (λ p. by_images (Holding it epoch) old new stands (p.leaves.occupied (not_free it epoch old stands)))

  -- ---- where no store is

  module _ (holds : Holds Nothing old) where
    none_applied : RanInto Apply input lost old new → Holds Nothing new
    none_applied ran =
        by_run Apply input lost old new ran (λ u. by_quiet Nothing old new holds u.quiet)
        (λ p.
        by_images Nothing old new holds
        (p.leaves.unsaved holds.0 (λ (it : SavedStore) (saves : Saves it old.shown). none_there old holds it.text it.commits it.graph saves.saves)))

    none_renewed : RanInto Checkpoint input lost old new → Holds Nothing new
    none_renewed ran =
        by_run Checkpoint input lost old new ran (λ u. by_quiet Nothing old new holds u.quiet)
        (λ p. by_images Nothing old new holds (p.leaves.unsaved holds.0 (λ saves. none_there old holds saves.0 saves.1 saves.2 saves.3)))

    none_evolved : RanInto Evolve input lost old new → Holds Nothing new
    none_evolved ran =
        by_run Evolve input lost old new ran (λ u. by_quiet Nothing old new holds u.quiet)
        (λ p.
        by_images Nothing old new holds
        (p.leaves.unsaved holds.0 (λ (text : List ℕ) (commits : ℕ) (graph : Graph) saves. none_there old holds text commits graph saves)))

  -- ---- over a store

  module _ (it : SavedStore) (epoch : ℕ) (stands : Stands it epoch old) where
    abbrev LedBy : Deed → Status → Type 0
    LedBy deed s = Led (Done deed) s (Holding it epoch) old new

    abbrev ToSame : Deed → Status → Type 0
    ToSame deed s = LeadsTo (Done deed) s (Holding it epoch) (chosen_next old.shown.a old.shown.b) (shown_of old) (Holding it epoch) (shown_of new)

    same_led : (deed : Deed) (s : Status) → ToSame deed s → KeepsImages old new → LedBy deed s
    same_led deed s to kept = record { now = Holding it epoch; holds = by_images (Holding it epoch) old new stands kept; to = to }

    still_led : (deed : Deed) → ToSame deed Memory → IsQuiet old new → LedBy deed Memory
    still_led deed to quiet = record { now = Holding it epoch; holds = by_quiet (Holding it epoch) old new stands quiet; to = to }

    -- ---- `checkpoint`

    module _ (ran : RanInto Checkpoint input lost old new) where
      abbrev BegunRenewing : Status → Type 0
      BegunRenewing s = Promise (spec_of Checkpoint) (2 ^ 40) (before Checkpoint input lost old new ran) (behind Checkpoint input lost old new ran) s

      renewed_as : (later : ℕ) (s : Status) → (s ≡ DiskFault → ⊥) → BegunRenewing s → chosen_epoch new.shown.a new.shown.b ≡ Some later → Stands it later new
      renewed_as later s sound p epoch_is = record {
        saves = record { saves = p.leaves.kept stands.tells sound ∙ stands.saves.saves; schema = stands.saves.schema };
        epoch_is = epoch_is;
        tells = p.leaves.passes.tells_bytes ∙ stands.tells;
      }

      next_chosen : IsRenewed old.shown new.shown → chosen_epoch new.shown.a new.shown.b ≡ Some (epoch + 1)
      next_chosen renewed =
          ap epoch_chosen renewed.choice ∙ ap (λ (n : ℕ). Some (n + 1)) (same_epoch renewed.epoch epoch (sym renewed.was_epoch ∙ stands.epoch_is))

      -- a line was being put: at the last epoch that of a refusal
      torn_by : (PutFault ≡ DiskFault → ⊥) → BegunRenewing PutFault → (last : Bool) → (epoch == 16777215) ≡ last → IsTorn (told_by (Some epoch) it).status old new → LedBy Renewed PutFault
      torn_by sound p true e torn =
          let kept : KeepsImages old new = rw e at torn in
          record { now = Holding it epoch; holds = by_images (Holding it epoch) old new stands kept; to = rw e refl }
      torn_by sound p false e torn =
          let renewed : IsRenewed old.shown new.shown = rw e at torn in
          record { now = Holding it (epoch + 1); holds = renewed_as (epoch + 1) PutFault sound p (next_chosen renewed); to = rw e refl }

      renews_at : (s : Status) → (s ≡ DiskFault → ⊥) → BegunRenewing s → LedBy Renewed s
      renews_at Accepted sound p =
          record { now = Holding it (epoch + 1); holds = renewed_as (epoch + 1) Accepted sound p (next_chosen (p.leaves.renewed stands.tells refl)); to = refl }
      renews_at PutFault sound p =
          torn_by sound p (epoch == 16777215) refl
          (subst (λ (t : Told Status). IsTorn t.status old new) (told_renewed it epoch old stands) (p.leaves.torn stands.tells refl))
      renews_at DiskFault sound p = absurd (sound refl)
      renews_at Refused sound p = same_led Renewed Refused refl (p.leaves.unwritten tt)
      renews_at BadWords sound p = same_led Renewed BadWords refl (p.leaves.unwritten tt)
      renews_at SchemaRefused sound p = same_led Renewed SchemaRefused refl (p.leaves.unwritten tt)
      renews_at StoreRefused sound p = same_led Renewed StoreRefused refl (p.leaves.unwritten tt)
      renews_at ReadFault sound p = same_led Renewed ReadFault refl (p.leaves.unwritten tt)
      renews_at Memory sound p = same_led Renewed Memory refl (p.leaves.unwritten tt)
      renews_at InputTooLong sound p = same_led Renewed InputTooLong refl (p.leaves.unwritten tt)

      renews : (status : Status) → ran.status ≡ status → (status ≡ DiskFault → ⊥) → LedBy Renewed status
      renews status is sound =
          by_status Checkpoint input lost old new ran (LedBy Renewed) status is (λ u. still_led Renewed refl u.quiet)
          (λ p. renews_at status sound (subst BegunRenewing is p))

    -- ---- `evolve`

    module _ (ran : RanInto Evolve input lost old new) where
      abbrev BegunEvolving : Status → Type 0
      BegunEvolving s = Promise (spec_of Evolve) (2 ^ 40) (before Evolve input lost old new ran) (behind Evolve input lost old new ran) s

      abbrev under : SavedStore
      under = under_text it input (schema_answer input)

      in_force : (s : Status) → BegunEvolving s → MadeAt (chosen_next old.shown.a old.shown.b) input it.graph s → Stands under epoch new
      in_force s p is_made =
          let made = p.leaves.made stands.tells input it.text it.commits it.graph (ran.source refl) stands.saves.saves is_made in
          let is : under ≡ record { text = input; schema = made.schema; commits = it.commits; graph = it.graph } = ap (under_text it input) made.of_text ∙ ap (under_verdict it input made.schema) made.conforms in
          subst (λ (now : SavedStore). Stands now epoch new) (sym is)
          (record {
            saves = record { saves = made.under.saves; schema = made.of_text };
            epoch_is = made.under.epoch ∙ stands.epoch_is;
            tells = p.leaves.passes.tells_bytes ∙ stands.tells;
          })

      as_it_was : (s : Status) → BegunEvolving s → (IsConforming input it.graph → ⊥) → under ≡ it → Stands under epoch new
      as_it_was s p never is =
          subst (λ (now : SavedStore). Stands now epoch new) (sym is)
          (by_images (Holding it epoch) old new stands
          (p.leaves.refused stands.tells input it.text it.commits it.graph (ran.source refl) stands.saves.saves never))

      torn_verdict : (number : ℕ) → chosen_next old.shown.a old.shown.b ≡ Some number → BegunEvolving PutFault → (schema : Resolved) → schema_answer input ≡ Ok schema → (found : Verdict) → verdict schema it.graph ≡ found
          → Stands under epoch new
      torn_verdict number next p schema of_text Conforms conforms = in_force PutFault p (number, next, (schema, of_text, conforms))
      torn_verdict number next p schema of_text (Violated violation) violated =
          as_it_was PutFault p
          (λ conforming.
          let answers : Ok conforming.0 ≡ Ok schema = sym conforming.1 ∙ of_text in
          let same : conforming.0 ≡ schema = cc in
          let no : Conforms ≡ Violated violation = sym conforming.2 ∙ ap (λ (s : Resolved). verdict s it.graph) same ∙ violated in
          cc)
          (ap (under_text it input) of_text ∙ ap (under_verdict it input schema) violated)

      torn_text : (number : ℕ) → chosen_next old.shown.a old.shown.b ≡ Some number → BegunEvolving PutFault → (answer : Result Resolved (List ℕ)) → schema_answer input ≡ answer → Stands under epoch new
      torn_text number next p (Ok schema) of_text = torn_verdict number next p schema of_text (verdict schema it.graph) refl
      torn_text number next p (Err why) of_text =
          as_it_was PutFault p (λ conforming. let no : Err why ≡ Ok conforming.0 = sym of_text ∙ conforming.1 in cc) (ap (under_text it input) of_text)

      torn : (next : Option ℕ) → chosen_next old.shown.a old.shown.b ≡ next → BegunEvolving PutFault → Stands (evolved_to PutFault next it input) epoch new
      torn None next p = by_images (Holding it epoch) old new stands (p.leaves.old_format stands.tells next)
      torn (Some number) next p = torn_text number next p (schema_answer input) refl

      evolves_at : (s : Status) → (s ≡ DiskFault → ⊥) → BegunEvolving s → LedBy (Evolved input) s
      evolves_at Accepted sound p = record { now = Holding under epoch; holds = in_force Accepted p tt; to = refl }
      evolves_at PutFault sound p =
          let next = chosen_next old.shown.a old.shown.b in
          record { now = Holding (evolved_to PutFault next it input) epoch; holds = torn next refl p; to = refl }
      evolves_at DiskFault sound p = absurd (sound refl)
      evolves_at Refused sound p = same_led (Evolved input) Refused refl (p.leaves.unwritten tt)
      evolves_at BadWords sound p = same_led (Evolved input) BadWords refl (p.leaves.unwritten tt)
      evolves_at SchemaRefused sound p = same_led (Evolved input) SchemaRefused refl (p.leaves.unwritten tt)
      evolves_at StoreRefused sound p = same_led (Evolved input) StoreRefused refl (p.leaves.unwritten tt)
      evolves_at ReadFault sound p = same_led (Evolved input) ReadFault refl (p.leaves.unwritten tt)
      evolves_at Memory sound p = same_led (Evolved input) Memory refl (p.leaves.unwritten tt)
      evolves_at InputTooLong sound p = same_led (Evolved input) InputTooLong refl (p.leaves.unwritten tt)

      evolves : (status : Status) → ran.status ≡ status → (status ≡ DiskFault → ⊥) → LedBy (Evolved input) status
      evolves status is sound =
          by_status Evolve input lost old new ran (LedBy (Evolved input)) status is (λ u. still_led (Evolved input) refl u.quiet)
          (λ p. evolves_at status sound (subst BegunEvolving is p))

    -- ---- `apply`

    module _ (ran : RanInto Apply input lost old new) where
      abbrev BegunApplying : Status → Type 0
      BegunApplying s = Promise (spec_of Apply) (2 ^ 40) (before Apply input lost old new ran) (behind Apply input lost old new ran) s

      abbrev Decided : Status → Type 0
      Decided s = IsDecided it input lost old new ran.places_before ran.places_now s

      abbrev Printed : Status → Type 0
      Printed s = Ends (shown_of old) (told it input lost) s (shown_of new)

      decided : (s : Status) → BegunApplying s → Decided s
      decided s p =
          subst (λ (n : ℕ). IsDecided it input n old new ran.places_before ran.places_now s) ran.lost_is
          (p.feeds.decided stands.tells input it (ran.source refl) stands.saves)

      stands_on : (s : Status) → (s ≡ DiskFault → ⊥) → BegunApplying s → (at : Decided s) → Stands (after_lines it at.until) epoch new
      stands_on s sound p at =
          let saves = at.saves sound in
          record {
            saves = record { saves = saves.saves.saves; schema = stands.saves.schema };
            epoch_is = saves.epoch ∙ stands.epoch_is;
            tells = p.leaves.passes.tells_bytes ∙ stands.tells;
          }

      -- the lines that were decided, and what is out of what they tell
      lines_led : (s : Status) → (s ≡ DiskFault → ⊥) → BegunApplying s → (at : Decided s)
          → (IsAppliedTo it epoch input lost s (shown_of old) (Holding (after_lines it at.until) epoch) (shown_of new)
          → LeadsTo (Done (Applied input lost)) s (Holding it epoch) (chosen_next old.shown.a old.shown.b) (shown_of old) (Holding (after_lines it at.until) epoch) (shown_of new))
          → IsOut (verdicts it at.until) at.later lost s (shown_of old) (shown_of new) → LedBy (Applied input lost) s
      lines_led s sound p at to out = record {
        now = Holding (after_lines it at.until) epoch;
        holds = stands_on s sound p at;
        to = to (record { until = at.until; more = at.later; parts = at.parts; held = refl; out = out });
      }

      unrefused : (s : Status) → (told it input lost).status ≡ s → IsOfLines s
      unrefused s is = subst IsOfLines is (of_lines it input lost)

      applies_at : (s : Status) → (s ≡ DiskFault → ⊥) → Printed s → BegunApplying s → LedBy (Applied input lost) s
      applies_at Accepted sound out p = let at = decided Accepted p in lines_led Accepted sound p at (λ same. same) at.put
      applies_at Refused sound out p = let at = decided Refused p in lines_led Refused sound p at (λ same. same) at.put
      applies_at PutFault sound out p =
          let at = decided PutFault p in
          lines_led PutFault sound p at (λ same. same) (torn_lines it input lost (shown_of old) (shown_of new) at.until at.later at.parts out at.put)
      applies_at ReadFault sound out p = let at = decided ReadFault p in lines_led ReadFault sound p at (λ same. same) at.put
      applies_at Memory sound out p = let at = decided Memory p in lines_led Memory sound p at (λ same. same) at.put
      applies_at InputTooLong sound out p = let at = decided InputTooLong p in lines_led InputTooLong sound p at (λ same. same) at.put
      applies_at DiskFault sound out p = absurd (sound refl)
      applies_at BadWords sound out p = absurd (unrefused BadWords out.1)
      applies_at SchemaRefused sound out p = absurd (unrefused SchemaRefused out.1)
      applies_at StoreRefused sound out p = absurd (unrefused StoreRefused out.1)

      nothing_applied : IsQuiet old new → shown_of new ≡ shown_of old → LedBy (Applied input lost) Memory
      nothing_applied quiet shown =
          still_led (Applied input lost)
          (record {
            until = [];
            more = all_lines input;
            parts = refl;
            held = refl;
            out = subst (λ (now : Shown). ShowsAll (shown_of old) [] now) (sym shown) (shows_none (shown_of old));
          })
          quiet

      applies : (status : Status) → ran.status ≡ status → (status ≡ DiskFault → ⊥) → Printed status → LedBy (Applied input lost) status
      applies status is sound out =
          by_status Apply input lost old new ran (LedBy (Applied input lost)) status is (λ u. nothing_applied u.quiet u.shown)
          (λ p. applies_at status sound out (subst BegunApplying is p))

-- ---- words that are sound command

module _ (status : Status) (old new : View) (run : Misreads status old new) where
  abbrev at_start : Setting
  at_start = record { source = run.source_before; view = old; places = run.places_before }

  abbrev at_end : Setting
  at_end = record { source = run.source_now; view = new; places = run.places_now }

  abbrev words_spec : CommandSpec
  words_spec = refused_words words_refused_line

  abbrev Refusal : Type 0
  Refusal = Promise words_spec (2 ^ 40) at_start at_end status

  refusal_kept : IsUnbegun at_start at_end status ⊎ Refusal
  refusal_kept = subst (λ (c : Option Command). Runs (spec_named c) (2 ^ 40) at_start at_end status) run.unnamed run.kept

  misread_holds : (was : Held) → Holds was old → Holds was new
  misread_holds was holds =
      ⊎_elim (λ (u : IsUnbegun at_start at_end status). by_quiet was old new holds u.quiet)
      (λ (p : Refusal). same_areas was old new p.leaves.a p.leaves.b p.leaves.passes.tells_bytes holds) refusal_kept

  abbrev words_told : Told Status
  words_told = record { pieces = words_refused_line ∷ []; status = BadWords }

  misread_prints : Ends (shown_of old) words_told status (shown_of new)
  misread_prints =
      ⊎_elim
      (λ (u : IsUnbegun at_start at_end status).
      subst (λ (s : Status). Ends (shown_of old) words_told s (shown_of new)) (sym u.memory) (first_none (shown_of old) (shown_of new) words_told.pieces u.shown))
      (λ (p : Refusal).
      let knows : Knows words_spec at_start [] = record { source = λ reads. absurd (let no : false ≡ true = reads in cc); bytes = λ asks. absurd asks } in
      p.shown [] knows) refusal_kept

-- ---- one run, and runs one after another

module _ (status : Status) (was : Held) (old new : View) (holds : Holds was old) where
  abbrev next : Option ℕ
  next = chosen_next old.shown.a old.shown.b

  printed : (command : Command) (input : List ℕ) (lost : ℕ) (said : Told Status) → RanTo command input lost status old new
      → ((choice : (spec_of command).Choice) → (spec_of command).told choice input (areas_of old) (2 ^ 40) lost ≡ said) → Ends (shown_of old) said status (shown_of new)
  printed command input lost said run is =
      subst (λ (s : Status). Ends (shown_of old) said s (shown_of new)) run.is (prints command input lost old new run.ran said is (tells_of was old holds))

  leads_by : (step : Step) → Led step status was old new → Ends (shown_of old) (told_step step was next) status (shown_of new) → (IsSilent step status → ShowsAll (shown_of old) [] (shown_of new))
      → (now : Held) × Leads step status was old now new
  leads_by step led out silent = (led.now, record { holds = led.holds; to = led.to; prints = out; silent = silent })

-- nothing is out with a fault of a read, want of memory or a cut
module _ (input : List ℕ) (lost : ℕ) (status : Status) (old new : View) where
  none_out : shown_of new ≡ shown_of old → ShowsAll (shown_of old) [] (shown_of new)
  none_out same = subst (λ (now : Shown). ShowsAll (shown_of old) [] now) (sym same) (shows_none (shown_of old))

  silent_load : RanTo Load input lost status old new → IsUnloaded status → ShowsAll (shown_of old) [] (shown_of new)
  silent_load run is = by_run Load input lost old new run.ran (λ u. none_out u.shown) (λ p. p.leaves.unput (subst IsUnloaded (sym run.is) is))

  silent_checkpoint : RanTo Checkpoint input lost status old new → IsUnrenewed status → ShowsAll (shown_of old) [] (shown_of new)
  silent_checkpoint run is = by_run Checkpoint input lost old new run.ran (λ u. none_out u.shown) (λ p. p.leaves.unput (subst IsUnrenewed (sym run.is) is))

  silent_evolve : RanTo Evolve input lost status old new → IsUnevolved status → ShowsAll (shown_of old) [] (shown_of new)
  silent_evolve run is = by_run Evolve input lost old new run.ran (λ u. none_out u.shown) (λ p. p.leaves.unput (subst IsUnevolved (sym run.is) is))

led_load : (text : List ℕ) (lost : ℕ) (status : Status) (was : Held) (old new : View) → Holds was old → RanTo Load text lost status old new → Led (Loaded text) status was old new
led_load text lost status Nothing old new holds run =
    record { now = loaded_to status text; holds = loads text lost old new holds run.ran status run.is run.no_fault; to = refl }
led_load text lost status (Holding it epoch) old new holds run =
    record { now = Holding it epoch; holds = loads_beside text lost old new it epoch holds run.ran; to = refl }

led_apply : (input : List ℕ) (lost : ℕ) (status : Status) (was : Held) (old new : View) → Holds was old → RanTo Apply input lost status old new
    → Ends (shown_of old) (told_step (Done (Applied input lost)) was (chosen_next old.shown.a old.shown.b)) status (shown_of new) → Led (Done (Applied input lost)) status was old new
led_apply input lost status Nothing old new holds run out = record { now = Nothing; holds = none_applied input lost old new holds run.ran; to = refl }
led_apply input lost status (Holding it epoch) old new holds run out = applies input lost old new it epoch holds run.ran status run.is run.no_fault out

led_checkpoint : (input : List ℕ) (lost : ℕ) (status : Status) (was : Held) (old new : View) → Holds was old → RanTo Checkpoint input lost status old new → Led (Done Renewed) status was old new
led_checkpoint input lost status Nothing old new holds run = record { now = Nothing; holds = none_renewed input lost old new holds run.ran; to = refl }
led_checkpoint input lost status (Holding it epoch) old new holds run = renews input lost old new it epoch holds run.ran status run.is run.no_fault

led_evolve : (input : List ℕ) (lost : ℕ) (status : Status) (was : Held) (old new : View) → Holds was old → RanTo Evolve input lost status old new → Led (Done (Evolved input)) status was old new
led_evolve input lost status Nothing old new holds run = record { now = Nothing; holds = none_evolved input lost old new holds run.ran; to = refl }
led_evolve input lost status (Holding it epoch) old new holds run = evolves input lost old new it epoch holds run.ran status run.is run.no_fault

leads : (step : Step) (status : Status) (was : Held) (old new : View) → Holds was old → DoesTo step status old new → (now : Held) × Leads step status was old now new
leads (Loaded text) status was old new holds run =
    leads_by status was old new holds (Loaded text) (led_load text run.0 status was old new holds run.1)
    (printed status was old new holds Load text run.0 (told_step (Loaded text) was (chosen_next old.shown.a old.shown.b)) run.1
    (λ choice. told_loads text was old holds (chosen_next old.shown.a old.shown.b)))
    (silent_load text run.0 status old new run.1)
leads (Done (Applied input lost)) status was old new holds run =
    let step = Done (Applied input lost) in
    let out = printed status was old new holds Apply input lost (told_step step was (chosen_next old.shown.a old.shown.b)) run
    (λ choice. told_applies input lost was old holds (chosen_next old.shown.a old.shown.b)) in
    leads_by status was old new holds step (led_apply input lost status was old new holds run out) out (λ no. absurd no)
leads (Done Renewed) status was old new holds run =
    leads_by status was old new holds (Done Renewed) (led_checkpoint run.0 run.1 status was old new holds run.2)
    (printed status was old new holds Checkpoint run.0 run.1 (told_step (Done Renewed) was (chosen_next old.shown.a old.shown.b)) run.2
    (λ choice. told_renews was old holds (chosen_next old.shown.a old.shown.b)))
    (silent_checkpoint run.0 run.1 status old new run.2)
leads (Done (Evolved input)) status was old new holds run =
    leads_by status was old new holds (Done (Evolved input)) (led_evolve input run.0 status was old new holds run.1)
    (printed status was old new holds Evolve input run.0 (told_step (Done (Evolved input)) was (chosen_next old.shown.a old.shown.b)) run.1
    (λ choice. told_evolves input was old holds))
    (silent_evolve input run.0 status old new run.1)
leads Recovered status was old new holds run =
    leads_by status was old new holds Recovered (record { now = was; holds = recovers run.0 run.1 old new was holds run.2.ran; to = refl })
    (printed status was old new holds Recover run.0 run.1 (told_step Recovered was (chosen_next old.shown.a old.shown.b)) run.2
    (λ choice. told_of was old holds (chosen_next old.shown.a old.shown.b)))
    (λ no. absurd no)
leads Misread status was old new holds run =
    leads_by status was old new holds Misread (record { now = was; holds = misread_holds status old new run was holds; to = refl }) (misread_prints status old new run) (λ no. absurd no)

pub add_up : {W : Type 0} (view : W → View) (steps : List (Step × Status)) (was : Held) (first last : W) → Holds was (view first) → (ran : RunAll view steps first last)
    → (now : Held) × AddUp view steps first last ran was now
add_up view [] was first last holds ran = (was, refl)
add_up view (step ∷ steps) was first last holds ran =
    let one = leads step.0 step.1 was (view first) (view ran.0) holds ran.1 in
    let rest = add_up view steps one.0 ran.0 last one.1.holds ran.2 in
    (rest.0, (one.0, one.1, rest.1))
