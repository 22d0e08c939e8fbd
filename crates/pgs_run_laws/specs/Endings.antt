-- What runs of any status but 5 lead to, one after another over one world: what the areas hold behind each, and what each prints.
use Rattle.std.specs.Prelude.{◌≡◌, ◌⊎◌, ℕ, ◌+◌, ◌==◌, List, [], ◌∷◌, ◌++◌, length, Option, Some, None, Result, Ok, Err, IsTrue, nat_le, if◌then◌else◌}
use Rattle.std.specs.List.{concat}
use Rattle.std.specs.Option.{option_map}
use Rattle.pgs_answer.specs.Lines.{words_refused_line}
use Rattle.pgs_answer.specs.Refusals.{already_store_text, no_store_text}
use Rattle.pgs_feed.specs.Places.{Place}
use Rattle.pgs_run_lines.specs.declared.budget.TheConstants.{BUDGET}
use Rattle.pgs_run_lines.specs.Machine.{Told}
use Rattle.pgs_run_lines.specs.Pieces.{Shown, ShowsAll, shown_of}
use Rattle.pgs_snapshot.specs.Choice.{chosen_next}
use Rattle.pgs_store.specs.Loads.{FindsNone}
use Rattle.pgs_syntax.specs.declared.resolved.Resolved.{Resolved}
use Rattle.pgs_run_words.specs.declared.command.Command.{Command}
use Rattle.pgs_run_words.specs.declared.command.Command.TheVariants.{Apply, Checkpoint, Evolve, Load, Recover}
use Rattle.pgs_run_words.specs.Words.{command_of}
use Rattle.pgs_world.specs.World.{View}
use Rattle.pgs_command.specs.declared.status.Status.{Status}
use Rattle.pgs_command.specs.declared.status.Status.TheVariants.{Accepted, Refused, BadWords, SchemaRefused, StoreRefused, DiskFault, PutFault, InputTooLong}
use Rattle.pgs_command.specs.Ending.{Ends}
use Rattle.pgs_command.specs.Promise.{Runs}
use Rattle.pgs_command.specs.Setting.{SourceState}
use Rattle.pgs_run_input.specs.Answers.{schema_answer}
use Rattle.pgs_run_apply.specs.Told.{verdicts, all_lines, lost_pieces, told_lines, with_last}
use Rattle.pgs_run_renewal.specs.CheckpointLeaving.{IsUnput as IsUnrenewed}
use Rattle.pgs_run_renewal.specs.CheckpointTold.{told_by}
use Rattle.pgs_run_renewal.specs.EvolveLeaving.{IsUnput as IsUnevolved}
use Rattle.pgs_run_renewal.specs.EvolveTold.{told_input}
use Rattle.pgs_run_renewal.specs.LoadLeaving.{IsUnput as IsUnloaded}
use Rattle.pgs_run_renewal.specs.LoadTold.{line_of}
use Rattle.pgs_run_store.specs.Dump.{told_dump}
use Rattle.pgs_run_store.specs.Refusing.{SavedStore, store_refused, told_under}
use Rattle.pgs_run.specs.Commands.{spec_for}
use Rattle.pgs_run_laws.specs.Crashes.{RanInto, Stands, after_lines}
use Rattle.pgs_run_laws.specs.Sequence.{Applied, Deed, Evolved, Renewed, new_store, under_text}

-- what both areas hold: nothing, or a store of an epoch
pub data Held : Type 0 where
  Nothing : Held
  Holding : (it : SavedStore) (epoch : ℕ) → Held

-- a world that tells its bytes holds this
abbrev pub Holds : Held → View → Type 0
Holds Nothing view = IsTrue view.tells_bytes × FindsNone view
Holds (Holding it epoch) view = Stands it epoch view

-- a run of `load` of this text; of `apply`, `checkpoint` or `evolve`; of `recover`; or of words that are no command
pub data Step : Type 0 where
  Loaded : (text : List ℕ) → Step
  Done : Deed → Step
  Recovered : Step
  Misread : Step

-- ---- what is told

-- what `load` tells of a whole text, by what it tells of its schema; of one that is too long nothing
abbrev pub told_loading : List ℕ → (Resolved → Told Status) → Told Status
told_loading text go = if nat_le BUDGET (length text) then record { pieces = []; status = InputTooLong } else told_under (schema_answer text) go

-- what a run tells of a saved store of this epoch, whose next record has this number, if it is of the second format
abbrev pub told_done : Deed → SavedStore → ℕ → Option ℕ → Told Status
told_done (Applied input lost) it epoch next = with_last lost (told_lines input BUDGET it)
told_done Renewed it epoch next = told_by (Some epoch) it
told_done (Evolved input) it epoch next = told_input input BUDGET next it.graph

-- what a run tells of what the areas hold
abbrev pub told_step : Step → Held → Option ℕ → Told Status
told_step (Loaded text) Nothing next = told_loading text (λ schema. record { pieces = line_of schema ∷ []; status = Accepted })
told_step (Loaded text) (Holding it epoch) next = told_loading text (λ schema. store_refused already_store_text)
told_step (Done deed) Nothing next = store_refused no_store_text
told_step (Done deed) (Holding it epoch) next = told_done deed it epoch next
told_step Recovered Nothing next = store_refused no_store_text
told_step Recovered (Holding it epoch) next = told_dump it
told_step Misread was next = record { pieces = words_refused_line ∷ []; status = BadWords }

-- ---- what a run leads to

-- the last of these pieces is out in a front, by a put that failed, and the others whole
pub record ShowsButLast (start : Shown) (pieces : List (List ℕ)) (end : Shown) : Type 0 where
  pub before : List (List ℕ)
  pub front : List ℕ
  pub back : List ℕ
  pub parts : pieces ≡ before ++ (front ++ back) ∷ []
  pub output : end.output ≡ option_map (λ output. output ++ concat (before ++ front ∷ [])) start.output
  pub puts : end.puts ≡ start.puts + length before

-- What is out of what these lines tell, of which these are the ones behind: with 0 and 1 they are all lines, and the line of lost feeds is out
-- too; with 7 all but the last piece, which was being put; else all of it.
abbrev pub IsOut : (told more : List (List ℕ)) → (lost : ℕ) → Status → Shown → Shown → Type 0
IsOut told more lost Accepted start end = (more ≡ []) × ShowsAll start (told ++ lost_pieces lost) end
IsOut told more lost Refused start end = (more ≡ []) × ShowsAll start (told ++ lost_pieces lost) end
IsOut told more lost PutFault start end = ShowsButLast start told end ⊎ ((more ≡ []) × ShowsButLast start (told ++ lost_pieces lost) end)
IsOut told more lost status start end = ShowsAll start told end

-- `apply`: the store after some first lines, and what they tell is out
pub record IsAppliedTo (it : SavedStore) (epoch : ℕ) (input : List ℕ) (lost : ℕ) (status : Status) (start : Shown) (now : Held) (end : Shown) : Type 0 where
  pub until : List (List ℕ)
  pub more : List (List ℕ)
  pub parts : all_lines input ≡ until ++ more
  pub held : now ≡ Holding (after_lines it until) epoch
  pub out : IsOut (verdicts it until) more lost status start end

-- the next epoch; the last one has none
abbrev pub next_epoch : ℕ → ℕ
next_epoch epoch = if epoch == 16777215 then epoch else epoch + 1

-- `checkpoint`: the same store; of the next epoch with 0, and with 7, where the line of one was being put; else of the same
abbrev pub IsRenewedTo : SavedStore → ℕ → Status → Held → Type 0
IsRenewedTo it epoch Accepted now = now ≡ Holding it (epoch + 1)
IsRenewedTo it epoch PutFault now = now ≡ Holding it (next_epoch epoch)
IsRenewedTo it epoch status now = now ≡ Holding it epoch

-- `evolve`: the store under the new schema with 0, and with 7, where the line of a schema in force was being put; else as it was
abbrev pub evolved_to : Status → Option ℕ → SavedStore → List ℕ → SavedStore
evolved_to Accepted next it input = under_text it input (schema_answer input)
evolved_to PutFault (Some number) it input = under_text it input (schema_answer input)
evolved_to status next it input = it

-- `load`: the new store with 0, and with 7, where the line of a schema was being put; else nothing
abbrev pub loaded_of : List ℕ → Result Resolved (List ℕ) → Held
loaded_of text (Ok schema) = Holding (new_store text schema) 1
loaded_of text (Err refusal) = Nothing

abbrev pub loaded_to : Status → List ℕ → Held
loaded_to Accepted text = loaded_of text (schema_answer text)
loaded_to PutFault text = loaded_of text (schema_answer text)
loaded_to status text = Nothing

-- With 2, 3 and 4 nothing is added.
abbrev pub LeadsBy : Deed → Status → SavedStore → ℕ → Option ℕ → Shown → Held → Shown → Type 0
LeadsBy deed BadWords it epoch next start now end = now ≡ Holding it epoch
LeadsBy deed SchemaRefused it epoch next start now end = now ≡ Holding it epoch
LeadsBy deed StoreRefused it epoch next start now end = now ≡ Holding it epoch
LeadsBy (Applied input lost) status it epoch next start now end = IsAppliedTo it epoch input lost status start now end
LeadsBy Renewed status it epoch next start now end = IsRenewedTo it epoch status now
LeadsBy (Evolved input) status it epoch next start now end = now ≡ Holding (evolved_to status next it input) epoch

-- nor where a store is wanting, or one is there already, by `recover`, or by words that are no command
abbrev pub LeadsTo : Step → Status → Held → Option ℕ → Shown → Held → Shown → Type 0
LeadsTo (Loaded text) status Nothing next start now end = now ≡ loaded_to status text
LeadsTo (Loaded text) status (Holding it epoch) next start now end = now ≡ Holding it epoch
LeadsTo (Done deed) status Nothing next start now end = now ≡ Nothing
LeadsTo (Done deed) status (Holding it epoch) next start now end = LeadsBy deed status it epoch next start now end
LeadsTo Recovered status was next start now end = now ≡ was
LeadsTo Misread status was next start now end = now ≡ was

-- with 6, 8 and 9 nothing is out of a run whose one line comes last
abbrev pub IsSilent : Step → Status → Type 0
IsSilent (Loaded text) status = IsUnloaded status
IsSilent (Done (Applied input lost)) status = ⊥
IsSilent (Done Renewed) status = IsUnrenewed status
IsSilent (Done (Evolved input)) status = IsUnevolved status
IsSilent Recovered status = ⊥
IsSilent Misread status = ⊥

-- A run that ended so leads from what the areas held to what they hold, and prints this, by the status: all that is told and the told status
-- with 0 to 4 and 9, some first pieces with 6 and 8, of which `load`, `checkpoint` and `evolve` have none, and with 7 some first ones and a front of the next.
pub record Leads (step : Step) (status : Status) (was : Held) (old : View) (now : Held) (new : View) : Type 0 where
  pub holds : Holds now new
  pub to : LeadsTo step status was (chosen_next old.shown.a old.shown.b) (shown_of old) now (shown_of new)
  pub prints : Ends (shown_of old) (told_step step was (chosen_next old.shown.a old.shown.b)) status (shown_of new)
  pub silent : IsSilent step status → ShowsAll (shown_of old) [] (shown_of new)

-- ---- runs

-- a run over a source that told this input, which ended with this status, and this isn't 5
pub record RanTo (command : Command) (input : List ℕ) (lost : ℕ) (status : Status) (old new : View) : Type 0 where
  pub ran : RanInto command input lost old new
  pub is : ran.status ≡ status
  pub no_fault : status ≡ DiskFault → ⊥

-- a run of words that are no command, which ended with this status
pub record Misreads (status : Status) (old new : View) : Type 0 where
  pub words : List (List ℕ)
  pub unnamed : command_of words ≡ None
  pub source_before : SourceState
  pub source_now : SourceState
  pub places_before : List Place
  pub places_now : List Place
  pub kept : Runs (spec_for words) BUDGET (record { source = source_before; view = old; places = places_before })
      (record { source = source_now; view = new; places = places_now }) status

-- a run of this kind
abbrev pub DoesTo : Step → Status → View → View → Type 0
DoesTo (Loaded text) status old new = (lost : ℕ) × RanTo Load text lost status old new
DoesTo (Done (Applied input lost)) status old new = RanTo Apply input lost status old new
DoesTo (Done Renewed) status old new = (input : List ℕ) × (lost : ℕ) × RanTo Checkpoint input lost status old new
DoesTo (Done (Evolved input)) status old new = (lost : ℕ) × RanTo Evolve input lost status old new
DoesTo Recovered status old new = (input : List ℕ) × (lost : ℕ) × RanTo Recover input lost status old new
DoesTo Misread status old new = Misreads status old new

-- these runs, one after another, over worlds of one kind; each ended with the status beside it
abbrev pub RunAll : {W : Type 0} (view : W → View) → List (Step × Status) → W → W → Type 0
RunAll {W} view [] old new = new ≡ old
RunAll {W} view (step ∷ steps) old new = (mid : W) × DoesTo step.0 step.1 (view old) (view mid) × RunAll view steps mid new

-- they add up: what the areas hold behind each is what the next one begins with
abbrev pub AddUp : {W : Type 0} (view : W → View) (steps : List (Step × Status)) (old new : W) → RunAll view steps old new → Held → Held → Type 0
AddUp view [] old new runs was now = now ≡ was
AddUp view (step ∷ steps) old new runs was now =
    (mid : Held) × Leads step.0 step.1 was (view old) mid (view runs.0) × AddUp view steps runs.0 new runs.2 mid now
