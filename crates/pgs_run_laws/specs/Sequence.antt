-- Runs one after another over one world: what each does to the store that is saved, and what it prints.
use Rattle.std.specs.Prelude.{◌≡◌, ◌⊎◌, ℕ, ◌+◌, true, List, [], ◌∷◌, ◌++◌, Some, Result, Ok, Err}
use Rattle.pgs_answer.specs.Lines.{checkpoint_line}
use Rattle.pgs_base.specs.Graph.{empty_graph}
use Rattle.pgs_feed.specs.Places.{Place, lost_count}
use Rattle.pgs_run_lines.specs.declared.budget.TheConstants.{BUDGET}
use Rattle.pgs_syntax.specs.declared.resolved.Resolved.{Resolved}
use Rattle.pgs_violation.specs.declared.violation.Verdict.{Verdict}
use Rattle.pgs_violation.specs.declared.violation.Verdict.TheVariants.{Conforms, Refused as Violated}
use Rattle.pgs_violation.specs.Violations.{verdict}
use Rattle.pgs_run_words.specs.declared.command.Command.{Command}
use Rattle.pgs_run_words.specs.declared.command.Command.TheVariants.{Apply, Checkpoint, Evolve}
use Rattle.pgs_run_words.specs.Words.{command_of}
use Rattle.pgs_world.specs.World.{View}
use Rattle.pgs_run_input.specs.Answers.{schema_answer}
use Rattle.pgs_command.specs.declared.status.Status.{Status}
use Rattle.pgs_command.specs.declared.status.Status.TheVariants.{Accepted, Refused}
use Rattle.pgs_run_apply.specs.Told.{after, verdicts, all_lines, lost_pieces}
use Rattle.pgs_run_renewal.specs.EvolveTold.{told_text}
use Rattle.pgs_run_renewal.specs.LoadTold.{line_of}
use Rattle.pgs_run_store.specs.Dump.{dump}
use Rattle.pgs_run_store.specs.Refusing.{SavedStore}
use Rattle.pgs_command.specs.Promise.{Runs}
use Rattle.pgs_command.specs.Setting.{SourceState}
use Rattle.pgs_run.specs.Commands.{spec_for, spec_of}

-- a run between `load` and `recover`: of `apply` over this input, with so many feeds lost at its end; of `checkpoint`; or of `evolve`
-- over this input
pub data Deed : Type 0 where
  Applied : (input : List ℕ) (lost : ℕ) → Deed
  Renewed : Deed
  Evolved : (input : List ℕ) → Deed

-- the empty store of a text
abbrev pub new_store : List ℕ → Resolved → SavedStore
new_store text schema = record { text = text; schema = schema; commits = 0; graph = empty_graph }

-- the store under the schema of a text, where its graph conforms to it; else as it is
abbrev pub under_verdict : SavedStore → List ℕ → Resolved → Verdict → SavedStore
under_verdict it text schema Conforms = record { text = text; schema = schema; commits = it.commits; graph = it.graph }
under_verdict it text schema (Violated violation) = it

abbrev pub under_text : SavedStore → List ℕ → Result Resolved (List ℕ) → SavedStore
under_text it text (Ok schema) = under_verdict it text schema (verdict schema it.graph)
under_text it text (Err refusal) = it

-- the store after a run: each line is decided on the graph after the accepted ones before it
abbrev pub after_deed : SavedStore → Deed → SavedStore
after_deed it (Applied input lost) =
    let at = after it (all_lines input) in record { text = it.text; schema = it.schema; commits = at.commits; graph = at.graph }
after_deed it Renewed = it
after_deed it (Evolved input) = under_text it input (schema_answer input)

-- its epoch, which a checkpoint raises
abbrev pub epoch_after : ℕ → Deed → ℕ
epoch_after epoch (Applied input lost) = epoch
epoch_after epoch Renewed = epoch + 1
epoch_after epoch (Evolved input) = epoch

-- what a run prints: lines numbered from 1, commit numbers that go on; a schema's line, or why it isn't in force
abbrev pub told_deed : SavedStore → ℕ → Deed → List (List ℕ)
told_deed it epoch (Applied input lost) = verdicts it (all_lines input) ++ lost_pieces lost
told_deed it epoch Renewed = checkpoint_line (epoch + 1) it.commits ∷ []
told_deed it epoch (Evolved input) = (told_text input it.graph).pieces

abbrev pub told_deeds : SavedStore → ℕ → List Deed → List (List ℕ)
told_deeds it epoch [] = []
told_deeds it epoch (deed ∷ deeds) = told_deed it epoch deed ++ told_deeds (after_deed it deed) (epoch_after epoch deed) deeds

abbrev pub after_deeds : SavedStore → List Deed → SavedStore
after_deeds it [] = it
after_deeds it (deed ∷ deeds) = after_deeds (after_deed it deed) deeds

-- what `load` of a text prints, then runs, then `recover`
abbrev pub told_sequence : List ℕ → Resolved → List Deed → List (List ℕ)
told_sequence text schema deeds =
    let it = after_deeds (new_store text schema) deeds in
    line_of schema ∷ (told_deeds (new_store text schema) 1 deeds ++ dump it.text it.graph)

-- A run of the program that named this command, over a source that told this input where it is read, led from the one view of a world
-- to the other and ended with 0 or 1. So many feeds were lost at its end.
pub record Ran (command : Command) (input : List ℕ) (lost : ℕ) (old new : View) : Type 0 where
  pub words : List (List ℕ)
  pub named : command_of words ≡ Some command
  pub source_before : SourceState
  pub source_now : SourceState
  pub places_before : List Place
  pub places_now : List Place
  pub status : Status
  pub kept : Runs (spec_for words) BUDGET (record { source = source_before; view = old; places = places_before })
      (record { source = source_now; view = new; places = places_now }) status
  pub source : (spec_of command).reads_source ≡ true → source_before.left ≡ Some input
  pub lost_is : lost_count places_now ≡ lost
  pub done : (status ≡ Accepted) ⊎ (status ≡ Refused)

-- a run of this kind
abbrev pub Does : Deed → View → View → Type 0
Does (Applied input lost) old new = Ran Apply input lost old new
Does Renewed old new = (input : List ℕ) × (lost : ℕ) × Ran Checkpoint input lost old new
Does (Evolved input) old new = (lost : ℕ) × Ran Evolve input lost old new

-- these runs, one after another, over worlds of one kind
abbrev pub DoAll : {W : Type 0} (view : W → View) → List Deed → W → W → Type 0
DoAll {W} view [] old new = new ≡ old
DoAll {W} view (deed ∷ deeds) old new = (mid : W) × Does deed (view old) (view mid) × DoAll view deeds mid new
