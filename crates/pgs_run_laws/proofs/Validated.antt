-- What `validate` tells of an input whose transactions are accepted and make a graph without violations.
use Rattle.std.proofs.Common.{◌≡◌, ℕ, ◌<◌, Bool, true, false, List, [], ◌++◌, map, length, take, Result, Ok, ap, ◌∙◌, arith}
use Rattle.std.specs.Prelude.{if◌then◌else◌, nat_le}
use Rattle.std.proofs.lemmas.Bool.Decides.{nat_tests}
use Rattle.pgs_base.specs.Graph.{Graph}
use Rattle.pgs_run_lines.specs.Machine.{Told}
use Rattle.pgs_syntax.specs.declared.resolved.Resolved.{Resolved}
use Rattle.pgs_violation.specs.declared.violation.Violation.{Violation}
use Rattle.pgs_violation.specs.Violations.{violations}
use Rattle.pgs_command.specs.declared.status.Status.{Status}
use Rattle.pgs_command.specs.declared.status.Status.TheVariants.{Accepted}
use Rattle.pgs_run_input.specs.Answers.{schema_answer}
use Rattle.pgs_run_input.specs.Input.{schema_part, after_separator}
use Rattle.pgs_run_try.specs.declared.judging.Judging.TheVariants.{AtEnd}
use Rattle.pgs_run_try.specs.Judging.{verdict_by, telling_by, listed}
use Rattle.pgs_run_try.specs.Told.{start, listed_line, status_after, told_end, told_schema, told_whole, told_cut, told_judging}
use Rattle.pgs_run_laws.specs.Lines.{all_lines}
use Rattle.pgs_run_laws.proofs.Accepting.{LeadsTo}

-- nothing, and that all is accepted
abbrev pub nothing_told : Told Status
nothing_told = record { pieces = []; status = Accepted }

-- pieces, and behind them the violations that are found
abbrev ending : List (List ℕ) → Bool → List Violation → Told Status
ending pieces refused found = record { pieces = pieces ++ map listed_line found; status = status_after refused found }

schema_told : (schema : Resolved) (g : Graph) (lines : List (List ℕ)) → LeadsTo start lines g → violations schema g ≡ []
    → told_schema AtEnd true (Ok schema) lines ≡ nothing_told
unfolding verdict_by telling_by listed told_end
schema_told schema g lines leads none =
    λ i. ending (leads.silent i) (leads.refused i) ((ap (violations schema) leads.graph ∙ none) i)

pub whole_told : (schema : Resolved) (g : Graph) (input : List ℕ) → schema_answer (schema_part (all_lines input)) ≡ Ok schema
    → LeadsTo start (after_separator (all_lines input)) g → violations schema g ≡ [] → told_whole AtEnd input ≡ nothing_told
whole_told schema g input answer leads none =
    ap (λ (r : Result Resolved (List ℕ)). told_schema AtEnd true r (after_separator (all_lines input))) answer
    ∙ schema_told schema g (after_separator (all_lines input)) leads none

within : (length_of limit : ℕ) → length_of < limit → nat_le limit length_of ≡ false
within length_of limit below = grind (arith, nat_tests)

-- an input within the budget is told whole
pub told_within : (input : List ℕ) (limit : ℕ) → length input < limit → told_judging AtEnd input limit ≡ told_whole AtEnd input
unfolding told_judging
told_within input limit below =
    ap (λ (b : Bool). if b then told_cut AtEnd (take limit input) else told_whole AtEnd input) (within (length input) limit below)
