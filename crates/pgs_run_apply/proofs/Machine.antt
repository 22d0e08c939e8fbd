-- The machine of `apply` tells what an input tells, without the last piece.
use Rattle.std.proofs.Common.{◌≡◌, ℕ, Bool, true, false, nat_le, List, [], ◌∷◌, ◌++◌, length, take, map, refl, sym, ap, ap₂, ◌∙◌}
use Rattle.std.proofs.lemmas.List.{map-append}
use Rattle.pgs_run_lines.specs.Input.{lines_of, kept_of}
use Rattle.pgs_run_lines.specs.Machine as machine
use Rattle.pgs_run_lines.specs.Machine.{Told, RunState, Going, told_by, told_at_end, status_at_cut}
use Rattle.pgs_store.specs.Stored.{StoreState}
use Rattle.pgs_violation.specs.Violations.{verdict}
use Rattle.pgs_command.specs.declared.status.Status.{Status}
use Rattle.pgs_command.specs.declared.status.Status.TheVariants as statuses
use Rattle.pgs_run_input.specs.Input.{text_limit, text_front}
use Rattle.pgs_run_store.specs.Opening.{saved_in}
use Rattle.pgs_run_apply.specs.Applying.{applying}
use Rattle.pgs_run_apply.specs.Committing.{deliveries}
use Rattle.pgs_run_apply.specs.Outcome.{Outcome, outcome_of_all}
use Rattle.pgs_run_apply.specs.Seen.{state_with}
use Rattle.pgs_run_apply.specs.State.{ApplyState, status_after}
use Rattle.pgs_run_apply.specs.Told.{start, after, verdicts, all_lines, told_lines}
use Rattle.pgs_run_apply.specs.RuleLaws.{lead, outcome_append}
use Rattle.pgs_run_apply.proofs.Following.{Follows, follows_lines, outcome_fronts, outcome_one, tells}

-- before the first line
abbrev pub first_state : StoreState → ApplyState
first_state it = state_with it 0 false

-- what lines change and tell
pub told_follows : (it : StoreState) (lines : List (List ℕ)) → Follows (first_state it) (outcome_of_all (first_state it) lines) (after (saved_in it) lines) (verdicts (saved_in it) lines) (deliveries (verdict it.guard.schema) (start (saved_in it)) lines)
told_follows it lines = follows_lines (verdict it.guard.schema) (start (saved_in it)) (first_state it) lines refl refl

abbrev told_with : List (List ℕ) → Status → Told Status
told_with pieces status = record { pieces = pieces; status = status }

abbrev told_of : Outcome → Told Status
told_of o = told_with o.pieces (status_after o.state.refused)

module _ (it : StoreState) where
  told_cut : (input : List ℕ) → machine.told_cut applying text_limit (first_state it) input ≡ told_with (verdicts (saved_in it) (lines_of input).ended) statuses.InputTooLong
  unfolding kept_of
  told_cut input =
      let s = first_state it in
      let lines = (lines_of input).ended in
      let fronts = map text_front lines in
      ap (λ (at : RunState ApplyState Status). told_with (machine.pieces_of_lines applying (Going s) fronts) (status_at_cut applying at)) (lead s fronts)
      ∙ ap (λ (pieces : List (List ℕ)). told_with pieces statuses.InputTooLong) (tells s fronts ∙ ap (λ (o : Outcome). o.pieces) (outcome_fronts s lines) ∙ (told_follows it lines).pieces)

  -- the lines of the input, and behind them its end
  at_end : (fronts : List (List ℕ)) (rest : List ℕ) → (let s = first_state it in
      let end = told_at_end applying (machine.after_lines applying (Going s) fronts) rest in
      told_with (machine.pieces_of_lines applying (Going s) fronts ++ end.pieces) end.status ≡ told_of (outcome_of_all s (fronts ++ rest ∷ [])))
  at_end fronts rest =
      let s = first_state it in
      let t = (outcome_of_all s fronts).state in
      ap₂ (λ (pieces : List (List ℕ)) (at : RunState ApplyState Status). told_with (pieces ++ (told_at_end applying at rest).pieces) (told_at_end applying at rest).status) (tells s fronts) (lead s fronts)
      ∙ ap (λ (o : Outcome). told_with ((outcome_of_all s fronts).pieces ++ o.pieces) (status_after o.state.refused)) (sym (outcome_one t rest))
      ∙ ap told_of (sym (outcome_append s fronts (rest ∷ [])))

  told_whole : (input : List ℕ) → machine.told_whole applying text_limit (first_state it) input ≡ told_with (verdicts (saved_in it) (all_lines input)) (status_after (after (saved_in it) (all_lines input)).refused)
  unfolding kept_of
  told_whole input =
      let s = first_state it in
      let ended = (lines_of input).ended in
      let rest = (lines_of input).rest in
      let all = ended ++ rest ∷ [] in
      let follows = told_follows it all in
      at_end (map text_front ended) (text_front rest)
      ∙ ap (λ (lines : List (List ℕ)). told_of (outcome_of_all s lines)) (sym (map-append text_front ended (rest ∷ [])))
      ∙ ap told_of (outcome_fronts s all)
      ∙ ap₂ (λ (pieces : List (List ℕ)) (refused : Bool). told_with pieces (status_after refused)) follows.pieces (ap (λ at. at.refused) follows.standing)

  by_budget : (input : List ℕ) (budget : ℕ) (cut : Bool) → nat_le budget (length input) ≡ cut → told_by applying text_limit (first_state it) input budget ≡ told_lines input budget (saved_in it)
  unfolding told_by
  by_budget input budget true e = rw e (told_cut (take budget input))
  by_budget input budget false e = rw e (told_whole input)

  pub told_by_applying : (input : List ℕ) (budget : ℕ) → told_by applying text_limit (first_state it) input budget ≡ told_lines input budget (saved_in it)
  told_by_applying input budget = by_budget input budget (nat_le budget (length input)) refl
