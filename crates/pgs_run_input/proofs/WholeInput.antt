-- How a run ends that takes its whole input as a text, by what the reading gave and by what was done with the text.
use Rattle.std.proofs.Common.{◌≡◌, inl, inr, ℕ, ◌+◌, ◌-◌, ◌≤◌, ◌<◌, true, false, nat_le, List, [], ◌++◌, length, Some, refl, sym, ap, subst, ◌∙◌, arith}
use Rattle.std.specs.Prelude.{if◌then◌else◌}
use Rattle.std.proofs.lemmas.List.{append-nil}
use Rattle.std.proofs.lemmas.Bool.Decides.{nat_tests}
use Rattle.pgs_world.specs.Source.{IsAtEnd}
use Rattle.pgs_run_lines.specs.Ending.{faults_of}
use Rattle.pgs_run_lines.specs.Machine.{Told}
use Rattle.pgs_run_lines.specs.Pieces.{Shown, ShowsAll, ShowsFirst, shown_of}
use Rattle.pgs_run_lines.proofs.RunEnds.{rest_of, taken_length}
use Rattle.pgs_run_lines.proofs.Showing.{shows_none}
use Rattle.pgs_command.specs.declared.status.Status.{Status}
use Rattle.pgs_command.specs.declared.status.Status.TheVariants.{ReadFault, Memory, InputTooLong}
use Rattle.pgs_command.specs.Ending.{Ends}
use Rattle.pgs_command.specs.Run.{EndsAs, HasCause, IsRead, TakesWithin}
use Rattle.pgs_command.specs.Setting.{Setting, SourceState, faults_in}
use Rattle.pgs_command.proofs.OwnEnds.{full_taken, read_any}
use Rattle.pgs_command.proofs.Promising.{no_cause}
use Rattle.pgs_run_input.specs.Input.{text_front}
use Rattle.pgs_run_input.specs.Text.{AnswersText, IsUnread, IsWhole, WhyUnread}
use Rattle.pgs_run_input.proofs.OneLine.{IsSilent, silent_faults}

-- what is told of the whole input, by this budget; where it is cut, nothing but that
abbrev pub told_whole : List ℕ → Told Status → ℕ → Told Status
told_whole input told budget = if nat_le budget (length input) then record { pieces = []; status = InputTooLong } else told

-- what is so of each reason why there is no text is so of the one that there was
pub by_unread : (P : Status → Type 0) (budget : ℕ) (before after : SourceState) (status : Status) → P ReadFault → P Memory → P InputTooLong → IsUnread budget before after status → P status
by_unread P budget before after status fault none cut unread = by_why unread.why
  where
    by_why : WhyUnread budget (length unread.bytes) before after status → P status
    by_why (inl why) = subst P (sym why.0) fault
    by_why (inr (inl why)) = subst P (sym why.0) none
    by_why (inr (inr why)) = subst P (sym why.0) cut

-- the text is the front of an input that is told, and shorter than the budget
pub whole_input : (budget : ℕ) (before after : SourceState) (text input : List ℕ) → before.left ≡ Some input → IsWhole budget before after text → (text ≡ text_front input) × (length input < budget)
whole_input budget before after text input is whole =
    let of = rest_of input whole.bytes before.left after.left is whole.taken in
    let none : of.rest ≡ [] = subst IsAtEnd of.left_is whole.at_end in
    let same : input ≡ whole.bytes = of.parts ∙ ap (λ rest. whole.bytes ++ rest) none ∙ append-nil whole.bytes in
    (whole.front ∙ ap text_front (sym same), subst (λ (t : List ℕ). length t < budget) (sym same) whole.within)

short : (n m : ℕ) → m < n → nat_le n m ≡ false
short n m less = grind (arith, nat_tests)

long : (n m : ℕ) → n ≤ m → nat_le n m ≡ true
long n m few = grind (arith, nat_tests)

told_short : (input : List ℕ) (told : Told Status) (budget : ℕ) → nat_le budget (length input) ≡ false → told_whole input told budget ≡ told
told_short input told budget e = rw e refl

told_cut : (input : List ℕ) (told : Told Status) (budget : ℕ) → nat_le budget (length input) ≡ true → told_whole input told budget ≡ record { pieces = []; status = InputTooLong }
told_cut input told budget e = rw e refl

-- what is known of such a run beside what it leaves
pub record RunsWhole (Asks : List ℕ → Type 0) (tell : List ℕ → ℕ → Told Status) (budget : ℕ) (old new : Setting) (status : Status) : Type 0 where
  pub ends : (input : List ℕ) → Asks input → old.source.left ≡ Some input → EndsAs (tell input) (shown_of old.view) input budget new.source.left status (shown_of new.view)
  pub takes : (input rest : List ℕ) → old.source.left ≡ Some input → new.source.left ≡ Some rest → TakesWithin input budget rest status
  pub full : status ≡ InputTooLong → (input : List ℕ) → old.source.left ≡ Some input → budget ≤ length input
  pub read_to_end : IsRead new.source.left status
  pub cause : HasCause true true (faults_in old) (faults_in new) status

module _ (Asks : List ℕ → Type 0) (tell : List ℕ → ℕ → Told Status) (told : List ℕ → Told Status) (tells : (input : List ℕ) → Asks input → (n : ℕ) → tell input n ≡ told_whole input (told input) n)
    (budget : ℕ) (old new : Setting) where
  -- the text was read, and what is told of it was put
  pub with_text : (text : List ℕ) (status : Status) (answer : Told Status) → IsWhole budget old.source new.source text → ((input : List ℕ) → text ≡ text_front input → Asks input → told input ≡ answer)
      → AnswersText answer old.view new.view status → RunsWhole Asks tell budget old new status
  with_text text status answer whole is_told answers = record {
    ends = λ input asks is.
        let of = whole_input budget old.source new.source text input is whole in
        let same = tells input asks budget ∙ told_short input (told input) budget (short budget (length input) of.1) ∙ is_told input of.0 asks in
        record {
          shown = subst (λ (t : Told Status). Ends (shown_of old.view) t status (shown_of new.view)) (sym same) answers.ends;
          read_fault = λ rest left_is fault. absurd (never.0 fault);
          within = λ rest left_is. let n = of.1 in omega (n, arith);
          too_long = λ rest left_is cut. absurd (never.1 cut);
        };
    takes = λ input rest is left_is. record {
      within = let n = (whole_input budget old.source new.source text input is whole).1 in omega (n, arith);
      too_long = λ cut. absurd (never.1 cut);
    };
    full = λ cut input is. absurd (never.1 cut);
    read_to_end = read_any new.source.left status whole.at_end;
    cause = subst (λ (count : ℕ). HasCause true true (faults_of count old.view) (faults_in new) status) whole.faults (answers.cause true new.source.faults);
  }
    where
      never : (status ≡ ReadFault → ⊥) × (status ≡ InputTooLong → ⊥)
      never = no_cause false true (faults_of 0 old.view) (faults_of 0 new.view) status refl (answers.cause false 0)

  -- there is no text, and nothing was put
  pub without_text : (status : Status) → IsUnread budget old.source new.source status → IsSilent old.view new.view → RunsWhole Asks tell budget old new status
  without_text status unread world = by_why unread.why
    where
      nothing : ShowsAll (shown_of old.view) [] (shown_of new.view)
      nothing = subst (λ (s : Shown). ShowsAll (shown_of old.view) [] s) (sym world.shown) (shows_none (shown_of old.view))

      first : (pieces : List (List ℕ)) → ShowsFirst (shown_of old.view) pieces (shown_of new.view)
      first pieces = record { first = []; later = pieces; parts = refl; shows = nothing }

      cut : (input : List ℕ) → Asks input → (n : ℕ) → n ≤ length input → tell input n ≡ record { pieces = []; status = InputTooLong }
      cut input asks n few = tells input asks n ∙ told_cut input (told input) n (long n (length input) few)

      within : (input rest : List ℕ) → old.source.left ≡ Some input → new.source.left ≡ Some rest → length input ≤ budget + length rest
      within input rest is left_is =
          let n = taken_length input rest unread.bytes old.source.left new.source.left is unread.taken left_is in let few = unread.within in omega (n, few, arith)

      full : length unread.bytes ≡ budget → (input : List ℕ) → old.source.left ≡ Some input → budget ≤ length input
      full all input is = full_taken budget input unread.bytes old.source.left new.source.left is unread.taken all

      too_long : length unread.bytes ≡ budget → (input rest : List ℕ) → old.source.left ≡ Some input → new.source.left ≡ Some rest → length input ≡ budget + length rest
      too_long all input rest is left_is =
          taken_length input rest unread.bytes old.source.left new.source.left is unread.taken left_is ∙ ap (λ n. n + length rest) all

      still : new.source.faults ≡ old.source.faults → faults_in new ≡ faults_in old
      still reads = ap (λ (n : ℕ). faults_of n new.view) reads ∙ silent_faults old.source.faults old.view new.view world

      by_why : WhyUnread budget (length unread.bytes) old.source new.source status → RunsWhole Asks tell budget old new status
      by_why (inl (is_fault, rose)) = subst (RunsWhole Asks tell budget old new) (sym is_fault) (record {
        ends = λ input asks is. record {
          shown = first (tell input budget).pieces;
          read_fault = λ rest left_is fault.
              subst (λ (t : Told Status). ShowsAll (shown_of old.view) t.pieces (shown_of new.view)) (sym (cut input asks (length input - length rest) (omega arith))) nothing;
          within = λ rest left_is. within input rest is left_is;
          too_long = λ rest left_is no. cc;
        };
        takes = λ input rest is left_is. record { within = within input rest is left_is; too_long = λ no. cc };
        full = λ no. cc;
        read_to_end = tt;
        cause = (refl, (rose, world.area_faults, world.put_faults));
      })
      by_why (inr (inl (is_none, reads))) = subst (RunsWhole Asks tell budget old new) (sym is_none) (record {
        ends = λ input asks is. record {
          shown = first (tell input budget).pieces;
          read_fault = λ rest left_is no. cc;
          within = λ rest left_is. within input rest is left_is;
          too_long = λ rest left_is no. cc;
        };
        takes = λ input rest is left_is. record { within = within input rest is left_is; too_long = λ no. cc };
        full = λ no. cc;
        read_to_end = tt;
        cause = still reads;
      })
      by_why (inr (inr (is_cut, all, reads))) = subst (RunsWhole Asks tell budget old new) (sym is_cut) (record {
        ends = λ input asks is. record {
          shown = subst (λ (t : Told Status). Ends (shown_of old.view) t InputTooLong (shown_of new.view)) (sym (cut input asks budget (full all input is))) (nothing, refl);
          read_fault = λ rest left_is no. cc;
          within = λ rest left_is. within input rest is left_is;
          too_long = λ rest left_is no. too_long all input rest is left_is;
        };
        takes = λ input rest is left_is. record { within = within input rest is left_is; too_long = λ no. too_long all input rest is left_is };
        full = λ no input is. full all input is;
        read_to_end = tt;
        cause = (refl, still reads);
      })
