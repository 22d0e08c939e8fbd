-- What a machine tells of an input, from what its first bytes tell.
use Rattle.std.proofs.Common.{◌≡◌, ℕ, ◌+◌, ◌-◌, ◌<◌, ◌≤◌, Bool, true, false, nat_le, List, ◌++◌, length, take, refl, sym, ap, ◌∙◌, append_assoc, length-append, arith}
use Rattle.std.proofs.Math.Seq.{take-append_seam, take-append-add}
use Rattle.std.proofs.lemmas.Bool.Decides.{nat_tests}
use Rattle.std.proofs.lemmas.List.{append-nil}
use Rattle.pgs_run_lines.specs.Input.{kept_of}
use Rattle.pgs_run_lines.specs.Machine.{Going, Ended, Machine, Told, after_lines, pieces_of_lines, told_at_end, status_at_cut, told_whole, told_cut, told_by}
use Rattle.pgs_run_lines.proofs.Cutting.{kept_goes_on}
use Rattle.pgs_run_lines.proofs.Driven.{after_append, pieces_append, after_ended, pieces_ended}

take_behind : (until more : List ℕ) (budget : ℕ) → length until ≤ budget → take budget (until ++ more) ≡ until ++ take (budget - length until) more
take_behind until more budget few =
    let e : budget ≡ length until + (budget - length until) = omega arith in
    ap (λ n. take n (until ++ more)) e ∙ take-append-add until more (budget - length until)

-- what is told is told of these lines first, and then maybe of more
pub record TellsOn {E : Type 0} (m : Machine E) (s : m.State) (lines : List (List ℕ)) (told : Told E) : Type 0 where
  pub later : List (List ℕ)
  pub is : told.pieces ≡ pieces_of_lines m (Going s) lines ++ later

-- what was told where the run ended with this status
abbrev pub ended_with : {E : Type 0} (m : Machine E) (s : m.State) (lines : List (List ℕ)) → E → Told E
ended_with m s lines status = record { pieces = pieces_of_lines m (Going s) lines; status = status }

module _ {E : Type 0} (m : Machine E) (limit : ℕ) (s : m.State) where
  -- an input that is shorter than the budget
  pub by_whole : (seen : List ℕ) (budget : ℕ) → length seen < budget → told_by m limit s seen budget ≡ told_whole m limit s seen
  unfolding told_by
  by_whole seen budget short = let e : nat_le budget (length seen) ≡ false = grind (arith, nat_tests) in rw e refl

  -- an input that has the bytes of the budget, and maybe more
  pub by_cut : (seen rest : List ℕ) (budget : ℕ) → length seen ≡ budget → told_by m limit s (seen ++ rest) budget ≡ told_cut m limit s seen
  unfolding told_by
  by_cut seen rest budget full =
      let e : nat_le budget (length (seen ++ rest)) ≡ true = let n = length-append seen rest in grind (arith, nat_tests) in
      rw e (ap (told_cut m limit s) (ap (λ n. take n (seen ++ rest)) (sym full) ∙ take-append_seam seen rest))

  -- lines behind lines
  pieces_split : (lines later all : List (List ℕ)) → all ≡ lines ++ later → pieces_of_lines m (Going s) all ≡ pieces_of_lines m (Going s) lines ++ pieces_of_lines m (after_lines m (Going s) lines) later
  pieces_split lines later all parts = ap (pieces_of_lines m (Going s)) parts ∙ pieces_append m (Going s) lines later

  cut_tells : (text : List ℕ) (lines later : List (List ℕ)) → (kept_of limit text).ended ≡ lines ++ later → TellsOn m s lines (told_cut m limit s text)
  cut_tells text lines later parts =
      record { later = pieces_of_lines m (after_lines m (Going s) lines) later; is = pieces_split lines later (kept_of limit text).ended parts }

  whole_tells : (text : List ℕ) (lines later : List (List ℕ)) → (kept_of limit text).ended ≡ lines ++ later → TellsOn m s lines (told_whole m limit s text)
  whole_tells text lines later parts =
      let cut = cut_tells text lines later parts in
      let end = (told_at_end m (after_lines m (Going s) (kept_of limit text).ended) (kept_of limit text).rest).pieces in
      record {
        later = cut.later ++ end;
        is = ap (λ pieces. pieces ++ end) cut.is ∙ append_assoc (pieces_of_lines m (Going s) lines) cut.later end;
      }

  -- where these lines ended the run
  after_end : (lines later all : List (List ℕ)) (status : E) → all ≡ lines ++ later → after_lines m (Going s) lines ≡ Ended status → after_lines m (Going s) all ≡ Ended status
  after_end lines later all status parts ends =
      ap (after_lines m (Going s)) parts ∙ after_append m (Going s) lines later ∙ ap (λ at. after_lines m at later) ends ∙ after_ended m status later

  pieces_end : (lines later all : List (List ℕ)) (status : E) → all ≡ lines ++ later → after_lines m (Going s) lines ≡ Ended status → pieces_of_lines m (Going s) all ≡ pieces_of_lines m (Going s) lines
  pieces_end lines later all status parts ends =
      pieces_split lines later all parts
      ∙ ap (λ more. pieces_of_lines m (Going s) lines ++ more) (ap (λ at. pieces_of_lines m at later) ends ∙ pieces_ended m status later)
      ∙ append-nil (pieces_of_lines m (Going s) lines)

  cut_ended : (text : List ℕ) (lines later : List (List ℕ)) (status : E) → (kept_of limit text).ended ≡ lines ++ later → after_lines m (Going s) lines ≡ Ended status → told_cut m limit s text ≡ ended_with m s lines status
  cut_ended text lines later status parts ends =
      let all = (kept_of limit text).ended in
      ap (λ at. let t : Told E = record { pieces = pieces_of_lines m (Going s) all; status = status_at_cut m at } in t) (after_end lines later all status parts ends)
      ∙ ap (λ pieces. let t : Told E = record { pieces = pieces; status = status } in t) (pieces_end lines later all status parts ends)

  whole_ended : (text : List ℕ) (lines later : List (List ℕ)) (status : E) → (kept_of limit text).ended ≡ lines ++ later → after_lines m (Going s) lines ≡ Ended status → told_whole m limit s text ≡ ended_with m s lines status
  whole_ended text lines later status parts ends =
      let all = (kept_of limit text).ended in
      ap (λ at. let t : Told E = record { pieces = pieces_of_lines m (Going s) all ++ (told_at_end m at (kept_of limit text).rest).pieces; status = (told_at_end m at (kept_of limit text).rest).status } in t) (after_end lines later all status parts ends)
      ∙ ap (λ pieces. let t : Told E = record { pieces = pieces; status = status } in t) (append-nil (pieces_of_lines m (Going s) all) ∙ pieces_end lines later all status parts ends)

  -- the bytes read so far, of which these lines ended, and an input that goes on
  module _ (input bytes rest : List ℕ) (lines later : List (List ℕ)) (budget : ℕ) (input_is : input ≡ bytes ++ rest) (parts : (kept_of limit bytes).ended ≡ lines ++ later) (few : length bytes ≤ budget) where
    goes_on : (more : List ℕ) → (behind : List (List ℕ)) × ((kept_of limit (bytes ++ more)).ended ≡ lines ++ behind)
    goes_on more =
        let on = kept_goes_on limit bytes more in
        (later ++ on.later, on.is ∙ ap (λ front. front ++ on.later) parts ∙ append_assoc lines later on.later)

    by_tells : (cut : Bool) → nat_le budget (length (bytes ++ rest)) ≡ cut → TellsOn m s lines (told_by m limit s (bytes ++ rest) budget)
    unfolding told_by
    by_tells true e =
        let on = goes_on (take (budget - length bytes) rest) in
        let tells = cut_tells (bytes ++ take (budget - length bytes) rest) lines on.0 on.1 in
        record { later = tells.later; is = rw e (ap (λ text. (told_cut m limit s text).pieces) (take_behind bytes rest budget few) ∙ tells.is) }
    by_tells false e =
        let on = goes_on rest in
        let tells = whole_tells (bytes ++ rest) lines on.0 on.1 in record { later = tells.later; is = rw e tells.is }

    -- what these lines tell is a front of what the input tells
    pub tells_on : TellsOn m s lines (told_by m limit s input budget)
    tells_on =
        let tells = by_tells (nat_le budget (length (bytes ++ rest))) refl in
        record { later = tells.later; is = ap (λ text. (told_by m limit s text budget).pieces) input_is ∙ tells.is }

    by_ended : (status : E) (cut : Bool) → nat_le budget (length (bytes ++ rest)) ≡ cut → after_lines m (Going s) lines ≡ Ended status → told_by m limit s (bytes ++ rest) budget ≡ ended_with m s lines status
    unfolding told_by
    by_ended status true e ends =
        let on = goes_on (take (budget - length bytes) rest) in
        rw e (ap (told_cut m limit s) (take_behind bytes rest budget few) ∙ cut_ended (bytes ++ take (budget - length bytes) rest) lines on.0 status on.1 ends)
    by_ended status false e ends = let on = goes_on rest in rw e (whole_ended (bytes ++ rest) lines on.0 status on.1 ends)

    -- and where they end the run it is all of it
    pub ended_by : (status : E) → after_lines m (Going s) lines ≡ Ended status → told_by m limit s input budget ≡ ended_with m s lines status
    ended_by status ends =
        ap (λ text. told_by m limit s text budget) input_is ∙ by_ended status (nat_le budget (length (bytes ++ rest))) refl ends
