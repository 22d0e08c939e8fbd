-- The causes of all lines of an input are right, by what is known of those that were taken.
use Rattle.std.proofs.Common.{◌≡◌, inl, inr, ℕ, ◌+◌, ◌-◌, ◌<◌, ◌≤◌, Bool, true, false, nat_le, List, [], ◌∷◌, ◌++◌, length, map, take, Option, Some, refl, sym, ap, subst, ◌∙◌, append_assoc, length-append, arith}
use Rattle.std.proofs.Math.Seq.{take-append_seam, take-append-add}
use Rattle.std.proofs.lemmas.Bool.Decides.{nat_tests}
use Rattle.std.proofs.lemmas.List.{append-nil, map-append}
use Rattle.pgs_world.specs.Source.{IsAtEnd, Takes}
use Rattle.pgs_run_lines.specs.declared.stop.Stop.{Stop}
use Rattle.pgs_run_lines.specs.declared.stop.Stop.TheVariants as stops
use Rattle.pgs_run_lines.specs.Driving.{IsEndAt}
use Rattle.pgs_run_lines.specs.Input.{kept_of, lines_of}
use Rattle.pgs_run_lines.specs.Machine.{RunState, Going, Ended, Extent, Whole, Inside, AtEnd, after_lines}
use Rattle.pgs_run_lines.specs.Pieces.{Shown}
use Rattle.pgs_run_lines.specs.Run.{IsFar, IsShort}
use Rattle.pgs_run_lines.proofs.Cutting.{lines_of_goes_on}
use Rattle.pgs_run_lines.proofs.Driven.{after_append, after_ended}
use Rattle.pgs_run_lines.proofs.RunEnds.{rest_of}
use Rattle.pgs_command.specs.declared.status.Status.{Status}
use Rattle.pgs_command.specs.Ending.{status_at}
use Rattle.pgs_command.specs.Run.{IsDisturbed}
use Rattle.pgs_run_input.specs.Input.{text_front, text_limit}
use Rattle.pgs_run_check_try.specs.declared.phase.Phase.{Phase}
use Rattle.pgs_run_check_try.specs.Explaining.{deciding}
use Rattle.pgs_run_check_try.specs.Right.{lines_within}
use Rattle.pgs_run_check_try.specs.Rule.{IsFault, RightBehind, RightFrom, RightTo, place_at, place_to, right_more, weaker, wider_from}
use Rattle.pgs_run_check_try.specs.Told.{Causes}
use Rattle.pgs_run_check_try.proofs.Right.{LacksFrom, Rightly, lines_ended, lines_lack, part_lacks}

-- ---- the lines of an input of which these bytes were taken

abbrev Begins : List (List ℕ) → List (List ℕ) → Type 0
Begins all first = (more : List (List ℕ)) × (all ≡ first ++ more)

within_by : (bytes rest : List ℕ) (budget : ℕ) (cut : Bool) → nat_le budget (length (bytes ++ rest)) ≡ cut → length bytes ≤ budget → Begins (lines_within (bytes ++ rest) budget) (lines_of bytes).ended
within_by bytes rest budget true e few =
    let on = lines_of_goes_on bytes (take (budget - length bytes) rest) in
    let n : budget ≡ length bytes + (budget - length bytes) = omega arith in
    let front : take budget (bytes ++ rest) ≡ bytes ++ take (budget - length bytes) rest =
    ap (λ n. take n (bytes ++ rest)) n ∙ take-append-add bytes rest (budget - length bytes) in
    (on.later, rw e (ap (λ text. (lines_of text).ended) front ∙ on.is))
within_by bytes rest budget false e few =
    let on = lines_of_goes_on bytes rest in
    let last = (lines_of (bytes ++ rest)).rest ∷ [] in
    (on.later ++ last, rw e (ap (λ lines. lines ++ last) on.is ∙ append_assoc (lines_of bytes).ended on.later last))

within_cut : (bytes rest : List ℕ) (budget : ℕ) → length bytes ≡ budget → lines_within (bytes ++ rest) budget ≡ (lines_of bytes).ended
within_cut bytes rest budget full =
    let e : nat_le budget (length (bytes ++ rest)) ≡ true = let n = length-append bytes rest in grind (arith, nat_tests) in
    rw e (ap (λ text. (lines_of text).ended) (ap (λ n. take n (bytes ++ rest)) (sym full) ∙ take-append_seam bytes rest))

within_whole : (bytes : List ℕ) (budget : ℕ) → length bytes < budget → lines_within bytes budget ≡ (lines_of bytes).ended ++ (lines_of bytes).rest ∷ []
within_whole bytes budget short = let e : nat_le budget (length bytes) ≡ false = grind (arith, nat_tests) in rw e refl

abbrev pub fronts : List ℕ → ℕ → List (List ℕ)
fronts input budget = map text_front (lines_within input budget)

kept_ended : (bytes : List ℕ) → (kept_of text_limit bytes).ended ≡ map text_front (lines_of bytes).ended
unfolding kept_of
kept_ended bytes = refl

kept_rest : (bytes : List ℕ) → (kept_of text_limit bytes).rest ≡ text_front (lines_of bytes).rest
unfolding kept_of
kept_rest bytes = refl

-- ---- which causes may lack

disturbed : (stop : Stop Status) → IsFault stop → IsDisturbed (status_at stop)
disturbed (stops.Ended status) fault = absurd fault
disturbed stops.ReadFault fault = inl refl
disturbed stops.DiskFault fault = inr (inr (inr refl))
disturbed stops.PutFault fault = inr (inl refl)
disturbed stops.Memory fault = inr (inr (inl refl))

module _ (causes : Causes) (s : Phase) (budget : ℕ) (before left : Option (List ℕ)) (start now : Shown) (bytes : List ℕ) (lines later : List (List ℕ)) (stop : Stop Status) where
  abbrev Stopped : Type 0
  Stopped = IsDisturbed (status_at stop)

  abbrev at : RunState Phase Status
  at = after_lines deciding (Going s) lines

  abbrev IsRight : List (List ℕ) → Type 0
  IsRight all = Rightly Stopped causes (Going s) all

  -- of these lines and more
  right_on : (more all : List (List ℕ)) → all ≡ lines ++ more → RightFrom Stopped causes (Going s) lines → RightFrom Stopped causes at more → RightBehind causes (after_lines deciding at more) → IsRight all
  right_on more all is own rest behind =
      subst IsRight (sym is) (
        right_more Stopped causes (Going s) lines more own rest,
        subst (RightBehind causes) (sym (after_append deciding (Going s) lines more)) behind,
      )

  right_stopped : (more all : List (List ℕ)) → all ≡ lines ++ more → RightFrom Stopped causes (Going s) lines → Stopped → LacksFrom Stopped causes (place_at at) → IsRight all
  right_stopped more all is own stopped none = right_on more all is own (lines_lack Stopped causes at more stopped none) (part_lacks Stopped causes at more none)

  right_ended : (status : Status) (more all : List (List ℕ)) → all ≡ lines ++ more → RightFrom Stopped causes (Going s) lines → at ≡ Ended status → IsRight all
  right_ended status more all is own ended =
      right_on more all is own (subst (λ (to : RunState Phase Status). RightFrom Stopped causes to more) (sym ended) (lines_ended Stopped causes status more))
      (subst (RightBehind causes) (sym (ap (λ (to : RunState Phase Status). after_lines deciding to more) ended ∙ after_ended deciding status more)) tt)

  module _ (input : List ℕ) (is : before ≡ Some input) (taken : Takes before left bytes) (parts : (kept_of text_limit bytes).ended ≡ lines ++ later) where
    abbrev rest : List ℕ
    rest = (rest_of input bytes before left is taken).rest

    input_is : input ≡ bytes ++ rest
    input_is = (rest_of input bytes before left is taken).parts

    -- the lines that were taken come first
    taken_first : length bytes ≤ budget → Begins (fronts input budget) lines
    taken_first few =
        let first = within_by bytes rest budget (nat_le budget (length (bytes ++ rest))) refl few in (
          later ++ map text_front first.0,
          ap (λ text. fronts text budget) input_is ∙ ap (map text_front) first.1 ∙ map-append text_front (lines_of bytes).ended first.0
              ∙ ap (λ xs. xs ++ map text_front first.0) (sym (kept_ended bytes) ∙ parts) ∙ append_assoc lines later (map text_front first.0),
        )

    -- and are all where the budget was reached
    taken_cut : length bytes ≡ budget → later ≡ [] → fronts input budget ≡ lines
    taken_cut full none =
        ap (λ text. fronts text budget) input_is ∙ ap (map text_front) (within_cut bytes rest budget full)
        ∙ sym (kept_ended bytes) ∙ parts ∙ ap (λ more. lines ++ more) none ∙ append-nil lines

    taken_end : length bytes < budget → later ≡ [] → IsAtEnd left → (end : List ℕ) → end ≡ (kept_of text_limit bytes).rest → fronts input budget ≡ lines ++ end ∷ []
    taken_end short none at_end end same =
        let of = rest_of input bytes before left is taken in
        let nothing : of.rest ≡ [] = subst IsAtEnd of.left_is at_end in
        let all : input ≡ bytes = input_is ∙ ap (λ more. bytes ++ more) nothing ∙ append-nil bytes in
        ap (λ text. fronts text budget) all ∙ ap (map text_front) (within_whole bytes budget short)
        ∙ map-append text_front (lines_of bytes).ended ((lines_of bytes).rest ∷ [])
        ∙ ap (λ xs. xs ++ text_front (lines_of bytes).rest ∷ []) (sym (kept_ended bytes) ∙ parts ∙ ap (λ more. lines ++ more) none ∙ append-nil lines)
        ∙ ap (λ text. lines ++ text ∷ []) (sym (kept_rest bytes) ∙ sym same)

    whole_right : (x : Stop Status) → x ≡ stop → length bytes ≤ budget → IsFar deciding text_limit s budget left bytes lines later x Whole → RightTo causes s lines Whole → LacksFrom Stopped causes (place_at at) → IsRight (fronts input budget)
    whole_right (stops.Ended status) same few far right none =
        right_on [] (fronts input budget) (taken_cut far.1 far.0 ∙ sym (append-nil lines)) (weaker Stopped causes (Going s) lines right) tt (part_lacks Stopped causes at [] none)
    whole_right stops.ReadFault same few far right none =
        let first = taken_first few in
        right_stopped first.0 (fronts input budget) first.1 (weaker Stopped causes (Going s) lines right) (subst (λ (x : Stop Status). IsDisturbed (status_at x)) same (disturbed stops.ReadFault tt)) none
    whole_right stops.DiskFault same few far right none = absurd far
    whole_right stops.PutFault same few far right none = absurd far
    whole_right stops.Memory same few far right none =
        let first = taken_first few in
        right_stopped first.0 (fronts input budget) first.1 (weaker Stopped causes (Going s) lines right) (subst (λ (x : Stop Status). IsDisturbed (status_at x)) same (disturbed stops.Memory tt)) none

    inside_right : (x : Stop Status) → x ≡ stop → length bytes ≤ budget → IsEndAt at x → RightFrom (IsFault x) causes (Going s) lines → LacksFrom Stopped causes (place_at at) → IsRight (fronts input budget)
    inside_right x same few ends right none =
        let first = taken_first few in
        let to : IsFault x → Stopped = λ fault. subst (λ (x : Stop Status). IsDisturbed (status_at x)) same (disturbed x fault) in
        let own = wider_from (IsFault x) Stopped to causes (Going s) lines right in
        by x ends to first.0 first.1 own
      where
        by : (x : Stop Status) → IsEndAt at x → (IsFault x → Stopped) → (more : List (List ℕ)) → fronts input budget ≡ lines ++ more → RightFrom Stopped causes (Going s) lines → IsRight (fronts input budget)
        by (stops.Ended status) ends to more all own = right_ended status more (fronts input budget) all own ends
        by stops.ReadFault ends to more all own = right_stopped more (fronts input budget) all own (to tt) none
        by stops.DiskFault ends to more all own = right_stopped more (fronts input budget) all own (to tt) none
        by stops.PutFault ends to more all own = right_stopped more (fronts input budget) all own (to tt) none
        by stops.Memory ends to more all own = right_stopped more (fronts input budget) all own (to tt) none

    end_right : (end : List ℕ) (x : Stop Status) → IsShort budget (length bytes) (AtEnd end x) → IsFar deciding text_limit s budget left bytes lines later stop (AtEnd end x) → RightTo causes s lines (AtEnd end x) → IsRight (fronts input budget)
    end_right end x short far right =
        subst IsRight (sym (taken_end short far.2 far.3 end far.1)) (
          wider_from (IsFault x) Stopped (λ fault. subst (λ (x : Stop Status). IsDisturbed (status_at x)) far.0 (disturbed x fault)) causes (Going s) (lines ++ end ∷ []) right.0,
          right.1,
        )

    pub all_right : (extent : Extent Status) → IsShort budget (length bytes) extent → IsFar deciding text_limit s budget left bytes lines later stop extent → RightTo causes s lines extent
        → LacksFrom Stopped causes (place_to s lines extent) → IsRight (fronts input budget)
    all_right Whole short far right none = whole_right stop refl short far right none
    all_right (Inside x) short far right none =
        inside_right x far.0 short (subst (IsEndAt at) (sym far.0) far.1) right none
    all_right (AtEnd end x) short far right none = end_right end x short far right
