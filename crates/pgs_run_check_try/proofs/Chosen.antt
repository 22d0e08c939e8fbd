-- A run ends as is told with the causes that it chose.
use Rattle.std.proofs.Common.{◌≡◌, ℕ, ◌-◌, ◌≤◌, List, [], ◌++◌, length, Option, Some, refl, sym, ap, subst, ◌∙◌, arith}
use Rattle.std.proofs.lemmas.List.{append-nil}
use Rattle.pgs_world.specs.Source.{Takes, IsAtEnd}
use Rattle.pgs_run_lines.specs.declared.stop.Stop.{Stop}
use Rattle.pgs_run_lines.specs.declared.stop.Stop.TheVariants as stops
use Rattle.pgs_run_lines.specs.Driving.{IsEndAt}
use Rattle.pgs_run_lines.specs.Ending.{Ends, Shows}
use Rattle.pgs_run_lines.specs.Input.{kept_of}
use Rattle.pgs_run_lines.specs.Machine.{RunState, Going, Ended, Scene, Extent, Whole, Inside, AtEnd, Told, after_lines, pieces_of_lines, status_at_cut, told_at_end, told_by, told_cut}
use Rattle.pgs_run_lines.specs.May.{MayPut}
use Rattle.pgs_run_lines.specs.Pieces.{Shown, ShowsAll, shown_of}
use Rattle.pgs_run_lines.specs.Run.{Allows, EndsAs, IsFar, IsShort}
use Rattle.pgs_run_lines.proofs.FirstBytes.{by_cut, by_whole, ended_by, tells_on}
use Rattle.pgs_run_lines.proofs.RunEnds.{rest_of, taken_length}
use Rattle.pgs_run_lines.proofs.Showing.{all_first, first_of_more, torn_of_more}
use Rattle.pgs_command.specs.declared.status.Status.{Status}
use Rattle.pgs_run_check_try.specs.declared.phase.Phase.{Phase}
use Rattle.pgs_run_check_try.specs.Explaining.{deciding, explaining}
use Rattle.pgs_run_check_try.specs.Rule.{AgreesOn, IsAsked, ShowsSo, explains, same_lines}
use Rattle.pgs_run_check_try.specs.Told.{Causes}

module _ (causes : Causes) (limit : ℕ) (s : Phase) (budget : ℕ) (before left : Option (List ℕ)) (start now : Shown) (bytes : List ℕ) (lines later : List (List ℕ)) where
  abbrev told : List ℕ → ℕ → Told Status
  told = told_by (explaining causes) limit s

  abbrev pieces : List (List ℕ) → List (List ℕ)
  pieces = pieces_of_lines (explaining causes) (Going s)

  -- the states are those of what decides
  stands : (xs : List (List ℕ)) → after_lines (explaining causes) (Going s) xs ≡ after_lines deciding (Going s) xs
  stands = same_lines causes (Going s)

  cut_at : (at : RunState Phase Status) → status_at_cut (explaining causes) at ≡ status_at_cut deciding at
  cut_at (Going phase) = refl
  cut_at (Ended status) = refl

  -- ---- what is known of the input

  module _ (input : List ℕ) (is : before ≡ Some input) (taken : Takes before left bytes) (parts : (kept_of limit bytes).ended ≡ lines ++ later) where
    input_is : input ≡ bytes ++ (rest_of input bytes before left is taken).rest
    input_is = (rest_of input bytes before left is taken).parts

    all_taken : later ≡ [] → (kept_of limit bytes).ended ≡ lines
    all_taken none = parts ∙ ap (λ more. lines ++ more) none ∙ append-nil lines

    cut_told : later ≡ [] → told_cut (explaining causes) limit s bytes ≡ record { pieces = pieces lines; status = status_at_cut deciding (after_lines deciding (Going s) lines) }
    cut_told none =
        ap (λ xs. let t : Told Status = record { pieces = pieces xs; status = status_at_cut (explaining causes) (after_lines (explaining causes) (Going s) xs) } in t) (all_taken none)
        ∙ ap (λ status. let t : Told Status = record { pieces = pieces lines; status = status } in t) (ap (status_at_cut (explaining causes)) (stands lines) ∙ cut_at (after_lines deciding (Going s) lines))

    -- some first pieces, and the next, of what is told
    first_told : length bytes ≤ budget → (more : List (List ℕ)) × ((told input budget).pieces ≡ pieces lines ++ more)
    first_told few =
        let tells = tells_on (explaining causes) limit s input bytes (rest_of input bytes before left is taken).rest lines later budget input_is parts few in
        (tells.later, tells.is)

    abbrev EndsSo : Stop Status → Type 0
    EndsSo stop = Ends start (told input budget) stop now

    first_ends : (stop : Stop Status) → MayPut stop → length bytes ≤ budget → IsEndAt (after_lines deciding (Going s) lines) stop → Shows start (pieces lines) stop now → EndsSo stop
    first_ends (stops.Ended status) may few ends shows =
        let all = ended_by (explaining causes) limit s input bytes (rest_of input bytes before left is taken).rest lines later budget input_is parts few status (stands lines ∙ ends) in
        subst (λ (t : Told Status). Ends start t (stops.Ended status) now) (sym all) (shows, refl)
    first_ends stops.ReadFault may few ends shows = absurd may
    first_ends stops.DiskFault may few ends shows = absurd may
    first_ends stops.PutFault may few ends shows =
        let more = first_told few in
        subst (λ ps. Ends start (record { pieces = ps; status = (told input budget).status }) stops.PutFault now) (sym more.1) (torn_of_more start now (pieces lines) more.0 shows)
    first_ends stops.Memory may few ends shows =
        let more = first_told few in
        subst (λ ps. Ends start (record { pieces = ps; status = (told input budget).status }) stops.Memory now) (sym more.1) (first_of_more start now (pieces lines) more.0 shows)

    -- ---- where the lines were taken

    whole_ends : (stop : Stop Status) → length bytes ≤ budget → IsFar deciding limit s budget left bytes lines later stop Whole → ShowsAll start (pieces lines) now → EndsSo stop
    whole_ends (stops.Ended status) few far shows =
        let all : told input budget ≡ told_cut (explaining causes) limit s bytes =
        ap (λ text. told text budget) input_is ∙ by_cut (explaining causes) limit s bytes (rest_of input bytes before left is taken).rest budget far.1 in
        subst (λ (t : Told Status). Ends start t (stops.Ended status) now) (sym (all ∙ cut_told far.0)) (shows, far.2)
    whole_ends stops.ReadFault few far shows =
        let more = first_told few in
        subst (λ ps. Ends start (record { pieces = ps; status = (told input budget).status }) stops.ReadFault now) (sym more.1) (all_first start now (pieces lines) more.0 shows)
    whole_ends stops.DiskFault few far shows = absurd far
    whole_ends stops.PutFault few far shows = absurd far
    whole_ends stops.Memory few far shows =
        let more = first_told few in
        subst (λ ps. Ends start (record { pieces = ps; status = (told input budget).status }) stops.Memory now) (sym more.1) (all_first start now (pieces lines) more.0 shows)

    -- and the end of the input
    end_ends : (rest : List ℕ) (at stop : Stop Status) → IsShort budget (length bytes) (AtEnd rest at) → IsFar deciding limit s budget left bytes lines later stop (AtEnd rest at)
        → ShowsSo causes s lines (AtEnd rest at) start now → EndsSo stop
    end_ends rest at stop short far shows =
        let m = explaining causes in
        let of = rest_of input bytes before left is taken in
        let none : of.rest ≡ [] = subst IsAtEnd of.left_is far.3 in
        let all : input ≡ bytes = input_is ∙ ap (λ more. bytes ++ more) none ∙ append-nil bytes in
        let end : List (List ℕ) → List ℕ → Told Status = λ xs text.
        let last = told_at_end m (after_lines m (Going s) xs) text in record { pieces = pieces xs ++ last.pieces; status = last.status } in
        let whole : told input budget ≡ end lines rest =
        ap (λ text. told text budget) all ∙ by_whole m limit s bytes budget short
        ∙ ap (λ xs. end xs (kept_of limit bytes).rest) (all_taken far.2) ∙ ap (end lines) (sym far.1) in
        subst (λ (t : Told Status). Ends start t stop now) (sym whole) (subst (λ (x : Stop Status). Ends start (end lines rest) x now) far.0 shows.1)

    ends_by : (extent : Extent Status) (stop : Stop Status) → IsShort budget (length bytes) extent → IsFar deciding limit s budget left bytes lines later stop extent
        → ShowsSo causes s lines extent start now → EndsSo stop
    ends_by Whole stop short far shows = whole_ends stop short far shows
    ends_by (Inside at) stop short far shows =
        first_ends stop (subst MayPut far.0 shows.0) short far.1 (subst (λ (x : Stop Status). Shows start (pieces lines) x now) far.0 shows.1)
    ends_by (AtEnd rest at) stop short far shows = end_ends rest at stop short far shows

    -- ---- what the reads gave, where one failed

    fault_told : (rest : List ℕ) → left ≡ Some rest → later ≡ [] → ShowsAll start (pieces lines) now → ShowsAll start (told input (length input - length rest)).pieces now
    fault_told rest left_is none shows =
        let n = taken_length input rest bytes before left is taken left_is in
        let count : length bytes ≡ length input - length rest = omega (arith, n) in
        let all : told input (length input - length rest) ≡ told_cut (explaining causes) limit s bytes =
        ap (λ text. told text (length input - length rest)) input_is
        ∙ by_cut (explaining causes) limit s bytes (rest_of input bytes before left is taken).rest (length input - length rest) count in
        subst (λ (t : Told Status). ShowsAll start t.pieces now) (sym (all ∙ cut_told none)) shows

    read_fault : (extent : Extent Status) (stop : Stop Status) → IsFar deciding limit s budget left bytes lines later stop extent → ShowsSo causes s lines extent start now
        → (rest : List ℕ) → left ≡ Some rest → stop ≡ stops.ReadFault → ShowsAll start (told input (length input - length rest)).pieces now
    read_fault Whole stop far shows rest left_is fault =
        fault_told rest left_is (subst (λ (x : Stop Status). IsFar deciding limit s budget left bytes lines later x Whole) fault far) shows
    read_fault (Inside at) stop far shows rest left_is fault = absurd (subst MayPut (far.0 ∙ fault) shows.0)
    read_fault (AtEnd end at) stop far shows rest left_is fault = absurd (subst MayPut (far.0 ∙ fault) shows.0)

    short_of : (extent : Extent Status) → IsShort budget (length bytes) extent → length bytes ≤ budget
    short_of Whole short = short
    short_of (Inside at) short = short
    short_of (AtEnd rest at) short = omega (arith, short)

    ends_as : (extent : Extent Status) (stop : Stop Status) → IsShort budget (length bytes) extent → IsFar deciding limit s budget left bytes lines later stop extent
        → ShowsSo causes s lines extent start now → EndsAs (told input) start input budget left stop now
    ends_as extent stop short far shows = record {
      shown = ends_by extent stop short far shows;
      read_fault = read_fault extent stop far shows;
      within = λ rest left_is. let n = taken_length input rest bytes before left is taken left_is in let few = short_of extent short in omega (arith, n, few);
    }

-- the run ends so with all causes that agree where its lines ask for some
pub chosen_ends : (limit : ℕ) (s : Phase) (budget : ℕ) (before left : Option (List ℕ)) (stop : Stop Status) (old new : Scene (Unit {0})) (a : Allows deciding explains limit s budget before left stop old new)
    (causes : Causes) → AgreesOn (IsAsked s a.lines a.extent) a.allowed.causes causes → (input : List ℕ) → before ≡ Some input
    → EndsAs (told_by (explaining causes) limit s input) (shown_of old.view) input budget left stop (shown_of new.view)
chosen_ends limit s budget before left stop old new a causes agrees input is =
    ends_as causes limit s budget before left (shown_of old.view) (shown_of new.view) a.bytes a.lines a.later input is a.taken a.parts a.extent stop a.short a.far (a.allowed.explained causes agrees).shows
