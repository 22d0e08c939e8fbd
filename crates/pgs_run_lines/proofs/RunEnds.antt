-- What a run shows of its input, by how the reading ended.
use Rattle.std.proofs.Common.{◌≡◌, ⊎_elim, inl, inr, Bool, true, false, ℕ, ◌+◌, ◌-◌, ◌≤◌, List, [], ◌∷◌, ◌++◌, length, Option, Some, None, Result, Ok, Err, refl, sym, ap, subst, ◌∙◌, length-append, arith}
use Rattle.std.proofs.lemmas.List.{append-nil}
use Rattle.pgs_world.specs.Moment.{IsTimed}
use Rattle.pgs_world.specs.Source.{Takes, IsAtEnd}
use Rattle.pgs_world.specs.World.{View}
use Rattle.pgs_run_lines.specs.declared.reading.End.{End}
use Rattle.pgs_run_lines.specs.declared.reading.End.TheVariants as readings
use Rattle.pgs_run_lines.specs.declared.stop.Stop.{Stop}
use Rattle.pgs_run_lines.specs.declared.stop.Stop.TheVariants as stops
use Rattle.pgs_run_lines.specs.Driving.{Runs, StopsAt}
use Rattle.pgs_run_lines.specs.Ending.{Ends, faults_of, HasCause}
use Rattle.pgs_run_lines.specs.Input.{kept_of}
use Rattle.pgs_run_lines.specs.Machine.{RunState, Going, Ended, Machine, Rule, Scene, Extent, Whole, AtEnd, Told, WhereTold, after_lines, pieces_of_lines, told_at_end, status_at_cut, told_cut, told_by}
use Rattle.pgs_run_lines.specs.Pieces.{Shown, shown_of, ShowsAll}
use Rattle.pgs_run_lines.specs.Reading.{StopsIn, Reads}
use Rattle.pgs_run_lines.specs.Run.{EndsAs, EndsAtLine, EndsBy, IsBetween, IsToldBy, IsFar, IsShort, Allows, EndsWhere}
use Rattle.pgs_run_lines.proofs.FirstBytes.{by_whole, by_cut, tells_on, ended_by}
use Rattle.pgs_run_lines.proofs.Causes.{no_rise}
use Rattle.pgs_run_lines.proofs.ReadingOn.{none_taken}
use Rattle.pgs_run_lines.proofs.Showing.{shows_none, first_of_more, torn_of_more, ends_on}

-- ---- the source

-- what is left of an input that is told
pub record Rest (input seen : List ℕ) (left : Option (List ℕ)) : Type 0 where
  pub rest : List ℕ
  pub left_is : left ≡ Some rest
  pub parts : input ≡ seen ++ rest

rest_by : (input seen : List ℕ) (left : Option (List ℕ)) → Takes (Some input) left seen → Rest input seen left
rest_by input seen None taken = cc
rest_by input seen (Some rest) taken = record { rest = rest; left_is = refl; parts = cc }

pub rest_of : (input seen : List ℕ) (before left : Option (List ℕ)) → before ≡ Some input → Takes before left seen → Rest input seen left
rest_of input seen before left is taken = rest_by input seen left (sym is ∙ taken)

at_end_of : (rest : List ℕ) (left : Option (List ℕ)) → left ≡ Some rest → IsAtEnd left → rest ≡ []
at_end_of rest left is at_end = subst IsAtEnd is at_end

same_some : (xs ys : List ℕ) (left : Option (List ℕ)) → left ≡ Some xs → left ≡ Some ys → xs ≡ ys
same_some xs ys left one other = cc

pub taken_length : (input rest seen : List ℕ) (before left : Option (List ℕ)) → before ≡ Some input → Takes before left seen → left ≡ Some rest → length input ≡ length seen + length rest
taken_length input rest seen before left is taken left_is =
    let of = rest_of input seen before left is taken in
    let same = same_some of.rest rest left of.left_is left_is in
    ap length (of.parts ∙ ap (λ more. seen ++ more) same) ∙ length-append seen rest

-- no more than the budget was taken
within_budget : (input rest seen : List ℕ) (budget : ℕ) (before left : Option (List ℕ)) → before ≡ Some input → Takes before left seen → length seen ≤ budget → left ≡ Some rest → length input ≤ budget + length rest
within_budget input rest seen budget before left is taken few left_is =
    let n = taken_length input rest seen before left is taken left_is in omega arith

-- a source that wasn't read
pub within_unread : (input rest : List ℕ) (budget : ℕ) (left : Option (List ℕ)) → left ≡ Some input → left ≡ Some rest → length input ≤ budget + length rest
within_unread input rest budget left is left_is =
    let n = ap length (same_some input rest left is left_is) in omega arith

-- ---- the end of an input, where pieces are what is put, and where they aren't

told_at : {E : Type 0} (told : Told E) (stop : Stop E) (old now : Shown) → Ends old told stop now → IsToldBy told stop
told_at told (stops.Ended status) old now ends = ends.1
told_at told stops.ReadFault old now ends = tt
told_at told stops.DiskFault old now ends = tt
told_at told stops.PutFault old now ends = tt
told_at told stops.Memory old now ends = tt

pub told_where : {E : Type 0} (tells : Bool) (told : Told E) (stop : Stop E) (old now : Shown) → EndsWhere tells old told stop now → IsToldBy told stop
told_where true told stop old now ends = told_at told stop old now ends
told_where false told stop old now ends = ends

pub ends_where : {E : Type 0} (tells : Bool) (told : Told E) (stop : Stop E) (old now : Shown) → EndsWhere tells old told stop now → tells ≡ true → Ends old told stop now
ends_where true told stop old now ends is = ends
ends_where false told stop old now ends is = cc

-- ---- where an end comes from

same_end : {E : Type 0} (m : Machine E) (other status : E) (lines : List (List ℕ)) → after_lines m (Ended other) lines ≡ Ended status → other ≡ status
same_end m other status [] is = cc
same_end m other status (line ∷ lines) is = same_end m other status lines is

ended_next : {E : Type 0} (m : Machine E) (s : m.State) (line : List ℕ) (lines : List (List ℕ)) (status : E) (next : RunState m.State E) → (m.line s line).next ≡ next → after_lines m (m.line s line).next lines ≡ Ended status → ((t : m.State) → after_lines m (Going t) lines ≡ Ended status → EndsAtLine m status) → EndsAtLine m status
ended_next m s line lines status (Going t) e end later = later t (ap (λ at. after_lines m at lines) (sym e) ∙ end)
ended_next m s line lines status (Ended other) e end later =
    record { state = s; line = line; is = e ∙ ap Ended (same_end m other status lines (ap (λ at. after_lines m at lines) (sym e) ∙ end)) }

-- some line ended the run
pub ended_at : {E : Type 0} (m : Machine E) (s : m.State) (lines : List (List ℕ)) (status : E) → after_lines m (Going s) lines ≡ Ended status → EndsAtLine m status
ended_at m s [] status ends = cc
ended_at m s (line ∷ lines) status ends = ended_next m s line lines status (m.line s line).next refl ends (λ t. ended_at m t lines status)

-- ---- the ends of a run

module _ {E : Type 0} (m : Machine E) (rule : Rule m) (limit : ℕ) (s : m.State) (start : Scene rule.Kept) (budget : ℕ) (before left : Option (List ℕ)) where
  abbrev Told-ends : List ℕ → Stop E → Scene rule.Kept → Type 0
  Told-ends input stop now = EndsAs (told_by m limit s input) (shown_of start.view) input budget left stop (shown_of now.view)

  -- a run that ended so, with no fault of a read
  ended : (input seen : List ℕ) (stop : Stop E) (now : Scene rule.Kept) → before ≡ Some input → Takes before left seen → length seen ≤ budget → (stop ≡ stops.ReadFault → ⊥) → Ends (shown_of start.view) (told_by m limit s input budget) stop (shown_of now.view) → Told-ends input stop now
  ended input seen stop now is taken few no_fault shown = record {
    shown = shown;
    read_fault = λ rest left_is same. absurd (no_fault same);
    within = λ rest left_is. within_budget input rest seen budget before left is taken few left_is;
  }

  -- the input was read to its end
  pub whole_ends : rule.tells ≡ true → (input : List ℕ) (state : m.State) (line : List ℕ) (mid now : Scene rule.Kept) (stop : Stop E) → before ≡ Some input → Reads m rule limit s start budget before left state line (Ok readings.Whole) mid → Ends (shown_of mid.view) (m.rest state line) stop (shown_of now.view) → (stop ≡ stops.ReadFault → ⊥) → Told-ends input stop now
  whole_ends tells input state line mid now stop is r ends no_fault =
      let rest = rest_of input r.bytes before left is r.taken in
      let runs = r.ends.2 in
      let none = at_end_of rest.rest left rest.left_is r.ends.1 in
      let all : input ≡ r.bytes = rest.parts ∙ ap (λ more. r.bytes ++ more) none ∙ append-nil r.bytes in
      let xs = (kept_of limit r.bytes).ended in
      let told : told_by m limit s input budget ≡ record { pieces = pieces_of_lines m (Going s) xs ++ (m.rest state line).pieces; status = (m.rest state line).status } =
      ap (λ bytes. told_by m limit s bytes budget) all ∙ by_whole m limit s r.bytes budget r.ends.0
      ∙ ap (λ at. let t : Told E = record { pieces = pieces_of_lines m (Going s) xs ++ (told_at_end m at (kept_of limit r.bytes).rest).pieces; status = (told_at_end m at (kept_of limit r.bytes).rest).status } in t) runs.stands
      ∙ ap (λ text. let t : Told E = record { pieces = pieces_of_lines m (Going s) xs ++ (m.rest state text).pieces; status = (m.rest state text).status } in t) (sym runs.begun) in
      ended input r.bytes stop now is r.taken (let few = r.ends.0 in omega arith) no_fault
      (subst (λ (t : Told E). Ends (shown_of start.view) t stop (shown_of now.view)) (sym told) (ends_on stop (shown_of start.view) (shown_of mid.view) (shown_of now.view) (pieces_of_lines m (Going s) xs) (m.rest state line) (runs.shows tells) ends))

  -- as many bytes as the budget were taken
  pub cut_ends : rule.tells ≡ true → (input : List ℕ) (state : m.State) (line : List ℕ) (now : Scene rule.Kept) (status : E) → before ≡ Some input → Reads m rule limit s start budget before left state line (Ok readings.Cut) now → status ≡ m.cut state → Told-ends input (stops.Ended status) now
  cut_ends tells input state line now status is r same =
      let rest = rest_of input r.bytes before left is r.taken in
      let runs = r.ends.1 in
      let told : told_by m limit s input budget ≡ told_cut m limit s r.bytes =
      ap (λ bytes. told_by m limit s bytes budget) rest.parts ∙ by_cut m limit s r.bytes rest.rest budget r.ends.0 in
      ended input r.bytes (stops.Ended status) now is r.taken (let full = r.ends.0 in omega arith) (λ e. cc)
      (subst (λ (t : Told E). Ends (shown_of start.view) t (stops.Ended status) (shown_of now.view)) (sym told) (runs.shows tells, ap (status_at_cut m) runs.stands ∙ sym same))

  -- what the reads gave, in the budget's place
  given_told : (input rest seen : List ℕ) → before ≡ Some input → Takes before left seen → left ≡ Some rest → told_by m limit s input (length input - length rest) ≡ told_cut m limit s seen
  given_told input rest seen is taken left_is =
      let of = rest_of input seen before left is taken in
      let same = same_some of.rest rest left of.left_is left_is in
      let parts : input ≡ seen ++ rest = of.parts ∙ ap (λ more. seen ++ more) same in
      let n = taken_length input rest seen before left is taken left_is in
      let count : length seen ≡ length input - length rest = omega arith in
      ap (λ bytes. told_by m limit s bytes (length input - length rest)) parts ∙ by_cut m limit s seen rest (length input - length rest) count

  -- a read failed
  fault_ends : rule.tells ≡ true → (input bytes : List ℕ) (state : m.State) (line : List ℕ) (now : Scene rule.Kept) → before ≡ Some input → Takes before left bytes → length bytes ≤ budget → Runs m rule limit s start bytes state line now → Told-ends input stops.ReadFault now
  fault_ends told input bytes state line now is taken few runs =
      let of = rest_of input bytes before left is taken in
      let tells = tells_on m limit s input bytes of.rest (kept_of limit bytes).ended [] budget of.parts (sym (append-nil (kept_of limit bytes).ended)) few in
      record {
        shown = record { first = pieces_of_lines m (Going s) (kept_of limit bytes).ended; later = tells.later; parts = tells.is; shows = runs.shows told };
        read_fault = λ rest left_is same. subst (λ (t : Told E). ShowsAll (shown_of start.view) t.pieces (shown_of now.view)) (sym (given_told input rest bytes is taken left_is)) (runs.shows told);
        within = λ rest left_is. within_budget input rest bytes budget before left is taken few left_is;
      }

  -- the run was stopped inside the bytes that were read
  stop_ends : rule.tells ≡ true → (input bytes : List ℕ) (state : m.State) (line : List ℕ) (stop : Stop E) (now : Scene rule.Kept) → before ≡ Some input → Takes before left bytes → length bytes ≤ budget → StopsIn m rule limit s start bytes state line stop now → Told-ends input stop now
  stop_ends shown input bytes state line (stops.Ended status) now is taken few at =
      let of = rest_of input bytes before left is taken in
      let told = ended_by m limit s input bytes of.rest at.until at.later budget of.parts at.parts few status at.ends in
      ended input bytes (stops.Ended status) now is taken few (λ e. cc)
      (subst (λ (t : Told E). Ends (shown_of start.view) t (stops.Ended status) (shown_of now.view)) (sym told) (at.shows shown, refl))
  stop_ends shown input bytes state line stops.ReadFault now is taken few at = fault_ends shown input bytes state line now is taken few at
  stop_ends shown input bytes state line stops.PutFault now is taken few at =
      let of = rest_of input bytes before left is taken in
      let tells = tells_on m limit s input bytes of.rest at.until at.later budget of.parts at.parts few in
      ended input bytes stops.PutFault now is taken few (λ e. cc)
      (subst (λ pieces. Ends (shown_of start.view) (record { pieces = pieces; status = (told_by m limit s input budget).status }) stops.PutFault (shown_of now.view)) (sym tells.is) (torn_of_more (shown_of start.view) (shown_of now.view) (pieces_of_lines m (Going s) at.until) tells.later (at.shows shown)))
  stop_ends shown input bytes state line stops.DiskFault now is taken few at =
      let of = rest_of input bytes before left is taken in
      let tells = tells_on m limit s input bytes of.rest at.until at.later budget of.parts at.parts few in
      ended input bytes stops.DiskFault now is taken few (λ e. cc)
      (subst (λ pieces. Ends (shown_of start.view) (record { pieces = pieces; status = (told_by m limit s input budget).status }) stops.DiskFault (shown_of now.view)) (sym tells.is) (first_of_more (shown_of start.view) (shown_of now.view) (pieces_of_lines m (Going s) at.until) tells.later (at.shows shown)))
  stop_ends shown input bytes state line stops.Memory now is taken few at =
      let of = rest_of input bytes before left is taken in
      let tells = tells_on m limit s input bytes of.rest at.until at.later budget of.parts at.parts few in
      ended input bytes stops.Memory now is taken few (λ e. cc)
      (subst (λ pieces. Ends (shown_of start.view) (record { pieces = pieces; status = (told_by m limit s input budget).status }) stops.Memory (shown_of now.view)) (sym tells.is) (first_of_more (shown_of start.view) (shown_of now.view) (pieces_of_lines m (Going s) at.until) tells.later (at.shows shown)))

  pub stopped_ends : rule.tells ≡ true → (input : List ℕ) (state : m.State) (line : List ℕ) (stop : Stop E) (now : Scene rule.Kept) → before ≡ Some input → Reads m rule limit s start budget before left state line (Err stop) now → Told-ends input stop now
  stopped_ends tells input state line stop now is r = stop_ends tells input r.bytes state line stop now is r.taken r.ends.0 r.ends.1

  pub stopped_by : (state : m.State) (line : List ℕ) (stop : Stop E) (now : Scene rule.Kept) → Reads m rule limit s start budget before left state line (Err stop) now → EndsBy m budget before left stop
  stopped_by state line (stops.Ended status) now r = inl (ended_at m s r.ends.1.until status r.ends.1.ends)
  stopped_by state line stops.ReadFault now r = tt
  stopped_by state line stops.DiskFault now r = tt
  stopped_by state line stops.PutFault now r = tt
  stopped_by state line stops.Memory now r = tt

  -- ---- what was done to the world

  abbrev Far : List ℕ → List (List ℕ) → List (List ℕ) → Stop E → Extent E → Type 0
  Far bytes lines later stop extent = IsFar m limit s budget left bytes lines later stop extent

  abbrev Allowed : Stop E → Scene rule.Kept → Type 0
  Allowed stop now = Allows m rule limit s budget before left stop start now

  allows_at : (bytes : List ℕ) (stop : Stop E) (now : Scene rule.Kept) → Takes before left bytes → length bytes ≤ budget → StopsAt m rule s start (kept_of limit bytes).ended stop now → Allowed stop now
  allows_at bytes stop now taken few at = record {
    bytes = bytes;
    taken = taken;
    lines = at.until;
    later = at.later;
    parts = at.parts;
    extent = at.extent;
    short = ⊎_elim (λ inside. subst (λ (extent : Extent E). IsShort budget (length bytes) extent) (sym inside) few)
        (λ none. subst (λ (extent : Extent E). IsShort budget (length bytes) extent) (sym none.0) few) at.inside;
    far = ⊎_elim (λ inside. subst (λ (extent : Extent E). Far bytes at.until at.later stop extent) (sym inside) (refl, at.ends))
        (λ none. subst (λ (extent : Extent E). Far bytes at.until at.later stop extent) (sym none.0)
        (subst (λ (why : Stop E). IsBetween m s budget bytes at.until at.later why) (sym none.1) tt))
        at.inside;
    allowed = at.allowed;
  }

  allows_runs : (bytes : List ℕ) (state : m.State) (line : List ℕ) (stop : Stop E) (now : Scene rule.Kept) → Takes before left bytes → length bytes ≤ budget → Runs m rule limit s start bytes state line now → IsBetween m s budget bytes (kept_of limit bytes).ended [] stop → Allowed stop now
  allows_runs bytes state line stop now taken few runs far = record {
    bytes = bytes;
    taken = taken;
    lines = (kept_of limit bytes).ended;
    later = [];
    parts = sym (append-nil (kept_of limit bytes).ended);
    extent = Whole;
    short = few;
    far = far;
    allowed = runs.allowed;
  }

  pub stopped_allows : (state : m.State) (line : List ℕ) (stop : Stop E) (now : Scene rule.Kept) → Reads m rule limit s start budget before left state line (Err stop) now → Allowed stop now
  stopped_allows state line (stops.Ended status) now r = allows_at r.bytes (stops.Ended status) now r.taken r.ends.0 r.ends.1
  stopped_allows state line stops.ReadFault now r = allows_runs r.bytes state line stops.ReadFault now r.taken r.ends.0 r.ends.1 refl
  stopped_allows state line stops.DiskFault now r = allows_at r.bytes stops.DiskFault now r.taken r.ends.0 r.ends.1
  stopped_allows state line stops.PutFault now r = allows_at r.bytes stops.PutFault now r.taken r.ends.0 r.ends.1
  stopped_allows state line stops.Memory now r = allows_at r.bytes stops.Memory now r.taken r.ends.0 r.ends.1

  pub cut_allows : (state : m.State) (line : List ℕ) (status : E) (now : Scene rule.Kept) → Reads m rule limit s start budget before left state line (Ok readings.Cut) now → status ≡ m.cut state → Allowed (stops.Ended status) now
  cut_allows state line status now r same =
      let runs = r.ends.1 in
      allows_runs r.bytes state line (stops.Ended status) now r.taken (let full = r.ends.0 in omega arith) runs (refl, r.ends.0, ap (status_at_cut m) runs.stands ∙ sym same)

  pub whole_allows : (state : m.State) (line : List ℕ) (stop : Stop E) (mid now : Scene rule.Kept) → Reads m rule limit s start budget before left state line (Ok readings.Whole) mid → IsToldBy (m.rest state line) stop → rule.allows state [] (AtEnd line stop) mid now → Allowed stop now
  whole_allows state line stop mid now r told end =
      let runs = r.ends.2 in
      let xs = (kept_of limit r.bytes).ended in
      record {
        bytes = r.bytes;
        taken = r.taken;
        lines = xs;
        later = [];
        parts = sym (append-nil xs);
        extent = AtEnd line stop;
        short = r.ends.0;
        far = (refl, runs.begun, refl, r.ends.1, subst (λ (at : RunState m.State E). IsToldBy (told_at_end m at line) stop) (sym runs.stands) told);
        allowed = subst (λ lines. rule.allows s lines (AtEnd line stop) start now) (append-nil xs) (rule.on s state xs [] (AtEnd line stop) start mid now runs.stands runs.holds runs.allowed end);
      }

-- a run that ended before the first read
pub unread_ends : {E : Type 0} (m : Machine E) (limit : ℕ) (s : m.State) (start : Shown) (budget : ℕ) (left : Option (List ℕ)) (input : List ℕ) → left ≡ Some input → EndsAs (told_by m limit s input) start input budget left stops.Memory start
unread_ends m limit s start budget left input is = record {
  shown = record { first = []; later = (told_by m limit s input budget).pieces; parts = refl; shows = shows_none start };
  read_fault = λ rest left_is same. cc;
  within = λ rest left_is. within_unread input rest budget left is left_is;
}

pub unread_allows : {E : Type 0} (m : Machine E) (rule : Rule m) (limit : ℕ) (s : m.State) (budget : ℕ) (left : Option (List ℕ)) (scene : Scene rule.Kept) → IsTimed scene.view → rule.holds s scene.view → Allows m rule limit s budget left left stops.Memory scene scene
unread_allows m rule limit s budget left scene timed holds = record {
  bytes = [];
  taken = none_taken left;
  lines = [];
  later = (kept_of limit []).ended;
  parts = refl;
  extent = Whole;
  short = omega arith;
  far = tt;
  allowed = rule.none s scene timed holds;
}

-- ---- what is known where the reading ended

pub reads_as : {E : Type 0} (m : Machine E) (rule : Rule m) (limit same : ℕ) (s : m.State) (start : Scene rule.Kept) (budget : ℕ) (before left : Option (List ℕ)) (state : m.State) (line : List ℕ) (result so : Result End (Stop E)) (now : Scene rule.Kept) → same ≡ limit → result ≡ so → Reads m rule same s start budget before left state line result now → Reads m rule limit s start budget before left state line so now
reads_as m rule limit same s start budget before left state line result so now is same_result reads =
    subst (λ r. Reads m rule limit s start budget before left state line r now) same_result (subst (λ n. Reads m rule n s start budget before left state line result now) is reads)

pub reads_how : {E : Type 0} (m : Machine E) (rule : Rule m) (limit same : ℕ) (s : m.State) (start : Scene rule.Kept) (budget : ℕ) (before left : Option (List ℕ)) (state : m.State) (line : List ℕ) (result : Result End (Stop E)) (how so : End) (now : Scene rule.Kept) → same ≡ limit → result ≡ Ok how → how ≡ so → Reads m rule same s start budget before left state line result now → Reads m rule limit s start budget before left state line (Ok so) now
reads_how m rule limit same s start budget before left state line result how so now is same_result same_how reads =
    subst (λ h. Reads m rule limit s start budget before left state line (Ok h) now) same_how (reads_as m rule limit same s start budget before left state line result (Ok how) now is same_result reads)

pub no_read_fault : {E : Type 0} (old new : View) (stop : Stop E) → HasCause (faults_of 0 old) (faults_of 0 new) stop → stop ≡ stops.ReadFault → ⊥
no_read_fault old new stop cause is = let c = subst (HasCause (faults_of 0 old) (faults_of 0 new)) is cause in no_rise 0 c.0 refl

-- the end of the input gave the status
pub whole_by : {E : Type 0} (m : Machine E) (rule : Rule m) (limit : ℕ) (s : m.State) (start : Scene rule.Kept) (budget : ℕ) (before left : Option (List ℕ)) (state : m.State) (line : List ℕ) (mid : Scene rule.Kept) (stop : Stop E) → Reads m rule limit s start budget before left state line (Ok readings.Whole) mid → IsToldBy (m.rest state line) stop → EndsBy m budget before left stop
whole_by m rule limit s start budget before left state line mid (stops.Ended status) r told = inr (inl (record { state = state; rest = line; is = told; at_end = r.ends.1 }))
whole_by m rule limit s start budget before left state line mid stops.ReadFault r told = tt
whole_by m rule limit s start budget before left state line mid stops.DiskFault r told = tt
whole_by m rule limit s start budget before left state line mid stops.PutFault r told = tt
whole_by m rule limit s start budget before left state line mid stops.Memory r told = tt

-- the end of the budget gave it
pub cut_by : {E : Type 0} (m : Machine E) (rule : Rule m) (limit : ℕ) (s : m.State) (start : Scene rule.Kept) (budget : ℕ) (before left : Option (List ℕ)) (state : m.State) (line : List ℕ) (now : Scene rule.Kept) (status : E) → Reads m rule limit s start budget before left state line (Ok readings.Cut) now → status ≡ m.cut state → EndsBy m budget before left (stops.Ended status)
cut_by m rule limit s start budget before left state line now status r same =
    inr (inr (record { state = state; is = sym same; bytes = r.bytes; taken = r.taken; full = r.ends.0 }))
