-- What deciding lines does to a world: there are causes by which all that is told was put, and they are right. It may do nothing, and one
-- thing after another.
use Rattle.std.proofs.Common.{◌≡◌, inl, inr, ⊎_elim, ℕ, ◌+◌, ◌<◌, ◌≤◌, Bool, true, false, nat_lt, cond, List, [], ◌∷◌, ◌++◌, Result, Ok, Err, refl, sym, ap, subst, ◌∙◌, append_assoc, arith}
use Rattle.std.specs.Prelude.{MatchBool}
use Rattle.std.proofs.lemmas.Bool.Decides.{nat_tests}
use Rattle.pgs_base.specs.Graph.{Graph}
use Rattle.pgs_run_lines.specs.declared.stop.Stop.{Stop}
use Rattle.pgs_run_lines.specs.declared.stop.Stop.TheVariants as stops
use Rattle.pgs_run_lines.specs.AreasKept.{KeepsAreas, keeps_none, keeps_on}
use Rattle.pgs_run_lines.specs.Ending.{Ends, Shows}
use Rattle.pgs_run_lines.specs.Machine.{Rule, RunState, Going, Ended, Extent, Whole, Inside, AtEnd, Told, after_line, after_lines, pieces_of_lines, told_at_end}
use Rattle.pgs_run_lines.specs.May.{MayPut}
use Rattle.pgs_run_lines.specs.Pieces.{Shown, ShowsAll, shown_of}
use Rattle.pgs_run_lines.proofs.Driven.{after_append, pieces_append}
use Rattle.pgs_run_lines.proofs.Showing.{ends_on, shows_none, shows_on, stop_on}
use Rattle.pgs_world.specs.Moment.{IsTimed}
use Rattle.pgs_world.specs.World.{View}
use Rattle.pgs_syntax.specs.declared.resolved.Resolved.{Resolved}
use Rattle.pgs_violation.specs.declared.violation.Verdict.{Verdict}
use Rattle.pgs_violation.specs.Violations.{verdict}
use Rattle.pgs_command.specs.declared.status.Status.{Status}
use Rattle.pgs_run_input.specs.Answers.{schema_answer}
use Rattle.pgs_run_input.specs.Input.{is_separator, is_skipped}
use Rattle.pgs_run_input.specs.Session.{Standing, answer_to, after_answer, after_line as standing_after}
use Rattle.pgs_run_refusal.specs.Refused.{IsCause}
use Rattle.pgs_run_check_try.specs.declared.phase.Phase.{Phase}
use Rattle.pgs_run_check_try.specs.declared.phase.Phase.TheVariants.{Schema, Lines, Refused}
use Rattle.pgs_run_check_try.specs.Explaining.{after_end, after_part, deciding, explaining, next_of}
use Rattle.pgs_run_check_try.specs.Right.{HasRight}
use Rattle.pgs_run_check_try.specs.Told.{Causes}

-- ---- which causes may be asked for

-- the least number whose causes may be asked for from a phase on
abbrev pub place_of : Phase → ℕ
place_of (Schema part) = 0
place_of (Lines s) = s.standing.number + 1
place_of Refused = 1

abbrev pub place_at : RunState Phase Status → ℕ
place_at (Going phase) = place_of phase
place_at (Ended status) = 1

-- the same behind the end of the input, which ends a schema part
abbrev pub place_behind : RunState Phase Status → ℕ
place_behind (Going phase) = place_of (after_part phase)
place_behind (Ended status) = 1

-- the least number whose causes these lines don't ask for
abbrev pub place_to : Phase → List (List ℕ) → Extent Status → ℕ
place_to s lines Whole = place_at (after_lines deciding (Going s) lines)
place_to s lines (Inside stop) = place_at (after_lines deciding (Going s) lines)
place_to s lines (AtEnd rest stop) = place_behind (after_lines deciding (Going s) (lines ++ rest ∷ []))

-- the numbers whose causes these lines may ask for
abbrev pub IsAsked : Phase → List (List ℕ) → Extent Status → ℕ → Type 0
IsAsked s lines extent k = (place_of s ≤ k) × (k < place_to s lines extent)

abbrev pub AgreesOn : (ℕ → Type 0) → Causes → Causes → Type 0
AgreesOn Asked causes others = (k : ℕ) → Asked k → others k ≡ causes k

-- ---- what was put

-- all that the lines tell with these causes, as far as no stop came; no fault of a read or an area comes of them
abbrev pub ShowsSo : Causes → Phase → List (List ℕ) → Extent Status → Shown → Shown → Type 0
ShowsSo causes s lines Whole start now = ShowsAll start (pieces_of_lines (explaining causes) (Going s) lines) now
ShowsSo causes s lines (Inside stop) start now = MayPut stop × Shows start (pieces_of_lines (explaining causes) (Going s) lines) stop now
ShowsSo causes s lines (AtEnd rest stop) start now =
    let end = told_at_end (explaining causes) (after_lines (explaining causes) (Going s) lines) rest in
    MayPut stop × Ends start (record { pieces = pieces_of_lines (explaining causes) (Going s) lines ++ end.pieces; status = end.status }) stop now

-- ---- which causes are right

-- of a schema text
abbrev pub IsRightSchema : Causes → (text : List ℕ) → Result Resolved (List ℕ) → Type 0
IsRightSchema causes text (Ok schema) = Unit {0}
IsRightSchema causes text (Err refusal) = IsCause text (causes 0)

abbrev pub IsRightText : Causes → List ℕ → Type 0
IsRightText causes text = IsRightSchema causes text (schema_answer text)

-- of a line in a phase
abbrev pub RightIn : (Stopped : Type 0) → Causes → Phase → List ℕ → Type 0
RightIn Stopped causes (Schema part) line = MatchBool (is_separator line) (IsRightText causes part.text) (Unit {0})
RightIn Stopped causes (Lines s) line = HasRight Stopped causes s.text s.schema s.standing line
RightIn Stopped causes Refused line = Unit {0}

abbrev pub RightAt : (Stopped : Type 0) → Causes → RunState Phase Status → List ℕ → Type 0
RightAt Stopped causes (Going phase) line = RightIn Stopped causes phase line
RightAt Stopped causes (Ended status) line = Unit {0}

-- of lines
abbrev pub RightFrom : (Stopped : Type 0) → Causes → RunState Phase Status → List (List ℕ) → Type 0
RightFrom Stopped causes at [] = Unit {0}
RightFrom Stopped causes at (line ∷ lines) = RightAt Stopped causes at line × RightFrom Stopped causes (after_line deciding at line) lines

-- behind the last line, where without a separator all is the schema text
abbrev pub RightPart : Causes → Phase → Type 0
RightPart causes (Schema part) = IsRightText causes part.text
RightPart causes (Lines s) = Unit {0}
RightPart causes Refused = Unit {0}

abbrev pub RightBehind : Causes → RunState Phase Status → Type 0
RightBehind causes (Going phase) = RightPart causes phase
RightBehind causes (Ended status) = Unit {0}

-- a fault, or want of memory
abbrev pub IsFault : Stop Status → Type 0
IsFault (stops.Ended status) = ⊥
IsFault stops.ReadFault = Unit {0}
IsFault stops.DiskFault = Unit {0}
IsFault stops.PutFault = Unit {0}
IsFault stops.Memory = Unit {0}

abbrev pub RightTo : Causes → Phase → List (List ℕ) → Extent Status → Type 0
RightTo causes s lines Whole = RightFrom ⊥ causes (Going s) lines
RightTo causes s lines (Inside stop) = RightFrom (IsFault stop) causes (Going s) lines
RightTo causes s lines (AtEnd rest stop) =
    RightFrom (IsFault stop) causes (Going s) (lines ++ rest ∷ [])
    × RightBehind causes (after_lines deciding (Going s) (lines ++ rest ∷ []))

-- ---- the rule

-- what the lines tell with these causes was put, and they are right
pub record IsExplained (causes : Causes) (s : Phase) (lines : List (List ℕ)) (extent : Extent Status) (start now : Shown) : Type 0 where
  pub shows : ShowsSo causes s lines extent start now
  pub right : RightTo causes s lines extent

-- There are such causes, and so are all that give the same where these lines may ask for some. Both areas are kept.
pub record Explains (s : Phase) (lines : List (List ℕ)) (extent : Extent Status) (old new : View) : Type 0 where
  pub areas : KeepsAreas old new
  pub causes : Causes
  pub explained : (others : Causes) → AgreesOn (IsAsked s lines extent) causes others → IsExplained others s lines extent (shown_of old) (shown_of new)

-- ---- places

number_answer : (s : Standing) (answer : Result Graph (List ℕ)) → s.number ≤ (after_answer s answer).number
number_answer s (Ok g) = omega arith
number_answer s (Err text) = omega arith

number_by : (verdict : Graph → Verdict) (s : Standing) (line : List ℕ) (blank : Bool) → is_skipped line ≡ blank → s.number ≤ (standing_after verdict s line).number
unfolding standing_after
number_by verdict s line true e = rw e (omega arith)
number_by verdict s line false e = rw e (number_answer s (answer_to verdict s.graph line))

pub place_line : (phase : Phase) (line : List ℕ) → place_of phase ≤ place_of (after_end phase line)
place_line (Schema part) line = omega arith
place_line (Lines s) line = let n = number_by (verdict s.schema) s.standing line (is_skipped line) refl in omega (arith, n)
place_line Refused line = omega arith

pub place_next : (phase : Phase) → place_at (next_of phase) ≡ place_of phase
place_next (Schema part) = refl
place_next (Lines s) = refl
place_next Refused = refl

place_after : (at : RunState Phase Status) (line : List ℕ) → place_at at ≤ place_at (after_line deciding at line)
place_after (Going phase) line = subst (λ n. place_of phase ≤ n) (sym (place_next (after_end phase line))) (place_line phase line)
place_after (Ended status) line = omega arith

pub place_on : (at : RunState Phase Status) (lines : List (List ℕ)) → place_at at ≤ place_at (after_lines deciding at lines)
place_on at [] = omega arith
place_on at (line ∷ lines) = let one = place_after at line in let more = place_on (after_line deciding at line) lines in omega (arith, one, more)

place_part : (phase : Phase) → place_of phase ≤ place_of (after_part phase)
place_part (Schema part) = omega arith
place_part (Lines s) = omega arith
place_part Refused = omega arith

place_end : (at : RunState Phase Status) → place_at at ≤ place_behind at
place_end (Going phase) = place_part phase
place_end (Ended status) = omega arith

-- no line goes back
pub place_from : (s : Phase) (lines : List (List ℕ)) (extent : Extent Status) → place_of s ≤ place_to s lines extent
place_from s lines Whole = place_on (Going s) lines
place_from s lines (Inside stop) = place_on (Going s) lines
place_from s lines (AtEnd rest stop) =
    let on = place_on (Going s) (lines ++ rest ∷ []) in
    let end = place_end (after_lines deciding (Going s) (lines ++ rest ∷ [])) in omega (arith, on, end)

-- ---- the machine that tells stands where the one does that decides

same_line : (causes : Causes) (at : RunState Phase Status) (line : List ℕ) → after_line (explaining causes) at line ≡ after_line deciding at line
same_line causes (Going s) line = refl
same_line causes (Ended status) line = refl

pub same_lines : (causes : Causes) (at : RunState Phase Status) (lines : List (List ℕ)) → after_lines (explaining causes) at lines ≡ after_lines deciding at lines
same_lines causes at [] = refl
same_lines causes at (line ∷ lines) =
    ap (λ to. after_lines (explaining causes) to lines) (same_line causes at line) ∙ same_lines causes (after_line deciding at line) lines

-- ---- right causes of lines, and of more

pub right_more : (Stopped : Type 0) (causes : Causes) (at : RunState Phase Status) (xs ys : List (List ℕ))
    → RightFrom Stopped causes at xs → RightFrom Stopped causes (after_lines deciding at xs) ys → RightFrom Stopped causes at (xs ++ ys)
right_more Stopped causes at [] ys none more = more
right_more Stopped causes at (x ∷ xs) ys p more = (p.0, right_more Stopped causes (after_line deciding at x) xs ys p.1 more)

-- the same where it may have been stopped for more
module _ (Less More : Type 0) (wider : Less → More) (causes : Causes) where
  wider_line : (text : List ℕ) (schema : Resolved) (s : Standing) (line : List ℕ) → HasRight Less causes text schema s line → HasRight More causes text schema s line
  wider_line text schema s line has kept = ⊎_elim (λ are. inl are) (λ none. inr (wider none.0, none.1)) (has kept)

  wider_at : (at : RunState Phase Status) (line : List ℕ) → RightAt Less causes at line → RightAt More causes at line
  wider_at (Going (Schema part)) line has = has
  wider_at (Going (Lines s)) line has = wider_line s.text s.schema s.standing line has
  wider_at (Going Refused) line has = has
  wider_at (Ended status) line has = has

  pub wider_from : (at : RunState Phase Status) (lines : List (List ℕ)) → RightFrom Less causes at lines → RightFrom More causes at lines
  wider_from at [] has = has
  wider_from at (line ∷ lines) has = (wider_at at line has.0, wider_from (after_line deciding at line) lines has.1)

pub weaker : (Stopped : Type 0) (causes : Causes) (at : RunState Phase Status) (lines : List (List ℕ)) → RightFrom ⊥ causes at lines → RightFrom Stopped causes at lines
weaker Stopped causes at lines has = wider_from ⊥ Stopped (λ no. absurd no) causes at lines has

module _ (causes : Causes) (s t : Phase) (xs ys : List (List ℕ)) (leads : after_lines deciding (Going s) xs ≡ Going t) where
  right_from : (Stopped : Type 0) → RightFrom ⊥ causes (Going s) xs → RightFrom Stopped causes (Going t) ys → RightFrom Stopped causes (Going s) (xs ++ ys)
  right_from Stopped p q =
      right_more Stopped causes (Going s) xs ys (weaker Stopped causes (Going s) xs p) (subst (λ (at : RunState Phase Status). RightFrom Stopped causes at ys) (sym leads) q)

  after_both : (zs : List (List ℕ)) → after_lines deciding (Going s) (xs ++ zs) ≡ after_lines deciding (Going t) zs
  after_both zs = after_append deciding (Going s) xs zs ∙ ap (λ at. after_lines deciding at zs) leads

  pieces_both : pieces_of_lines (explaining causes) (Going s) (xs ++ ys) ≡ pieces_of_lines (explaining causes) (Going s) xs ++ pieces_of_lines (explaining causes) (Going t) ys
  pieces_both =
      pieces_append (explaining causes) (Going s) xs ys
      ∙ ap (λ at. pieces_of_lines (explaining causes) (Going s) xs ++ pieces_of_lines (explaining causes) at ys) (same_lines causes (Going s) xs ∙ leads)

  module _ (start mid now : Shown) where
    shows_both : (extent : Extent Status) → ShowsSo causes s xs Whole start mid → ShowsSo causes t ys extent mid now → ShowsSo causes s (xs ++ ys) extent start now
    shows_both Whole p q = subst (λ pieces. ShowsAll start pieces now) (sym pieces_both) (shows_on start mid now _ _ p q)
    shows_both (Inside stop) p q = (q.0, subst (λ pieces. Shows start pieces stop now) (sym pieces_both) (stop_on stop start mid now _ _ p q.1))
    shows_both (AtEnd rest stop) p q =
        let m = explaining causes in
        let first = pieces_of_lines m (Going s) xs in
        let more = pieces_of_lines m (Going t) ys in
        let at : after_lines m (Going s) (xs ++ ys) ≡ after_lines m (Going t) ys = same_lines causes (Going s) (xs ++ ys) ∙ after_both ys ∙ sym (same_lines causes (Going t) ys) in
        let told : RunState Phase Status → List (List ℕ) → Told Status = λ to pieces. record { pieces = pieces ++ (told_at_end m to rest).pieces; status = (told_at_end m to rest).status } in
        let to = after_lines m (Going t) ys in (
          q.0,
          subst (λ (all : Told Status). Ends start all stop now)
              (ap (λ pieces. let all : Told Status = record { pieces = pieces; status = (told_at_end m to rest).status } in all) (sym (append_assoc first more (told_at_end m to rest).pieces))
              ∙ ap (told to) (sym pieces_both) ∙ ap (λ (to : RunState Phase Status). told to (pieces_of_lines m (Going s) (xs ++ ys))) (sym at))
              (ends_on stop start mid now first (told to more) p q.1),
        )

    right_both : (extent : Extent Status) → RightTo causes s xs Whole → RightTo causes t ys extent → RightTo causes s (xs ++ ys) extent
    right_both Whole p q = right_from ⊥ p q
    right_both (Inside stop) p q = right_from (IsFault stop) p q
    right_both (AtEnd rest stop) p q =
        let all = append_assoc xs ys (rest ∷ []) in (
          subst (λ lines. RightFrom (IsFault stop) causes (Going s) lines) (sym all)
              (right_more (IsFault stop) causes (Going s) xs (ys ++ rest ∷ []) (weaker (IsFault stop) causes (Going s) xs p)
              (subst (λ (at : RunState Phase Status). RightFrom (IsFault stop) causes at (ys ++ rest ∷ [])) (sym leads) q.0)),
          subst (RightBehind causes) (sym (ap (after_lines deciding (Going s)) all ∙ after_both (ys ++ rest ∷ []))) q.1,
        )

    explained_both : (extent : Extent Status) → IsExplained causes s xs Whole start mid → IsExplained causes t ys extent mid now → IsExplained causes s (xs ++ ys) extent start now
    explained_both extent p q = record { shows = shows_both extent p.shows q.shows; right = right_both extent p.right q.right }

-- ---- causes of lines, and of more

-- those of the first below a place, and from it on those of the second
abbrev pub joined : ℕ → Causes → Causes → Causes
joined place first second k = cond (nat_lt k place) (first k) (second k)

pub joined_first : (place : ℕ) (first second : Causes) (k : ℕ) → k < place → joined place first second k ≡ first k
joined_first place first second k below = let e : nat_lt k place ≡ true = grind (arith, nat_tests) in rw e refl

pub joined_second : (place : ℕ) (first second : Causes) (k : ℕ) → place ≤ k → joined place first second k ≡ second k
joined_second place first second k from = let e : nat_lt k place ≡ false = grind (arith, nat_tests) in rw e refl

module _ (s t : Phase) (xs ys : List (List ℕ)) (leads : after_lines deciding (Going s) xs ≡ Going t) where
  goes_on : place_of s ≤ place_of t
  goes_on = subst (λ n. place_of s ≤ n) (ap place_at leads) (place_on (Going s) xs)

  leads_on : (zs : List (List ℕ)) → after_lines deciding (Going s) (xs ++ zs) ≡ after_lines deciding (Going t) zs
  leads_on zs = after_append deciding (Going s) xs zs ∙ ap (λ at. after_lines deciding at zs) leads

  place_both : (extent : Extent Status) → place_to s (xs ++ ys) extent ≡ place_to t ys extent
  place_both Whole = ap place_at (leads_on ys)
  place_both (Inside stop) = ap place_at (leads_on ys)
  place_both (AtEnd rest stop) = ap place_behind (ap (after_lines deciding (Going s)) (append_assoc xs ys (rest ∷ [])) ∙ leads_on (ys ++ rest ∷ []))

  asked_both : (extent : Extent Status) (k : ℕ) → place_of s ≤ k → k < place_to t ys extent → IsAsked s (xs ++ ys) extent k
  asked_both extent k from is = (from, subst (λ n. k < n) (sym (place_both extent)) is)

  asked_first : (extent : Extent Status) (k : ℕ) → IsAsked s xs Whole k → (k < place_of t) × IsAsked s (xs ++ ys) extent k
  asked_first extent k asked =
      let below : k < place_of t = subst (λ n. k < n) (ap place_at leads) asked.1 in
      (below, asked_both extent k asked.0 (let from = place_from t ys extent in omega (arith, from, below)))

  asked_second : (extent : Extent Status) (k : ℕ) → IsAsked t ys extent k → IsAsked s (xs ++ ys) extent k
  asked_second extent k asked = asked_both extent k (let n = goes_on in let m = asked.0 in omega (arith, n, m)) asked.1

  pub explains_on : (extent : Extent Status) (old mid new : View) → Explains s xs Whole old mid → Explains t ys extent mid new → Explains s (xs ++ ys) extent old new
  explains_on extent old mid new p q = record {
    areas = keeps_on old mid new p.areas q.areas;
    causes = joined (place_of t) p.causes q.causes;
    explained = λ others agrees.
        explained_both others s t xs ys leads (shown_of old) (shown_of mid) (shown_of new) extent
        (p.explained others (λ k asked. let is = asked_first extent k asked in agrees k is.1 ∙ joined_first (place_of t) p.causes q.causes k is.0))
        (q.explained others (λ k asked. agrees k (asked_second extent k asked) ∙ joined_second (place_of t) p.causes q.causes k asked.0));
  }

pub explains_none : (s : Phase) (view : View) → IsTimed view → Explains s [] Whole view view
explains_none s view timed = record {
  areas = keeps_none view timed;
  causes = λ k. [];
  explained = λ others agrees. record { shows = shows_none (shown_of view); right = tt };
}

-- its pieces aren't what is put: what is put is what the machine tells that has such causes
abbrev pub explains : Rule deciding
explains = record {
  Kept = Unit {0};
  tells = false;
  holds = λ s view. Unit {0};
  allows = λ s lines extent old new. Explains s lines extent old.view new.view;
  none = λ s scene timed holds. explains_none s scene.view timed;
  on = λ s t lines more extent old mid new leads holds p q. explains_on s t lines more leads extent old.view mid.view new.view p q;
}
