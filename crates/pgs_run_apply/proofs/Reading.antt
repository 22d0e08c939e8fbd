-- What a run over lines did, by the lines of its input.
use Rattle.std.proofs.Common.{◌≡◌, ◌⊎◌, inl, inr, ⊎_elim, ℕ, Bool, true, List, [], ◌∷◌, ◌++◌, drop, length, map, take, Option, Some, None, IsTrue, refl, sym, ap, subst, ◌∙◌, append_assoc}
use Rattle.std.proofs.lemmas.Bool.{false≢true}
use Rattle.std.proofs.lemmas.List.{append-nil, drop-map, map-append, take-append-drop, take-map}
use Rattle.std.proofs.Math.Seq.{drop-append_seam, take-append_seam}
use Rattle.std.specs.List.{concat}
use Rattle.pgs_feed.specs.Deliveries.{ListKind}
use Rattle.pgs_run_lines.specs.declared.stop.Stop.{Stop}
use Rattle.pgs_run_lines.specs.declared.stop.Stop.TheVariants as stops
use Rattle.pgs_run_lines.specs.Input.{lines_of, kept_of}
use Rattle.pgs_run_lines.specs.Driving.{IsEndAt}
use Rattle.pgs_run_lines.specs.Machine.{Going, Ended, Scene, Extent, Whole, Inside, AtEnd, after_lines, status_at_cut}
use Rattle.pgs_run_lines.specs.Run.{Allows, IsBetween, IsFar}
use Rattle.pgs_run_lines.proofs.Cutting.{lines_of_goes_on}
use Rattle.pgs_run_lines.proofs.RunEnds.{rest_of}
use Rattle.pgs_world.specs.Moment.{EachSince}
use Rattle.pgs_world.specs.Source.{Takes, IsAtEnd}
use Rattle.pgs_world.specs.World.{Triple}
use Rattle.pgs_world.proofs.Moments.{each_weaker}
use Rattle.pgs_command.specs.declared.status.Status.{Status}
use Rattle.pgs_command.specs.declared.status.Status.TheVariants.{InputTooLong}
use Rattle.pgs_command.specs.Ending.{status_at}
use Rattle.pgs_run_input.specs.Input.{text_limit, text_front}
use Rattle.pgs_run_apply.specs.Applying.{AreReached, IsLeft, IsWithin, applying, is_all, seen, stop_in}
use Rattle.pgs_run_apply.specs.Outcome.{Outcome, IsPast, IsReached, IsSavedAt, outcome_of, outcome_of_all}
use Rattle.pgs_run_apply.specs.Rule.{applies_rule}
use Rattle.pgs_run_apply.specs.State.{ApplyState}
use Rattle.pgs_run_apply.specs.Told.{all_lines, is_done}
use Rattle.pgs_run_apply.specs.RuleLaws.{lead}
use Rattle.pgs_run_apply.proofs.Following.{outcome_front, outcome_fronts}
use Rattle.pgs_run_apply.specs.RuleLaws.{left_more}

-- ---- lists of fronts

-- some first fronts are those of some first lines
record Split (lines first later : List (List ℕ)) : Type 0 where
  pub until : List (List ℕ)
  pub more : List (List ℕ)
  pub parts : lines ≡ until ++ more
  pub first_is : first ≡ map text_front until
  pub later_is : later ≡ map text_front more

split : (lines first later : List (List ℕ)) → map text_front lines ≡ first ++ later → Split lines first later
split lines first later is =
    let n = length first in
    record {
      until = take n lines;
      more = drop n lines;
      parts = sym (take-append-drop n lines);
      first_is = sym (take-append_seam first later) ∙ ap (λ (xs : List (List ℕ)). take n xs) (sym is) ∙ take-map text_front n lines;
      later_is = sym (drop-append_seam first later) ∙ ap (λ (xs : List (List ℕ)). drop n xs) (sym is) ∙ drop-map text_front n lines;
    }

-- no front comes of no line
no_fronts : (lines : List (List ℕ)) → map text_front lines ≡ [] → lines ≡ []
no_fronts [] is = refl
no_fronts (line ∷ lines) is = absurd (cc)

-- ---- what is known by the fronts of lines is known by the lines

module _ (s : ApplyState) where
  within_front : (lines later : List (List ℕ)) (told : Bool) (out : List ℕ) (c : Triple) → later ≡ map text_front lines → IsWithin s later told out c → IsWithin s lines told out c
  within_front [] later told out c is within = let no : within.line ∷ within.more ≡ [] = sym within.next ∙ is in absurd (cc)
  within_front (line ∷ lines) later told out c is within =
      let same : within.line ∷ within.more ≡ text_front line ∷ map text_front lines = sym within.next ∙ is in
      let front : within.line ≡ text_front line = cc in
      record { line = line; more = lines; next = refl; past = subst (λ (o : Outcome). IsPast o told out c) (ap (outcome_of s) front ∙ outcome_front s line) within.past }

left_fronts : (s : ApplyState) (lines : List (List ℕ)) (told : Bool) (output : List ℕ) (c : Triple) → IsLeft s (map text_front lines) told output c → IsLeft s lines told output c
left_fronts s lines told output c left =
    let at = split lines left.until left.later left.parts in
    let o = outcome_of_all s left.until in
    record {
      until = at.until;
      later = at.more;
      parts = at.parts;
      state = subst (λ (p : Outcome). IsSavedAt p.state told (output ++ concat p.pieces) c ⊎ IsWithin p.state at.more told (output ++ concat p.pieces) c) (ap (outcome_of_all s) at.first_is ∙ outcome_fronts s at.until)
          (⊎_elim (λ saved. inl saved) (λ within. inr (within_front o.state at.more left.later told (output ++ concat o.pieces) c at.later_is within)) left.state);
    }

-- ---- the lines of an input

-- what was seen are the fronts of some first lines of the input; of all of them where it was read to its end
record Seen (input : List ℕ) (status : Status) (lines : List (List ℕ)) : Type 0 where
  pub first : List (List ℕ)
  pub more : List (List ℕ)
  pub parts : all_lines input ≡ first ++ more
  pub is : lines ≡ map text_front first
  pub all : is_done status ≡ true → more ≡ []

module _ (s : ApplyState) (lines : List (List ℕ)) where
  -- at the end of the budget, and at a line, the input isn't read to its end
  cut_between : (budget : ℕ) (bytes : List ℕ) (later : List (List ℕ)) (stop : Stop Status) → IsBetween applying s budget bytes lines later stop → is_done (status_at stop) ≡ true → ⊥
  cut_between budget bytes later (stops.Ended status) far done =
      let is : InputTooLong ≡ status = sym (ap (status_at_cut applying) (lead s lines)) ∙ far.2 in false≢true (ap is_done is ∙ done)
  cut_between budget bytes later stops.ReadFault far done = false≢true done
  cut_between budget bytes later stops.DiskFault far done = absurd far
  cut_between budget bytes later stops.PutFault far done = absurd far
  cut_between budget bytes later stops.Memory far done = false≢true done

  cut_inside : (stop : Stop Status) → IsEndAt (after_lines applying (Going s) lines) stop → is_done (status_at stop) ≡ true → ⊥
  cut_inside (stops.Ended status) ends done = let no : Going (outcome_of_all s lines).state ≡ Ended status = sym (lead s lines) ∙ ends in cc
  cut_inside stops.ReadFault ends done = false≢true done
  cut_inside stops.DiskFault ends done = false≢true done
  cut_inside stops.PutFault ends done = false≢true done
  cut_inside stops.Memory ends done = false≢true done

module _ (input bytes : List ℕ) (before left : Option (List ℕ)) (told : before ≡ Some input) (taken : Takes before left bytes) where
  -- some ended lines of the bytes taken
  seen_ended : (lines later : List (List ℕ)) (status : Status) → (kept_of text_limit bytes).ended ≡ lines ++ later → (is_done status ≡ true → ⊥) → Seen input status lines
  unfolding kept_of
  seen_ended lines later status parts never =
      let rest = rest_of input bytes before left told taken in
      let at = split (lines_of bytes).ended lines later parts in
      let on = lines_of_goes_on bytes rest.rest in
      let last = (lines_of input).rest ∷ [] in
      record {
        first = at.until;
        more = at.more ++ (on.later ++ last);
        parts = ap (λ (xs : List (List ℕ)). xs ++ last) (ap (λ (text : List ℕ). (lines_of text).ended) rest.parts ∙ on.is ∙ ap (λ (xs : List (List ℕ)). xs ++ on.later) at.parts)
            ∙ append_assoc (at.until ++ at.more) on.later last ∙ append_assoc at.until at.more (on.later ++ last);
        is = at.first_is;
        all = λ done. absurd (never done);
      }

  -- all lines of the input
  seen_all : (lines later : List (List ℕ)) (status : Status) → (kept_of text_limit bytes).ended ≡ lines ++ later → later ≡ [] → IsAtEnd left → Seen input status (lines ++ (kept_of text_limit bytes).rest ∷ [])
  unfolding kept_of
  seen_all lines later status parts none end =
      let rest = rest_of input bytes before left told taken in
      let nothing : rest.rest ≡ [] = subst IsAtEnd rest.left_is end in
      let whole : input ≡ bytes = rest.parts ∙ ap (λ (more : List ℕ). bytes ++ more) nothing ∙ append-nil bytes in
      let all : lines ≡ map text_front (lines_of bytes).ended = sym (append-nil lines) ∙ ap (λ (xs : List (List ℕ)). lines ++ xs) (sym none) ∙ sym parts in
      record {
        first = all_lines bytes;
        more = [];
        parts = ap all_lines whole ∙ sym (append-nil (all_lines bytes));
        is = ap (λ (xs : List (List ℕ)). xs ++ text_front (lines_of bytes).rest ∷ []) all ∙ sym (map-append text_front (lines_of bytes).ended ((lines_of bytes).rest ∷ []));
        all = λ done. refl;
      }

  seen_of : (s : ApplyState) (budget : ℕ) (lines later : List (List ℕ)) (stop : Stop Status) (extent : Extent Status) → (kept_of text_limit bytes).ended ≡ lines ++ later
      → IsFar applying text_limit s budget left bytes lines later stop extent → Seen input (status_at stop) (seen lines extent)
  seen_of s budget lines later stop Whole parts far = seen_ended lines later (status_at stop) parts (cut_between s lines budget bytes later stop far)
  seen_of s budget lines later stop (Inside at) parts far = seen_ended lines later (status_at stop) parts (cut_inside s lines stop far.1)
  seen_of s budget lines later stop (AtEnd rest at) parts far =
      subst (λ (last : List ℕ). Seen input (status_at stop) (lines ++ last ∷ [])) (sym far.1) (seen_all lines later (status_at stop) parts far.2 far.3)

-- some first lines of the input come to what these fronts come to; all of them where it was read to its end
pub record Took (s : ApplyState) (input : List ℕ) (done : Bool) (fronts : List (List ℕ)) : Type 0 where
  pub until : List (List ℕ)
  pub later : List (List ℕ)
  pub parts : all_lines input ≡ until ++ later
  pub whole : done ≡ true → later ≡ []
  pub same : outcome_of_all s fronts ≡ outcome_of_all s until

took_fronts : (s : ApplyState) (input : List ℕ) (status : Status) (lines : List (List ℕ)) (at : Seen input status lines) (fronts later : List (List ℕ)) → lines ≡ fronts ++ later → (is_done status ≡ true → later ≡ [])
    → Took s input (is_done status) fronts
took_fronts s input status lines at fronts later parts whole =
    let cut = split at.first fronts later (sym at.is ∙ parts) in
    record {
      until = cut.until;
      later = cut.more ++ at.more;
      parts = at.parts ∙ ap (λ (xs : List (List ℕ)). xs ++ at.more) cut.parts ∙ append_assoc cut.until cut.more at.more;
      whole = λ done. ap (λ (xs : List (List ℕ)). cut.more ++ xs) (at.all done) ∙ append-nil cut.more ∙ no_fronts cut.more (sym cut.later_is ∙ whole done);
      same = ap (outcome_of_all s) cut.first_is ∙ outcome_fronts s cut.until;
    }

-- ---- by how the run stopped

done_all : (stop : Stop Status) → is_done (status_at stop) ≡ true → is_all (Some stop) ≡ true
done_all (stops.Ended status) done = refl
done_all stops.ReadFault done = done
done_all stops.DiskFault done = done
done_all stops.PutFault done = done
done_all stops.Memory done = done

module _ (kind : ListKind) (s : ApplyState) (lines : List (List ℕ)) (old new : Scene kind.Feeds) where
  abbrev StoppedAt : Bool → Option (Stop Status) → Type 0
  StoppedAt all stop = AreReached kind s lines all stop old new

  all_so : (all same : Bool) (stop : Option (Stop Status)) → (same ≡ true → all ≡ true) → StoppedAt all stop → StoppedAt same stop
  all_so all same stop so r = record { until = r.until; later = r.later; parts = r.parts; whole = λ done. r.whole (so done); reached = r.reached }

  -- behind all lines that were taken
  between : (budget : ℕ) (bytes : List ℕ) (later : List (List ℕ)) (stop : Stop Status) → IsBetween applying s budget bytes lines later stop → StoppedAt true None → StoppedAt true (Some stop)
  between budget bytes later (stops.Ended status) far r = record { until = r.until; later = r.later; parts = r.parts; whole = r.whole; reached = record { holds = r.reached.holds; put = r.reached.put; given = r.reached.given; delivered = r.reached.delivered } }
  between budget bytes later stops.ReadFault far r = record { until = r.until; later = r.later; parts = r.parts; whole = r.whole; reached = record { holds = r.reached.holds; put = r.reached.put; given = r.reached.given; delivered = r.reached.delivered } }
  between budget bytes later stops.DiskFault far r = absurd far
  between budget bytes later stops.PutFault far r = absurd far
  between budget bytes later stops.Memory far r = record { until = r.until; later = r.later; parts = r.parts; whole = r.whole; reached = record { holds = r.reached.holds; put = r.reached.put; given = r.reached.given; delivered = r.reached.delivered } }

  -- at the stop that was given there
  stopped : (at stop : Stop Status) → at ≡ stop → StoppedAt (is_all (Some at)) (Some at) → StoppedAt (is_done (status_at stop)) (Some stop)
  stopped at stop same r = all_so (is_all (Some stop)) (is_done (status_at stop)) (Some stop) (done_all stop) (subst (λ (x : Stop Status). StoppedAt (is_all (Some x)) (Some x)) same r)

pub reached_at : (kind : ListKind) (s : ApplyState) (budget : ℕ) (left : Option (List ℕ)) (bytes : List ℕ) (lines later : List (List ℕ)) (stop : Stop Status) (extent : Extent Status) (old new : Scene kind.Feeds)
    → IsFar applying text_limit s budget left bytes lines later stop extent → AreReached kind s (seen lines extent) (is_all (stop_in extent)) (stop_in extent) old new
    → AreReached kind s (seen lines extent) (is_done (status_at stop)) (Some stop) old new
reached_at kind s budget left bytes lines later stop Whole old new far r =
    all_so kind s lines old new true (is_done (status_at stop)) (Some stop) (λ done. refl) (between kind s lines old new budget bytes later stop far r)
reached_at kind s budget left bytes lines later stop (Inside at) old new far r = stopped kind s lines old new at stop far.0 r
reached_at kind s budget left bytes lines later stop (AtEnd rest at) old new far r = stopped kind s (lines ++ rest ∷ []) old new at stop far.0 r

-- ---- the run

module _ (kind : ListKind) (s : ApplyState) (input : List ℕ) (budget : ℕ) (before left : Option (List ℕ)) (stop : Stop Status) (old new : Scene kind.Feeds) (is : before ≡ Some input)
    (allows : Allows applying (applies_rule kind) text_limit s budget before left stop old new) where
  at : Seen input (status_at stop) (seen allows.lines allows.extent)
  at = seen_of input allows.bytes before left is allows.taken s budget allows.lines allows.later stop allows.extent allows.parts allows.far

  -- what the run reached
  abbrev pub reached : AreReached kind s (seen allows.lines allows.extent) (is_done (status_at stop)) (Some stop) old new
  reached = reached_at kind s budget left allows.bytes allows.lines allows.later stop allows.extent old new allows.far allows.allowed.reached

  -- some first lines of the input come to it
  took : Took s input (is_done (status_at stop)) reached.until
  took = took_fronts s input (status_at stop) (seen allows.lines allows.extent) at reached.until reached.later reached.parts reached.whole

  -- some first lines of the input were done, all of them where it was read to its end; they come to what was reached
  pub record Went : Type 0 where
    pub all : AreReached kind s (all_lines input) (is_done (status_at stop)) (Some stop) old new
    pub same : outcome_of_all s reached.until ≡ outcome_of_all s all.until

  pub input_went : Went
  input_went = record {
    all = record {
      until = took.until;
      later = took.later;
      parts = took.parts;
      whole = took.whole;
      reached = subst (λ (o : Outcome). IsReached kind o (Some stop) old new) took.same reached.reached;
    };
    same = took.same;
  }

  -- and what a stop leaves of them
  pub input_left : IsTrue old.view.honest → IsTrue old.view.tells_bytes → EachSince (IsLeft s (all_lines input) old.view.tells_output old.view.shown.output) old.view new.view
  input_left honest bytes =
      let told = old.view.tells_output in
      let output = old.view.shown.output in
      each_weaker old.view new.view (IsLeft s (seen allows.lines allows.extent) told output) (IsLeft s (all_lines input) told output)
      (λ c left.
      subst (λ (xs : List (List ℕ)). IsLeft s xs told output c) (sym at.parts)
      (left_more s at.first at.more told output c (left_fronts s at.first told output c (subst (λ (xs : List (List ℕ)). IsLeft s xs told output c) at.is left))))
      (allows.allowed.stops honest bytes)
