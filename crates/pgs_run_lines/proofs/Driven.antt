-- How the takings of lines compose.
use Rattle.std.proofs.Common.{◌≡◌, ℕ, ◌+◌, ◌-◌, ◌≤◌, Bool, true, false, List, [], ◌∷◌, ◌++◌, length, inl, inr, refl, sym, ap, subst, ◌∙◌, append_assoc, length-append, arith}
use Rattle.std.proofs.lemmas.List.{append-nil}
use Rattle.pgs_world.specs.Moment.{IsTimed}
use Rattle.pgs_run_lines.specs.declared.stop.Stop.{Stop}
use Rattle.pgs_run_lines.specs.declared.stop.Stop.TheVariants as stops
use Rattle.pgs_run_lines.specs.Driving.{IsEndAt, Runs, StopsAt, RunsSoFar}
use Rattle.pgs_run_lines.specs.Ending.{Shows}
use Rattle.pgs_run_lines.specs.Input.{Lines, kept_of, front_of, has_no_feed}
use Rattle.pgs_run_lines.specs.Machine.{RunState, Going, Ended, Machine, Rule, Scene, Whole, Inside, HasRoomFor, WhereTold, after_line, pieces_of_line, after_lines, pieces_of_lines}
use Rattle.pgs_run_lines.specs.Pieces.{shown_of, ShowsAll}
use Rattle.pgs_run_lines.proofs.Cutting.{followed, kept_begun, kept_more, kept_goes_on}
use Rattle.pgs_run_lines.proofs.Showing.{shows_none, shows_on, stop_on}

-- ---- what is said of pieces that are what is put

pub where_is : {P : Type 0} (tells : Bool) → WhereTold tells P → tells ≡ true → P
where_is true said is = said
where_is false said is = cc

pub where_said : {P : Type 0} (tells : Bool) → (tells ≡ true → P) → WhereTold tells P
where_said true said = said refl
where_said false said = tt

-- ---- lines

pub after_append : {E : Type 0} (m : Machine E) (at : RunState m.State E) (xs ys : List (List ℕ)) → after_lines m at (xs ++ ys) ≡ after_lines m (after_lines m at xs) ys
after_append m at [] ys = refl
after_append m at (x ∷ xs) ys = after_append m (after_line m at x) xs ys

pub pieces_append : {E : Type 0} (m : Machine E) (at : RunState m.State E) (xs ys : List (List ℕ)) → pieces_of_lines m at (xs ++ ys) ≡ pieces_of_lines m at xs ++ pieces_of_lines m (after_lines m at xs) ys
pieces_append m at [] ys = refl
pieces_append m at (x ∷ xs) ys =
    ap (λ more. pieces_of_line m at x ++ more) (pieces_append m (after_line m at x) xs ys)
    ∙ sym (append_assoc (pieces_of_line m at x) (pieces_of_lines m (after_line m at x) xs) (pieces_of_lines m (after_lines m (after_line m at x) xs) ys))

-- behind the end of a run
pub after_ended : {E : Type 0} (m : Machine E) (status : E) (xs : List (List ℕ)) → after_lines m (Ended status) xs ≡ Ended status
after_ended m status [] = refl
after_ended m status (x ∷ xs) = after_ended m status xs

pub pieces_ended : {E : Type 0} (m : Machine E) (status : E) (xs : List (List ℕ)) → pieces_of_lines m (Ended status) xs ≡ []
pieces_ended m status [] = refl
pieces_ended m status (x ∷ xs) = pieces_ended m status xs

-- ---- bytes

regrouped : (taken rest part later : List ℕ) → rest ≡ part ++ 10 ∷ later → taken ++ rest ≡ (taken ++ (part ++ 10 ∷ [])) ++ later
regrouped taken rest part later ends =
    ap (λ more. taken ++ more) (ends ∙ sym (append_assoc part (10 ∷ []) later)) ∙ sym (append_assoc taken (part ++ 10 ∷ []) later)

whole : (seen bytes taken rest : List ℕ) → bytes ≡ taken ++ rest → (seen ++ taken) ++ rest ≡ seen ++ bytes
whole seen bytes taken rest parts = append_assoc seen taken rest ∙ ap (λ more. seen ++ more) (sym parts)

-- ---- room

-- room for some lines is room for fewer
pub room_fewer : {E : Type 0} (m : Machine E) (fewer lines : ℕ) (s : m.State) → fewer ≤ lines → HasRoomFor m lines s → HasRoomFor m fewer s
room_fewer m fewer lines s le has = record { room = has.room; enough = let h = has.enough in omega arith; has = has.has }

-- one line was taken
pub room_on : {E : Type 0} (m : Machine E) (lines : ℕ) (s t : m.State) → ((n : ℕ) → m.HasRoom (n + 1) s → m.HasRoom n t) → HasRoomFor m (lines + 1) s → HasRoomFor m lines t
room_on m lines s t one has =
    let h = has.enough in
    let e : has.room ≡ (has.room - 1) + 1 = omega arith in
    record { room = has.room - 1; enough = omega arith; has = one (has.room - 1) (subst (λ n. m.HasRoom n s) e has.has) }

-- a line of these bytes was taken
pub room_line : {E : Type 0} (m : Machine E) (more : ℕ) (s t : m.State) (rest part later : List ℕ) → rest ≡ part ++ 10 ∷ later → ((n : ℕ) → m.HasRoom (n + 1) s → m.HasRoom n t) → HasRoomFor m (length rest + more) s → HasRoomFor m (length later + more) t
room_line m more s t rest part later ends one has =
    let e : length rest ≡ length part + length (10 ∷ later) = ap length ends ∙ length-append part (10 ∷ later) in
    room_on m (length later + more) s t one (room_fewer m ((length later + more) + 1) (length rest + more) s (omega arith) has)

-- ---- takings

module _ {E : Type 0} (m : Machine E) (rule : Rule m) (limit : ℕ) where
  cut_more : (seen bytes line : List ℕ) → line ≡ (kept_of limit seen).rest → kept_of limit (seen ++ bytes) ≡ followed (kept_of limit seen) (kept_of limit (line ++ bytes))
  cut_more seen bytes line begun =
      kept_more limit seen bytes ∙ ap (λ rest. followed (kept_of limit seen) (kept_of limit (rest ++ bytes))) (sym begun)

  -- where no line was ended
  pub runs_none : (s : m.State) (scene : Scene rule.Kept) (text line : List ℕ) → IsTimed scene.view → rule.holds s scene.view → kept_of limit text ≡ record { ended = []; rest = line } → Runs m rule limit s scene text s line scene
  runs_none s scene text line timed holds is = record {
    stands = ap (λ (l : Lines). after_lines m (Going s) l.ended) is;
    begun = ap (λ (l : Lines). l.rest) (sym is);
    holds = holds;
    shows = λ told. subst (λ (l : Lines). ShowsAll (shown_of scene.view) (pieces_of_lines m (Going s) l.ended) (shown_of scene.view)) (sym is) (shows_none (shown_of scene.view));
    allowed = subst (λ (l : Lines). rule.allows s l.ended Whole scene scene) (sym is) (rule.none s scene timed holds);
  }

  -- and where the memory for the line failed
  pub stops_none : (s : m.State) (scene : Scene rule.Kept) (ended : List (List ℕ)) → IsTimed scene.view → rule.holds s scene.view → StopsAt m rule s scene ended stops.Memory scene
  stops_none s scene ended timed holds = record {
    until = [];
    later = ended;
    parts = refl;
    extent = Whole;
    inside = inr (refl, refl);
    shows = λ told. record { first = []; later = []; parts = refl; shows = shows_none (shown_of scene.view) };
    ends = tt;
    allowed = rule.none s scene timed holds;
  }

  -- a line was ended
  pub runs_line : (s state : m.State) (old new : Scene rule.Kept) (text line : List ℕ) → kept_of limit text ≡ record { ended = line ∷ []; rest = [] } → (m.line s line).next ≡ Going state → rule.holds state new.view → WhereTold rule.tells (ShowsAll (shown_of old.view) (m.line s line).pieces (shown_of new.view)) → rule.allows s (line ∷ []) Whole old new → Runs m rule limit s old text state [] new
  runs_line s state old new text line is leads holds shows allowed = record {
    stands = ap (λ (l : Lines). after_lines m (Going s) l.ended) is ∙ leads;
    begun = ap (λ (l : Lines). l.rest) (sym is);
    holds = holds;
    shows = λ told. subst (λ (l : Lines). ShowsAll (shown_of old.view) (pieces_of_lines m (Going s) l.ended) (shown_of new.view)) (sym is) (subst (λ pieces. ShowsAll (shown_of old.view) pieces (shown_of new.view)) (sym (append-nil (m.line s line).pieces)) (where_is rule.tells shows told));
    allowed = subst (λ (l : Lines). rule.allows s l.ended Whole old new) (sym is) allowed;
  }

  -- or the run was stopped in it
  pub stops_line : (s : m.State) (old new : Scene rule.Kept) (text line : List ℕ) (stop : Stop E) → kept_of limit text ≡ record { ended = line ∷ []; rest = [] } → IsEndAt (m.line s line).next stop → WhereTold rule.tells (Shows (shown_of old.view) (m.line s line).pieces stop (shown_of new.view)) → rule.allows s (line ∷ []) (Inside stop) old new → StopsAt m rule s old (kept_of limit text).ended stop new
  stops_line s old new text line stop is ends shows allowed = record {
    until = line ∷ [];
    later = [];
    parts = ap (λ (l : Lines). l.ended) is;
    extent = Inside stop;
    inside = inl refl;
    shows = λ told. subst (λ pieces. Shows (shown_of old.view) pieces stop (shown_of new.view)) (sym (append-nil (m.line s line).pieces)) (where_is rule.tells shows told);
    ends = ends;
    allowed = allowed;
  }

  pub runs_more : (s state next : m.State) (start mid now : Scene rule.Kept) (seen bytes line left : List ℕ) → Runs m rule limit s start seen state line mid → Runs m rule limit state mid (line ++ bytes) next left now → Runs m rule limit s start (seen ++ bytes) next left now
  runs_more s state next start mid now seen bytes line left p q =
      let cut = cut_more seen bytes line p.begun in
      let xs = (kept_of limit seen).ended in
      let ys = (kept_of limit (line ++ bytes)).ended in
      record {
        stands = ap (λ (l : Lines). after_lines m (Going s) l.ended) cut ∙ after_append m (Going s) xs ys ∙ ap (λ at. after_lines m at ys) p.stands ∙ q.stands;
        begun = q.begun ∙ ap (λ (l : Lines). l.rest) (sym cut);
        holds = q.holds;
        shows = λ told. subst (λ pieces. ShowsAll (shown_of start.view) pieces (shown_of now.view))
            (sym (ap (λ (l : Lines). pieces_of_lines m (Going s) l.ended) cut ∙ pieces_append m (Going s) xs ys ∙ ap (λ at. pieces_of_lines m (Going s) xs ++ pieces_of_lines m at ys) p.stands))
            (shows_on (shown_of start.view) (shown_of mid.view) (shown_of now.view) (pieces_of_lines m (Going s) xs) (pieces_of_lines m (Going state) ys) (p.shows told) (q.shows told));
        allowed = subst (λ (l : Lines). rule.allows s l.ended Whole start now) (sym cut) (rule.on s state xs ys Whole start mid now p.stands p.holds p.allowed q.allowed);
      }

  end_on : (s state : m.State) (xs ys : List (List ℕ)) (stop : Stop E) → after_lines m (Going s) xs ≡ Going state → IsEndAt (after_lines m (Going state) ys) stop → IsEndAt (after_lines m (Going s) (xs ++ ys)) stop
  end_on s state xs ys stop stands ends =
      subst (λ at. IsEndAt at stop) (sym (after_append m (Going s) xs ys ∙ ap (λ at. after_lines m at ys) stands)) ends

  pub stops_more : (s state : m.State) (start mid now : Scene rule.Kept) (seen bytes line : List ℕ) (stop : Stop E) → Runs m rule limit s start seen state line mid → StopsAt m rule state mid (kept_of limit (line ++ bytes)).ended stop now → StopsAt m rule s start (kept_of limit (seen ++ bytes)).ended stop now
  stops_more s state start mid now seen bytes line stop p q =
      let cut = cut_more seen bytes line p.begun in
      let xs = (kept_of limit seen).ended in
      record {
        until = xs ++ q.until;
        later = q.later;
        parts = ap (λ (l : Lines). l.ended) cut ∙ ap (λ more. xs ++ more) q.parts ∙ sym (append_assoc xs q.until q.later);
        extent = q.extent;
        inside = q.inside;
        shows = λ told. subst (λ pieces. Shows (shown_of start.view) pieces stop (shown_of now.view))
            (sym (pieces_append m (Going s) xs q.until ∙ ap (λ at. pieces_of_lines m (Going s) xs ++ pieces_of_lines m at q.until) p.stands))
            (stop_on stop (shown_of start.view) (shown_of mid.view) (shown_of now.view) (pieces_of_lines m (Going s) xs) (pieces_of_lines m (Going state) q.until) (p.shows told) (q.shows told));
        ends = end_on s state xs q.until stop p.stands q.ends;
        allowed = rule.on s state xs q.until q.extent start mid now p.stands p.holds p.allowed q.allowed;
      }

  -- before the first line
  pub so_far_none : (s : m.State) (scene : Scene rule.Kept) (line bytes : List ℕ) → IsTimed scene.view → rule.holds s scene.view → kept_of limit line ≡ record { ended = []; rest = line } → RunsSoFar m rule limit s scene line bytes bytes s line scene
  so_far_none s scene line bytes timed holds is = record {
    taken = [];
    parts = refl;
    runs = subst (λ text. Runs m rule limit s scene text s line scene) (sym (append-nil line)) (runs_none s scene line line timed holds is);
  }

  -- one line more
  pub so_far_line : (s state next : m.State) (start mid now : Scene rule.Kept) (seen bytes rest part later line left : List ℕ) → RunsSoFar m rule limit s start seen bytes rest state line mid → rest ≡ part ++ 10 ∷ later → Runs m rule limit state mid (line ++ (part ++ 10 ∷ [])) next left now → RunsSoFar m rule limit s start seen bytes later next left now
  so_far_line s state next start mid now seen bytes rest part later line left p ends q = record {
    taken = p.taken ++ (part ++ 10 ∷ []);
    parts = p.parts ∙ regrouped p.taken rest part later ends;
    runs = subst (λ text. Runs m rule limit s start text next left now) (append_assoc seen p.taken (part ++ 10 ∷ [])) (runs_more s state next start mid now (seen ++ p.taken) (part ++ 10 ∷ []) line left p.runs q);
  }

  -- or the run was stopped in it
  pub so_far_stops : (s state : m.State) (start mid now : Scene rule.Kept) (seen bytes rest part later line : List ℕ) (stop : Stop E) → RunsSoFar m rule limit s start seen bytes rest state line mid → rest ≡ part ++ 10 ∷ later → StopsAt m rule state mid (kept_of limit (line ++ (part ++ 10 ∷ []))).ended stop now → StopsAt m rule s start (kept_of limit (seen ++ bytes)).ended stop now
  so_far_stops s state start mid now seen bytes rest part later line stop p ends q =
      let stopped = stops_more s state start mid now (seen ++ p.taken) (part ++ 10 ∷ []) line stop p.runs q in
      let on = kept_goes_on limit ((seen ++ p.taken) ++ (part ++ 10 ∷ [])) later in
      let all : seen ++ bytes ≡ ((seen ++ p.taken) ++ (part ++ 10 ∷ [])) ++ later =
      ap (λ more. seen ++ more) (p.parts ∙ regrouped p.taken rest part later ends)
      ∙ sym (append_assoc seen (p.taken ++ (part ++ 10 ∷ [])) later)
      ∙ ap (λ front. front ++ later) (sym (append_assoc seen p.taken (part ++ 10 ∷ []))) in
      record {
        until = stopped.until;
        later = stopped.later ++ on.later;
        parts = ap (λ text. (kept_of limit text).ended) all ∙ on.is ∙ ap (λ front. front ++ on.later) stopped.parts ∙ append_assoc stopped.until stopped.later on.later;
        extent = stopped.extent;
        inside = stopped.inside;
        shows = stopped.shows;
        ends = stopped.ends;
        allowed = stopped.allowed;
      }

  -- the rest was taken, which ends no line
  pub so_far_rest : (s state : m.State) (start now : Scene rule.Kept) (seen bytes rest line : List ℕ) → IsTimed now.view → has_no_feed line ≡ true → has_no_feed rest ≡ true → RunsSoFar m rule limit s start seen bytes rest state line now → Runs m rule limit s start (seen ++ bytes) state (front_of limit (line ++ rest)) now
  so_far_rest s state start now seen bytes rest line timed none more p =
      subst (λ text. Runs m rule limit s start text state (front_of limit (line ++ rest)) now) (whole seen bytes p.taken rest p.parts)
      (runs_more s state state start now now (seen ++ p.taken) rest line (front_of limit (line ++ rest)) p.runs (runs_none state now (line ++ rest) (front_of limit (line ++ rest)) timed p.runs.holds (kept_begun limit line rest none more)))

  -- or the memory for it failed
  pub so_far_memory : (s state : m.State) (start now : Scene rule.Kept) (seen bytes rest line : List ℕ) → IsTimed now.view → RunsSoFar m rule limit s start seen bytes rest state line now → StopsAt m rule s start (kept_of limit (seen ++ bytes)).ended stops.Memory now
  so_far_memory s state start now seen bytes rest line timed p =
      subst (λ text. StopsAt m rule s start (kept_of limit text).ended stops.Memory now) (whole seen bytes p.taken rest p.parts) (stops_more s state start now now (seen ++ p.taken) rest line stops.Memory p.runs (stops_none state now (kept_of limit (line ++ rest)).ended timed p.runs.holds))

-- at the same limit
pub takes_in : {E : Type 0} (m : Machine E) (rule : Rule m) (limit same : ℕ) (s : m.State) (start : Scene rule.Kept) (seen : List ℕ) (state : m.State) (line : List ℕ) (now : Scene rule.Kept) → same ≡ limit → Runs m rule same s start seen state line now → Runs m rule limit s start seen state line now
takes_in m rule limit same s start seen state line now is runs = subst (λ n. Runs m rule n s start seen state line now) is runs

pub stops_in : {E : Type 0} (m : Machine E) (rule : Rule m) (limit same : ℕ) (s : m.State) (start : Scene rule.Kept) (text : List ℕ) (stop : Stop E) (now : Scene rule.Kept) → same ≡ limit → StopsAt m rule s start (kept_of same text).ended stop now → StopsAt m rule s start (kept_of limit text).ended stop now
stops_in m rule limit same s start text stop now is stopped = subst (λ n. StopsAt m rule s start (kept_of n text).ended stop now) is stopped
