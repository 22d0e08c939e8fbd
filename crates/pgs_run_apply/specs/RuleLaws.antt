-- What the rule of the machine of `apply` rests on: what taking lines may do holds of nothing done, and of one thing after another.
use Rattle.std.proofs.Common.{◌≡◌, ◌⊎◌, inl, inr, ⊎_elim, ℕ, Bool, true, false, List, [], ◌∷◌, ◌++◌, length, Option, None, Result, Ok, Err, cond, IsTrue, refl, sym, ap, ap₂, subst, ◌∙◌, append_assoc, length-append, arith}
use Rattle.std.specs.List.{concat}
use Rattle.std.proofs.lemmas.List.{append-nil}
use Rattle.std.proofs.lemmas.List.Folds.{concat-append}
use Rattle.pgs_feed.specs.Deliveries.{Delivery, ListKind, AreDelivered, behind, lines_in}
use Rattle.pgs_feed.specs.Given.{AreGiven}
use Rattle.pgs_feed.proofs.Deliveries.{behind_append, behind_behind, behind_none, delivered_on, lines_append, lines_behind}
use Rattle.pgs_feed.proofs.Given.{given_none, given_on}
use Rattle.pgs_base.specs.Graph.{Graph}
use Rattle.pgs_graph.specs.declared.operation.Txn.{Txn}
use Rattle.pgs_run_lines.specs.declared.stop.Stop.{Stop}
use Rattle.pgs_run_lines.specs.Machine.{RunState, Going, Ended, Scene, Extent, Whole, Inside, AtEnd, after_lines}
use Rattle.pgs_run_lines.specs.Pieces.{Shown, ShowsAll, shown_of}
use Rattle.pgs_run_lines.proofs.Showing.{shows_none, shows_on}
use Rattle.pgs_run_store.proofs.Images.{same_images}
use Rattle.pgs_world.specs.declared.area.Area.{Area}
use Rattle.pgs_world.specs.Moment.{EachSince, IsTimed}
use Rattle.pgs_world.specs.World.{Triple, View, other}
use Rattle.pgs_world.proofs.Moments.{passes_none, passes_on, each_none, each_on, each_weaker, shown_added}
use Rattle.pgs_command.specs.declared.status.Status.{Status}
use Rattle.pgs_command.specs.Images.{KeepsArea}
use Rattle.pgs_command.proofs.Images.{area_none, area_on}
use Rattle.pgs_violation.specs.declared.rejection.Rejection.{Rejection}
use Rattle.pgs_violation.specs.Violations.{verdict}
use Rattle.pgs_run_input.specs.Answers.{txn_answer}
use Rattle.pgs_run_input.specs.Input.{is_skipped}
use Rattle.pgs_run_input.specs.Session.{decision_on}
use Rattle.pgs_run_apply.specs.Applying.{Applies, AreReached, IsLeft, IsWithin, applying, is_all, seen, stop_in}
use Rattle.pgs_run_apply.specs.Outcome.{Outcome, HasPut, IsPast, IsReached, IsSavedAt, and_then, answering, deciding, is_torn, outcome_of, outcome_of_all, skipping}
use Rattle.pgs_run_apply.specs.State.{ApplyState, HoldsStore}

-- ---- one outcome after another

abbrev outcome_with : ApplyState → List (List ℕ) → List Delivery → Outcome
outcome_with s pieces given = record { state = s; pieces = pieces; given = given }

-- what one outcome gives, and behind its pieces what two more do
given_assoc : (o p q : Outcome) → (and_then (and_then o p) q).given ≡ (and_then o (and_then p q)).given
given_assoc o p q =
    let n = length o.pieces in
    let m = length p.pieces in
    let last : behind (length (o.pieces ++ p.pieces)) q.given ≡ behind n (behind m q.given) =
    ap (λ (k : ℕ). behind k q.given) (length-append o.pieces p.pieces) ∙ sym (behind_behind n m q.given) in
    append_assoc o.given (behind n p.given) (behind (length (o.pieces ++ p.pieces)) q.given)
    ∙ ap (λ (ds : List Delivery). o.given ++ ds) (ap (λ (ds : List Delivery). behind n p.given ++ ds) last ∙ sym (behind_append n p.given (behind m q.given)))

then_assoc : (o p q : Outcome) → and_then (and_then o p) q ≡ and_then o (and_then p q)
then_assoc o p q = ap₂ (outcome_with q.state) (append_assoc o.pieces p.pieces q.pieces) (given_assoc o p q)

pub outcome_append : (s : ApplyState) (xs ys : List (List ℕ)) → outcome_of_all s (xs ++ ys) ≡ and_then (outcome_of_all s xs) (outcome_of_all (outcome_of_all s xs).state ys)
outcome_append s [] ys = let o = outcome_of_all s ys in ap (outcome_with o.state o.pieces) (sym (behind_none o.given))
outcome_append s (x ∷ xs) ys =
    let o = outcome_of s x in
    let p = outcome_of_all o.state xs in
    ap (and_then o) (outcome_append o.state xs ys) ∙ sym (then_assoc o p (outcome_of_all p.state ys))

-- where lines lead the machine
pub lead : (s : ApplyState) (lines : List (List ℕ)) → after_lines applying (Going s) lines ≡ Going (outcome_of_all s lines).state
lead s [] = refl
lead s (line ∷ lines) = lead (outcome_of s line).state lines

-- the area of the store stays
area_decision : (s : ApplyState) (txn : Txn) (decision : Result Graph Rejection) → (deciding s txn decision).state.journal.area ≡ s.journal.area
area_decision s txn (Ok g) = refl
area_decision s txn (Err rejection) = refl

area_if : (s : ApplyState) (answer : Result Txn (List ℕ)) (blank : Bool) → (cond blank (skipping s) (answering s answer)).state.journal.area ≡ s.journal.area
area_if s answer true = refl
area_if s (Ok txn) false = area_decision s txn (decision_on (verdict s.guard.schema) s.guard.graph txn)
area_if s (Err text) false = refl

area_next : (s : ApplyState) (line : List ℕ) → (outcome_of s line).state.journal.area ≡ s.journal.area
unfolding outcome_of
area_next s line = area_if s (txn_answer line) (is_skipped line)

area_all : (s : ApplyState) (lines : List (List ℕ)) → (outcome_of_all s lines).state.journal.area ≡ s.journal.area
area_all s [] = refl
area_all s (line ∷ lines) = area_all (outcome_of s line).state lines ∙ area_next s line

-- ---- how far lines were done

put_on : (torn : Bool) (start mid now : Shown) (xs ys : List (List ℕ)) → ShowsAll start xs mid → HasPut torn mid ys now → HasPut torn start (xs ++ ys) now
put_on false start mid now xs ys p q = shows_on start mid now xs ys p q
put_on true start mid now xs ys p q = let count = length-append xs ys in let first = p.puts in omega (arith, count, first, q)

reached_on : (kind : ListKind) (stop : Option (Stop Status)) (o more : Outcome) (old mid new : Scene kind.Feeds) → IsReached kind o None old mid → IsReached kind more stop mid new → IsReached kind (and_then o more) stop old new
reached_on kind stop o more old mid new p q =
    let n = length o.pieces in
    let lines : lines_in o.given ++ lines_in more.given ≡ lines_in (o.given ++ behind n more.given) =
    sym (lines_append o.given (behind n more.given) ∙ ap (λ (xs : List (List ℕ)). lines_in o.given ++ xs) (lines_behind n more.given)) in
    let from : behind old.view.puts o.given ++ behind mid.view.puts more.given ≡ behind old.view.puts (o.given ++ behind n more.given) =
    ap (λ (k : ℕ). behind old.view.puts o.given ++ behind k more.given) p.put.puts
    ∙ sym (behind_append old.view.puts o.given (behind n more.given) ∙ ap (λ (ds : List Delivery). behind old.view.puts o.given ++ ds) (behind_behind old.view.puts n more.given)) in
    record {
      holds = q.holds;
      put = put_on (is_torn stop) (shown_of old.view) (shown_of mid.view) (shown_of new.view) o.pieces more.pieces p.put q.put;
      given = subst (λ (xs : List (List ℕ)). AreGiven xs (kind.places old.kept) (kind.places new.kept)) lines
          (given_on (lines_in o.given) (lines_in more.given) (kind.places old.kept) (kind.places mid.kept) (kind.places new.kept) p.given q.given);
      delivered = subst (λ (ds : List Delivery). AreDelivered kind old.kept ds new.kept) from
          (delivered_on kind (behind old.view.puts o.given) (behind mid.view.puts more.given) old.kept mid.kept new.kept p.delivered q.delivered);
    }

-- all lines were done
pub all_reached : (kind : ListKind) (s : ApplyState) (lines : List (List ℕ)) (stop : Option (Stop Status)) (old new : Scene kind.Feeds) → AreReached kind s lines true stop old new → IsReached kind (outcome_of_all s lines) stop old new
all_reached kind s lines stop old new r =
    subst (λ (xs : List (List ℕ)). IsReached kind (outcome_of_all s xs) stop old new) (sym (r.parts ∙ ap (λ more. r.until ++ more) (r.whole refl) ∙ append-nil r.until)) r.reached

lines_on : (kind : ListKind) (s : ApplyState) (xs ys : List (List ℕ)) (all : Bool) (stop : Option (Stop Status)) (old mid new : Scene kind.Feeds)
    → IsReached kind (outcome_of_all s xs) None old mid → AreReached kind (outcome_of_all s xs).state ys all stop mid new → AreReached kind s (xs ++ ys) all stop old new
lines_on kind s xs ys all stop old mid new p q = record {
  until = xs ++ q.until;
  later = q.later;
  parts = ap (λ lines. xs ++ lines) q.parts ∙ sym (append_assoc xs q.until q.later);
  whole = q.whole;
  reached = subst (λ (o : Outcome). IsReached kind o stop old new) (sym (outcome_append s xs q.until))
      (reached_on kind stop (outcome_of_all s xs) (outcome_of_all (outcome_of_all s xs).state q.until) old mid new p q.reached);
}

-- ---- what a stop leaves

-- where the store stands
pub saved_here : (s : ApplyState) (view : View) → IsTimed view → HoldsStore s view → IsTrue view.honest → IsTrue view.tells_bytes → (c : Triple) → view.may_leave c
    → IsSavedAt s view.tells_output view.shown.output c
saved_here s view timed holds honest told c left =
    let settled = holds.stands.settled honest told in
    ((λ output. timed.output honest output c left), same_images s.guard s.journal view.shown c (holds.stands.saved told) (settled.a c left) (settled.b c left))

module _ (c : Triple) (told still : Bool) (stays : IsTrue told → IsTrue still) where
  pub saved_as : (s : ApplyState) (out so : List ℕ) → (IsTrue told → out ≡ so) → IsSavedAt s still out c → IsSavedAt s told so c
  saved_as s out so same saved = ((λ tells. saved.0 (stays tells) ∙ same tells), saved.1)

  pub past_as : (o : Outcome) (out so : List ℕ) → (IsTrue told → out ≡ so) → IsPast o still out c → IsPast o told so c
  past_as o out so same past = record {
    front = past.front;
    back = past.back;
    piece = past.piece;
    saved = saved_as o.state (out ++ past.front) (so ++ past.front) (λ tells. ap (λ bytes. bytes ++ past.front) (same tells)) past.saved;
  }

  left_as : (s : ApplyState) (later : List (List ℕ)) (out so : List ℕ) → (IsTrue told → out ≡ so) → IsSavedAt s still out c ⊎ IsWithin s later still out c → IsSavedAt s told so c ⊎ IsWithin s later told so c
  left_as s later out so same =
      ⊎_elim (λ saved. inl (saved_as s out so same saved))
      (λ within. inr (record { line = within.line; more = within.more; next = within.next; past = past_as (outcome_of s within.line) out so same within.past }))

  -- what is left of lines behind others
  left_on : (s : ApplyState) (xs ys : List (List ℕ)) (output mid : List ℕ) → (IsTrue told → mid ≡ output ++ concat (outcome_of_all s xs).pieces) → IsLeft (outcome_of_all s xs).state ys still mid c → IsLeft s (xs ++ ys) told output c
  left_on s xs ys output mid added p =
      let o = outcome_of_all s xs in
      let q = outcome_of_all o.state p.until in
      record {
        until = xs ++ p.until;
        later = p.later;
        parts = ap (λ lines. xs ++ lines) p.parts ∙ sym (append_assoc xs p.until p.later);
        state = subst (λ (r : Outcome). IsSavedAt r.state told (output ++ concat r.pieces) c ⊎ IsWithin r.state p.later told (output ++ concat r.pieces) c) (sym (outcome_append s xs p.until))
            (left_as q.state p.later (mid ++ concat q.pieces) (output ++ concat (o.pieces ++ q.pieces))
            (λ tells.
            ap (λ (out : List ℕ). out ++ concat q.pieces) (added tells) ∙ append_assoc output (concat o.pieces) (concat q.pieces)
            ∙ ap (λ (out : List ℕ). output ++ out) (sym (concat-append o.pieces q.pieces))) p.state);
      }

-- what is left of lines is left of them and others
pub left_more : (s : ApplyState) (xs ys : List (List ℕ)) (told : Bool) (output : List ℕ) (c : Triple) → IsLeft s xs told output c → IsLeft s (xs ++ ys) told output c
left_more s xs ys told output c p = record {
  until = p.until;
  later = p.later ++ ys;
  parts = ap (λ lines. lines ++ ys) p.parts ∙ append_assoc p.until p.later ys;
  state = ⊎_elim (λ saved. inl saved)
      (λ within. inr (record { line = within.line; more = within.more ++ ys; next = ap (λ lines. lines ++ ys) within.next; past = within.past })) p.state;
}

-- ---- the rule

-- before the first line
pub applies_none : (kind : ListKind) (s : ApplyState) (scene : Scene kind.Feeds) → IsTimed scene.view → HoldsStore s scene.view → Applies kind s [] Whole scene scene
applies_none kind s scene timed holds = record {
  passes = passes_none scene.view timed;
  reached = record {
    until = [];
    later = [];
    parts = refl;
    whole = λ all. refl;
    reached = record { holds = λ alive. holds; put = shows_none (shown_of scene.view); given = given_none (kind.places scene.kept); delivered = refl };
  };
  stops = λ honest told.
      let tells = scene.view.tells_output in
      let out = scene.view.shown.output in
      each_none scene.view (IsLeft s [] tells out) timed
      (λ c left. record {
        until = [];
        later = [];
        parts = refl;
        state = inl (saved_as c tells tells (λ still. still) s out (out ++ []) (λ still. sym (append-nil out)) (saved_here s scene.view timed holds honest told c left));
      });
  beside = area_none (other s.journal.area) scene.view timed;
}

seen_on : (extent : Extent Status) (xs ys : List (List ℕ)) → seen (xs ++ ys) extent ≡ xs ++ seen ys extent
seen_on Whole xs ys = refl
seen_on (Inside stop) xs ys = refl
seen_on (AtEnd rest stop) xs ys = append_assoc xs ys (rest ∷ [])

-- some lines, and then others
applies_on : (kind : ListKind) (s : ApplyState) (xs ys : List (List ℕ)) (extent : Extent Status) (old mid new : Scene kind.Feeds)
    → Applies kind s xs Whole old mid → Applies kind (outcome_of_all s xs).state ys extent mid new → Applies kind s (xs ++ ys) extent old new
applies_on kind s xs ys extent old mid new p q =
    let o = outcome_of_all s xs in
    let more = seen ys extent in
    let first = all_reached kind s xs None old mid p.reached in
    let before = old.view.shown.output in
    let tells = old.view.tells_output in
    record {
      passes = passes_on old.view mid.view new.view p.passes q.passes;
      reached = subst (λ (lines : List (List ℕ)). AreReached kind s lines (is_all (stop_in extent)) (stop_in extent) old new) (sym (seen_on extent xs ys))
          (lines_on kind s xs more (is_all (stop_in extent)) (stop_in extent) old mid new first q.reached);
      stops = λ honest told.
          let still = λ (output : IsTrue old.view.tells_output). p.passes.tells_output ∙ output in
          let added = λ (output : IsTrue old.view.tells_output). shown_added old.view mid.view (concat o.pieces) output (still output) first.put.output in
          subst (λ (lines : List (List ℕ)). EachSince (IsLeft s lines tells before) old.view new.view) (sym (seen_on extent xs ys))
          (each_on old.view mid.view new.view (IsLeft s (xs ++ more) tells before) p.passes q.passes
          (each_weaker old.view mid.view (IsLeft s xs tells before) (IsLeft s (xs ++ more) tells before) (left_more s xs more tells before)
          (p.stops honest told))
          (each_weaker mid.view new.view (IsLeft o.state more mid.view.tells_output mid.view.shown.output) (IsLeft s (xs ++ more) tells before)
          (λ c left. left_on c tells mid.view.tells_output still s xs more before mid.view.shown.output added left)
          (q.stops (p.passes.honest ∙ honest) (p.passes.tells_bytes ∙ told))));
      beside =
          area_on (other s.journal.area) old.view mid.view new.view p.beside
          (subst (λ (area : Area). KeepsArea (other area) mid.view new.view) (area_all s xs) q.beside);
    }

state_at : ApplyState → RunState ApplyState Status → ApplyState
state_at other (Going s) = s
state_at other (Ended status) = other

-- from the state where the first ones lead
pub applies_from : (kind : ListKind) (s t : ApplyState) (lines more : List (List ℕ)) (extent : Extent Status) (old mid new : Scene kind.Feeds)
    → after_lines applying (Going s) lines ≡ Going t → HoldsStore t mid.view → Applies kind s lines Whole old mid → Applies kind t more extent mid new → Applies kind s (lines ++ more) extent old new
unfolding state_at
applies_from kind s t lines more extent old mid new leads holds p q =
    let same : t ≡ (outcome_of_all s lines).state = ap (state_at s) (sym leads ∙ lead s lines) in
    applies_on kind s lines more extent old mid new p (subst (λ (u : ApplyState). Applies kind u more extent mid new) same q)
