-- Calls that begin at one moment, one after the other, as one.
use Rattle.std.proofs.Common.{◌≡◌, ◌⊎◌, ⊎_elim, ℕ, ◌+◌, ◌≤◌, Bool, List, [], ◌++◌, take, drop, Option, Result, Ok, Err, inl, inr, refl, sym, ap, ◌∙◌, subst, arith, append_assoc, append-nil}
use Rattle.std.proofs.lemmas.List.{take-append-drop}
use Rattle.std.proofs.Math.Seq.{take-add}
use Rattle.std.specs.declared.io.Error.{Error}
use Rattle.pgs_world_streams.specs.Given.{PlainCall, BareCall}
use Rattle.pgs_world_streams.specs.Past.{Past, IsPast, GoesOn, IsSame}
use Rattle.pgs_world_streams.specs.Pieces.{PieceIs, placeless}
use Rattle.pgs_world_streams.specs.Tries.{AreInterrupted, WasInterrupted, WriteIsTried}
use Rattle.pgs_world_streams.specs.Tries.AreInterrupted.{no_try, one_more}
use Rattle.pgs_world_streams.specs.Whole.{HasWritten}
use Rattle.pgs_world_streams.specs.Whole.HasWritten.{wrote_none, wrote_some}
use Rattle.pgs_world_streams.specs.Written.{HasWriterStops, IsLonger, held}

-- before the first call
pub rest_on : (Step : List ℕ → List ℕ → Type 0) (t : ℕ) (past : Past) → ((c : List ℕ) → Step c c) → IsPast past → past.until ≤ t → GoesOn Step t past past
rest_on Step t past same is le =
    record {
      until = omega (arith, le);
      earlier = λ u c lt left. left;
      kept = λ u c le left. left;
      during = λ c left. inl left;
      after = λ c left. (c, left, same c);
      reached = λ c left. is.now t c le left;
    }

-- one call more
module _ (R S T : List ℕ → List ℕ → Type 0) (t : ℕ) (old mid new : Past) (first : (d c : List ℕ) → R d c → T d c)
    (both : (e d c : List ℕ) → old.may_leave e → mid.may_leave d → R e d → S d c → T e c) (p : GoesOn R t old mid) (q : GoesOn S t mid new) where
  before : (c : List ℕ) → mid.left t c → old.left t c ⊎ ((d : List ℕ) × old.may_leave d × T d c)
  before c left = ⊎_elim (λ was. inl was) (λ step. inr (step.0, step.1, first step.0 c step.2)) (p.during c left)

  behind : (c : List ℕ) → (d : List ℕ) × mid.may_leave d × S d c → (d : List ℕ) × old.may_leave d × T d c
  behind c step = let from = p.after step.0 step.1 in (from.0, from.1, both from.0 step.0 c from.1 step.1 from.2 step.2)

  pub go_on : GoesOn T t old new
  go_on =
      record {
        until = q.until;
        earlier = λ u c lt left. p.earlier u c lt (q.earlier u c lt left);
        kept = λ u c le left. q.kept u c le (p.kept u c le left);
        during = λ c left. ⊎_elim (before c) (λ step. inr (behind c step)) (q.during c left);
        after = λ c left. behind c (q.after c left);
        reached = q.reached;
      }

pub longer_none : (piece c : List ℕ) → IsLonger piece c c
longer_none piece c = record { front = []; back = piece; parts = refl; added = sym (append-nil c) }

-- what is behind a front of the piece
longer_behind : (piece : List ℕ) (done : ℕ) (was e d c : List ℕ) → e ≡ was → d ≡ was ++ take done piece → IsLonger (drop done piece) d c → IsLonger piece e c
longer_behind piece done was e d c same is longer =
    record {
      front = take done piece ++ longer.front;
      back = longer.back;
      parts = sym (take-append-drop done piece) ∙ ap (λ (l : List ℕ). take done piece ++ l) longer.parts ∙ sym (append_assoc (take done piece) longer.front longer.back);
      added = longer.added ∙ ap (λ (l : List ℕ). l ++ longer.front) is ∙ append_assoc was (take done piece) longer.front
          ∙ ap (λ (l : List ℕ). l ++ (take done piece ++ longer.front)) (sym same);
    }

module _ {W : Type 0} (contents : W → Option (List ℕ)) (past : W → Past) (writes : ℕ → PlainCall W) (flushes : ℕ → BareCall W) (law : HasWriterStops contents past writes flushes)
    (t : ℕ) (start : W) (piece : List ℕ) where
  -- so many bytes of the piece were written
  record IsSo (done : ℕ) (now : W) : Type 0 where
    goes : GoesOn (IsLonger piece) t (past start) (past now)
    holds : held (contents now) ≡ held (contents start) ++ take done piece

  goes_once : (done : ℕ) (mid new : W) (answer : Result ℕ Error) → IsSo done mid → writes t mid (drop done piece) answer new → GoesOn (IsLonger piece) t (past start) (past new)
  goes_once done mid new answer so gave =
      go_on (IsLonger piece) (IsLonger (drop done piece)) (IsLonger piece) t (past start) (past mid) (past new) (λ d c longer. longer)
      (λ e d c was now first longer. longer_behind piece done (held (contents start)) e d c (law.all start e was) (law.all mid d now ∙ so.holds) longer)
      so.goes (law.write t mid new (drop done piece) answer so.goes.until gave)

  once : (done : ℕ) (mid new : W) (answer : Result ℕ Error) → IsSo done mid → writes t mid (drop done piece) answer new → WasInterrupted answer → IsSo done new
  once done mid new (Ok count) so gave was = absurd was
  once done mid new (Err error) so gave was =
      record { goes = goes_once done mid new (Err error) so gave; holds = law.write_fails t mid new (drop done piece) error gave ∙ so.holds }

  tries_on : (at done : ℕ) (mid : W) (tries : ℕ) (new : W) → IsSo done mid → AreInterrupted (λ before tried after. placeless (writes t) before at (drop done piece) tried after) mid tries new → IsSo done new
  tries_on at done mid _ _ so no_try = so
  tries_on at done mid _ new so (one_more {tries = tries} {answer = answer} {before = before} earlier gave was) =
      once done before new answer (tries_on at done mid tries before so earlier) gave was

  tried_on : (at done : ℕ) (mid new : W) (answer : Result ℕ Error) → IsSo done mid → WriteIsTried (placeless (writes t)) mid at (drop done piece) answer new → GoesOn (IsLonger piece) t (past start) (past new)
  tried_on at done mid new answer so tried =
      goes_once done tried.mid new answer (tries_on at done mid tried.tries tried.mid so tried.interrupted) tried.gave

  took_on : (at done count : ℕ) (mid new : W) → IsSo done mid → WriteIsTried (placeless (writes t)) mid at (drop done piece) (Ok count) new → IsSo (done + count) new
  took_on at done count mid new so tried =
      let there = tries_on at done mid tried.tries tried.mid so tried.interrupted in
      record {
        goes = goes_once done tried.mid new (Ok count) there tried.gave;
        holds = law.takes t tried.mid new (drop done piece) count tried.gave ∙ ap (λ (l : List ℕ). l ++ take count (drop done piece)) there.holds
            ∙ append_assoc (held (contents start)) (take done piece) (take count (drop done piece))
            ∙ ap (λ (l : List ℕ). held (contents start) ++ l) (sym (take-add done count piece));
      }

  module _ (fresh : (past start).until ≤ t) where
    front_on : (done : ℕ) (now : W) → HasWritten (placeless (writes t)) start 0 piece done now → IsSo done now
    front_on done now wrote_none =
        record {
          goes = rest_on (IsLonger piece) t (past start) (longer_none piece) (law.is_past start) fresh;
          holds = sym (append-nil (held (contents start)));
        }
    front_on done now (wrote_some {done = first} {count = count} {before = before} writing tried some) =
        took_on (0 + first) first count before now (front_on first before writing) tried

    flush_on : (mid new : W) (done : ℕ) (succeeds : Bool) → IsSo done mid → flushes t mid succeeds new → GoesOn (IsLonger piece) t (past start) (past new)
    flush_on mid new done succeeds so gave =
        go_on (IsLonger piece) IsSame (IsLonger piece) t (past start) (past mid) (past new) (λ d c longer. longer)
        (λ e d c was now longer same. subst (IsLonger piece e) (sym same) longer) so.goes (law.flush t mid new succeeds so.goes.until gave)

    -- all that a put of a piece does
    pub piece_on : {A F : Type 0} (answer : Result A F) (new : W) → PieceIs (writes t) (flushes t) start piece answer new → GoesOn (IsLonger piece) t (past start) (past new)
    piece_on (Ok done) new given = flush_on given.0 new _ _ (front_on _ given.0 given.1) given.2
    piece_on (Err fault) new (inl given) = flush_on given.0 new _ _ (front_on _ given.0 given.1) given.2
    piece_on (Err fault) new (inr given) = tried_on (0 + given.done) given.done given.before new given.answer (front_on given.done given.before given.front) given.tried
