-- What a follower stands for once it took a piece.
use Rattle.std.proofs.Common.{◌≡◌, ℕ, suc, ◌+◌, ◌<◌, Bool, true, false, ◌==◌, List, [], ◌∷◌, ◌++◌, length, take, drop, Option, Some, None, is_some, refl, sym, ap, ◌∙◌, length-take, arith}
use Rattle.pgs_base.specs.declared.limits.Limits.{Limits}
use Rattle.pgs_run_lines.specs.Input.{Lines, lines_of, has_no_feed, IsLineEnd}
use Rattle.pgs_run_lines.proofs.Cutting.{lines_of_extended}
use Rattle.pgs_follow.specs.declared.fault.FollowFault.{FollowFault}
use Rattle.pgs_follow.specs.Followed.{Followed, after_line, with_rest, followed, rest_of, nothing_followed}
use Rattle.pgs_follow.specs.Standing.{FollowerState, StandsFor, through_feed, rest_in}
use Rattle.pgs_follow.proofs.Following.{of_ended, followed_none, followed_kept, followed_ended, lines_ended, fault_stays}

none_of : (o : Option FollowFault) → is_some o ≡ false → o ≡ None
none_of None h = refl
none_of (Some x) h = cc

-- no bytes
pub stands_at_first : (f : FollowerState) → f.followed ≡ nothing_followed → f.line ≡ [] → StandsFor [] f
unfolding followed
stands_at_first f is line = record { told = is; line = λ _. line }

-- without a fault what was followed is what the ended lines give
ended_of : (bytes : List ℕ) (f : FollowerState) → StandsFor bytes f → is_some f.followed.fault ≡ false → f.followed ≡ of_ended f.limits bytes
ended_of bytes f stands none = stands.told ∙ followed_none f.limits bytes (ap (λ (g : Followed). is_some g.fault) (sym stands.told) ∙ none)

-- it took the rest of a line and its line feed
pub stands_ended : (old new : FollowerState) (part bytes : List ℕ) → has_no_feed part ≡ true → is_some old.followed.fault ≡ false → new.limits ≡ old.limits
    → new.followed ≡ after_line old.limits old.followed (old.line ++ part) → new.line ≡ [] → StandsFor bytes old → StandsFor (bytes ++ (part ++ 10 ∷ [])) new
stands_ended old new part bytes feed none limits is line stands = record {
  told =
      is ∙ ap (λ (f : Followed). after_line old.limits f (old.line ++ part)) (ended_of bytes old stands none)
      ∙ ap (λ (l : List ℕ). after_line old.limits (of_ended old.limits bytes) (l ++ part)) (stands.line (none_of old.followed.fault none))
      ∙ sym (followed_ended old.limits bytes part feed) ∙ ap (λ (l : Limits). followed l (bytes ++ (part ++ 10 ∷ []))) (sym limits);
  line = λ _. line ∙ ap (λ (l : Lines). l.rest) (sym (lines_ended bytes part feed));
}

-- it took bytes without a line feed
pub stands_kept : (old new : FollowerState) (part bytes : List ℕ) → has_no_feed part ≡ true → is_some old.followed.fault ≡ false → new.limits ≡ old.limits
    → new.followed ≡ with_rest old.followed (old.line ++ part) → (new.followed.fault ≡ None → new.line ≡ old.line ++ part) → StandsFor bytes old → StandsFor (bytes ++ part) new
stands_kept old new part bytes feed none limits is line stands =
    let rest : old.line ≡ (lines_of bytes).rest = stands.line (none_of old.followed.fault none) in record {
      told =
          is ∙ ap (λ (f : Followed). with_rest f (old.line ++ part)) (ended_of bytes old stands none)
          ∙ ap (λ (l : List ℕ). with_rest (of_ended old.limits bytes) (l ++ part)) rest
          ∙ sym (followed_kept old.limits bytes part feed) ∙ ap (λ (l : Limits). followed l (bytes ++ part)) (sym limits);
      line = λ none. line none ∙ ap (λ (l : List ℕ). l ++ part) rest ∙ ap (λ (l : Lines). l.rest) (sym (lines_of_extended bytes part feed));
    }

-- it took bytes after a fault
pub stands_on : (f : FollowerState) (more bytes : List ℕ) → is_some f.followed.fault ≡ true → StandsFor bytes f → StandsFor (bytes ++ more) f
stands_on f more bytes fault stands = record {
  told = stands.told ∙ sym (fault_stays f.limits bytes more (ap (λ (g : Followed). is_some g.fault) (sym stands.told) ∙ fault));
  line = λ none. let no : true ≡ false = sym fault ∙ ap is_some none in cc;
}

-- ---- how much is taken

through_front : (part more : List ℕ) → has_no_feed part ≡ true → through_feed (part ++ 10 ∷ more) ≡ length part + 1
through_front [] more none = refl
through_front (b ∷ part) more none = by_byte (b == 10) refl none (through_front part more)
  where
    by_byte : (feed : Bool) → (b == 10) ≡ feed → has_no_feed (b ∷ part) ≡ true → (has_no_feed part ≡ true → through_feed (part ++ 10 ∷ more) ≡ length part + 1)
        → through_feed (b ∷ (part ++ 10 ∷ more)) ≡ suc (length part) + 1
    by_byte true e none later = cc (rw e at none)
    by_byte false e none later =
        let k : through_feed (part ++ 10 ∷ more) ≡ length part + 1 = later (rw e at none) in
        rw e (omega arith)

front_length : (piece : List ℕ) (end : ℕ) → end < length piece → length (take end piece) ≡ end
front_length piece end within = simp length-take (omega arith)

pub through_end : (piece : List ℕ) (end : ℕ) → IsLineEnd piece end → through_feed piece ≡ end + 1
through_end piece end is =
    ap through_feed is.parts ∙ through_front (take end piece) (drop (end + 1) piece) is.line
    ∙ ap (λ (n : ℕ). n + 1) (front_length piece end is.within)

pub through_all : (piece : List ℕ) → has_no_feed piece ≡ true → through_feed piece ≡ length piece
through_all [] none = refl
through_all (b ∷ piece) none = by_byte (b == 10) refl none (through_all piece)
  where
    by_byte : (feed : Bool) → (b == 10) ≡ feed → has_no_feed (b ∷ piece) ≡ true → (has_no_feed piece ≡ true → through_feed piece ≡ length piece) → through_feed (b ∷ piece) ≡ suc (length piece)
    by_byte true e none later = cc (rw e at none)
    by_byte false e none later = rw e (ap suc (later (rw e at none)))

front_and_feed : (part more : List ℕ) → take (suc (length part)) (part ++ 10 ∷ more) ≡ part ++ 10 ∷ []
front_and_feed [] more = refl
front_and_feed (b ∷ part) more = ap (λ (xs : List ℕ). b ∷ xs) (front_and_feed part more)

-- the bytes up to a line feed and with it
pub front_ended : (piece : List ℕ) (end : ℕ) → IsLineEnd piece end → take (end + 1) piece ≡ take end piece ++ 10 ∷ []
front_ended piece end is =
    let n : length (take end piece) ≡ end = front_length piece end is.within in
    let e : end + 1 ≡ suc (length (take end piece)) = omega arith in
    ap (take (end + 1)) is.parts ∙ ap (λ (k : ℕ). take k (take end piece ++ 10 ∷ drop (end + 1) piece)) e
    ∙ front_and_feed (take end piece) (drop (end + 1) piece)

-- ---- the rest

pub rest_told : (f : FollowerState) (bytes : List ℕ) → StandsFor bytes f → rest_in f ≡ rest_of f.limits bytes
unfolding rest_of
rest_told f bytes stands = by_fault (is_some f.followed.fault) refl
  where
    by_fault : (fault : Bool) → is_some f.followed.fault ≡ fault → rest_in f ≡ rest_of f.limits bytes
    by_fault true e = rw (e, ← stands.told, e) refl
    by_fault false e = rw (e, ← stands.told, e) (ap length (stands.line (none_of f.followed.fault e)))
