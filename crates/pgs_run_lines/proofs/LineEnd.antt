-- The first line feed, as a search finds it.
use Rattle.std.proofs.Common.{◌≡◌, ℕ, zero, suc, ◌+◌, ◌<◌, ◌≤◌, Bool, true, false, ◌==◌, Option, Some, None, List, [], ◌∷◌, ◌++◌, length, take, drop, get_or, MatchOption, refl, sym, ap, ◌∙◌, add-one, arith}
use Rattle.std.proofs.Math.Seq.{drop-cons}
use Rattle.std.proofs.lemmas.List.{take-append-drop, take_all}
use Rattle.std.proofs.lemmas.Bool.Decides.{nat_tests}
use Rattle.memchr.specs.Find.{IsFirstByte, is_byte}
use Rattle.pgs_run_lines.specs.Input.{has_no_feed, IsLineEnd}

abbrev NoneBelow : List ℕ → ℕ → Type 0
NoneBelow bytes n = (k : ℕ) → k < n → (get_or bytes k 0 == 10) ≡ true → ⊥

first_is : (b : ℕ) (feed : Bool) → (b == 10) ≡ feed → ((b == 10) ≡ true → ⊥) → (b == 10) ≡ false
first_is b true e none = absurd (none e)
first_is b false e none = e

none_below : (bytes : List ℕ) (n : ℕ) → n ≤ length bytes → NoneBelow bytes n → has_no_feed (take n bytes) ≡ true
none_below bytes zero within none = refl
none_below [] (suc n) within none = absurd (omega arith)
none_below (b ∷ bytes) (suc n) within none =
    let e = first_is b (b == 10) refl (none 0 (omega arith)) in
    rw e (none_below bytes n (omega arith) (λ k below. none (suc k) (omega arith)))

feed_at : (bytes : List ℕ) (k : ℕ) → k < length bytes → (get_or bytes k 0 == 10) ≡ true → bytes ≡ take k bytes ++ 10 ∷ drop (k + 1) bytes
feed_at bytes k within is =
    let e : get_or bytes k 0 ≡ 10 = grind (arith, nat_tests) in
    sym (take-append-drop k bytes) ∙ ap (λ rest. take k bytes ++ rest) (drop-cons bytes k 0 within ∙ rw (e, add-one) refl)

pub line_end_at : (bytes : List ℕ) (found : Option ℕ) → IsFirstByte (is_byte 10) bytes found → MatchOption found (has_no_feed bytes ≡ true) (IsLineEnd bytes)
line_end_at bytes None none =
    ap has_no_feed (sym (take_all (length bytes) bytes (omega arith)))
    ∙ none_below bytes (length bytes) (omega arith) (λ k below. none k (omega arith) below)
line_end_at bytes (Some k) found = record {
  within = found.0.high;
  line = none_below bytes k (let h = found.0.high in omega arith) (λ j below. found.0.before j (omega arith) below);
  parts = feed_at bytes k found.0.high found.1;
}

-- where the search finds none there is none
pub none_left : (bytes : List ℕ) (found : Option ℕ) → MatchOption found (has_no_feed bytes ≡ true) (IsLineEnd bytes) → ((place : ℕ) → found ≡ Some place → ⊥) → has_no_feed bytes ≡ true
none_left bytes None none not_some = none
none_left bytes (Some place) end not_some = absurd (not_some place refl)
