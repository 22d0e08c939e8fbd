-- Lines of a feed, as searches and loops find their parts.
use Rattle.std.proofs.Common.{◌≡◌, ◌∙◌, ℕ, zero, suc, ◌+◌, ◌*◌, ◌^◌, ◌<◌, ◌≤◌, ◌&&◌, ◌==◌, not, Bool, true, false, List, [], ◌∷◌, ◌++◌, length, take, drop, get_or, Option, Some, None, nat_lt, if◌then◌else◌, option_and_then, MatchOption, inl, inr, refl, sym, ap, arith}
use Rattle.std.specs.Char.{is_ascii_digit, digit_value}
use Rattle.std.specs.List.{list_all, position_or_len}
use Rattle.std.proofs.lemmas.Bool.Decides.{nat_tests}
use Rattle.std.proofs.lemmas.List.{drop_more, take_more, take-append-drop}
use Rattle.memchr.specs.Find.{IsFirstByte, IsLastByte, is_byte}
use Rattle.pgs_world_files.specs.FeedLines.{IsBehindFeed, comma_in, number_after}

abbrev with_digit : ℕ → ℕ → Option ℕ
with_digit number digit =
    if is_ascii_digit digit && nat_lt (number * 10 + digit_value digit) (2 ^ 64) then Some (number * 10 + digit_value digit) else None

chosen : (c : Bool) (number : ℕ) (rest : List ℕ)
    → (if c then number_after number rest else None) ≡ option_and_then (λ n. number_after n rest) (if c then Some number else None)
chosen true number rest = refl
chosen false number rest = refl

-- a number that digits go on with, one digit on
pub number_on : (number : ℕ) (word : List ℕ) (i : ℕ) (d : ℕ) → i < length word
    → number_after number (drop i word) ≡ option_and_then (λ n. number_after n (drop (i + 1) word)) (with_digit number (get_or word i d))
number_on number word i d h =
    ap (number_after number) (drop_more word i d h)
    ∙ chosen (is_ascii_digit (get_or word i d) && nat_lt (number * 10 + digit_value (get_or word i d)) (2 ^ 64)) _ (drop (i + 1) word)

-- no byte below a place is this one
abbrev NoneBelow : ℕ → List ℕ → ℕ → Type 0
NoneBelow a bytes n = (k : ℕ) → k < n → (get_or bytes k 0 == a) ≡ true → ⊥

isnt : (a b : ℕ) (same : Bool) → (b == a) ≡ same → ((b == a) ≡ true → ⊥) → (b == a) ≡ false
isnt a b true e none = absurd (none e)
isnt a b false e none = e

pub place_is : (a : ℕ) (bytes : List ℕ) (k : ℕ) → k < length bytes → NoneBelow a bytes k → (get_or bytes k 0 == a) ≡ true → position_or_len (λ b. b == a) bytes ≡ k
place_is a [] k lt none is = absurd (omega arith)
place_is a (b ∷ bytes) zero lt none is = rw is refl
place_is a (b ∷ bytes) (suc k) lt none is =
    let e = isnt a b (b == a) refl (none 0 (omega arith)) in
    rw (e, place_is a bytes k (omega arith) (λ j below. none (suc j) (omega arith)) is) (omega arith)

pub place_none : (a : ℕ) (bytes : List ℕ) → NoneBelow a bytes (length bytes) → position_or_len (λ b. b == a) bytes ≡ length bytes
place_none a [] none = refl
place_none a (b ∷ bytes) none =
    let e = isnt a b (b == a) refl (none 0 (omega arith)) in
    rw (e, place_none a bytes (λ j below. none (suc j) (omega arith))) (omega arith)

-- the first comma, as the search finds it
pub comma_at : (bytes : List ℕ) (found : Option ℕ) → IsFirstByte (is_byte 44) bytes found → MatchOption found (comma_in bytes ≡ length bytes) (λ place. (place < length bytes) × (comma_in bytes ≡ place))
comma_at bytes None none = place_none 44 bytes (λ k below. none k (omega arith) below)
comma_at bytes (Some k) found = (found.0.high, place_is 44 bytes k found.0.high (λ j below. found.0.before j (omega arith) below) found.1)

none_in : (bytes : List ℕ) → NoneBelow 10 bytes (length bytes) → list_all (λ b. not (b == 10)) bytes ≡ true
none_in [] none = refl
none_in (b ∷ bytes) none =
    let e = isnt 10 b (b == 10) refl (none 0 (omega arith)) in
    rw e (none_in bytes (λ k below. none (suc k) (omega arith)))

none_from : (bytes : List ℕ) (n : ℕ) → ((k : ℕ) → n ≤ k → k < length bytes → (get_or bytes k 0 == 10) ≡ true → ⊥) → list_all (λ b. not (b == 10)) (drop n bytes) ≡ true
none_from bytes zero none = none_in bytes (λ k below. none k (omega arith) below)
none_from [] (suc n) none = refl
none_from (b ∷ bytes) (suc n) none = none_from bytes n (λ k from below. none (suc k) (omega arith) (omega arith))

behind_last : (bytes : List ℕ) (k : ℕ) → IsLastByte (is_byte 10) bytes (Some k) → IsBehindFeed bytes (drop (k + 1) bytes)
behind_last bytes k found =
    let is = found.1 in
    let e : get_or bytes k 0 ≡ 10 = grind (arith, nat_tests) in
    record {
      before = take (k + 1) bytes;
      parts = sym (take-append-drop (k + 1) bytes);
      starts = inr (take k bytes, take_more bytes k 0 found.0.high ∙ ap (λ b. take k bytes ++ b ∷ []) e);
      no_feed = none_from bytes (k + 1) (λ j from below. found.0.after j from below);
    }

-- the bytes behind the last line feed, as the search finds it
pub behind_at : (bytes : List ℕ) (found : Option ℕ) → IsLastByte (is_byte 10) bytes found → MatchOption found (IsBehindFeed bytes bytes) (λ place. (place < length bytes) × IsBehindFeed bytes (drop (place + 1) bytes))
behind_at bytes None none = record {
  before = [];
  parts = refl;
  starts = inl refl;
  no_feed = none_in bytes (λ k below. none k (omega arith) below);
}
behind_at bytes (Some k) found = (found.0.high, behind_last bytes k found)
