-- A number that digits go on with, one digit on.
use Rattle.std.proofs.Common.{◌≡◌, ◌∙◌, ℕ, ◌+◌, ◌*◌, ◌^◌, ◌<◌, ◌&&◌, List, drop, length, get_or, ap, refl, Bool, true, false, Option, Some, None, nat_lt, if◌then◌else◌, option_and_then}
use Rattle.std.specs.Char.{is_ascii_digit, digit_value}
use Rattle.std.proofs.lemmas.List.{drop_more}
use Rattle.pgs_run_words.specs.Words.{number_after}

abbrev with_digit : ℕ → ℕ → Option ℕ
with_digit number digit =
    if is_ascii_digit digit && nat_lt (number * 10 + digit_value digit) (2 ^ 64) then Some (number * 10 + digit_value digit) else None

chosen : (c : Bool) (number : ℕ) (rest : List ℕ)
    → (if c then number_after number rest else None) ≡ option_and_then (λ n. number_after n rest) (if c then Some number else None)
chosen true number rest = refl
chosen false number rest = refl

pub number_on : (number : ℕ) (word : List ℕ) (i : ℕ) (d : ℕ) → i < length word
    → number_after number (drop i word) ≡ option_and_then (λ n. number_after n (drop (i + 1) word)) (with_digit number (get_or word i d))
number_on number word i d h =
    ap (number_after number) (drop_more word i d h)
    ∙ chosen (is_ascii_digit (get_or word i d) && nat_lt (number * 10 + digit_value (get_or word i d)) (2 ^ 64)) _ (drop (i + 1) word)
