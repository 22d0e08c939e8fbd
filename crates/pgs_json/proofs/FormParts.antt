-- Digits, names and members of a form.
use Rattle.std.proofs.Common.{◌≡◌, ℕ, zero, suc, lit≤, ◌^◌, ◌<◌, ◌≤◌, Bool, true, false, cond, ltb, ◌&&◌, List, [], ◌∷◌, length, Some, None, option_and_then, refl, ap, ◌∙◌, arith}
use Rattle.std.specs.List.{list_all}
use Rattle.std.specs.Char.{digit_value}
use Rattle.std.specs.Str.{is_utf8, IsUtf8}
use Rattle.std.proofs.lemmas.Str.{is_utf8-from_IsUtf8, IsUtf8-from_is_utf8}
use Rattle.serde_json.specs.Read.{read}
use Rattle.pgs_json.specs.Form.{form}
use Rattle.pgs_json.specs.Line.{txn_of}
use Rattle.std.specs.Str.Parse.{digits_value, AllDigits}
use Rattle.std.proofs.lemmas.Int.Digits.{digits_value-lt}
use Rattle.std.proofs.lemmas.Bool.{lt-ltb}
use Rattle.std.proofs.lemmas.Bool.Decides.{nat_tests}
use Rattle.std.proofs.lemmas.List.Sums.{take_while-cons}
use Rattle.pgs_json.specs.Digits.{is_digit, digits_in, digits_at}

digit_small : (b : ℕ) → is_digit b ≡ true → digit_value b < 10
digit_small b h = grind (arith, nat_tests)

head_true : (a b : Bool) → (a && b) ≡ true → a ≡ true
head_true true b h = refl
head_true false b h = h

tail_true : (a b : Bool) → (a && b) ≡ true → b ≡ true
tail_true true b h = h
tail_true false b h = cc

pub all_digits : (bs : List ℕ) → list_all is_digit bs ≡ true → AllDigits 10 bs
all_digits [] h = tt
all_digits (b ∷ bs) h = (digit_small b (head_true _ _ h), all_digits bs (tail_true _ _ h))

pub digits_in-all : (bs : List ℕ) → list_all is_digit bs ≡ true → digits_in bs ≡ bs
digits_in-all [] h = refl
digits_in-all (b ∷ bs) h =
    take_while-cons is_digit b bs ∙ ap (λ (t : Bool). cond t (b ∷ digits_in bs) []) (head_true _ _ h) ∙ ap (λ ds. b ∷ ds) (digits_in-all bs (tail_true _ _ h))

pub digits_small : (bs : List ℕ) → list_all is_digit bs ≡ true → digits_value 10 bs < 10 ^ length bs
digits_small bs h = digits_value-lt 10 bs (all_digits bs h)

power_small : (n : ℕ) → n ≤ 4 → 10 ^ n ≤ 10000
power_small zero h = lit≤ tt
power_small (suc zero) h = lit≤ tt
power_small (suc (suc zero)) h = lit≤ tt
power_small (suc (suc (suc zero))) h = lit≤ tt
power_small (suc (suc (suc (suc zero)))) h = lit≤ tt
power_small (suc (suc (suc (suc (suc n))))) h = absurd (omega arith)

lt_of : (bs : List ℕ) (n : ℕ) → n ≤ 4 → digits_value 10 bs < 10 ^ n → digits_value 10 bs < 2 ^ 64
lt_of bs n h lt = omega (arith, power_small n h)

pub digits_at_all : (bs : List ℕ) → list_all is_digit bs ≡ true → length bs ≤ 4 → digits_at bs ≡ Some (digits_value 10 bs)
unfolding digits_at
digits_at_all bs h short =
    let small : digits_value 10 bs < 2 ^ 64 = lt_of bs (length bs) short (digits_small bs h) in
    ap (λ ds. cond (ltb (digits_value 10 ds) (2 ^ 64)) (Some (digits_value 10 ds)) None) (digits_in-all bs h)
    ∙ ap (λ (t : Bool). cond t (Some (digits_value 10 bs)) None) (lt-ltb _ _ small)

-- a line that is a text, and one that isn't
pub line_text : (line : List ℕ) → IsUtf8 line → txn_of line ≡ option_and_then form (read line)
unfolding txn_of
line_text line utf8 = rw (is_utf8-from_IsUtf8 line utf8) refl

line_none_by : (line : List ℕ) (b : Bool) → is_utf8 line ≡ b → (IsUtf8 line → ⊥) → txn_of line ≡ None
unfolding txn_of
line_none_by line true e h = absurd (h (IsUtf8-from_is_utf8 line e))
line_none_by line false e h = rw e refl

pub line_none : (line : List ℕ) → (IsUtf8 line → ⊥) → txn_of line ≡ None
line_none line h = line_none_by line (is_utf8 line) refl h
