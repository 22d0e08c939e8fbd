-- Digits alone as a number of JSON.
use Rattle.std.proofs.Common.{◌≡◌, ℕ, suc, ◌+◌, ◌^◌, ◌<◌, ◌≤◌, Bool, true, false, cond, ◌&&◌, ◌==◌, List, [], ◌∷◌, ◌++◌, length, get_or, Option, Some, None, option_map, refl, sym, ap, ◌∙◌, arith, append-nil, lt-ltb, ne_eqb}
use Rattle.std.specs.List.{list_all, prefix_len}
use Rattle.std.specs.Str.Parse.{digits_value}
use Rattle.std.proofs.lemmas.Bool.Decides.{nat_tests}
use Rattle.fast_float.specs.Text.{Parts, scan, digits_of, IsWellFormed}
use Rattle.fast_float.proofs.Writing.{scan-text_of}
use Rattle.serde_json.specs.Data.{unsigned}
use Rattle.serde_json.specs.Read.{number_of, number_from, is_integer}
use Rattle.pgs_json.specs.Digits.{is_digit, digits_in, digits_at}
use Rattle.pgs_json.proofs.Digits.{small_from_some}
use Rattle.pgs_json.proofs.FormParts.{all_digits, digits_in-all}

-- a text that its digits fill has no other bytes
all_from_head : (b : ℕ) (bs : List ℕ) (t : Bool) → (length bs ≤ prefix_len is_digit bs → list_all is_digit bs ≡ true) → suc (length bs) ≤ cond t (1 + prefix_len is_digit bs) 0
    → (t && list_all is_digit bs) ≡ true
all_from_head b bs true more h = more (omega (arith, h))
all_from_head b bs false more h = absurd (omega (arith, h))

all_from_len : (bs : List ℕ) → length bs ≤ prefix_len is_digit bs → list_all is_digit bs ≡ true
all_from_len [] h = refl
all_from_len (b ∷ bs) h = all_from_head b bs (is_digit b) (λ more. all_from_len bs more) h

no_minus : (b : ℕ) → is_digit b ≡ true → b ≡ 45 → ⊥
no_minus b h e = grind (arith, nat_tests)

head_true : (a b : Bool) → (a && b) ≡ true → a ≡ true
head_true true b h = refl
head_true false b h = h

first_digit : (bs : List ℕ) → list_all is_digit bs ≡ true → 0 < length bs → (get_or bs 0 0 == 45) ≡ false
first_digit [] all some = absurd (omega (arith, some))
first_digit (b ∷ bs) all some = ne_eqb b 45 (no_minus b (head_true _ _ all))

abbrev parts : List ℕ → Parts
parts ds = record { whole = ds; point = false; fraction = []; exponent_negative = false; exponent = []; len = length (ds ++ []) }

scanned : (bs : List ℕ) → list_all is_digit bs ≡ true → 0 < length bs → number_of bs ≡ number_from false (parts bs)
unfolding number_of
scanned bs all some =
    let formed : IsWellFormed (parts bs) = record { whole_digits = all_digits bs all; fraction_digits = tt; exponent_digits = tt; no_point = λ _. refl; no_exponent = λ _. refl; len_is = refl } in
    rw (first_digit bs all some) (ap (number_from false) (ap scan (sym (append-nil bs)) ∙ scan-text_of (parts bs) formed))

whole : (bs : List ℕ) → list_all is_digit bs ≡ true → 0 < length bs → digits_value 10 bs < 2 ^ 64 → number_of bs ≡ Some (unsigned (digits_value 10 bs))
whole bs all some small =
    let integer : is_integer (parts bs) ≡ true = rw (lt-ltb _ _ some) in
    let value : digits_of (parts bs) ≡ digits_value 10 bs = rw append-nil refl in
    scanned bs all some ∙ rw (integer, value) (rw (lt-ltb _ _ small))

found : (bs : List ℕ) (o : Option ℕ) (n count : ℕ) → option_map {T = ℕ} {U = ℕ × ℕ} (λ number. (number, prefix_len is_digit bs)) o ≡ Some (n, count) → (o ≡ Some n) × (prefix_len is_digit bs ≡ count)
found bs None n count e = absurd cc
found bs (Some v) n count e =
    let second : Some (prefix_len is_digit bs) ≡ Some count = ap (option_map (λ (p : ℕ × ℕ). p.1)) e in
    (ap (option_map (λ (p : ℕ × ℕ). p.0)) e, cc)

-- digits that fill a text write its number
pub number_of_digits : (bs : List ℕ) (n count : ℕ) → option_map {T = ℕ} {U = ℕ × ℕ} (λ number. (number, prefix_len is_digit bs)) (digits_at bs) ≡ Some (n, count) → 0 < count → count ≡ length bs
    → number_of bs ≡ Some (unsigned n)
unfolding digits_at
number_of_digits bs n count e some full =
    let read = found bs (digits_at bs) n count e in
    let all = all_from_len bs (omega (arith, read.1, full)) in
    let small = small_from_some (digits_value 10 (digits_in bs)) n read.0 in
    let same : digits_value 10 (digits_in bs) ≡ digits_value 10 bs = ap (digits_value 10) (digits_in-all bs all) in
    whole bs all (omega (arith, some, full)) (omega (arith, small.0, same)) ∙ ap (λ v. Some (unsigned v)) (sym same ∙ small.1)
