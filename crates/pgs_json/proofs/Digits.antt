-- The digits at the front of bytes, one after the other.
use Rattle.std.proofs.Common.{◌≡◌, ℕ, suc, ◌+◌, ◌*◌, ◌^◌, ◌<◌, ◌≤◌, Bool, true, false, cond, ltb, List, [], ◌∷◌, length, get_or, drop, Option, Some, None, option_map, refl, sym, ap, ◌∙◌, arith, add-one, drop-cons}
use Rattle.std.specs.List.{prefix_len}
use Rattle.std.specs.Char.{digit_value}
use Rattle.std.specs.Str.Parse.{digits_value_after}
use Rattle.std.proofs.lemmas.Bool.{le-ltb, lt-ltb, ltb-true, ltb-false}
use Rattle.std.proofs.lemmas.Option.{cond_some}
use Rattle.std.proofs.lemmas.List.{drop_all}
use Rattle.std.proofs.lemmas.List.Sums.{take_while-cons}
use Rattle.pgs_json.specs.Digits.{is_digit, digits_in, digits_at}

-- more digits make no number smaller
pub le_digits_value_after : (n : ℕ) (ds : List ℕ) → n ≤ digits_value_after 10 n ds
le_digits_value_after n [] = omega arith
le_digits_value_after n (d ∷ ds) = omega (arith, le_digits_value_after (n * 10 + digit_value d) ds)

-- a number and a count, where the number is below 2 ^ 64
abbrev pub within : ℕ → ℕ → Option (ℕ × ℕ)
within number count = cond (ltb number (2 ^ 64)) (Some (number, count)) None

-- the number that the digits at the front write after those of n, and how many there are after count
abbrev pub found_on : ℕ → ℕ → List ℕ → Option (ℕ × ℕ)
found_on count n bytes = within (digits_value_after 10 n (digits_in bytes)) (count + prefix_len is_digit bytes)

pub found_on-start : (bytes : List ℕ) → option_map (λ number. (number, prefix_len is_digit bytes)) (digits_at bytes) ≡ found_on 0 0 bytes
unfolding digits_at
found_on-start bytes =
    let number = digits_value_after 10 0 (digits_in bytes) in
    let count = prefix_len is_digit bytes in
    elim (ltb number (2 ^ 64)) as (λ b. option_map {T = ℕ} {U = ℕ × ℕ} (λ v. (v, count)) (cond b (Some number) None) ≡ cond b (Some (number, 0 + count)) None) [
      | true ↦ ap (λ (k : ℕ). Some (number, k)) (omega arith)
      | false ↦ refl
    ]

at_digit : (count n b : ℕ) (bytes : List ℕ) → is_digit b ≡ true → found_on count n (b ∷ bytes) ≡ found_on (count + 1) (n * 10 + digit_value b) bytes
at_digit count n b bytes e =
    let digits : digits_in (b ∷ bytes) ≡ b ∷ digits_in bytes = take_while-cons is_digit b bytes ∙ ap (λ (t : Bool). cond t (b ∷ digits_in bytes) []) e in
    let len : prefix_len is_digit (b ∷ bytes) ≡ 1 + prefix_len is_digit bytes = ap (λ (t : Bool). cond t (1 + prefix_len is_digit bytes) 0) e in
    let more : count + prefix_len is_digit (b ∷ bytes) ≡ (count + 1) + prefix_len is_digit bytes = omega (arith, len) in
    ap (λ (ds : List ℕ). within (digits_value_after 10 n ds) (count + prefix_len is_digit (b ∷ bytes))) digits ∙ ap (λ (k : ℕ). within (digits_value_after 10 (n * 10 + digit_value b) (digits_in bytes)) k) more

at_end : (count n : ℕ) (bytes : List ℕ) → digits_in bytes ≡ [] → prefix_len is_digit bytes ≡ 0 → n < 2 ^ 64 → found_on count n bytes ≡ Some (n, count)
at_end count n bytes digits len lt =
    let stays : count + prefix_len is_digit bytes ≡ count = omega (arith, len) in
    ap (λ (ds : List ℕ). within (digits_value_after 10 n ds) (count + prefix_len is_digit bytes)) digits ∙ ap (within n) stays ∙ ap (λ (t : Bool). cond t (Some (n, count)) None) (lt-ltb n (2 ^ 64) lt)

at_other : (count n b : ℕ) (bytes : List ℕ) → is_digit b ≡ false → n < 2 ^ 64 → found_on count n (b ∷ bytes) ≡ Some (n, count)
at_other count n b bytes e lt =
    at_end count n (b ∷ bytes) (take_while-cons is_digit b bytes ∙ ap (λ (t : Bool). cond t (b ∷ digits_in bytes) []) e) (ap (λ (t : Bool). cond t (1 + prefix_len is_digit bytes) 0) e) lt

pub found_on-large : (count n : ℕ) (bytes : List ℕ) → 2 ^ 64 ≤ n → found_on count n bytes ≡ None
found_on-large count n bytes le =
    ap (λ (t : Bool). cond t (Some (digits_value_after 10 n (digits_in bytes), count + prefix_len is_digit bytes)) None) (le-ltb (digits_value_after 10 n (digits_in bytes)) (2 ^ 64) (omega (arith, le_digits_value_after n (digits_in bytes))))

pub found_on-digit : (n : ℕ) (bytes : List ℕ) (i : ℕ) → i < length bytes → is_digit (get_or bytes i 0) ≡ true
    → found_on i n (drop i bytes) ≡ found_on (i + 1) (n * 10 + digit_value (get_or bytes i 0)) (drop (i + 1) bytes)
found_on-digit n bytes i lt e =
    ap (found_on i n) (drop-cons bytes i 0 lt) ∙ at_digit i n (get_or bytes i 0) (drop (suc i) bytes) e ∙ ap (λ (k : ℕ). found_on (i + 1) (n * 10 + digit_value (get_or bytes i 0)) (drop k bytes)) (sym (add-one i))

pub found_on-other : (n : ℕ) (bytes : List ℕ) (i : ℕ) → i < length bytes → is_digit (get_or bytes i 0) ≡ false → n < 2 ^ 64
    → found_on i n (drop i bytes) ≡ Some (n, i)
found_on-other n bytes i lt e small =
    ap (found_on i n) (drop-cons bytes i 0 lt) ∙ at_other i n (get_or bytes i 0) (drop (suc i) bytes) e small

pub found_on-end : (n : ℕ) (bytes : List ℕ) (i : ℕ) → length bytes ≤ i → n < 2 ^ 64 → found_on i n (drop i bytes) ≡ Some (n, i)
found_on-end n bytes i le small = ap (found_on i n) (drop_all i bytes le) ∙ at_end i n [] refl refl small

-- what a test of the bound tells
pub small_from_some : (v x : ℕ) → cond (ltb v (2 ^ 64)) (Some v) None ≡ Some x → (v < 2 ^ 64) × (v ≡ x)
small_from_some v x e = let found = cond_some (ltb v (2 ^ 64)) v x e in (ltb-true v (2 ^ 64) found.0, found.1)

cond_none : (t : Bool) (v : ℕ) → cond t (Some v) None ≡ None → t ≡ false
cond_none true v e = absurd cc
cond_none false v e = refl

pub large_from_none : (v : ℕ) → cond (ltb v (2 ^ 64)) (Some v) None ≡ None → 2 ^ 64 ≤ v
large_from_none v e = ltb-false v (2 ^ 64) (cond_none (ltb v (2 ^ 64)) v e)
