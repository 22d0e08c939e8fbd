-- Digits and quoted texts, as the calls that read them need them.
use Rattle.std.proofs.Common.{◌≡◌, ℕ, ℤ, pos, negsuc, int_le, zero, suc, lit≤, ◌^◌, ◌<◌, ◌≤◌, ◌-◌, Bool, true, false, cond, not, List, [], ◌∷◌, ◌++◌, length, get_or, take, append-nil, None, inl, inr, refl, sym, ap, ◌∙◌, subst, arith, length-append, IsUtf8}
use Rattle.std.specs.Prelude.{encode_utf8, encode_utf8_all, flat_map}
use Rattle.std.specs.List.{list_all}
use Rattle.std.specs.Ffi.{without_last}
use Rattle.std.specs.Str.Parse.{digits_value, signed_digits_value, AllDigits, IsNumeral, without_leading_plus, without_leading_sign}
use Rattle.std.proofs.lemmas.Bool.{and_parts, and_from, not-true, not_from_false, eqb-true, eqb-false, ne_eqb, leb-true, le-leb}
use Rattle.std.proofs.lemmas.Bool.Decides.{nat_tests}
use Rattle.std.proofs.lemmas.Fmt.{IsAscii-from_digits}
use Rattle.std.proofs.lemmas.Int.Digits.{digits_value-lt}
use Rattle.std.proofs.lemmas.List.{take-append-le}
use Rattle.std.proofs.Math.Seq.{take-length}
use Rattle.std.specs.Int.RustNames.{FitsSigned}
use mir.Syntax.{w64}
use Rattle.pgs_base.specs.Value.{is_number}
use Rattle.pgs_parser.specs.KeyReaders.{number_value}
use Rattle.std.proofs.lemmas.Str.{IsUtf8-from_ascii, IsUtf8-append, encode_ascii, inside_one}
use Rattle.std.specs.Char.{digit_value}
use Rattle.pgs_base.specs.Name.{is_between}
use Rattle.pgs_lexer.specs.Form.{IsNumber, IsString, is_quote, written}
use Rattle.pgs_parser.specs.Literal.{with_single_quotes, text_in}

digit_small : (b : ℕ) → is_between 48 57 b ≡ true → digit_value b < 10
digit_small b h = grind (arith, nat_tests)

pub all_digits : (bs : List ℕ) → list_all (is_between 48 57) bs ≡ true → AllDigits 10 bs
all_digits [] h = tt
all_digits (b ∷ bs) h =
    let p = and_parts (is_between 48 57 b) (list_all (is_between 48 57) bs) h in
    (digit_small b p.0, all_digits bs p.1)

no_plus_first : (b : ℕ) (bs : List ℕ) → is_between 48 57 b ≡ true → without_leading_plus (b ∷ bs) ≡ b ∷ bs
no_plus_first b bs h = grind (arith, nat_tests)

no_plus : (bs : List ℕ) → list_all (is_between 48 57) bs ≡ true → without_leading_plus bs ≡ bs
no_plus [] h = refl
no_plus (b ∷ bs) h = no_plus_first b bs (and_parts (is_between 48 57 b) (list_all (is_between 48 57) bs) h).0

pub digits_utf8 : (bs : List ℕ) → list_all (is_between 48 57) bs ≡ true → IsUtf8 bs
digits_utf8 bs h = IsUtf8-from_ascii bs (IsAscii-from_digits bs (all_digits bs h))

power_small : (n : ℕ) → n ≤ 4 → 10 ^ n ≤ 10000
power_small zero h = lit≤ tt
power_small (suc zero) h = lit≤ tt
power_small (suc (suc zero)) h = lit≤ tt
power_small (suc (suc (suc zero))) h = lit≤ tt
power_small (suc (suc (suc (suc zero)))) h = lit≤ tt
power_small (suc (suc (suc (suc (suc n))))) h = absurd (omega arith)

pub short_number : (bs : List ℕ) → list_all (is_between 48 57) bs ≡ true → length bs ≤ 4 → digits_value 10 bs < 2 ^ 16
short_number bs h l = omega (arith, power_small (length bs) l, digits_value-lt 10 bs (all_digits bs h))

pub plain_value : (bs : List ℕ) → list_all (is_between 48 57) bs ≡ true → digits_value 10 (without_leading_plus bs) ≡ digits_value 10 bs
plain_value bs h = ap (digits_value 10) (no_plus bs h)

pub number_below : (bs : List ℕ) → list_all (is_between 48 57) bs ≡ true → digits_value 10 (without_leading_plus bs) < 10 ^ length bs
number_below bs h = subst (λ n. n < 10 ^ length bs) (sym (plain_value bs h)) (digits_value-lt 10 bs (all_digits bs h))

pub short_numeral : (bs : List ℕ) → list_all (is_between 48 57) bs ≡ true → 0 < length bs → length bs ≤ 4 →
    IsNumeral 10 (without_leading_plus bs) × (digits_value 10 (without_leading_plus bs) < 2 ^ 16)
short_numeral bs h some l =
    subst (λ ds. IsNumeral 10 ds × (digits_value 10 ds < 2 ^ 16)) (sym (no_plus bs h)) ((some, all_digits bs h), short_number bs h l)

-- ---- numbers with a sign

sign_first : (b : ℕ) (bs : List ℕ) → is_between 48 57 b ≡ true → without_leading_sign (b ∷ bs) ≡ b ∷ bs
sign_first b bs h = grind (arith, nat_tests)

no_sign : (bs : List ℕ) → list_all (is_between 48 57) bs ≡ true → without_leading_sign bs ≡ bs
no_sign [] h = refl
no_sign (b ∷ bs) h = sign_first b bs (and_parts (is_between 48 57 b) (list_all (is_between 48 57) bs) h).0

pub number_numeral : (bs : List ℕ) → IsNumber bs → IsNumeral 10 (without_leading_sign bs)
number_numeral bs (ds, some, all, inl e) = subst (λ bs. IsNumeral 10 (without_leading_sign bs)) (sym e) (subst (IsNumeral 10) (sym (no_sign ds all)) (some, all_digits ds all))
number_numeral bs (ds, some, all, inr e) = subst (λ bs. IsNumeral 10 (without_leading_sign bs)) (sym e) (some, all_digits ds all)

minus_utf8 : IsUtf8 (45 ∷ [])
minus_utf8 = let one : encode_utf8 45 ≡ 45 ∷ [] = encode_ascii 45 (omega arith) in (45 ∷ [], (refl, rw one refl))

pub number_utf8 : (bs : List ℕ) → IsNumber bs → IsUtf8 bs
number_utf8 bs (ds, some, all, inl e) = subst IsUtf8 (sym e) (digits_utf8 ds all)
number_utf8 bs (ds, some, all, inr e) = subst IsUtf8 (sym e) (IsUtf8-append (45 ∷ []) ds minus_utf8 (digits_utf8 ds all))

-- the range of 64 bits, as the test and as the condition
pub in_range : (n : ℤ) → is_number n ≡ true → FitsSigned w64 n
in_range (pos n) e =
    let h = leb-true n 9223372036854775807 (and_parts (int_le (negsuc 9223372036854775807) (pos n)) (int_le (pos n) (pos 9223372036854775807)) e).1 in
    omega arith
in_range (negsuc n) e =
    let h = leb-true n 9223372036854775807 (and_parts (int_le (negsuc 9223372036854775807) (negsuc n)) (int_le (negsuc n) (pos 9223372036854775807)) e).0 in
    omega arith

pub within_range : (n : ℤ) → FitsSigned w64 n → is_number n ≡ true
within_range (pos n) f =
    let h : n ≤ 9223372036854775807 = omega arith in
    and_from (int_le (negsuc 9223372036854775807) (pos n)) (int_le (pos n) (pos 9223372036854775807)) refl (le-leb n 9223372036854775807 h)
within_range (negsuc n) f =
    let h : n ≤ 9223372036854775807 = omega arith in
    and_from (int_le (negsuc 9223372036854775807) (negsuc n)) (int_le (negsuc n) (pos 9223372036854775807)) (le-leb n 9223372036854775807 h) refl

out_of_range : (n : ℤ) (b : Bool) → is_number n ≡ b → (FitsSigned w64 n → ⊥) → b ≡ false
out_of_range n true e h = absurd (h (in_range n e))
out_of_range n false e h = refl

pub no_number : (bs : List ℕ) → IsNumber bs → (IsNumeral 10 (without_leading_sign bs) × FitsSigned w64 (signed_digits_value 10 bs) → ⊥) →
    number_value (signed_digits_value 10 bs) ≡ None
no_number bs n h =
    let e = out_of_range (signed_digits_value 10 bs) (is_number (signed_digits_value 10 bs)) refl (λ f. h (number_numeral bs n, f)) in
    rw e refl

-- ---- quoted texts

-- a byte other than a quote
abbrev is_other : ℕ → Bool
is_other x = not (is_quote x)

by_index : (p : ℕ → Bool) (xs : List ℕ) → ((k : ℕ) → k < length xs → p (get_or xs k 0) ≡ true) → list_all p xs ≡ true
by_index p [] h = refl
by_index p (x ∷ xs) h = and_from (p x) (list_all p xs) (h 0 (omega arith)) (by_index p xs (λ k l. h (suc k) (omega arith)))

-- no byte of a character is a quote, unless the character is
bytes_other : (c : ℕ) → is_quote c ≡ false → list_all is_other (encode_utf8 c) ≡ true
bytes_other c e = by_index is_other (encode_utf8 c) (λ k l.
    not_from_false (is_quote (get_or (encode_utf8 c) k 0)) (ne_eqb (get_or (encode_utf8 c) k 0) 39 (λ same.
    eqb-false c 39 e (inside_one c [] (encode_utf8 c) k (sym (append-nil _)) l (omega arith) ∙ same))))

-- a character other than a quote stays
plain_bytes : (xs rest : List ℕ) → list_all (is_other) xs ≡ true → with_single_quotes (xs ++ rest) ≡ xs ++ with_single_quotes rest
plain_bytes [] rest e = refl
plain_bytes (x ∷ []) rest e = plain_first x rest (and_parts (is_other x) true e).0
  where
    plain_first : (x : ℕ) (rest : List ℕ) → is_other x ≡ true → with_single_quotes (x ∷ rest) ≡ x ∷ with_single_quotes rest
    plain_first x [] e = refl
    plain_first x (y ∷ rest) e = let q : is_quote x ≡ false = not-true (is_quote x) e in rw q refl
plain_bytes (x ∷ y ∷ xs) rest e =
    let p = and_parts (is_other x) (list_all (is_other) (y ∷ xs)) e in
    let q : is_quote x ≡ false = not-true (is_quote x) p.0 in
    let step : with_single_quotes (x ∷ y ∷ (xs ++ rest)) ≡ x ∷ with_single_quotes (y ∷ (xs ++ rest)) = rw q refl in
    step ∙ ap (λ ys. x ∷ ys) (plain_bytes (y ∷ xs) rest p.1)

one_character : (c : ℕ) (rest : List ℕ) (b : Bool) → is_quote c ≡ b →
    with_single_quotes (cond b (39 ∷ 39 ∷ []) (encode_utf8 c) ++ rest) ≡ encode_utf8 c ++ with_single_quotes rest
one_character c rest true e =
    let same : c ≡ 39 = eqb-true c 39 e in
    let one : encode_utf8 c ≡ 39 ∷ [] = encode_ascii c (omega arith) ∙ ap (λ x. x ∷ []) same in
    sym (ap (λ (l : List ℕ). l ++ with_single_quotes rest) one)
one_character c rest false e = plain_bytes (encode_utf8 c) rest (bytes_other c e)

-- characters as they are written are read again
read_again : (cs : List ℕ) → with_single_quotes (flat_map written cs) ≡ encode_utf8_all cs
read_again [] = refl
read_again (c ∷ cs) = one_character c (flat_map written cs) (is_quote c) refl ∙ ap (λ (l : List ℕ). encode_utf8 c ++ l) (read_again cs)

without_end : (xs : List ℕ) (x : ℕ) → without_last (xs ++ x ∷ []) ≡ xs
without_end xs x =
    let size : length (xs ++ x ∷ []) - 1 ≡ length xs = omega (arith, length-append xs (x ∷ [])) in
    ap (λ n. take n (xs ++ x ∷ [])) size ∙ take-append-le (length xs) xs (x ∷ []) (omega arith) ∙ take-length xs

-- the text of a string is UTF-8
pub text_utf8 : (bs : List ℕ) → IsString bs [] → IsUtf8 (text_in bs)
text_utf8 bs (cs, scalars, line, e, end) =
    let same : text_in bs ≡ encode_utf8_all cs = ap text_in e ∙ ap with_single_quotes (without_end (flat_map written cs) 39) ∙ read_again cs in
    subst IsUtf8 (sym same) (cs, (scalars, refl))
