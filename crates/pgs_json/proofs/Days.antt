-- Days as texts: no byte of one is escaped, and such a text is read as the same day.
use Rattle.std.proofs.Common.{◌≡◌, ℕ, zero, suc, ◌/◌, ◌%◌, ◌*◌, ◌+◌, ◌<◌, true, List, [], ◌∷◌, ◌++◌, flat_map, Some, IsUtf8, refl, sym, ap, ap₂, ◌∙◌, arith}
use Rattle.std.specs.Prelude.{codes}
use Rattle.std.specs.Char.{digit_char, digit_value}
use Rattle.std.specs.Str.Parse.{digits_value}
use Rattle.std.proofs.lemmas.Str.{digit_value-digit_char, IsUtf8-append}
use Rattle.std.proofs.lemmas.Bool.{lt-ltb, and_from}
use Rattle.json.proofs.Printed.Utf8.{IsUtf8-are_ascii}
use Rattle.std.proofs.lemmas.Bool.Decides.{nat_tests}
use Rattle.pgs_base.specs.Day.{is_day}
use Rattle.pgs_base.specs.DayForm.{number_in, day_in}
use Rattle.pgs_base.specs.Name.{is_between}
use Rattle.pgs_base.specs.declared.value.Value.TheVariants as values
use Rattle.pgs_base_text.specs.Text.{escaped, quoted, day_text, two_digits}
use Rattle.pgs_json.specs.Canonical.{value_text}

pub record IsShort (day : ℕ × ℕ × ℕ) : Type 0 where
  year : day.0 < 10000
  month : day.1 < 100
  day_of : day.2 < 100

pub short_day : (day : ℕ × ℕ × ℕ) → is_day day.0 day.1 day.2 ≡ true → IsShort day
short_day day h = record {
  year = grind (arith, nat_tests);
  month = grind (arith, nat_tests);
  day_of = grind (arith, nat_tests);
}

escaped_digit : (d : ℕ) → d < 10 → escaped (digit_char d) ≡ digit_char d ∷ []
escaped_digit zero h = refl
escaped_digit (suc zero) h = refl
escaped_digit (suc (suc zero)) h = refl
escaped_digit (suc (suc (suc zero))) h = refl
escaped_digit (suc (suc (suc (suc zero)))) h = refl
escaped_digit (suc (suc (suc (suc (suc zero))))) h = refl
escaped_digit (suc (suc (suc (suc (suc (suc zero)))))) h = refl
escaped_digit (suc (suc (suc (suc (suc (suc (suc zero))))))) h = refl
escaped_digit (suc (suc (suc (suc (suc (suc (suc (suc zero)))))))) h = refl
escaped_digit (suc (suc (suc (suc (suc (suc (suc (suc (suc zero))))))))) h = refl
escaped_digit (suc (suc (suc (suc (suc (suc (suc (suc (suc (suc n)))))))))) h = absurd (omega arith)

escaped_two : (n : ℕ) (rest : List ℕ) → n < 100 → flat_map escaped (two_digits n ++ rest) ≡ two_digits n ++ flat_map escaped rest
escaped_two n rest h =
    ap (λ l. l ++ (escaped (digit_char (n % 10)) ++ flat_map escaped rest)) (escaped_digit (n / 10) (omega arith))
    ∙ ap (λ l. digit_char (n / 10) ∷ (l ++ flat_map escaped rest)) (escaped_digit (n % 10) (omega arith))

pub escaped_day : (day : ℕ × ℕ × ℕ) → IsShort day → flat_map escaped (day_text day) ≡ day_text day
escaped_day day h =
    escaped_two (day.0 / 100) (two_digits (day.0 % 100) ++ (codes "-" ++ (two_digits day.1 ++ (codes "-" ++ two_digits day.2)))) (omega (arith, h.year))
    ∙ ap (λ l. two_digits (day.0 / 100) ++ l)
    (escaped_two (day.0 % 100) (codes "-" ++ (two_digits day.1 ++ (codes "-" ++ two_digits day.2))) (omega arith)
    ∙ ap (λ l. two_digits (day.0 % 100) ++ 45 ∷ l)
    (escaped_two day.1 (codes "-" ++ two_digits day.2) h.month
    ∙ ap (λ l. two_digits day.1 ++ 45 ∷ l) (escaped_two day.2 [] h.day_of)))

pub quoted_day : (day : ℕ × ℕ × ℕ) → IsShort day → codes "\"" ++ (day_text day ++ codes "\"") ≡ quoted (day_text day)
unfolding quoted
quoted_day day h = ap (λ l. codes "\"" ++ (l ++ codes "\"")) (sym (escaped_day day h))

pub date_text : (day : ℕ × ℕ × ℕ) → IsShort day → codes "{\"date\":\"" ++ (day_text day ++ codes "\"}") ≡ value_text (values.Date day)
unfolding quoted
date_text day h = ap (λ l. codes "{\"date\":" ++ (l ++ codes "}")) (quoted_day day h)

-- ---- such a text is UTF-8

digit_small : (d : ℕ) → d < 10 → digit_char d < 128
digit_small d h = grind (arith, nat_tests)

digit_utf8 : (d : ℕ) → d < 10 → IsUtf8 (digit_char d ∷ [])
digit_utf8 d h = IsUtf8-are_ascii (digit_char d ∷ []) (and_from _ _ (lt-ltb (digit_char d) 128 (digit_small d h)) refl)

two_utf8 : (n : ℕ) → n < 100 → IsUtf8 (two_digits n)
two_utf8 n h = IsUtf8-append (digit_char (n / 10) ∷ []) _ (digit_utf8 (n / 10) (omega arith)) (digit_utf8 (n % 10) (omega arith))

dash_utf8 : IsUtf8 (codes "-")
dash_utf8 = IsUtf8-are_ascii (codes "-") refl

pub day_utf8 : (day : ℕ × ℕ × ℕ) → IsShort day → IsUtf8 (day_text day)
day_utf8 day h =
    IsUtf8-append (two_digits (day.0 / 100)) _ (two_utf8 (day.0 / 100) (omega (arith, h.year)))
    (IsUtf8-append (two_digits (day.0 % 100)) _ (two_utf8 (day.0 % 100) (omega arith))
    (IsUtf8-append (codes "-") _ dash_utf8
    (IsUtf8-append (two_digits day.1) _ (two_utf8 day.1 h.month)
    (IsUtf8-append (codes "-") _ dash_utf8 (two_utf8 day.2 h.day_of)))))

-- ---- and it is read as the same day

digit_between : (d : ℕ) → d < 10 → is_between 48 57 (digit_char d) ≡ true
digit_between d h = grind (arith, nat_tests)

two_value : (a b : ℕ) → a < 10 → b < 10 → digits_value 10 (digit_char a ∷ digit_char b ∷ []) ≡ a * 10 + b
two_value a b h k =
    ap₂ (λ (x y : ℕ). (0 * 10 + x) * 10 + y) (digit_value-digit_char a (omega arith)) (digit_value-digit_char b (omega arith)) ∙ omega arith

four_value : (a b c d : ℕ) → a < 10 → b < 10 → c < 10 → d < 10
    → digits_value 10 (digit_char a ∷ digit_char b ∷ digit_char c ∷ digit_char d ∷ []) ≡ a * 1000 + b * 100 + c * 10 + d
four_value a b c d h i j k =
    ap₂ (λ (x y : ℕ). (((0 * 10 + x) * 10 + y) * 10 + digit_value (digit_char c)) * 10 + digit_value (digit_char d))
    (digit_value-digit_char a (omega arith)) (digit_value-digit_char b (omega arith))
    ∙ ap₂ (λ (x y : ℕ). (((0 * 10 + a) * 10 + b) * 10 + x) * 10 + y) (digit_value-digit_char c (omega arith)) (digit_value-digit_char d (omega arith))
    ∙ omega arith

number_in_two : (n : ℕ) → n < 100 → number_in (two_digits n) ≡ Some n
number_in_two n h =
    let a : n / 10 < 10 = omega arith in
    let b : n % 10 < 10 = omega arith in
    rw (digit_between (n / 10) a, digit_between (n % 10) b) (ap (λ (m : ℕ). Some m) (two_value (n / 10) (n % 10) a b ∙ omega arith))

number_in_four : (n : ℕ) → n < 10000 → number_in (two_digits (n / 100) ++ two_digits (n % 100)) ≡ Some n
number_in_four n h =
    let a : n / 100 / 10 < 10 = omega arith in
    let b : n / 100 % 10 < 10 = omega arith in
    let c : n % 100 / 10 < 10 = omega arith in
    let d : n % 100 % 10 < 10 = omega arith in
    rw (digit_between (n / 100 / 10) a, digit_between (n / 100 % 10) b, digit_between (n % 100 / 10) c, digit_between (n % 100 % 10) d)
    (ap (λ (m : ℕ). Some m) (four_value (n / 100 / 10) (n / 100 % 10) (n % 100 / 10) (n % 100 % 10) a b c d ∙ omega arith))

pub day_in_text : (day : ℕ × ℕ × ℕ) → is_day day.0 day.1 day.2 ≡ true → day_in (day_text day) ≡ Some day
unfolding day_in
day_in_text day h =
    let s = short_day day h in
    rw (number_in_four day.0 s.year, number_in_two day.1 s.month, number_in_two day.2 s.day_of, h) refl
