-- Parts of a line: bytes without a line feed, and how many there are at most.
use Rattle.std.proofs.Common.{◌≡◌, ℕ, suc, ◌+◌, ◌*◌, ◌/◌, ◌%◌, ◌^◌, ◌<◌, ◌≤◌, ℤ, pos, negsuc, Bool, true, false, ◌&&◌, not, ◌==◌, leb, List, [], ◌∷◌, ◌++◌, map, flat_map, length, decimal, inl, inr, refl, ◌∙◌, arith, length-append}
use Rattle.std.specs.Prelude.{codes}
use Rattle.std.specs.Fmt.{signed_decimal}
use Rattle.std.specs.Char.{digit_char}
use Rattle.std.specs.List.{join_with_byte, list_all}
use Rattle.std.specs.Str.Parse.{AllDigits}
use Rattle.std.proofs.lemmas.Bool.{and_parts, cases_eq, cases_lt, leb-true, lt-ltb, le-ltb, ne_eqb}
use Rattle.std.proofs.lemmas.Bool.Decides.{nat_tests}
use Rattle.std.proofs.lemmas.Fmt.{decimal_is_IsNumeral, length-decimal-le}
use Rattle.std.proofs.lemmas.List.Folds.{list_all-append}
use Rattle.pgs_base.specs.Name.{is_name, is_name_start, is_name_byte}
use Rattle.pgs_base.specs.Value.{is_number}
use Rattle.pgs_base_text.specs.Text.{escaped, quoted, day_text, truth_text}
use Rattle.pgs_run_lines.specs.Input.{has_no_feed}
use Rattle.pgs_json.specs.Canonical.{labels_text, member_text}

-- bytes without a line feed, so many at most
pub record IsPart (text : List ℕ) (most : ℕ) : Type 0 where
  pub line : has_no_feed text ≡ true
  pub short : length text ≤ most

pub longer : {text : List ℕ} {n : ℕ} (m : ℕ) → IsPart text n → n ≤ m → IsPart text m
longer m part h = record { line = part.line; short = omega (arith, part.short, h) }

-- one part behind another
pub part_append : {a b : List ℕ} {m n : ℕ} → IsPart a m → IsPart b n → IsPart (a ++ b) (m + n)
part_append {a} {b} first second = record {
  line = list_all-append (λ (c : ℕ). not (c == 10)) a b ∙ rw (first.line, second.line) refl;
  short = omega (arith, length-append a b, first.short, second.short);
}

pub part_byte : (b : ℕ) → (b == 10) ≡ false → IsPart (b ∷ []) 1
part_byte b other = record { line = rw other refl; short = omega arith }

-- ---- quoted texts

digit_is_no_feed : (d : ℕ) → d < 16 → digit_char d ≡ 10 → ⊥
digit_is_no_feed d h e = grind (arith, nat_tests)

part_digits : (m n : ℕ) → m < 16 → n < 16 → IsPart (codes "\\u00" ++ digit_char m ∷ digit_char n ∷ []) 6
part_digits m n h k = record {
  line = rw (ne_eqb (digit_char m) 10 (digit_is_no_feed m h), ne_eqb (digit_char n) 10 (digit_is_no_feed n k)) refl;
  short = omega arith;
}

part_letter : (letter : ℕ) → (letter == 10) ≡ false → IsPart (92 ∷ letter ∷ []) 6
part_letter letter other = record { line = rw other refl; short = omega arith }

-- of each byte in a quoted text at most six are written, and no line feed
part_escaped : (b : ℕ) → IsPart (escaped b) 6
part_escaped b = elim (cases_eq b 34) [
  | inl e ↦ rw e (part_letter 34 refl)
  | inr quote ↦ elim (cases_eq b 92) [
    | inl e ↦ rw e (part_letter 92 refl)
    | inr backslash ↦ elim (cases_eq b 8) [
      | inl e ↦ rw e (part_letter 98 refl)
      | inr back ↦ elim (cases_eq b 9) [
        | inl e ↦ rw e (part_letter 116 refl)
        | inr tab ↦ elim (cases_eq b 10) [
          | inl e ↦ rw e (part_letter 110 refl)
          | inr feed ↦ elim (cases_eq b 12) [
            | inl e ↦ rw e (part_letter 102 refl)
            | inr form ↦ elim (cases_eq b 13) [
              | inl e ↦ rw e (part_letter 114 refl)
              | inr return ↦
                  rw (ne_eqb b 34 quote, ne_eqb b 92 backslash, ne_eqb b 8 back, ne_eqb b 9 tab, ne_eqb b 10 feed, ne_eqb b 12 form, ne_eqb b 13 return)
                  (elim (cases_lt b 32) [
                    | inl low ↦ rw (lt-ltb b 32 low) (part_digits (b / 16) (b % 16) (omega arith) (omega arith))
                    | inr high ↦ rw (le-ltb b 32 high) (longer 6 (part_byte b (ne_eqb b 10 feed)) (omega arith))
                  ])
            ]
          ]
        ]
      ]
    ]
  ]
]

part_all_escaped : (bytes : List ℕ) → IsPart (flat_map escaped bytes) (6 * length bytes)
part_all_escaped [] = record { line = refl; short = omega arith }
part_all_escaped (b ∷ bytes) = longer (6 * length (b ∷ bytes)) (part_append (part_escaped b) (part_all_escaped bytes)) (omega arith)

pub part_quoted : (bytes : List ℕ) (n : ℕ) → length bytes ≤ n → IsPart (quoted bytes) (6 * n + 2)
unfolding quoted
part_quoted bytes n h =
    longer (6 * n + 2) (part_append (part_byte 34 refl) (part_append (part_all_escaped bytes) (part_byte 34 refl))) (omega arith)

-- ---- numbers, days and truth values

digits_have_no_feed : (ds : List ℕ) → AllDigits 10 ds → has_no_feed ds ≡ true
digits_have_no_feed [] h = refl
digits_have_no_feed (d ∷ ds) h =
    let other : d ≡ 10 → ⊥ = λ (e : d ≡ 10). let small = rw e at h.0 in omega arith in
    rw (ne_eqb d 10 other, digits_have_no_feed ds h.1) refl

pub part_decimal : (n : ℕ) → n < 2 ^ 64 → IsPart (decimal n) 20
part_decimal n h = record {
  line = digits_have_no_feed (decimal n) (decimal_is_IsNumeral n h).0.1;
  short = length-decimal-le 20 n (omega arith) (omega arith) h;
}

pub part_signed : (n : ℤ) → is_number n ≡ true → IsPart (signed_decimal n) 21
part_signed (pos n) h = longer 21 (part_decimal n (omega (arith, leb-true n 9223372036854775807 h))) (omega arith)
part_signed (negsuc n) h =
    let p = and_parts (leb n 9223372036854775807) true h in
    part_append (part_byte 45 refl) (part_decimal (suc n) (omega (arith, leb-true n 9223372036854775807 p.0)))

pub part_day : (day : ℕ × ℕ × ℕ) → IsPart (quoted (day_text day)) 62
part_day day = part_quoted (day_text day) 10 (omega arith)

pub part_truth : (truth : Bool) → IsPart (truth_text truth) 5
part_truth true = record { line = refl; short = omega arith }
part_truth false = record { line = refl; short = omega arith }

-- ---- names

name_is_short : (name : List ℕ) → is_name name ≡ true → length name ≤ 64
name_is_short [] h = omega arith
name_is_short (b ∷ bs) h =
    let p = and_parts (is_name_start b && list_all is_name_byte bs) (leb (length bs) 63) h in
    omega (arith, leb-true (length bs) 63 p.1)

pub part_name : (name : List ℕ) → is_name name ≡ true → IsPart (quoted name) 386
part_name name h = part_quoted name 64 (name_is_short name h)

part_names : (names : List (List ℕ)) → list_all is_name names ≡ true → IsPart (join_with_byte 44 (map quoted names)) (387 * length names)
part_names [] h = record { line = refl; short = omega arith }
part_names (name ∷ []) h = longer (387 * length (name ∷ [])) (part_name name (and_parts (is_name name) true h).0) (omega arith)
part_names (name ∷ (next ∷ names)) h =
    let p = and_parts (is_name name) (list_all is_name (next ∷ names)) h in
    longer (387 * length (name ∷ (next ∷ names)))
    (part_append (part_name name p.0) (part_append (part_byte 44 refl) (part_names (next ∷ names) p.1))) (omega arith)

-- ---- lists, objects and their members

-- a part between two bytes
pub part_between : {text : List ℕ} {n : ℕ} (before after : ℕ) → (before == 10) ≡ false → (after == 10) ≡ false → IsPart text n
    → IsPart (before ∷ (text ++ after ∷ [])) (1 + (n + 1))
part_between before after a b part = part_append (part_byte before a) (part_append part (part_byte after b))

pub part_labels : (labels : List (List ℕ)) → list_all is_name labels ≡ true → length labels ≤ 64 → IsPart (labels_text labels) 24770
part_labels labels h few =
    longer 24770 (part_between 91 93 refl refl (part_names labels h)) (omega arith)

pub part_member : {text : List ℕ} {m : ℕ} (name : List ℕ) (n : ℕ) → length name ≤ n → IsPart text m → IsPart (member_text (name, text)) (6 * n + 2 + (1 + m))
part_member name n h part = part_append (part_quoted name n h) (part_append (part_byte 58 refl) part)

-- a part, a comma and what follows
pub part_next : {a b : List ℕ} {m n : ℕ} → IsPart a m → IsPart b n → IsPart (a ++ 44 ∷ b) (m + (1 + n))
part_next first second = part_append first (part_append (part_byte 44 refl) second)
