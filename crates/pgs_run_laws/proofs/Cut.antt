-- How a text, a separator and further lines are cut.
use Rattle.std.proofs.Common.{◌≡◌, ℕ, Bool, true, false, ◌==◌, ◌||◌, List, [], ◌∷◌, ◌++◌, map, ◌⊎◌, inl, inr, refl, sym, ap, ap₂, ◌∙◌, append_assoc}
use Rattle.std.specs.Prelude.{codes}
use Rattle.std.specs.Cmp.Lexicographic.{pointwise}
use Rattle.std.specs.List.{concat, join_with_byte, list_any, list_all}
use Rattle.std.proofs.lemmas.Bool.{and_parts, cases_eq, eqb-true, ne_eqb}
use Rattle.pgs_run_lines.specs.Input.{Lines, with_byte, with_front, lines_of, has_no_feed}
use Rattle.pgs_run_lines.proofs.Cutting.{followed, lines_of_fed, lines_of_more, only_rest}
use Rattle.pgs_run_input.specs.Input.{is_separator, before_separator, after_separator, schema_part}
use Rattle.pgs_run_laws.specs.Lines.{all_lines, IsLineStart}

-- ---- cutting

-- a text, and behind a line feed another
pub lines_of_joined : (text more : List ℕ)
    → lines_of (text ++ 10 ∷ more) ≡ record { ended = all_lines text ++ (lines_of more).ended; rest = (lines_of more).rest }
lines_of_joined text more =
    ap lines_of (sym (append_assoc text (10 ∷ []) more)) ∙ lines_of_more (text ++ 10 ∷ []) more
    ∙ ap (λ (l : Lines). followed l (lines_of (l.rest ++ more))) (lines_of_fed text)

-- bytes without a line feed are one line
pub all_lines_of_one : (line : List ℕ) → has_no_feed line ≡ true → all_lines line ≡ line ∷ []
all_lines_of_one line none = ap (λ (l : Lines). l.ended ++ l.rest ∷ []) (only_rest line none)

-- a line, and behind its feed a text
pub lines_of_line : (line more : List ℕ) → has_no_feed line ≡ true
    → lines_of (line ++ 10 ∷ more) ≡ record { ended = line ∷ (lines_of more).ended; rest = (lines_of more).rest }
lines_of_line line more none =
    lines_of_joined line more
    ∙ ap (λ (lines : List (List ℕ)). let r : Lines = record { ended = lines ++ (lines_of more).ended; rest = (lines_of more).rest } in r) (all_lines_of_one line none)

-- a line with its feed
abbrev pub with_feed : List ℕ → List ℕ
with_feed line = line ++ 10 ∷ []

-- lines, each with its feed
pub lines_of_each : (lines : List (List ℕ)) → list_all has_no_feed lines ≡ true
    → lines_of (concat (map with_feed lines)) ≡ record { ended = lines; rest = [] }
lines_of_each [] none = refl
lines_of_each (line ∷ lines) none =
    let parts = and_parts (has_no_feed line) (list_all has_no_feed lines) none in
    ap lines_of (append_assoc line (10 ∷ []) (concat (map with_feed lines))) ∙ lines_of_line line (concat (map with_feed lines)) parts.0
    ∙ ap (λ (l : Lines). let r : Lines = record { ended = line ∷ l.ended; rest = l.rest } in r) (lines_of_each lines parts.1)

-- ---- joining

joined_fed : (ended : List (List ℕ)) (rest : List ℕ) → join_with_byte 10 ([] ∷ (ended ++ rest ∷ [])) ≡ 10 ∷ join_with_byte 10 (ended ++ rest ∷ [])
joined_fed [] rest = refl
joined_fed (line ∷ lines) rest = refl

joined_byte : (b : ℕ) (ended : List (List ℕ)) (rest : List ℕ)
    → join_with_byte 10 ((with_byte b ended rest).ended ++ (with_byte b ended rest).rest ∷ []) ≡ b ∷ join_with_byte 10 (ended ++ rest ∷ [])
joined_byte b [] rest = refl
joined_byte b (line ∷ []) rest = refl
joined_byte b (line ∷ (next ∷ lines)) rest = refl

joined_front : (b : ℕ) (lines : Lines)
    → join_with_byte 10 ((with_front b lines).ended ++ (with_front b lines).rest ∷ []) ≡ b ∷ join_with_byte 10 (lines.ended ++ lines.rest ∷ [])
joined_front b lines = elim (cases_eq b 10) [
  | inl feed ↦ rw feed (joined_fed lines.ended lines.rest)
  | inr other ↦ rw (ne_eqb b 10 other) (joined_byte b lines.ended lines.rest)
]

-- the lines of a text with line feeds between them are the text
pub joined_lines : (text : List ℕ) → join_with_byte 10 (all_lines text) ≡ text
joined_lines [] = refl
joined_lines (b ∷ text) = joined_front b (lines_of text) ∙ ap (λ (t : List ℕ). b ∷ t) (joined_lines text)

-- ---- the separator

separator_is : is_separator (codes "---") ≡ true
unfolding is_separator
separator_is = refl

none_at_head : (test rest : Bool) → (test || rest) ≡ false → test ≡ false
none_at_head true rest h = h
none_at_head false rest h = refl

none_behind : (test rest : Bool) → (test || rest) ≡ false → rest ≡ false
none_behind true rest h = cc
none_behind false rest h = h

-- lines without a separator are those before the separator behind them
pub before_first_separator : (lines behind : List (List ℕ)) → list_any is_separator lines ≡ false
    → before_separator (lines ++ codes "---" ∷ behind) ≡ lines
before_first_separator [] behind none = rw separator_is refl
before_first_separator (line ∷ lines) behind none =
    rw (none_at_head (is_separator line) _ none)
    (ap (λ (ls : List (List ℕ)). line ∷ ls) (before_first_separator lines behind (none_behind (is_separator line) _ none)))

-- and those behind it are what comes after
pub after_first_separator : (lines behind : List (List ℕ)) → list_any is_separator lines ≡ false
    → after_separator (lines ++ codes "---" ∷ behind) ≡ behind
after_first_separator [] behind none = rw separator_is refl
after_first_separator (line ∷ lines) behind none =
    rw (none_at_head (is_separator line) _ none) (after_first_separator lines behind (none_behind (is_separator line) _ none))

-- a text without a separator is the schema part
pub schema_part_is : (text : List ℕ) (behind : List (List ℕ)) → list_any is_separator (all_lines text) ≡ false
    → schema_part (all_lines text ++ codes "---" ∷ behind) ≡ text
schema_part_is text behind none =
    ap (join_with_byte 10) (before_first_separator (all_lines text) behind none) ∙ joined_lines text

-- ---- a separator in a text

-- a text has these bytes where a line begins
abbrev pub HasAtLineStart : List ℕ → List ℕ → Type 0
HasAtLineStart bytes text = (front : List ℕ) × (back : List ℕ) × (text ≡ front ++ (bytes ++ back)) × IsLineStart front

line_start_behind : (line front : List ℕ) → IsLineStart front → IsLineStart (line ++ 10 ∷ front)
line_start_behind line front (inl empty) = inr (line, ap (λ (f : List ℕ). line ++ 10 ∷ f) empty)
line_start_behind line front (inr begun) =
    inr (line ++ 10 ∷ begun.0, ap (λ (f : List ℕ). line ++ 10 ∷ f) begun.1 ∙ sym (append_assoc line (10 ∷ begun.0) (10 ∷ [])))

-- a line begins with these bytes
abbrev Begins : List ℕ → List ℕ → Type 0
Begins bytes line = (back : List ℕ) × (line ≡ bytes ++ back)

-- so they stand at the front of the lines joined, or behind an earlier line's feed
at_first : (bytes line : List ℕ) (lines : List (List ℕ)) → Begins bytes line → HasAtLineStart bytes (join_with_byte 10 (line ∷ lines))
at_first bytes line [] begins = ([], begins.0, begins.1, inl refl)
at_first bytes line (next ∷ lines) begins =
    let more = 10 ∷ join_with_byte 10 (next ∷ lines) in
    ([], begins.0 ++ more, ap (λ (l : List ℕ). l ++ more) begins.1 ∙ append_assoc bytes begins.0 more, inl refl)

at_later : (bytes line text : List ℕ) → HasAtLineStart bytes text → HasAtLineStart bytes (line ++ 10 ∷ text)
at_later bytes line text has = (
  line ++ 10 ∷ has.0,
  has.1,
  ap (λ (t : List ℕ). line ++ 10 ∷ t) has.2 ∙ sym (append_assoc line (10 ∷ has.0) (bytes ++ has.1)),
  line_start_behind line has.0 has.3,
)

either_is : (test rest : Bool) → (test || rest) ≡ true → (test ≡ true) ⊎ (rest ≡ true)
either_is true rest h = inl refl
either_is false rest h = inr h

-- where one of the lines begins with bytes, the lines joined have them where a line begins
in_joined : (bytes : List ℕ) (test : List ℕ → Bool) → ((line : List ℕ) → test line ≡ true → Begins bytes line)
    → (lines : List (List ℕ)) → list_any test lines ≡ true → HasAtLineStart bytes (join_with_byte 10 lines)
in_joined bytes test begins [] some = absurd (cc)
in_joined bytes test begins (line ∷ []) some = elim (either_is (test line) false some) [
  | inl here ↦ at_first bytes line [] (begins line here)
  | inr later ↦ absurd (cc)
]
in_joined bytes test begins (line ∷ (next ∷ lines)) some = elim (either_is (test line) (list_any test (next ∷ lines)) some) [
  | inl here ↦ at_first bytes line (next ∷ lines) (begins line here)
  | inr later ↦ at_later bytes line (join_with_byte 10 (next ∷ lines)) (in_joined bytes test begins (next ∷ lines) later)
]

-- bytes that are equal one by one
same_bytes : (a b : List ℕ) → pointwise ◌==◌ a b ≡ true → a ≡ b
same_bytes [] [] same = refl
same_bytes [] (y ∷ b) same = absurd (cc)
same_bytes (x ∷ a) [] same = absurd (cc)
same_bytes (x ∷ a) (y ∷ b) same =
    let parts = and_parts (x == y) (pointwise ◌==◌ a b) same in
    ap₂ (λ (z : ℕ) (c : List ℕ). z ∷ c) (eqb-true x y parts.0) (same_bytes a b parts.1)

separator_begins : (line : List ℕ) → is_separator line ≡ true → Begins (codes "---") line
unfolding is_separator
separator_begins line is = elim (either_is (pointwise ◌==◌ line (codes "---")) _ is) [
  | inl plain ↦ ([], same_bytes line (codes "---") plain)
  | inr returned ↦ (13 ∷ [], same_bytes line (codes "---\r") returned)
]

-- a text of which a line is a separator has three dashes where a line begins
pub separator_in : (text : List ℕ) → list_any is_separator (all_lines text) ≡ true
    → (front : List ℕ) × (back : List ℕ) × (text ≡ front ++ 45 ∷ 45 ∷ 45 ∷ back) × IsLineStart front
separator_in text some =
    let found = in_joined (codes "---") is_separator separator_begins (all_lines text) some in
    (found.0, found.1, sym (joined_lines text) ∙ found.2, found.3)

-- a text in which no line begins with two dashes has no separator
pub no_separator : (text : List ℕ) → ((front back : List ℕ) → text ≡ front ++ 45 ∷ 45 ∷ back → IsLineStart front → ⊥)
    → list_any is_separator (all_lines text) ≡ false
no_separator text none = by_test (list_any is_separator (all_lines text)) refl
  where
    by_test : (some : Bool) → list_any is_separator (all_lines text) ≡ some → list_any is_separator (all_lines text) ≡ false
    by_test true e = let found = separator_in text e in absurd (none found.0 (45 ∷ found.1) found.2 found.3)
    by_test false e = e
