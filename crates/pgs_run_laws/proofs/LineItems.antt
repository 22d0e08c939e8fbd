-- No item goes on past a line feed: one that begins before it ends with it at the latest.
use Rattle.std.proofs.Common.{◌≡◌, ℕ, suc, ◌+◌, ◌≤◌, Bool, true, false, not, cond, ◌&&◌, eqb, Option, Some, None, List, [], ◌∷◌, ◌++◌, length, take, refl, arith, sym, ap}
use Rattle.std.specs.Prelude.{option_map}
use Rattle.std.specs.Option.{option_and_then}
use Rattle.std.specs.List.{prefix_len}
use Rattle.std.proofs.lemmas.Bool.{and_parts}
use Rattle.std.proofs.lemmas.List.{length-take}
use Rattle.std.proofs.lemmas.Option.{same_Some, cond_some, option_and_then_some}
use Rattle.std.proofs.lemmas.Str.{utf8_valid_len_le}
use Rattle.pgs_base.specs.Name.{is_name, is_name_byte}
use Rattle.pgs_lexer.specs.declared.item.Item.{Item}
use Rattle.pgs_lexer.specs.declared.item.ItemKind.{ItemKind}
use Rattle.pgs_lexer.specs.declared.item.ItemKind.TheVariants.{Space, Comment, Word, Quoted, Number, Text, Sign}
use Rattle.pgs_lexer.specs.Form.{begins_with, is_space, is_line_feed, is_digit, is_quote}
use Rattle.pgs_lexer.specs.Scan.{space_size, line_len, comment_len, comment_size, name_len, word_size, quoted_size, digits_len, digits_size, is_minus, number_size, closing, closed_size, string_size, is_sign, is_long_sign, short_sign_size, sign_size, kind_begun, size_of, item_of, item_at}

-- what comes of a size that was found
found_as : (f : ℕ → ℕ) (o : Option ℕ) (n : ℕ) → option_map f o ≡ Some n → (m : ℕ) × (o ≡ Some m) × (f m ≡ n)
found_as f None n e = cc
found_as f (Some m) n e = (m, refl, same_Some (f m) n e)

-- a run of bytes that pass a test ends before a byte that fails it
run_ends : (test : ℕ → Bool) (before : List ℕ) (b : ℕ) (rest : List ℕ) → test b ≡ false → prefix_len test (before ++ b ∷ rest) ≤ length before
run_ends test [] b rest fails = rw fails (omega arith)
run_ends test (a ∷ before) b rest fails = longer (test a) (run_ends test before b rest fails)
  where
    longer : (passes : Bool) → prefix_len test (before ++ b ∷ rest) ≤ length before → cond passes (1 + prefix_len test (before ++ b ∷ rest)) 0 ≤ suc (length before)
    longer true h = omega arith
    longer false h = omega arith

-- a size that is found reaches to the end of the line at most
abbrev EndsWithLine : (List ℕ → Option ℕ) → Type 0
EndsWithLine size = (before rest : List ℕ) (n : ℕ) → size (before ++ 10 ∷ rest) ≡ Some n → n ≤ suc (length before)

space_ends : EndsWithLine space_size
space_ends before rest n e = let p = cond_some (begins_with is_space (before ++ 10 ∷ rest)) 1 n e in omega (arith, p.1)

comment_len_ends : (before rest : List ℕ) → comment_len (before ++ 10 ∷ rest) ≤ length before
comment_len_ends before rest =
    let text = before ++ 10 ∷ rest in
    omega (arith, utf8_valid_len_le (take (line_len text) text), length-take (line_len text) text, run_ends (λ b. not (is_line_feed b)) before 10 rest refl)

comment_ends : EndsWithLine comment_size
comment_ends [] [] n e = cc
comment_ends [] (b ∷ rest) n e = cc
comment_ends (a ∷ []) rest n e =
    let p = cond_some (eqb a 47 && false) (2 + comment_len rest) n e in
    let q = and_parts (eqb a 47) false p.0 in
    cc
comment_ends (a ∷ b ∷ before) rest n e =
    let p = cond_some (eqb a 47 && eqb b 47) (2 + comment_len (before ++ 10 ∷ rest)) n e in
    omega (arith, p.1, comment_len_ends before rest)

name_len_ends : (before rest : List ℕ) → name_len (before ++ 10 ∷ rest) ≤ length before
name_len_ends before rest = run_ends is_name_byte before 10 rest refl

word_ends : EndsWithLine word_size
word_ends before rest n e =
    let text = before ++ 10 ∷ rest in
    let p = cond_some (is_name (take (name_len text) text)) (name_len text) n e in
    omega (arith, p.1, name_len_ends before rest)

quoted_ends : EndsWithLine quoted_size
quoted_ends [] rest n e = cc
quoted_ends (a ∷ before) rest n e =
    let p = cond_some _ (2 + name_len (before ++ 10 ∷ rest)) n e in
    omega (arith, p.1, name_len_ends before rest)

digits_end : (before rest : List ℕ) (n : ℕ) → digits_size (before ++ 10 ∷ rest) ≡ Some n → n ≤ length before
digits_end before rest n e = by_none (eqb (digits_len (before ++ 10 ∷ rest)) 0) e
  where
    by_none : (none : Bool) → cond none None (Some (digits_len (before ++ 10 ∷ rest))) ≡ Some n → n ≤ length before
    by_none true e = cc
    by_none false e = let same = same_Some (digits_len (before ++ 10 ∷ rest)) n e in omega (arith, same, run_ends is_digit before 10 rest refl)

number_ends : EndsWithLine number_size
number_ends [] rest n e = let h = digits_end [] rest n e in omega arith
number_ends (a ∷ before) rest n e = by_minus (is_minus a) e
  where
    by_minus : (minus : Bool) → cond minus (option_map (λ k. 1 + k) (digits_size (before ++ 10 ∷ rest))) (digits_size (a ∷ before ++ 10 ∷ rest)) ≡ Some n → n ≤ suc (suc (length before))
    by_minus true e =
        let m = found_as (λ k. 1 + k) (digits_size (before ++ 10 ∷ rest)) n e in
        omega (arith, m.2, digits_end before rest m.0 m.1)
    by_minus false e = omega (arith, digits_end (a ∷ before) rest n e)

closing_cases : (b n last : ℕ) (more : List ℕ) → ((m : ℕ) → closing (b ∷ more) ≡ Some m → m ≤ suc last) → ((m : ℕ) → closing more ≡ Some m → m ≤ last) →
    (feed quote pair : Bool) →
    cond feed None (cond (not quote) (option_map (λ k. 1 + k) (closing (b ∷ more))) (cond pair (option_map (λ k. 2 + k) (closing more)) (Some 0))) ≡ Some n →
    n ≤ suc (suc last)
closing_cases b n last more one two true quote pair e = cc
closing_cases b n last more one two false false pair e = let m = found_as (λ k. 1 + k) (closing (b ∷ more)) n e in omega (arith, m.2, one m.0 m.1)
closing_cases b n last more one two false true true e = let m = found_as (λ k. 2 + k) (closing more) n e in omega (arith, m.2, two m.0 m.1)
closing_cases b n last more one two false true false e = let p = same_Some 0 n e in omega arith

none_at_feed : (rest : List ℕ) (n : ℕ) → closing (10 ∷ rest) ≡ Some n → n ≤ 0
none_at_feed [] n e = cc
none_at_feed (b ∷ rest) n e = cc

-- the closing quote stands before the line feed
closing_ends : (before rest : List ℕ) (n : ℕ) → closing (before ++ 10 ∷ rest) ≡ Some n → n ≤ length before
closing_ends [] rest n e = none_at_feed rest n e
closing_ends (a ∷ []) rest n e = before_feed (is_line_feed a) (is_quote a) e
  where
    before_feed : (feed quote : Bool) → cond feed None (cond (not quote) (option_map (λ k. 1 + k) (closing (10 ∷ rest))) (Some 0)) ≡ Some n → n ≤ 1
    before_feed true quote e = cc
    before_feed false false e =
        let m = found_as (λ k. 1 + k) (closing (10 ∷ rest)) n e in omega (arith, m.2, none_at_feed rest m.0 m.1)
    before_feed false true e = let p = same_Some 0 n e in omega arith
closing_ends (a ∷ b ∷ before) rest n e =
    closing_cases b n (length before) (before ++ 10 ∷ rest) (closing_ends (b ∷ before) rest) (closing_ends before rest) (is_line_feed a) (is_quote a) (is_quote b) e

string_ends : EndsWithLine string_size
string_ends [] rest n e = cc
string_ends (a ∷ before) rest n e = by_quote (is_quote a) e
  where
    by_quote : (quote : Bool) → cond quote (option_and_then (closed_size (before ++ 10 ∷ rest)) (closing (before ++ 10 ∷ rest))) None ≡ Some n →
        n ≤ suc (suc (length before))
    by_quote true e = option_and_then_some (closed_size (before ++ 10 ∷ rest)) (closing (before ++ 10 ∷ rest)) n e (λ m found size.
        let p = cond_some _ (2 + m) n size in omega (arith, p.1, closing_ends before rest m found))
    by_quote false e = cc

sign_ends : EndsWithLine sign_size
sign_ends [] [] n e = cc
sign_ends [] (b ∷ rest) n e = cc
sign_ends (a ∷ []) rest n e = by_length (is_long_sign a 10) e
  where
    by_length : (long : Bool) → cond long (Some 2) (short_sign_size a) ≡ Some n → n ≤ 2
    by_length true e = let p = same_Some 2 n e in omega arith
    by_length false e = let p = cond_some (is_sign a) 1 n e in omega (arith, p.1)
sign_ends (a ∷ b ∷ before) rest n e = by_length (is_long_sign a b) e
  where
    by_length : (long : Bool) → cond long (Some 2) (short_sign_size a) ≡ Some n → n ≤ suc (suc (suc (length before)))
    by_length true e = let p = same_Some 2 n e in omega arith
    by_length false e = let p = cond_some (is_sign a) 1 n e in omega (arith, p.1)

size_ends : (kind : ItemKind) → EndsWithLine (size_of kind)
size_ends Space = space_ends
size_ends Comment = comment_ends
size_ends Word = word_ends
size_ends Quoted = quoted_ends
size_ends Number = number_ends
size_ends Text = string_ends
size_ends Sign = sign_ends

-- the size of an item that is found for a kind
size_found : (kind : ItemKind) (size : Option ℕ) (item : Item) → option_map (item_of kind) size ≡ Some item → (item.kind ≡ kind) × (size ≡ Some item.size)
size_found kind None item e = cc
size_found kind (Some n) item e = let same = same_Some (item_of kind n) item e in (sym (ap (λ (i : Item). i.kind) same), ap (λ (i : Item). Some i.size) same)

-- an item that begins before a line feed ends with it at the latest
pub item_ends : (before rest : List ℕ) (item : Item) → item_at (before ++ 10 ∷ rest) ≡ Some item → item.size ≤ suc (length before)
unfolding item_at
item_ends [] rest item e = size_ends Space [] rest item.size (size_found Space (size_of Space (10 ∷ rest)) item e).1
item_ends (a ∷ before) rest item e =
    let kind = kind_begun a (before ++ 10 ∷ rest) in
    size_ends kind (a ∷ before) rest item.size (size_found kind (size_of kind (a ∷ before ++ 10 ∷ rest)) item e).1
