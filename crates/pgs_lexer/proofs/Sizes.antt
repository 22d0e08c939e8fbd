-- What is found at the front has at least one byte, and lies in the text.
use Rattle.std.proofs.Common.{◌≡◌, ◌∙◌, sym, ap, ℕ, zero, suc, ◌+◌, ◌<◌, ◌≤◌, cond, not, ◌&&◌, Bool, true, false, Option, Some, None, List, [], ◌∷◌, length, take, drop, refl, arith}
use Rattle.std.specs.Prelude.{option_map}
use Rattle.std.specs.Option.{option_and_then}
use Rattle.std.specs.Str.{is_utf8}
use Rattle.std.proofs.lemmas.Bool.{and_parts}
use Rattle.std.proofs.lemmas.Option.{cond_some, option_and_then_some, same_Some}
use Rattle.std.proofs.lemmas.List.Sums.{prefix_len-le-length}
use Rattle.std.proofs.lemmas.Str.{utf8_valid_len_le}
use Rattle.std.proofs.lemmas.List.{length-take}
use Rattle.std.proofs.lemmas.Bool.Decides.{nat_tests}
use Rattle.pgs_base.specs.Name.{is_name, is_name_byte}
use Rattle.pgs_lexer.specs.declared.item.Item.{Item}
use Rattle.pgs_lexer.specs.declared.item.ItemKind.{ItemKind}
use Rattle.pgs_lexer.specs.declared.item.ItemKind.TheVariants.{Space, Comment, Word, Quoted, Number, Text, Sign}
use Rattle.pgs_lexer.specs.Form.{begins_with, is_space, is_quote, is_digit, is_line_feed}
use Rattle.pgs_lexer.specs.Scan.{line_len, comment_len, space_size, comment_size, name_len, word_size, is_backquote, quoted_size, digits_size, is_minus, number_size, closing, closed_size, string_size, is_sign, is_long_sign, short_sign_size, sign_size, kind_begun, size_of, item_of, item_at}

abbrev pub IsWithin : ℕ → List ℕ → Type 0
IsWithin n text = (0 < n) × (n ≤ length text)

-- what comes of a size that was found
pub mapped : (f : ℕ → ℕ) (o : Option ℕ) (n : ℕ) → option_map f o ≡ Some n → (m : ℕ) × (o ≡ Some m) × (f m ≡ n)
mapped f None n e = cc
mapped f (Some m) n e = (m, refl, same_Some (f m) n e)

space_within : (text : List ℕ) (n : ℕ) → space_size text ≡ Some n → IsWithin n text
space_within [] n e = cc
space_within (a ∷ text) n e = let p = cond_some (is_space a) 1 n e in (omega arith, omega arith)

pub line_len_le : (text : List ℕ) → line_len text ≤ length text
line_len_le text = prefix_len-le-length (λ b. not (is_line_feed b)) text

pub comment_len_le : (text : List ℕ) → comment_len text ≤ length text
comment_len_le text = omega (arith, utf8_valid_len_le (take (line_len text) text), length-take (line_len text) text, line_len_le text)

comment_within : (text : List ℕ) (n : ℕ) → comment_size text ≡ Some n → IsWithin n text
comment_within [] n e = cc
comment_within (a ∷ []) n e = cc
comment_within (a ∷ b ∷ text) n e = let p = cond_some _ (2 + comment_len text) n e in (omega arith, omega (arith, comment_len_le text))

pub name_len_le : (text : List ℕ) → name_len text ≤ length text
name_len_le text = prefix_len-le-length is_name_byte text

name_not_empty : (n : ℕ) (text : List ℕ) → is_name (take n text) ≡ true → 0 < n
name_not_empty zero text e = cc
name_not_empty (suc n) text e = omega arith

word_within : (text : List ℕ) (n : ℕ) → word_size text ≡ Some n → IsWithin n text
word_within text n e =
    let p = cond_some (is_name (take (name_len text) text)) (name_len text) n e in
    (omega (arith, name_not_empty (name_len text) text p.0), omega (arith, name_len_le text))

pub begins_within : (test : ℕ → Bool) (n : ℕ) (text : List ℕ) → begins_with test (drop n text) ≡ true → n < length text
begins_within test zero [] e = cc
begins_within test zero (a ∷ text) e = omega arith
begins_within test (suc n) [] e = cc
begins_within test (suc n) (a ∷ text) e = omega (arith, begins_within test n text e)

quoted_within : (text : List ℕ) (n : ℕ) → quoted_size text ≡ Some n → IsWithin n text
quoted_within [] n e = cc
quoted_within (a ∷ text) n e =
    let p = cond_some (is_backquote a && is_name (take (name_len text) text) && begins_with is_backquote (drop (name_len text) text)) (2 + name_len text) n e in
    let q = and_parts (is_backquote a && is_name (take (name_len text) text)) (begins_with is_backquote (drop (name_len text) text)) p.0 in
    (omega arith, omega (arith, begins_within is_backquote (name_len text) text q.1))

digits_within : (text : List ℕ) (n : ℕ) → digits_size text ≡ Some n → IsWithin n text
digits_within text n e = grind (arith, nat_tests, prefix_len-le-length is_digit text)

after_minus : (a : ℕ) (text : List ℕ) (n : ℕ) (b : Bool) → cond b (option_map (λ k. 1 + k) (digits_size text)) (digits_size (a ∷ text)) ≡ Some n → IsWithin n (a ∷ text)
after_minus a text n true e = let m = mapped (λ k. 1 + k) (digits_size text) n e in let w = digits_within text m.0 m.1 in (omega (arith, m.2), omega (arith, m.2, w.1))
after_minus a text n false e = digits_within (a ∷ text) n e

number_within : (text : List ℕ) (n : ℕ) → number_size text ≡ Some n → IsWithin n text
number_within [] n e = cc
number_within (a ∷ text) n e = after_minus a text n (is_minus a) e

closing_cases : (a b : ℕ) (text : List ℕ) (n : ℕ) → ((m : ℕ) → closing (b ∷ text) ≡ Some m → m < suc (length text)) → ((m : ℕ) → closing text ≡ Some m → m < length text) → (feed quote pair : Bool)
    → cond feed None (cond (not quote) (option_map (λ k. 1 + k) (closing (b ∷ text))) (cond pair (option_map (λ k. 2 + k) (closing text)) (Some 0))) ≡ Some n → n < suc (suc (length text))
closing_cases a b text n one two true quote pair e = cc
closing_cases a b text n one two false false pair e = let m = mapped (λ k. 1 + k) (closing (b ∷ text)) n e in omega (arith, m.2, one m.0 m.1)
closing_cases a b text n one two false true true e = let m = mapped (λ k. 2 + k) (closing text) n e in omega (arith, m.2, two m.0 m.1)
closing_cases a b text n one two false true false e = let p = same_Some 0 n e in omega arith

-- the closing quote is in the text
pub closing_within : (text : List ℕ) (n : ℕ) → closing text ≡ Some n → n < length text
closing_within [] n e = cc
closing_within (a ∷ []) n e = let p = cond_some (is_quote a) 0 n e in omega arith
closing_within (a ∷ b ∷ text) n e = closing_cases a b text n (closing_within (b ∷ text)) (closing_within text) (is_line_feed a) (is_quote a) (is_quote b) e

closed : (text : List ℕ) (m n : ℕ) → m < length text → closed_size text m ≡ Some n → (0 < n) × (n ≤ suc (length text))
closed text m n h e = let p = cond_some (is_utf8 (take m text)) (2 + m) n e in (omega arith, omega arith)

opened : (a : ℕ) (text : List ℕ) (n : ℕ) (t : Bool) → cond t (option_and_then (closed_size text) (closing text)) None ≡ Some n → IsWithin n (a ∷ text)
opened a text n true e = option_and_then_some (closed_size text) (closing text) n e (λ m found size. closed text m n (closing_within text m found) size)
opened a text n false e = cc

string_within : (text : List ℕ) (n : ℕ) → string_size text ≡ Some n → IsWithin n text
string_within [] n e = cc
string_within (a ∷ text) n e = opened a text n (is_quote a) e

long_or_short : (a b : ℕ) (text : List ℕ) (n : ℕ) (t : Bool) → cond t (Some 2) (short_sign_size a) ≡ Some n → IsWithin n (a ∷ b ∷ text)
long_or_short a b text n true e = let p = same_Some 2 n e in (omega arith, omega arith)
long_or_short a b text n false e = let p = cond_some (is_sign a) 1 n e in (omega arith, omega arith)

sign_within : (text : List ℕ) (n : ℕ) → sign_size text ≡ Some n → IsWithin n text
sign_within [] n e = cc
sign_within (a ∷ []) n e = let p = cond_some (is_sign a) 1 n e in (omega arith, omega arith)
sign_within (a ∷ b ∷ text) n e = long_or_short a b text n (is_long_sign a b) e

pub size_within : (kind : ItemKind) (text : List ℕ) (n : ℕ) → size_of kind text ≡ Some n → IsWithin n text
size_within Space = space_within
size_within Comment = comment_within
size_within Word = word_within
size_within Quoted = quoted_within
size_within Number = number_within
size_within Text = string_within
size_within Sign = sign_within

from_size : (kind : ItemKind) (text : List ℕ) (o : Option ℕ) (item : Item) → size_of kind text ≡ o → option_map (item_of kind) o ≡ Some item → (item.kind ≡ kind) × (size_of kind text ≡ Some item.size)
from_size kind text None item f e = cc
from_size kind text (Some n) item f e = let s = same_Some (item_of kind n) item e in (sym (ap (λ (i : Item). i.kind) s), f ∙ ap (λ (i : Item). Some i.size) s)

-- the item found is of the kind that its first bytes begin, with the size found for that kind
pub item_found : (a : ℕ) (text : List ℕ) (item : Item) → item_at (a ∷ text) ≡ Some item → (item.kind ≡ kind_begun a text) × (size_of (kind_begun a text) (a ∷ text) ≡ Some item.size)
unfolding item_at
item_found a text item e = from_size (kind_begun a text) (a ∷ text) (size_of (kind_begun a text) (a ∷ text)) item refl e

pub item_within : (text : List ℕ) (item : Item) → item_at text ≡ Some item → IsWithin item.size text
unfolding item_at
item_within [] item e = cc
item_within (a ∷ text) item e = size_within (kind_begun a text) (a ∷ text) item.size (item_found a text item e).1
