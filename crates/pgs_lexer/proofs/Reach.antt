-- What is found at the front is at least as long as any item there.
use Rattle.std.proofs.Common.{◌≡◌, ◌∙◌, sym, ap, ℕ, suc, ◌+◌, ◌<◌, ◌≤◌, Bool, true, false, cond, ◌&&◌, Some, None, List, [], ◌∷◌, ◌++◌, length, take, drop, refl, arith, subst, inl, inr, append_assoc, length-take-le, IsUtf8}
use Rattle.std.specs.Prelude.{option_map, encode_utf8_all, flat_map}
use Rattle.std.specs.Option.{option_and_then}
use Rattle.std.specs.List.{list_all}
use Rattle.std.specs.Str.{is_utf8, all_scalars}
use Rattle.std.proofs.lemmas.Bool.{and_parts, and_from, or_left, ne_eqb}
use Rattle.std.proofs.lemmas.List.{take_at, drop_at, take-take, length_push}
use Rattle.std.proofs.lemmas.Str.{is_utf8-from_IsUtf8}
use Rattle.pgs_base.specs.Name.{is_name, is_name_start, is_name_byte}
use Rattle.pgs_lexer.specs.declared.item.Item.{Item}
use Rattle.pgs_lexer.specs.declared.item.ItemKind.{ItemKind}
use Rattle.pgs_lexer.specs.declared.item.ItemKind.TheVariants.{Space, Comment, Word, Quoted, Number, Text, Sign}
use Rattle.pgs_lexer.specs.Form.{begins_with, is_space, is_line, is_digit, is_quote, IsItem, signs, written}
use Rattle.pgs_lexer.specs.Scan.{line_len, comment_len, name_len, word_size, is_backquote, quoted_size, digits_len, digits_size, closed_size, string_size, is_sign, is_long_sign, short_sign_size, kind_begun, size_of, item_of, item_at}
use Rattle.pgs_lexer.proofs.Sizes.{line_len_le}
use Rattle.pgs_lexer.proofs.Lists.{all_front, run_at, among_bytes}
use Rattle.pgs_lexer.proofs.Characters.{all_bytes_other, valid_least}
use Rattle.pgs_lexer.proofs.Written.{closing_written, all_written_utf8}
use Rattle.pgs_lexer.proofs.Beginnings.{begins_space, begins_digit, begins_minus, name_begins, digits_begin, digit_no_minus}

-- an item is found that has at least m bytes
abbrev pub Reaches : List ℕ → ℕ → Type 0
Reaches text m = (item : Item) × (item_at text ≡ Some item) × (m ≤ item.size)

pub found_by : (kind : ItemKind) (a : ℕ) (text : List ℕ) (n m : ℕ) → kind_begun a text ≡ kind → size_of kind (a ∷ text) ≡ Some n → m ≤ n → Reaches (a ∷ text) m
unfolding item_at
found_by kind a text n m begun size least =
    (item_of kind n, ap (λ k. option_map (item_of k) (size_of k (a ∷ text))) begun ∙ ap (option_map (item_of kind)) size, least)

space_reaches : (b : ℕ) (rest : List ℕ) → is_space b ≡ true → Reaches (b ∷ rest) 1
space_reaches b rest e = found_by Space b rest 1 1 (begins_space b rest e) (rw e refl) (omega arith)

line_reaches : (cs rest : List ℕ) → all_scalars cs ≡ true → is_line cs ≡ true → length (encode_utf8_all cs) ≤ comment_len (encode_utf8_all cs ++ rest)
line_reaches cs rest s line =
    let body = encode_utf8_all cs in
    let text = body ++ rest in
    let long : length body ≤ line_len text = all_front _ body rest (all_bytes_other 10 (omega arith) cs line) in
    let within = length-take-le (line_len text) text (line_len_le text) in
    let front : take (length body) (take (line_len text) text) ≡ body = take-take (length body) (line_len text) text long ∙ take_at body rest (length body) refl in
    valid_least (take (line_len text) text) (length body) (omega arith) (subst IsUtf8 (sym front) (cs, (s, refl)))

comment_reaches : (cs rest : List ℕ) → all_scalars cs ≡ true → is_line cs ≡ true → Reaches (47 ∷ 47 ∷ (encode_utf8_all cs ++ rest)) (suc (suc (length (encode_utf8_all cs))))
comment_reaches cs rest s line =
    found_by Comment 47 (47 ∷ (encode_utf8_all cs ++ rest)) (2 + comment_len (encode_utf8_all cs ++ rest)) _ refl refl (omega (arith, line_reaches cs rest s line))

name_bytes : (name : List ℕ) → is_name name ≡ true → list_all is_name_byte name ≡ true
name_bytes [] e = cc
name_bytes (a ∷ more) e =
    let p = and_parts _ _ e in
    let q = and_parts _ _ p.0 in
    and_from (is_name_byte a) (list_all is_name_byte more) (or_left (is_name_start a) _ q.0) q.1

name_found : (name after : List ℕ) → is_name name ≡ true → begins_with is_name_byte after ≡ false → name_len (name ++ after) ≡ length name
name_found name after e stop = run_at is_name_byte name after (name_bytes name e) stop

word_found : (name after : List ℕ) → is_name name ≡ true → begins_with is_name_byte after ≡ false → word_size (name ++ after) ≡ Some (length name)
word_found name after e stop =
    ap (λ n. cond (is_name (take n (name ++ after))) (Some n) None) (name_found name after e stop)
    ∙ ap (λ l. cond (is_name l) (Some (length name)) None) (take_at name after (length name) refl) ∙ rw e refl

word_reaches : (name after : List ℕ) → is_name name ≡ true → begins_with is_name_byte after ≡ false → Reaches (name ++ after) (length name)
word_reaches [] after e stop = cc
word_reaches (a ∷ more) after e stop = found_by Word a (more ++ after) (suc (length more)) (suc (length more)) (name_begins (a ∷ more) after e) (word_found (a ∷ more) after e stop) (omega arith)

quoted_found : (name rest : List ℕ) → is_name name ≡ true → quoted_size (96 ∷ (name ++ 96 ∷ rest)) ≡ Some (2 + length name)
quoted_found name rest e =
    let text = name ++ 96 ∷ rest in
    ap (λ n. cond (is_name (take n text) && begins_with is_backquote (drop n text)) (Some (2 + n)) None) (name_found name (96 ∷ rest) e refl)
    ∙ ap (λ l. cond (is_name l && begins_with is_backquote (drop (length name) text)) (Some (2 + length name)) None) (take_at name (96 ∷ rest) (length name) refl)
    ∙ ap (λ l. cond (is_name name && begins_with is_backquote l) (Some (2 + length name)) None) (drop_at name (96 ∷ rest) (length name) refl)
    ∙ rw e refl

quoted_reaches : (name rest : List ℕ) → is_name name ≡ true → Reaches (96 ∷ ((name ++ 96 ∷ []) ++ rest)) (suc (length (name ++ 96 ∷ [])))
quoted_reaches name rest e = subst (λ (l : List ℕ). Reaches (96 ∷ l) (suc (length (name ++ 96 ∷ [])))) (sym (append_assoc name (96 ∷ []) rest))
    (found_by Quoted 96 (name ++ 96 ∷ rest) (2 + length name) _ refl (quoted_found name rest e) (omega (arith, length_push name 96)))

digits_found : (text : List ℕ) → 0 < digits_len text → digits_size text ≡ Some (digits_len text)
digits_found text some = rw (ne_eqb (digits_len text) 0 (omega arith)) refl

plain_reaches : (digits rest : List ℕ) → 0 < length digits → list_all is_digit digits ≡ true → Reaches (digits ++ rest) (length digits)
plain_reaches [] rest some e = absurd (omega arith)
plain_reaches (a ∷ digits) rest some e =
    let p = and_parts (is_digit a) (list_all is_digit digits) e in
    let text = a ∷ (digits ++ rest) in
    let least = all_front is_digit (a ∷ digits) rest e in
    found_by Number a (digits ++ rest) (digits_len text) (suc (length digits)) (begins_digit a (digits ++ rest) p.0)
    (ap (λ b. cond b (option_map (λ n. 1 + n) (digits_size (digits ++ rest))) (digits_size text)) (digit_no_minus a p.0) ∙ digits_found text (omega arith)) least

minus_reaches : (text : List ℕ) (m : ℕ) → begins_with is_digit text ≡ true → 0 < m → m ≤ digits_len text → Reaches (45 ∷ text) (suc m)
minus_reaches text m e some least =
    found_by Number 45 text (1 + digits_len text) (suc m) (begins_minus text e) (ap (option_map (λ n. 1 + n)) (digits_found text (omega arith))) (omega arith)

string_found : (cs rest : List ℕ) → all_scalars cs ≡ true → is_line cs ≡ true → begins_with is_quote rest ≡ false → string_size (39 ∷ (flat_map written cs ++ 39 ∷ rest)) ≡ Some (2 + length (flat_map written cs))
string_found cs rest s line stop =
    let body = flat_map written cs in
    ap (option_and_then (closed_size (body ++ 39 ∷ rest))) (closing_written cs rest line stop)
    ∙ ap (λ l. cond (is_utf8 l) (Some (2 + length body)) None) (take_at body (39 ∷ rest) (length body) refl)
    ∙ ap (λ b. cond b (Some (2 + length body)) None) (is_utf8-from_IsUtf8 body (all_written_utf8 cs s))

string_reaches : (cs rest : List ℕ) → all_scalars cs ≡ true → is_line cs ≡ true → begins_with is_quote rest ≡ false → Reaches (39 ∷ ((flat_map written cs ++ 39 ∷ []) ++ rest)) (suc (length (flat_map written cs ++ 39 ∷ [])))
string_reaches cs rest s line stop =
    let body = flat_map written cs in
    subst (λ (l : List ℕ). Reaches (39 ∷ l) (suc (length (body ++ 39 ∷ [])))) (sym (append_assoc body (39 ∷ []) rest))
    (found_by Text 39 (body ++ 39 ∷ rest) (2 + length body) _ refl (string_found cs rest s line stop) (omega (arith, length_push body 39)))

long_or_short : (s b : ℕ) (rest : List ℕ) (long : Bool) → is_long_sign s b ≡ long → kind_begun s (b ∷ rest) ≡ Sign → is_sign s ≡ true → Reaches (s ∷ b ∷ rest) 1
long_or_short s b rest true e begun one = found_by Sign s (b ∷ rest) 2 1 begun (rw e refl) (omega arith)
long_or_short s b rest false e begun one = found_by Sign s (b ∷ rest) 1 1 begun (ap (λ t. cond t (Some 2) (short_sign_size s)) e ∙ ap (λ t. cond t (Some 1) None) one) (omega arith)

sign_reaches : (s : ℕ) (rest : List ℕ) → kind_begun s rest ≡ Sign → is_sign s ≡ true → Reaches (s ∷ rest) 1
sign_reaches s [] begun one = found_by Sign s [] 1 1 begun (ap (λ t. cond t (Some 1) None) one) (omega arith)
sign_reaches s (b ∷ rest) begun one = long_or_short s b rest (is_long_sign s b) refl begun one

minus_or_number : (rest : List ℕ) (b : Bool) → begins_with is_digit rest ≡ b → Reaches (45 ∷ rest) 1
minus_or_number rest false e = sign_reaches 45 rest (rw e refl) refl
minus_or_number [] true e = cc
minus_or_number (a ∷ rest) true e =
    let least = all_front is_digit (a ∷ []) rest (and_from (is_digit a) true e refl) in
    let r = minus_reaches (a ∷ rest) 1 e (omega arith) least in
    (r.0, r.1, omega (arith, r.2))

abbrev SignReaches : List ℕ → Type 0
SignReaches front = (rest : List ℕ) → Reaches (front ++ rest) (length front)

pub reaches : (kind : ItemKind) (front rest : List ℕ) → IsItem kind front rest → Reaches (front ++ rest) (length front)
reaches Space front rest h = subst (λ (l : List ℕ). Reaches (l ++ rest) (length l)) (sym h.2) (space_reaches h.0 rest h.1)
reaches Comment front rest h = subst (λ (l : List ℕ). Reaches (l ++ rest) (length l)) (sym h.3) (comment_reaches h.0 rest h.1 h.2)
reaches Word front rest h = word_reaches front rest h.0 h.1
reaches Quoted front rest h = subst (λ (l : List ℕ). Reaches (l ++ rest) (length l)) (sym h.2) (quoted_reaches h.0 rest h.1)
reaches Number front rest h = elim (h.3) [
  | inl plain ↦ subst (λ (l : List ℕ). Reaches (l ++ rest) (length l)) (sym plain) (plain_reaches h.0 rest h.1 h.2)
  | inr minus ↦ subst (λ (l : List ℕ). Reaches (l ++ rest) (length l)) (sym minus) (minus_reaches (h.0 ++ rest) (length h.0) (digits_begin h.0 rest h.1 h.2) h.1 (all_front is_digit h.0 rest h.2))
]
reaches Text front rest h = subst (λ (l : List ℕ). Reaches (l ++ rest) (length l)) (sym h.3) (string_reaches h.0 rest h.1 h.2 h.4)
reaches Sign front rest h = among_bytes SignReaches front signs h (λ r. sign_reaches 40 r refl refl, (λ r. sign_reaches 41 r refl refl, (λ r. sign_reaches 91 r refl refl, (λ r. sign_reaches 93 r refl refl, (λ r. sign_reaches 123 r refl refl, (λ r. sign_reaches 125 r refl refl, (λ r. sign_reaches 58 r refl refl, (λ r. sign_reaches 44 r refl refl, (λ r. sign_reaches 59 r refl refl, (λ r. sign_reaches 46 r refl refl, (λ r. sign_reaches 38 r refl refl, (λ r. sign_reaches 124 r refl refl, (λ r. sign_reaches 63 r refl refl, (λ r. minus_or_number r (begins_with is_digit r) refl, (λ r. found_by Sign 45 (62 ∷ r) 2 2 refl refl (omega arith), (λ r. found_by Sign 60 (45 ∷ r) 2 2 refl refl (omega arith), (λ r. found_by Sign 46 (46 ∷ r) 2 2 refl refl (omega arith), tt))))))))))))))))) rest
