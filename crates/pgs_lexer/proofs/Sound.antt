-- What is found at the front has the form of its kind.
use Rattle.std.proofs.Common.{◌≡◌, ◌∙◌, sym, ap, ℕ, zero, suc, ◌+◌, ◌<◌, ◌≤◌, Bool, true, false, cond, ◌&&◌, ◌||◌, eqb, ◌==◌, Some, None, List, [], ◌∷◌, ◌++◌, length, take, drop, refl, arith, subst, inl, inr, length-take-le, take-append-drop}
use Rattle.std.specs.Prelude.{option_map, encode_utf8_all, codes}
use Rattle.std.specs.Option.{option_and_then}
use Rattle.std.specs.List.{list_all}
use Rattle.std.specs.Str.{is_utf8}
use Rattle.std.proofs.lemmas.Bool.{and_parts, eqb-true, eqb-false, or_cases}
use Rattle.std.proofs.lemmas.List.{take-take}
use Rattle.std.proofs.lemmas.List.Sums.{prefix_len-le-length}
use Rattle.std.proofs.lemmas.Option.{same_Some, cond_some, option_and_then_some}
use Rattle.std.proofs.lemmas.Str.{IsUtf8-from_is_utf8, utf8_valid_len_le}
use Rattle.pgs_base.specs.Name.{is_name, is_name_byte}
use Rattle.pgs_lexer.specs.declared.item.ItemKind.{ItemKind}
use Rattle.pgs_lexer.specs.declared.item.ItemKind.TheVariants.{Space, Comment, Word, Quoted, Number, Text, Sign}
use Rattle.pgs_lexer.specs.Form.{begins_with, is_space, is_digit, is_quote, IsSign, IsItem}
use Rattle.pgs_lexer.specs.Scan.{space_size, line_len, comment_len, comment_size, name_len, word_size, is_backquote, quoted_size, digits_len, digits_size, is_minus, number_size, closing, closed_size, string_size, is_sign, is_long_sign, short_sign_size, sign_size, size_of}
use Rattle.pgs_lexer.proofs.Sizes.{mapped, line_len_le, closing_within}
use Rattle.pgs_lexer.proofs.Lists.{run_passes, run_stops, all_take, among_numbers}
use Rattle.pgs_lexer.proofs.Characters.{other_than, valid_is_utf8, all_chars_other}
use Rattle.pgs_lexer.proofs.Written.{unwrite, closed_at}

abbrev HasForm : ItemKind → List ℕ → ℕ → Type 0
HasForm kind text n = IsItem kind (take n text) (drop n text)

space_form : (text : List ℕ) (n : ℕ) → space_size text ≡ Some n → HasForm Space text n
space_form [] n e = cc
space_form (a ∷ text) n e = let p = cond_some (is_space a) 1 n e in (a, p.0, ap (λ k. take k (a ∷ text)) (sym p.1))

comment_front : (a b : ℕ) (text : List ℕ) (n : ℕ) → 2 + comment_len text ≡ n → take n (a ∷ b ∷ text) ≡ a ∷ b ∷ take (comment_len text) text
comment_front a b text n e = let two : n ≡ suc (suc (comment_len text)) = omega arith in ap (λ k. take k (a ∷ b ∷ text)) two

comment_form : (text : List ℕ) (n : ℕ) → comment_size text ≡ Some n → HasForm Comment text n
comment_form [] n e = cc
comment_form (a ∷ []) n e = cc
comment_form (a ∷ b ∷ text) n e =
    let p = cond_some (eqb a 47 && eqb b 47) (2 + comment_len text) n e in
    let slashes = and_parts (eqb a 47) (eqb b 47) p.0 in
    let line = take (line_len text) text in
    let utf8 = valid_is_utf8 line in
    let within : comment_len text ≤ line_len text = omega (arith, utf8_valid_len_le line, length-take-le (line_len text) text (line_len_le text)) in
    let front : take (comment_len text) line ≡ take (comment_len text) text = take-take (comment_len text) (line_len text) text within in
    let no_feed = all_take (other_than 10) (comment_len text) line (run_passes (other_than 10) text) in
    let chars_no_feed = all_chars_other 10 (omega arith) utf8.0 (subst (λ (l : List ℕ). list_all (other_than 10) l ≡ true) (sym utf8.1.1) no_feed) in (
      utf8.0,
      utf8.1.0,
      chars_no_feed,
      comment_front a b text n p.1 ∙ ap (λ (l : List ℕ). a ∷ b ∷ l) (sym front ∙ sym utf8.1.1) ∙ ap (λ x. x ∷ b ∷ encode_utf8_all utf8.0) (eqb-true a 47 slashes.0) ∙ ap (λ x. 47 ∷ x ∷ encode_utf8_all utf8.0) (eqb-true b 47 slashes.1),
    )

word_form : (text : List ℕ) (n : ℕ) → word_size text ≡ Some n → HasForm Word text n
word_form text n e =
    let p = cond_some (is_name (take (name_len text) text)) (name_len text) n e in
    subst (HasForm Word text) p.1 (p.0, run_stops is_name_byte text)

begun_by : (b n : ℕ) (text : List ℕ) → begins_with (λ x. x == b) (drop n text) ≡ true → take (suc n) text ≡ take n text ++ b ∷ []
begun_by b zero [] e = cc
begun_by b zero (a ∷ text) e = ap (λ x. x ∷ []) (eqb-true a b e)
begun_by b (suc n) [] e = cc
begun_by b (suc n) (a ∷ text) e = ap (λ (l : List ℕ). a ∷ l) (begun_by b n text e)

quoted_form : (text : List ℕ) (n : ℕ) → quoted_size text ≡ Some n → HasForm Quoted text n
quoted_form [] n e = cc
quoted_form (a ∷ text) n e =
    let p = cond_some _ (2 + name_len text) n e in
    let q = and_parts (is_backquote a && is_name (take (name_len text) text)) (begins_with is_backquote (drop (name_len text) text)) p.0 in
    let r = and_parts (is_backquote a) (is_name (take (name_len text) text)) q.0 in
    let two : n ≡ suc (suc (name_len text)) = omega (arith, p.1) in
    (take (name_len text) text, r.1, ap (λ k. take k (a ∷ text)) two ∙ ap (λ (l : List ℕ). a ∷ l) (begun_by 96 (name_len text) text q.1) ∙ ap (λ x. x ∷ take (name_len text) text ++ 96 ∷ []) (eqb-true a 96 r.0))

some_digits : (text : List ℕ) (n : ℕ) (b : Bool) → eqb (digits_len text) 0 ≡ b → cond b None (Some (digits_len text)) ≡ Some n → (0 < length (take n text)) × (list_all is_digit (take n text) ≡ true)
some_digits text n true e f = cc
some_digits text n false e f =
    let size = same_Some (digits_len text) n f in
    let some = eqb-false (digits_len text) 0 e in
    let len = length-take-le (digits_len text) text (prefix_len-le-length is_digit text) in
    subst (λ k. (0 < length (take k text)) × (list_all is_digit (take k text) ≡ true)) size (omega arith, run_passes is_digit text)

digits_form : (text : List ℕ) (n : ℕ) → digits_size text ≡ Some n → (0 < length (take n text)) × (list_all is_digit (take n text) ≡ true)
digits_form text n e = some_digits text n (eqb (digits_len text) 0) refl e

minus_or_not : (a : ℕ) (text : List ℕ) (n : ℕ) (b : Bool) → is_minus a ≡ b → cond b (option_map (λ k. 1 + k) (digits_size text)) (digits_size (a ∷ text)) ≡ Some n → HasForm Number (a ∷ text) n
minus_or_not a text n true minus e =
    let m = mapped (λ k. 1 + k) (digits_size text) n e in
    let d = digits_form text m.0 m.1 in
    let size : n ≡ suc m.0 = omega (arith, m.2) in
    (take m.0 text, d.0, d.1, inr (ap (λ k. take k (a ∷ text)) size ∙ ap (λ x. x ∷ take m.0 text) (eqb-true a 45 minus)))
minus_or_not a text n false minus e = let d = digits_form (a ∷ text) n e in (take n (a ∷ text), d.0, d.1, inl refl)

number_form : (text : List ℕ) (n : ℕ) → number_size text ≡ Some n → HasForm Number text n
number_form [] n e = cc
number_form (a ∷ text) n e = minus_or_not a text n (is_minus a) refl e

drop_next : (n : ℕ) (text rest : List ℕ) (b : ℕ) → drop n text ≡ b ∷ rest → (take (suc n) text ≡ take n text ++ b ∷ []) × (drop (suc n) text ≡ rest)
drop_next zero [] rest b e = cc
drop_next zero (a ∷ text) rest b e = (cc, cc)
drop_next (suc n) [] rest b e = cc
drop_next (suc n) (a ∷ text) rest b e = let d = drop_next n text rest b e in (ap (λ (l : List ℕ). a ∷ l) d.0, d.1)

closed_form : (text : List ℕ) (m n : ℕ) → closing text ≡ Some m → closed_size text m ≡ Some n → HasForm Text (39 ∷ text) n
closed_form text m n found e =
    let p = cond_some (is_utf8 (take m text)) (2 + m) n e in
    let utf8 = IsUtf8-from_is_utf8 (take m text) p.0 in
    let closed = closed_at text m found in
    let len : length (take m text) ≡ m = length-take-le m text (omega (arith, closing_within text m found)) in
    let ends : closing (encode_utf8_all utf8.0 ++ drop m text) ≡ Some (length (encode_utf8_all utf8.0)) =
    ap (λ (l : List ℕ). closing (l ++ drop m text)) utf8.1.1 ∙ ap closing (take-append-drop m text) ∙ found ∙ ap Some (sym (ap length utf8.1.1 ∙ len)) in
    let line = unwrite utf8.0 (drop m text) utf8.1.0 ends in
    let next = drop_next m text closed.0 39 closed.1 in
    let two : n ≡ suc (suc m) = omega (arith, p.1) in (
      line.0,
      line.1,
      line.2,
      ap (λ k. take k (39 ∷ text)) two ∙ ap (λ (l : List ℕ). 39 ∷ l) (next.0 ∙ ap (λ (l : List ℕ). l ++ 39 ∷ []) (sym utf8.1.1 ∙ line.3)),
      ap (λ k. begins_with is_quote (drop k (39 ∷ text))) two ∙ ap (begins_with is_quote) next.1 ∙ closed.2,
    )

opened_form : (a : ℕ) (text : List ℕ) (n : ℕ) (b : Bool) → is_quote a ≡ b → cond b (option_and_then (closed_size text) (closing text)) None ≡ Some n → HasForm Text (a ∷ text) n
opened_form a text n true quote e =
    option_and_then_some (closed_size text) (closing text) n e (λ m found size. subst (λ x. HasForm Text (x ∷ text) n) (sym (eqb-true a 39 quote)) (closed_form text m n found size))
opened_form a text n false quote e = cc

string_form : (text : List ℕ) (n : ℕ) → string_size text ≡ Some n → HasForm Text text n
string_form [] n e = cc
string_form (a ∷ text) n e = opened_form a text n (is_quote a) refl e

short_form : (a : ℕ) (text : List ℕ) (n : ℕ) → short_sign_size a ≡ Some n → HasForm Sign (a ∷ text) n
short_form a text n e =
    let p = cond_some (is_sign a) 1 n e in
    subst (HasForm Sign (a ∷ text)) p.1 (among_numbers (λ x. IsSign (x ∷ [])) a (codes "()[]{}:,;.&|?-") p.0 (refl, (refl, (refl, (refl, (refl, (refl, (refl, (refl, (refl, (refl, (refl, (refl, (refl, (refl, tt)))))))))))))))

pair_form : (a b x y : ℕ) → (eqb a x && eqb b y) ≡ true → IsSign (x ∷ y ∷ []) → IsSign (a ∷ b ∷ [])
pair_form a b x y e sign =
    let p = and_parts (eqb a x) (eqb b y) e in
    subst IsSign (ap (λ k. k ∷ y ∷ []) (sym (eqb-true a x p.0)) ∙ ap (λ k. a ∷ k ∷ []) (sym (eqb-true b y p.1))) sign

long_form : (a b : ℕ) → is_long_sign a b ≡ true → IsSign (a ∷ b ∷ [])
long_form a b e = elim (or_cases ((eqb a 45 && eqb b 62) || (eqb a 60 && eqb b 45)) (eqb a 46 && eqb b 46) e) [
  | inl earlier ↦ elim (or_cases (eqb a 45 && eqb b 62) (eqb a 60 && eqb b 45) earlier) [
    | inl arrow ↦ pair_form a b 45 62 arrow refl
    | inr arrow ↦ pair_form a b 60 45 arrow refl
  ]
  | inr dots ↦ pair_form a b 46 46 dots refl
]

long_or_short : (a b : ℕ) (text : List ℕ) (n : ℕ) (t : Bool) → is_long_sign a b ≡ t → cond t (Some 2) (short_sign_size a) ≡ Some n → HasForm Sign (a ∷ b ∷ text) n
long_or_short a b text n true l e = subst (HasForm Sign (a ∷ b ∷ text)) (same_Some 2 n e) (long_form a b l)
long_or_short a b text n false l e = short_form a (b ∷ text) n e

sign_form : (text : List ℕ) (n : ℕ) → sign_size text ≡ Some n → HasForm Sign text n
sign_form [] n e = cc
sign_form (a ∷ []) n e = short_form a [] n e
sign_form (a ∷ b ∷ text) n e = long_or_short a b text n (is_long_sign a b) refl e

pub size_has_form : (kind : ItemKind) (text : List ℕ) (n : ℕ) → size_of kind text ≡ Some n → IsItem kind (take n text) (drop n text)
size_has_form Space = space_form
size_has_form Comment = comment_form
size_has_form Word = word_form
size_has_form Quoted = quoted_form
size_has_form Number = number_form
size_has_form Text = string_form
size_has_form Sign = sign_form
