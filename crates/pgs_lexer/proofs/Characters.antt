-- The bytes of UTF-8 characters: one below 128 is its whole character. And the longest front that is UTF-8.
use Rattle.std.proofs.Common.{◌≡◌, ◌∙◌, sym, ap, ℕ, zero, suc, ◌<◌, ◌≤◌, Bool, true, false, not, cond, ◌==◌, List, [], ◌∷◌, length, take, get_or, refl, arith, subst, inl, inr, IsUtf8, append-nil}
use Rattle.std.specs.Prelude.{encode_utf8, encode_utf8_all}
use Rattle.std.specs.List.{list_all}
use Rattle.std.specs.Str.{is_utf8}
use Rattle.std.specs.Str.Lossy.{utf8_valid_len, valid_len_up_to}
use Rattle.std.proofs.lemmas.Bool.{and_parts, and_from, eqb-false, ne_eqb, cases_eq, false≢true, not-true}
use Rattle.std.proofs.lemmas.Str.{inside_one, encode_ascii, IsUtf8-nil, IsUtf8-from_is_utf8, is_utf8-from_IsUtf8}
use Rattle.pgs_lexer.proofs.Lists.{all_parts, all_both}

-- a test that fails at one ASCII byte alone
abbrev pub other_than : ℕ → ℕ → Bool
other_than b x = not (x == b)

by_index : (p : ℕ → Bool) (xs : List ℕ) → ((k : ℕ) → k < length xs → p (get_or xs k 0) ≡ true) → list_all p xs ≡ true
by_index p [] h = refl
by_index p (x ∷ xs) h = and_from (p x) (list_all p xs) (h 0 (omega arith)) (by_index p xs (λ k l. h (suc k) (omega arith)))

not_equal : (x b : ℕ) → (x ≡ b → ⊥) → other_than b x ≡ true
not_equal x b h = ap not (ne_eqb x b h)

is_other : (x b : ℕ) → other_than b x ≡ true → x ≡ b → ⊥
is_other x b e = eqb-false x b (not-true _ e)

-- no byte of a character is a given ASCII byte, unless the character is
pub bytes_other : (b : ℕ) → b < 128 → (c : ℕ) → other_than b c ≡ true → list_all (other_than b) (encode_utf8 c) ≡ true
bytes_other b low c e = by_index (other_than b) (encode_utf8 c) (λ k l. not_equal _ b (λ same. is_other c b e (inside_one c [] (encode_utf8 c) k (sym (append-nil _)) l (omega arith) ∙ same)))

pub all_bytes_other : (b : ℕ) → b < 128 → (cs : List ℕ) → list_all (other_than b) cs ≡ true → list_all (other_than b) (encode_utf8_all cs) ≡ true
all_bytes_other b low [] e = refl
all_bytes_other b low (c ∷ cs) e =
    let q = and_parts (other_than b c) (list_all (other_than b) cs) e in
    all_both (other_than b) (encode_utf8 c) (encode_utf8_all cs) (bytes_other b low c q.0) (all_bytes_other b low cs q.1)

char_other : (b : ℕ) → b < 128 → (c : ℕ) → list_all (other_than b) (encode_utf8 c) ≡ true → other_than b c ≡ true
char_other b low c e = not_equal c b (λ same.
    let bytes : encode_utf8 c ≡ b ∷ [] = encode_ascii c (omega arith) ∙ ap (λ x. x ∷ []) same in
    let q = and_parts (other_than b b) true (subst (λ l. list_all (other_than b) l ≡ true) bytes e) in
    is_other b b q.0 refl)

pub all_chars_other : (b : ℕ) → b < 128 → (cs : List ℕ) → list_all (other_than b) (encode_utf8_all cs) ≡ true → list_all (other_than b) cs ≡ true
all_chars_other b low [] e = refl
all_chars_other b low (c ∷ cs) e =
    let q = all_parts (other_than b) (encode_utf8 c) (encode_utf8_all cs) e in
    and_from (other_than b c) (list_all (other_than b) cs) (char_other b low c q.0) (all_chars_other b low cs q.1)

chosen_is_utf8 : (bs : List ℕ) (n m : ℕ) (b : Bool) → is_utf8 (take n bs) ≡ b → IsUtf8 (take m bs) → IsUtf8 (take (cond b n m) bs)
chosen_is_utf8 bs n m true e u = IsUtf8-from_is_utf8 (take n bs) e
chosen_is_utf8 bs n m false e u = u

up_to_is_utf8 : (bs : List ℕ) (n : ℕ) → IsUtf8 (take (valid_len_up_to bs n) bs)
up_to_is_utf8 bs zero = IsUtf8-nil
up_to_is_utf8 bs (suc n) = chosen_is_utf8 bs (suc n) (valid_len_up_to bs n) (is_utf8 (take (suc n) bs)) refl (up_to_is_utf8 bs n)

-- the front that is taken is UTF-8
pub valid_is_utf8 : (bs : List ℕ) → IsUtf8 (take (utf8_valid_len bs) bs)
unfolding utf8_valid_len
valid_is_utf8 bs = up_to_is_utf8 bs (length bs)

chosen_least : (bs : List ℕ) (n m : ℕ) (b : Bool) → is_utf8 (take (suc n) bs) ≡ b → m ≤ suc n → IsUtf8 (take m bs) → (m ≤ n → m ≤ valid_len_up_to bs n) → m ≤ cond b (suc n) (valid_len_up_to bs n)
chosen_least bs n m true e h u below = h
chosen_least bs n m false e h u below = elim (cases_eq m (suc n)) [
  | inl same ↦ absurd (false≢true (sym e ∙ is_utf8-from_IsUtf8 (take (suc n) bs) (subst (λ k. IsUtf8 (take k bs)) same u)))
  | inr other ↦ below (omega arith)
]

up_to_least : (bs : List ℕ) (n m : ℕ) → m ≤ n → IsUtf8 (take m bs) → m ≤ valid_len_up_to bs n
up_to_least bs zero m h u = omega arith
up_to_least bs (suc n) m h u = chosen_least bs n m (is_utf8 (take (suc n) bs)) refl h u (λ below. up_to_least bs n m below u)

-- and no longer one is
pub valid_least : (bs : List ℕ) (m : ℕ) → m ≤ length bs → IsUtf8 (take m bs) → m ≤ utf8_valid_len bs
unfolding utf8_valid_len
valid_least bs m h u = up_to_least bs (length bs) m h u
