-- Tokens from a place on, one after another.
use Rattle.std.proofs.Common.{◌≡◌, ℕ, zero, suc, ◌+◌, ◌<◌, ◌≤◌, ◌-◌, true, false, not, cond, ◌==◌, List, [], ◌∷◌, ◌++◌, length, take, drop, get_or, map, slice_get, Some, IfSome, codes, refl, sym, ap, ap₂, subst, ◌∙◌, arith, append_assoc}
use Rattle.std.specs.List.{slice_range, position_or_len}
use Rattle.std.proofs.lemmas.List.{append-nil}
use Rattle.std.proofs.lemmas.List.Edits.{between_more}
use Rattle.std.proofs.lemmas.Option.{get_or_from_slice_get, slice_get_within, slice_get-get_or}
use Rattle.std.proofs.Math.Seq.{drop-cons, drop-length}
use Rattle.pgs_lexer.specs.Token.{Lexeme}
use Rattle.pgs_schema_places.specs.KeyTexts.{is_for, is_behind, key_tokens, spaced, text_of}

-- the token at a place, which is there, and what was told of it
pub told : (Q : Lexeme → Type 0) (xs : List Lexeme) (place : ℕ) → place < length xs → IfSome (slice_get xs place) Q →
    (token : Lexeme) × (slice_get xs place ≡ Some token) × Q token
told Q [] place h k = absurd (omega arith)
told Q (x ∷ xs) place h k =
    let e = slice_get-get_or (x ∷ xs) place x h in (get_or (x ∷ xs) place x, e, subst (λ o. IfSome o Q) e k)

module _ (xs : List Lexeme) (place : ℕ) (token : Lexeme) (here : slice_get xs place ≡ Some token) where
  rest : List Lexeme
  rest = drop (place + 1) xs

  split : drop place xs ≡ token ∷ rest
  unfolding rest
  split =
      let next : suc place ≡ place + 1 = omega arith in
      drop-cons xs place token (slice_get_within xs place token here) ∙ ap₂ ◌∷◌ (get_or_from_slice_get xs place token token here) (ap (λ n. drop n xs) next)

  pub range_split : (stop : ℕ) → place < stop → slice_range xs place stop ≡ token ∷ slice_range xs (place + 1) stop
  unfolding rest
  range_split stop less =
      let longer : stop - place ≡ suc (stop - (place + 1)) = omega arith in
      ap (take (stop - place)) split ∙ ap (λ n. take n (token ∷ rest)) longer

  -- the count of tokens before FOR or `;`
  pub passed : is_behind token ≡ false → position_or_len is_behind (drop place xs) ≡ 1 + position_or_len is_behind (drop (place + 1) xs)
  unfolding rest
  passed e = ap (position_or_len is_behind) split ∙ ap (λ b. cond (not b) (1 + position_or_len is_behind rest) 0) e

  pub stopped : is_behind token ≡ true → position_or_len is_behind (drop place xs) ≡ 0
  stopped e = ap (position_or_len is_behind) split ∙ ap (λ b. cond (not b) (1 + position_or_len is_behind rest) 0) e

  -- the keys from a place on
  pub no_key : is_for token ≡ false → key_tokens (drop place xs) ≡ key_tokens (drop (place + 1) xs)
  unfolding rest
  no_key e = ap key_tokens split ∙ ap (λ b. cond b (take (position_or_len is_behind rest) (token ∷ rest) ∷ key_tokens rest) (key_tokens rest)) e

  pub key_here : (count : ℕ) → is_for token ≡ true → count ≡ position_or_len is_behind (drop (place + 1) xs) →
      key_tokens (drop place xs) ≡ slice_range xs place (place + count) ∷ key_tokens (drop (place + 1) xs)
  unfolding rest
  key_here count e is =
      let so_many : position_or_len is_behind rest ≡ place + count - place = omega (arith, is) in
      ap key_tokens split ∙ ap (λ b. cond b (take (position_or_len is_behind rest) (token ∷ rest) ∷ key_tokens rest) (key_tokens rest)) e
      ∙ ap (λ key. key ∷ key_tokens rest) (ap₂ take so_many (sym split))

  -- a token more of a text
  pub more_text : (stop end new_end : ℕ) (old new whole : List ℕ) → place < stop → old ++ spaced end (slice_range xs place stop) ≡ whole →
      new ≡ old ++ (cond (end == token.start) [] (codes " ") ++ token.bytes) → new_end ≡ token.end → new ++ spaced new_end (slice_range xs (place + 1) stop) ≡ whole
  more_text stop end new_end old new whole less before after ends =
      let gap = cond (end == token.start) [] (codes " ") in
      let later = spaced token.end (slice_range xs (place + 1) stop) in
      ap₂ (λ (text : List ℕ) (n : ℕ). text ++ spaced n (slice_range xs (place + 1) stop)) after ends
      ∙ append_assoc old (gap ++ token.bytes) later ∙ ap (λ ys. old ++ ys) (append_assoc gap token.bytes later)
      ∙ ap (λ ys. old ++ spaced end ys) (sym (range_split stop less)) ∙ before

pub none_left : (xs : List Lexeme) (place : ℕ) → place ≡ length xs → drop place xs ≡ []
none_left xs place e = ap (λ n. drop n xs) e ∙ drop-length xs

pub count_end : (xs : List Lexeme) (place : ℕ) → place ≡ length xs → position_or_len is_behind (drop place xs) ≡ 0
count_end xs place e = ap (position_or_len is_behind) (none_left xs place e)

-- the first token of a text has nothing in front
by_size : (xs : List Lexeme) (start stop n : ℕ) → start ≤ stop → stop ≤ length xs → IfSome (slice_get xs start) (λ token. n ≡ token.start) →
    (size : ℕ) → stop - start ≡ size → spaced n (slice_range xs start stop) ≡ text_of (slice_range xs start stop)
by_size xs start stop n order within is zero e =
    let none : slice_range xs start stop ≡ [] = ap (λ k. take k (drop start xs)) e in
    ap (spaced n) none ∙ ap text_of (sym none)
by_size xs start stop n order within is (suc size) e =
    let less : start < stop = omega arith in
    let inside : start < length xs = omega arith in
    let t = told (λ token. n ≡ token.start) xs start inside is in
    let parts = range_split xs start t.0 t.1 stop less in
    ap (spaced n) parts ∙ ap (λ k. spaced k (t.0 ∷ slice_range xs (start + 1) stop)) t.2 ∙ ap text_of (sym parts)

pub first_text : (xs : List Lexeme) (start stop n : ℕ) → start ≤ stop → stop ≤ length xs → IfSome (slice_get xs start) (λ token. n ≡ token.start) →
    spaced n (slice_range xs start stop) ≡ text_of (slice_range xs start stop)
first_text xs start stop n order within is = by_size xs start stop n order within is (stop - start) refl

pub whole_text : (xs : List Lexeme) (place stop end : ℕ) (old whole : List ℕ) → place ≡ stop → old ++ spaced end (slice_range xs place stop) ≡ whole → old ≡ whole
whole_text xs place stop end old whole e before =
    let size : stop - place ≡ 0 = omega arith in
    sym (append-nil old) ∙ ap (λ k. old ++ spaced end (take k (drop place xs))) (sym size) ∙ before

-- a text more of keys
pub more_keys : (old new whole : List (List ℕ)) (text : List ℕ) (key : List Lexeme) (keys later : List (List Lexeme)) → old ++ map text_of keys ≡ whole →
    keys ≡ key ∷ later → text ≡ text_of key → new ≡ old ++ text ∷ [] → new ++ map text_of later ≡ whole
more_keys old new whole text key keys later before parts is after =
    ap (λ ys. ys ++ map text_of later) (after ∙ ap (λ t. old ++ t ∷ []) is) ∙ append_assoc old (text_of key ∷ []) (map text_of later)
    ∙ ap (λ ys. old ++ map text_of ys) (sym parts) ∙ before

pub same_keys : (old whole : List (List ℕ)) (keys later : List (List Lexeme)) → old ++ map text_of keys ≡ whole → keys ≡ later → old ++ map text_of later ≡ whole
same_keys old whole keys later before e = ap (λ ys. old ++ map text_of ys) (sym e) ∙ before

-- a token more of a range
pub range_more : (xs : List Lexeme) (start place : ℕ) (token : Lexeme) → start ≤ place → slice_get xs place ≡ Some token →
    slice_range xs start (place + 1) ≡ slice_range xs start place ++ token ∷ []
range_more xs start place token order here =
    between_more xs start place token order (slice_get_within xs place token here)
    ∙ ap (λ own. slice_range xs start place ++ own ∷ []) (get_or_from_slice_get xs place token token here)
