-- Tokens from a place on, and what is told of them one by one.
use Rattle.std.proofs.Common.{◌≡◌, ℕ, zero, suc, ◌+◌, ◌<◌, ◌≤◌, Bool, true, false, not, cond, ◌==◌, List, [], ◌∷◌, ◌++◌, length, take, drop, get_or, map, codes, refl, sym, ap, ◌∙◌, arith, append_assoc}
use Rattle.std.specs.List.{position_or_len}
use Rattle.std.proofs.lemmas.List.{map-append, drop-map, take-map, take_all, append-nil}
use Rattle.pgs_lexer.specs.declared.token.Token.{Token}
use Rattle.pgs_lexer.specs.Token.{Lexeme}
use Rattle.pgs_lexer.specs.Tokens.{lexeme_of}
use Rattle.pgs_schema_places.specs.declared.parts.PartTexts.{PartTexts}
use Rattle.pgs_schema_places.specs.KeyTexts.{spaced, text_of}
use Rattle.pgs_schema_places.specs.KeyParts.{first_place, place_tokens, first_behind, behind_commas, is_keyword_kind, behind_last, part_texts}

abbrev pub lexemes : List Token → List Lexeme
lexemes tokens = map lexeme_of tokens

-- one further
next : (i : ℕ) → suc i + 1 ≡ suc (i + 1)
next i = omega arith

-- the tokens from a place on begin with the one there
pub from_place : (xs : List Token) (i : ℕ) (d : Token) → i < length xs →
    drop i (lexemes xs) ≡ lexeme_of (get_or xs i d) ∷ drop (i + 1) (lexemes xs)
from_place [] i d lt = absurd (omega (arith, lt))
from_place (y ∷ ys) zero d lt = refl
from_place (y ∷ ys) (suc i) d lt =
    from_place ys i d (omega (arith, lt)) ∙ ap (λ k. lexeme_of (get_or ys i d) ∷ drop k (lexemes (y ∷ ys))) (sym (next i))

-- none are behind all
pub none_behind : {X : Type 0} (xs : List X) (i : ℕ) → length xs ≤ i → drop i xs ≡ []
none_behind [] zero le = refl
none_behind [] (suc i) le = refl
none_behind (x ∷ xs) zero le = absurd (omega (arith, le))
none_behind (x ∷ xs) (suc i) le = none_behind xs i (omega (arith, le))

-- ---- a front, and what is behind

pub front_is : (xs : List Token) (count : ℕ) → lexemes (take count xs) ≡ take count (lexemes xs)
front_is xs count = sym (take-map lexeme_of count xs)

pub all_in_front : (xs : List Token) (count : ℕ) → length xs ≤ count → lexemes xs ≡ take count (lexemes xs)
all_in_front xs count le = ap lexemes (sym (take_all count xs le)) ∙ front_is xs count

pub behind_is : (xs : List Token) (count size : ℕ) → length (drop count xs) ≤ size → lexemes (take size (drop count xs)) ≡ drop count (lexemes xs)
behind_is xs count size le = ap lexemes (take_all size (drop count xs) le) ∙ sym (drop-map lexeme_of count xs)

pub nothing_behind : (xs : List Token) (count : ℕ) → length xs ≤ count → [] ≡ drop count (lexemes xs)
nothing_behind xs count le = ap lexemes (sym (none_behind xs count le)) ∙ sym (drop-map lexeme_of count xs)

-- ---- the count of tokens in front of a mark

module _ (test : Lexeme → Bool) (xs : List Token) (i : ℕ) (d : Token) (lt : i < length xs) where
  pub passed : test (lexeme_of (get_or xs i d)) ≡ false → position_or_len test (drop i (lexemes xs)) ≡ 1 + position_or_len test (drop (i + 1) (lexemes xs))
  passed e =
      ap (position_or_len test) (from_place xs i d lt)
      ∙ ap (λ b. cond (not b) (1 + position_or_len test (drop (i + 1) (lexemes xs))) 0) e

  pub stopped : test (lexeme_of (get_or xs i d)) ≡ true → position_or_len test (drop i (lexemes xs)) ≡ 0
  stopped e =
      ap (position_or_len test) (from_place xs i d lt)
      ∙ ap (λ b. cond (not b) (1 + position_or_len test (drop (i + 1) (lexemes xs))) 0) e

pub counted : (test : Lexeme → Bool) (xs : List Token) (i : ℕ) → length xs ≤ i → position_or_len test (drop i (lexemes xs)) ≡ 0
counted test xs i le = ap (position_or_len test) (sym (nothing_behind xs i le))

-- ---- each place, and each text behind a comma, one by one

pub places_from : (xs : List Lexeme) (i : ℕ) → i < length xs → place_tokens (drop i xs) ≡ first_place (drop i xs) ++ place_tokens (drop (i + 1) xs)
places_from [] i lt = absurd (omega (arith, lt))
places_from (x ∷ xs) zero lt = refl
places_from (x ∷ xs) (suc i) lt =
    places_from xs i (omega (arith, lt)) ∙ ap (λ k. first_place (drop i xs) ++ place_tokens (drop k (x ∷ xs))) (sym (next i))

pub commas_from : (xs : List Lexeme) (i : ℕ) → i < length xs → behind_commas (drop i xs) ≡ first_behind (drop i xs) ++ behind_commas (drop (i + 1) xs)
commas_from [] i lt = absurd (omega (arith, lt))
commas_from (x ∷ xs) zero lt = refl
commas_from (x ∷ xs) (suc i) lt =
    commas_from xs i (omega (arith, lt)) ∙ ap (λ k. first_behind (drop i xs) ++ behind_commas (drop k (x ∷ xs))) (sym (next i))

-- one more of texts that are gone through from a place on, and the last
pub more_of : (old new whole : List (List ℕ)) (here later all : List (List Lexeme)) → old ++ map text_of all ≡ whole → all ≡ here ++ later →
    new ≡ old ++ map text_of here → new ++ map text_of later ≡ whole
more_of old new whole here later all before split after =
    ap (λ ys. ys ++ map text_of later) after ∙ append_assoc old (map text_of here) (map text_of later)
    ∙ ap (λ ys. old ++ ys) (sym (map-append text_of here later)) ∙ ap (λ ys. old ++ map text_of ys) (sym split) ∙ before

pub none_more : (old whole : List (List ℕ)) (all : List (List Lexeme)) → old ++ map text_of all ≡ whole → all ≡ [] → old ≡ whole
none_more old whole all before none = sym (append-nil old) ∙ ap (λ ys. old ++ map text_of ys) (sym none) ∙ before

-- ---- a token more of a text

pub more_spaced : (xs : List Token) (i : ℕ) (d : Token) (end : ℕ) (old new whole : List ℕ) → i < length xs →
    old ++ spaced end (drop i (lexemes xs)) ≡ whole →
    new ≡ old ++ (cond (end == (get_or xs i d).start) [] (codes " ") ++ (get_or xs i d).slice.now) →
    new ++ spaced (get_or xs i d).end (drop (i + 1) (lexemes xs)) ≡ whole
more_spaced xs i d end old new whole lt before after =
    let x : Token = get_or xs i d in
    let gap = cond (end == x.start) [] (codes " ") in
    let later = spaced x.end (drop (i + 1) (lexemes xs)) in
    ap (λ (text : List ℕ). text ++ later) after
    ∙ append_assoc old (gap ++ x.slice.now) later ∙ ap (λ ys. old ++ ys) (append_assoc gap x.slice.now later)
    ∙ ap (λ ys. old ++ spaced end ys) (sym (from_place xs i d lt)) ∙ before

pub all_spaced : (xs : List Token) (i end : ℕ) (old whole : List ℕ) → length xs ≤ i → old ++ spaced end (drop i (lexemes xs)) ≡ whole → old ≡ whole
all_spaced xs i end old whole le before =
    sym (append-nil old) ∙ ap (λ ys. old ++ spaced end ys) (nothing_behind xs i le) ∙ before

-- ---- what is behind the last keyword

module _ (xs : List Token) (i : ℕ) (d : Token) (found : List Lexeme) (lt : i < length xs) where
  behind_more : behind_last found (drop i (lexemes xs))
      ≡ behind_last (cond (is_keyword_kind (get_or xs i d).kind) (drop (i + 1) (lexemes xs)) found) (drop (i + 1) (lexemes xs))
  behind_more = ap (behind_last found) (from_place xs i d lt)

  pub behind_keyword : (whole : List Lexeme) → is_keyword_kind (get_or xs i d).kind ≡ true → behind_last found (drop i (lexemes xs)) ≡ whole →
      behind_last (drop (i + 1) (lexemes xs)) (drop (i + 1) (lexemes xs)) ≡ whole
  behind_keyword whole e before =
      ap (λ b. behind_last (cond b (drop (i + 1) (lexemes xs)) found) (drop (i + 1) (lexemes xs))) (sym e) ∙ sym behind_more ∙ before

  pub behind_other : (whole : List Lexeme) → is_keyword_kind (get_or xs i d).kind ≡ false → behind_last found (drop i (lexemes xs)) ≡ whole →
      behind_last found (drop (i + 1) (lexemes xs)) ≡ whole
  behind_other whole e before =
      ap (λ b. behind_last (cond b (drop (i + 1) (lexemes xs)) found) (drop (i + 1) (lexemes xs))) (sym e) ∙ sym behind_more ∙ before

pub behind_all : (xs : List Token) (i : ℕ) (found : List Lexeme) → length xs ≤ i → behind_last found (drop i (lexemes xs)) ≡ found
behind_all xs i found le = ap (behind_last found) (sym (nothing_behind xs i le))

-- ---- the parts of keys, a key at a time

pub one_more_key : (old new : List PartTexts) (parts : PartTexts) (key : List Lexeme) (keys later : List (List Lexeme)) → keys ≡ key ∷ later →
    parts ≡ part_texts key → new ≡ old ++ parts ∷ [] → new ++ map part_texts later ≡ old ++ map part_texts keys
one_more_key old new parts key keys later split is after =
    ap (λ ys. ys ++ map part_texts later) (after ∙ ap (λ own. old ++ own ∷ []) is) ∙ append_assoc old (part_texts key ∷ []) (map part_texts later)
    ∙ ap (λ ys. old ++ map part_texts ys) (sym split)

pub no_more_key : (old : List PartTexts) (keys later : List (List Lexeme)) → keys ≡ later → old ++ map part_texts later ≡ old ++ map part_texts keys
no_more_key old keys later e = ap (λ ys. old ++ map part_texts ys) (sym e)
