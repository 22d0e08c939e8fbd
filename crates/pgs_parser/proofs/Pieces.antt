-- The pieces of tokens, as the loops find them.
use Rattle.std.proofs.Common.{◌≡◌, ℕ, suc, ◌+◌, ◌<◌, ◌≤◌, ◌-◌, Bool, true, false, cond, List, [], ◌∷◌, ◌++◌, length, get_or, take, drop, slice_get, Some, IfSome, subst, refl, sym, ap, ap₂, ◌∙◌, arith, length-drop}
use Rattle.std.specs.List.{slice_range}
use Rattle.std.proofs.lemmas.List.{get_or-drop, length-take}
use Rattle.std.proofs.lemmas.Option.{get_or_from_slice_get, slice_get_within, slice_get-get_or}
use Rattle.std.proofs.Math.Seq.{take-suc, drop-cons, drop-length}
use Rattle.pgs_lexer.specs.Token.{Lexeme}
use Rattle.pgs_parser.specs.Statements.{pieces_of, is_semicolon, with_token}

-- tokens in front of the first piece
abbrev pub with_front : List Lexeme → List (List Lexeme) → List (List Lexeme)
with_front [] pieces = pieces
with_front (token ∷ front) pieces = with_token token (with_front front pieces)

pub front-more : (front : List Lexeme) (token : Lexeme) (pieces : List (List Lexeme)) →
    with_front (front ++ token ∷ []) pieces ≡ with_front front (with_token token pieces)
front-more [] token pieces = refl
front-more (t ∷ front) token pieces = ap (with_token t) (front-more front token pieces)

pub front-first : (front piece : List Lexeme) (pieces : List (List Lexeme)) → with_front front (piece ∷ pieces) ≡ (front ++ piece) ∷ pieces
front-first [] piece pieces = refl
front-first (t ∷ front) piece pieces = ap (with_token t) (front-first front piece pieces)

pub front-last : (token : Lexeme) (front : List Lexeme) → with_front (token ∷ front) [] ≡ (token ∷ front) ∷ []
front-last token [] = refl
front-last token (t ∷ front) = ap (with_token token) (front-last t front)

-- ---- the search for the end of a piece

module _ (xs : List Lexeme) (start place : ℕ) (token : Lexeme) (order : start ≤ place) (here : slice_get xs place ≡ Some token) where
  within : place < length xs
  within = slice_get_within xs place token here

  split : drop place xs ≡ token ∷ drop (place + 1) xs
  split =
      let next : suc place ≡ place + 1 = omega arith in
      drop-cons xs place token within ∙ ap₂ ◌∷◌ (get_or_from_slice_get xs place token token here) (ap (λ n. drop n xs) next)

  range-more : slice_range xs start (place + 1) ≡ slice_range xs start place ++ token ∷ []
  range-more =
      let longer : place + 1 - start ≡ suc (place - start) = omega arith in
      let same : start + (place - start) ≡ place = omega arith in
      let inside : place - start < length (drop start xs) = omega (arith, length-drop start xs, within) in
      ap (λ n. take n (drop start xs)) longer ∙ take-suc (drop start xs) (place - start) token inside
      ∙ ap (λ t. slice_range xs start place ++ t ∷ [])
      (get_or-drop start xs (place - start) token ∙ ap (λ n. get_or xs n token) same ∙ get_or_from_slice_get xs place token token here)

  -- a token other than a semicolon belongs to the piece
  pub goes_on : is_semicolon token ≡ false → pieces_of (drop start xs) ≡ with_front (slice_range xs start place) (pieces_of (drop place xs)) →
      pieces_of (drop start xs) ≡ with_front (slice_range xs start (place + 1)) (pieces_of (drop (place + 1) xs))
  goes_on e h =
      let rest = pieces_of (drop (place + 1) xs) in
      let next : pieces_of (drop place xs) ≡ with_token token rest =
      ap pieces_of split ∙ ap (λ b. cond b ((token ∷ []) ∷ rest) (with_token token rest)) e in
      h ∙ ap (with_front (slice_range xs start place)) next ∙ sym (front-more (slice_range xs start place) token rest)
      ∙ ap (λ front. with_front front rest) (sym range-more)

  -- a semicolon ends it
  pub ends : is_semicolon token ≡ true → pieces_of (drop start xs) ≡ with_front (slice_range xs start place) (pieces_of (drop place xs)) →
      pieces_of (drop start xs) ≡ slice_range xs start (place + 1) ∷ pieces_of (drop (place + 1) xs)
  ends e h =
      let rest = pieces_of (drop (place + 1) xs) in
      let next : pieces_of (drop place xs) ≡ (token ∷ []) ∷ rest =
      ap pieces_of split ∙ ap (λ b. cond b ((token ∷ []) ∷ rest) (with_token token rest)) e in
      h ∙ ap (with_front (slice_range xs start place)) next ∙ front-first (slice_range xs start place) (token ∷ []) rest
      ∙ ap (λ piece. piece ∷ rest) (sym range-more)

-- the last tokens are a piece, too
last-piece : (front : List Lexeme) → 0 < length front → with_front front [] ≡ front ∷ []
last-piece [] h = absurd (omega arith)
last-piece (t ∷ front) h = front-last t front

pub ends_last : (xs : List Lexeme) (start place : ℕ) → start < place → place ≡ length xs →
    pieces_of (drop start xs) ≡ with_front (slice_range xs start place) (pieces_of (drop place xs)) →
    pieces_of (drop start xs) ≡ slice_range xs start place ∷ pieces_of (drop place xs)
ends_last xs start place h e g =
    let none : drop place xs ≡ [] = ap (λ n. drop n xs) e ∙ drop-length xs in
    let some : 0 < length (slice_range xs start place) = omega (arith, length-take (place - start) (drop start xs), length-drop start xs) in
    g ∙ ap (λ ts. with_front (slice_range xs start place) (pieces_of ts)) none ∙ last-piece (slice_range xs start place) some
    ∙ ap (λ ts. slice_range xs start place ∷ pieces_of ts) (sym none)

-- a token and what a test told of it
pub told : (xs : List Lexeme) (place : ℕ) (answer : Bool) → place < length xs → IfSome (slice_get xs place) (λ token. answer ≡ is_semicolon token) →
    (token : Lexeme) × (slice_get xs place ≡ Some token) × (is_semicolon token ≡ answer)
told [] place answer h k = absurd (omega arith)
told (x ∷ xs) place answer h k =
    let e = slice_get-get_or (x ∷ xs) place x h in
    (get_or (x ∷ xs) place x, e, sym (subst (λ o. IfSome o (λ token. answer ≡ is_semicolon token)) e k))
