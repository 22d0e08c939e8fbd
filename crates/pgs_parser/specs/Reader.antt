-- How trees are read from tokens. A reader answers the tree that is in front, and the tokens after it.
use Prim.Native.String.{String}
use Rattle.std.specs.Prelude.{ℕ, zero, suc, ◌+◌, Bool, true, false, List, [], ◌∷◌, length, Option, Some, None, if◌then◌else◌, codes, bytes_eq}
use Rattle.pgs_base.specs.Options.{◌>>=◌}
use Rattle.pgs_lexer.specs.Token.{Lexeme}
use Rattle.pgs_lexer.specs.declared.kind.TokenKind.{TokenKind}
use Rattle.pgs_lexer.specs.declared.kind.TokenKind.TheVariants.{Name, Keyword, Sign}
use Rattle.pgs_parser.specs.Literal.{name_in}

abbrev pub Reader : Type 0 → Type 0
Reader A = List Lexeme → Option (A × List Lexeme)

-- ---- one token

-- a test of a token's kind and bytes
abbrev pub Test : Type 0
Test = TokenKind → List ℕ → Bool

-- the names; the keywords; the keyword of this spelling; the sign of this spelling
abbrev pub a_name : Test
a_name Name bytes = true
a_name _ bytes = false

abbrev pub a_keyword : Test
a_keyword Keyword bytes = true
a_keyword _ bytes = false

abbrev pub the_keyword : List ℕ → Test
the_keyword text Keyword bytes = bytes_eq bytes text
the_keyword text _ bytes = false

abbrev pub the_sign : List ℕ → Test
the_sign text Sign bytes = bytes_eq bytes text
the_sign text _ bytes = false

-- whether there is a next token and it passes
abbrev pub next : Test → List Lexeme → Bool
next test [] = false
next test (token ∷ rest) = test token.kind token.bytes

-- whether the token after the next one passes
abbrev pub second : Test → List Lexeme → Bool
second test [] = false
second test (token ∷ rest) = next test rest

-- the tokens after one that passes
abbrev pub after : Test → List Lexeme → Option (List Lexeme)
after test [] = None
after test (token ∷ rest) = if test token.kind token.bytes then Some rest else None

abbrev pub sign_at : String → List Lexeme → Option (List Lexeme)
sign_at text = after (the_sign (codes text))

abbrev pub keyword_at : String → List Lexeme → Option (List Lexeme)
keyword_at text = after (the_keyword (codes text))

abbrev pub name_at : Reader (List ℕ)
name_at [] = None
name_at (token ∷ rest) = if a_name token.kind token.bytes then Some (name_in token.bytes, rest) else None

-- ---- what may be left out

-- whether the keyword is there
unfoldable pub keyword_if_at : List ℕ → Reader Bool
keyword_if_at text tokens = elim (after (the_keyword text) tokens) [ Some rest ↦ Some (true, rest) | None ↦ Some (false, tokens) ]

-- an item, where it has begun
unfoldable pub maybe_at : {A : Type 0} → (List Lexeme → Option (List Lexeme)) → Reader A → Reader (Option A)
maybe_at begin item tokens = elim (begin tokens) [
  | None ↦ Some (None, tokens)
  | Some rest ↦ do
    found ← item rest
    Some (Some found.0, found.1)
]

-- ---- lists

-- the tokens after a comma, where this keyword does not follow it
abbrev pub comma_unless : List ℕ → List Lexeme → Option (List Lexeme)
comma_unless text tokens = if second (the_keyword text) tokens then None else sign_at "," tokens

-- the numbers of the declarations of a tree that has none
abbrev pub none_declared : {A : Type 0} → A → List ℕ
none_declared x = []

-- Items for as long as a further one begins; at most so many as the first number. Declarations are numbered from the second on.
unfoldable pub more : {A : Type 0} → (List Lexeme → Option (List Lexeme)) → (ℕ → Reader A) → (A → List ℕ) → ℕ → ℕ → Reader (List A)
more begin item places zero place tokens = Some ([], tokens)
more begin item places (suc n) place tokens = elim (begin tokens) [
  | None ↦ Some ([], tokens)
  | Some rest ↦ do
    first ← item place rest
    others ← more begin item places n (place + length (places first.0)) first.1
    Some (first.0 ∷ others.0, others.1)
]

-- an item and further ones, whose declarations are numbered from a place on
unfoldable pub numbered : {A : Type 0} → (List Lexeme → Option (List Lexeme)) → (ℕ → Reader A) → (A → List ℕ) → ℕ → Reader (List A)
numbered begin item places place tokens = do
  first ← item place tokens
  others ← more begin item places (length first.1) (place + length (places first.0)) first.1
  Some (first.0 ∷ others.0, others.1)

-- the same for items that declare nothing
abbrev pub listed_at : {A : Type 0} → (List Lexeme → Option (List Lexeme)) → Reader A → Reader (List A)
listed_at begin item = numbered begin (λ place. item) none_declared 0

abbrev pub each_at : {A : Type 0} → (List Lexeme → Option (List Lexeme)) → Reader A → Reader (List A)
each_at begin item tokens = more begin (λ place. item) none_declared (length tokens) 0 tokens

-- an item that has been read, and further ones after it
abbrev pub followed : {A : Type 0} → (List Lexeme → Option (List Lexeme)) → (ℕ → Reader A) → (A → List ℕ) → ℕ → A × List Lexeme → Option (List A × List Lexeme)
followed begin item places place first = do
  others ← more begin item places (length first.1) (place + length (places first.0)) first.1
  Some (first.0 ∷ others.0, others.1)
