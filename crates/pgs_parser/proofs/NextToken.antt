-- Tests of the next token, by its kind and its bytes.
use Prim.Native.String.{String}
use Rattle.std.proofs.Common.{◌≡◌, ℕ, Bool, true, false, not, ◌&&◌, ◌||◌, List, [], ◌∷◌, Option, Some, None, refl, sym, ap, ap₂, ◌∙◌, subst, codes, bytes_eq, ⊎_elim}
use Rattle.std.specs.List.{list_any, list_all}
use Rattle.std.proofs.lemmas.Bool.{and_parts, or_parts, or_cases, not-true}
use Rattle.std.proofs.lemmas.Slice.Eq.{bytes_eq-Decides}
use Rattle.pgs_lexer.specs.Token.{Lexeme}
use Rattle.pgs_lexer.specs.declared.kind.TokenKind.{TokenKind}
use Rattle.pgs_lexer.specs.declared.kind.TokenKind.TheVariants.{Name, Keyword, Number, Text, Sign}
use Rattle.pgs_parser.specs.Production.{Production, IsToken, here, IsSpelled, keyword, sign, keyword_if, maybe}
use Rattle.pgs_parser.specs.Literal.{name}
use Rattle.pgs_parser.specs.Reader.{Test, next}

-- the keywords and signs of these spellings
abbrev pub word : List String → Test
word texts Keyword bytes = list_any (λ text. bytes_eq bytes (codes text)) texts
word texts Sign bytes = list_any (λ text. bytes_eq bytes (codes text)) texts
word texts _ bytes = false

next_spelled : (test : Test) (kind : TokenKind) (text : String) {tokens rest : List Lexeme} →
    IsToken (IsSpelled kind text) tokens rest → next test tokens ≡ test kind (codes text)
next_spelled test kind text (here asked) = ap₂ test asked.0 asked.1

-- a test at a sign, and at a keyword
pub next_sign : (test : Test) (text : String) {tokens rest : List Lexeme} → sign text tokens rest →
    next test tokens ≡ test Sign (codes text)
next_sign test text h = next_spelled test Sign text h

pub next_keyword : (test : Test) (text : String) {tokens rest : List Lexeme} → keyword text tokens rest →
    next test tokens ≡ test Keyword (codes text)
next_keyword test text h = next_spelled test Keyword text h

-- a token's test tells what it tells at the token's kind
pub next_kind : (test : Test) (value : Bool) {kind : TokenKind} {IsAsked : Lexeme → Type 0} {tokens rest : List Lexeme} →
    ((bytes : List ℕ) → test kind bytes ≡ value) → ((token : Lexeme) → IsAsked token → token.kind ≡ kind) →
    IsToken IsAsked tokens rest → next test tokens ≡ value
next_kind test value tells is_kind (here {token = token} asked) = ap (λ kind. test kind token.bytes) (is_kind token asked) ∙ tells token.bytes

pub next_name : (test : Test) (value : Bool) {wanted : List ℕ} {tokens rest : List Lexeme} → ((bytes : List ℕ) → test Name bytes ≡ value) →
    name wanted tokens rest → next test tokens ≡ value
next_name test value tells h = next_kind test value tells (λ token asked. asked.0) h

-- what holds of each of the words holds of bytes that are one of them
among : (P : List ℕ → Type 0) (holds : String → Bool) → ((text : String) → holds text ≡ true → P (codes text)) →
    (texts : List String) (bytes : List ℕ) →
    list_all holds texts ≡ true → list_any (λ text. bytes_eq bytes (codes text)) texts ≡ true → P bytes
among P holds gives [] bytes all e = cc
among P holds gives (t ∷ ts) bytes all e =
    let q = and_parts (holds t) (list_all holds ts) all in
    ⊎_elim (λ same. subst P (sym ((bytes_eq-Decides bytes (codes t)).0 same)) (gives t q.0))
    (λ later. among P holds gives ts bytes q.1 later) (or_cases (bytes_eq bytes (codes t)) (list_any (λ text. bytes_eq bytes (codes text)) ts) e)

-- whether a test tells this of the text, as a keyword and as a sign
abbrev pub tells : Test → Bool → String → Bool
tells test true text = test Keyword (codes text) && test Sign (codes text)
tells test false text = not (test Keyword (codes text) || test Sign (codes text))

gives_keyword : (test : Test) (value : Bool) (text : String) → tells test value text ≡ true → test Keyword (codes text) ≡ value
gives_keyword test true text e = (and_parts (test Keyword (codes text)) (test Sign (codes text)) e).0
gives_keyword test false text e = (or_parts (test Keyword (codes text)) (test Sign (codes text)) (not-true _ e)).0

gives_sign : (test : Test) (value : Bool) (text : String) → tells test value text ≡ true → test Sign (codes text) ≡ value
gives_sign test true text e = (and_parts (test Keyword (codes text)) (test Sign (codes text)) e).1
gives_sign test false text e = (or_parts (test Keyword (codes text)) (test Sign (codes text)) (not-true _ e)).1

word_at : (test : Test) (value : Bool) (texts : List String) (kind : TokenKind) (bytes : List ℕ) →
    list_all (tells test value) texts ≡ true → word texts kind bytes ≡ true → test kind bytes ≡ value
word_at test value texts Name bytes all e = cc
word_at test value texts Keyword bytes all e = among (λ b. test Keyword b ≡ value) (tells test value) (gives_keyword test value) texts bytes all e
word_at test value texts Number bytes all e = cc
word_at test value texts Text bytes all e = cc
word_at test value texts Sign bytes all e = among (λ b. test Sign b ≡ value) (tells test value) (gives_sign test value) texts bytes all e

-- a token that is one of the words passes or fails a test as each of them does
pub next_word : (test : Test) (value : Bool) (texts : List String) (tokens : List Lexeme) → list_all (tells test value) texts ≡ true →
    next (word texts) tokens ≡ true → next test tokens ≡ value
next_word test value texts [] all e = cc
next_word test value texts (token ∷ rest) all e = word_at test value texts token.kind token.bytes all e

fewer_at : (text : String) (texts : List String) (kind : TokenKind) (bytes : List ℕ) → word (text ∷ texts) kind bytes ≡ false →
    word texts kind bytes ≡ false
fewer_at text texts Name bytes e = refl
fewer_at text texts Keyword bytes e = (or_parts (bytes_eq bytes (codes text)) (list_any (λ t. bytes_eq bytes (codes t)) texts) e).1
fewer_at text texts Number bytes e = refl
fewer_at text texts Text bytes e = refl
fewer_at text texts Sign bytes e = (or_parts (bytes_eq bytes (codes text)) (list_any (λ t. bytes_eq bytes (codes t)) texts) e).1

-- a token that is none of the words is none of those after the first
pub fewer : (text : String) (texts : List String) (tokens : List Lexeme) → next (word (text ∷ texts)) tokens ≡ false →
    next (word texts) tokens ≡ false
fewer text texts [] e = refl
fewer text texts (token ∷ rest) e = fewer_at text texts token.kind token.bytes e

-- the next token passes; it does not pass
abbrev pub Passes : Test → List Lexeme → Type 0
Passes test tokens = next test tokens ≡ true

abbrev pub Fails : Test → List Lexeme → Type 0
Fails test tokens = next test tokens ≡ false

-- a test of what begins an item and of what follows it, at an item that may be left out
pub maybe_begins : {A : Type 0} (test : Test) (value : Bool) {item : A → Production} →
    ((x : A) (a b : List Lexeme) → item x a b → next test a ≡ value) → (there : Option A) (before after : List Lexeme) →
    maybe item there before after → next test after ≡ value → next test before ≡ value
maybe_begins test value begins None before after h e = ap (next test) h ∙ e
maybe_begins test value begins (Some x) before after h e = begins x before after h

pub keyword_if_begins : (test : Test) (value : Bool) (text : String) → test Keyword (codes text) ≡ value →
    (there : Bool) (before after : List Lexeme) → keyword_if there text before after → next test after ≡ value → next test before ≡ value
keyword_if_begins test value text begins false before after h e = ap (next test) h ∙ e
keyword_if_begins test value text begins true before after h e = next_keyword test text h ∙ begins
