-- How the grammar is written. A production says which tokens are read: it relates the tokens before to those after.
use Prim.Native.String.{String}
use Rattle.std.specs.Prelude.{◌≡◌, ◌⊎◌, Bool, true, false, List, [], ◌∷◌, Option, Some, None, codes}
use Rattle.pgs_lexer.specs.Token.{Lexeme}
use Rattle.pgs_lexer.specs.declared.kind.TokenKind.{TokenKind}
use Rattle.pgs_lexer.specs.declared.kind.TokenKind.TheVariants.{Keyword, Sign}

abbrev pub Production : Type 1
Production = List Lexeme → List Lexeme → Type 0

-- one production and then another
infixr 30 ◌▸◌
abbrev pub ◌▸◌ : Production → Production → Production
(first ▸ second) before after = (between : List Lexeme) × first before between × second between after

-- one production or another
infixr 20 ◌or◌
abbrev pub ◌or◌ : Production → Production → Production
(one or other) before after = one before after ⊎ other before after

-- no token
abbrev pub nothing : Production
nothing before after = before ≡ after

-- what no tokens are
abbrev pub never : Production
never before after = ⊥

-- one token, which is as asked
pub data IsToken (IsAsked : Lexeme → Type 0) : List Lexeme → List Lexeme → Type 0 where
  here : {token : Lexeme} {rest : List Lexeme} → IsAsked token → IsToken IsAsked (token ∷ rest) rest

-- the token of this kind and these bytes
abbrev pub IsSpelled : TokenKind → String → Lexeme → Type 0
IsSpelled kind text token = (token.kind ≡ kind) × (token.bytes ≡ codes text)

abbrev pub keyword : String → Production
keyword text = IsToken (IsSpelled Keyword text)

abbrev pub sign : String → Production
sign text = IsToken (IsSpelled Sign text)

-- a keyword that may be left out, and whether it is there
abbrev pub keyword_if : Bool → String → Production
keyword_if false text = nothing
keyword_if true text = keyword text

-- `[item]`, and what is there
abbrev pub maybe : {A : Type 0} → (A → Production) → Option A → Production
maybe item None = nothing
maybe item (Some x) = item x

-- `{item}`
abbrev pub each : {A : Type 0} → (A → Production) → List A → Production
each item [] = nothing
each item (x ∷ xs) = item x ▸ each item xs

-- `item {separator item}`: one or more
abbrev pub listed : {A : Type 0} → Production → (A → Production) → List A → Production
listed separator item [] = never
listed separator item (x ∷ xs) = item x ▸ each (λ y. separator ▸ item y) xs
