-- What productions read one after the other, and what one that begins with a token reads.
use Rattle.std.proofs.Common.{List, ◌∷◌}
use Rattle.pgs_lexer.specs.Token.{Lexeme}
use Rattle.pgs_parser.specs.Production.{IsToken, here}

-- what one production reads up to a place, and then what the next reads
infixr 10 ◌⟨◌⟩◌
pub ◌⟨◌⟩◌ : {First Second : List Lexeme → Type 0} (between : List Lexeme) → First between → Second between →
    (middle : List Lexeme) × First middle × Second middle
between ⟨ first ⟩ second = (between, first, second)

-- what is read after a token, and the token itself
pub pass : {IsAsked : Lexeme → Type 0} {More : List Lexeme → Type 0} {token : Lexeme} {rest : List Lexeme} →
    (between : List Lexeme) × IsToken IsAsked (token ∷ rest) between × More between → More rest
pass (_, here asked, more) = more

pub is_asked : {IsAsked : Lexeme → Type 0} {More : List Lexeme → Type 0} {token : Lexeme} {rest : List Lexeme} →
    (between : List Lexeme) × IsToken IsAsked (token ∷ rest) between × More between → IsAsked token
is_asked (_, here asked, more) = asked
