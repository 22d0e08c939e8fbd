-- What the bytes of a token are: a name, a text, a number, a day.
use Rattle.std.specs.Prelude.{◌≡◌, ℕ, ◌≤◌, true, false, ◌&&◌, List, [], ◌∷◌, length, drop, Some, if◌then◌else◌, ℤ}
use Rattle.std.specs.Int.RustNames.{FitsSigned}
use mir.Syntax.{w64}
use Rattle.std.specs.Ffi.{without_last}
use Rattle.std.specs.Str.Parse.{signed_digits_value}
use Rattle.pgs_base.specs.DayForm.{day_in}
use Rattle.pgs_base.specs.declared.value.Value.{Value}
use Rattle.pgs_base.specs.declared.value.Value.TheVariants as values
use Rattle.pgs_lexer.specs.Form.{begins_with, is_quote}
use Rattle.pgs_lexer.specs.Scan.{is_backquote}
use Rattle.pgs_lexer.specs.Token.{Lexeme}
use Rattle.pgs_lexer.specs.declared.kind.TokenKind.TheVariants as tokens
use Rattle.pgs_parser.specs.Production.{Production, ◌▸◌, IsToken, keyword}

-- bytes without their first and their last
abbrev pub inside : List ℕ → List ℕ
inside bytes = without_last (drop 1 bytes)

-- the name that a name token is: without its backquotes, if it has them
abbrev pub name_in : List ℕ → List ℕ
name_in bytes = if begins_with is_backquote bytes then inside bytes else bytes

-- a text in which each pair of quotes is one quote
abbrev pub with_single_quotes : List ℕ → List ℕ
with_single_quotes [] = []
with_single_quotes (a ∷ []) = a ∷ []
with_single_quotes (a ∷ b ∷ text) = if is_quote a && is_quote b then a ∷ with_single_quotes text else a ∷ with_single_quotes (b ∷ text)

-- the text that a string token is
abbrev pub text_in : List ℕ → List ℕ
text_in bytes = with_single_quotes (inside bytes)

-- the token is the name
abbrev pub IsName : List ℕ → Lexeme → Type 0
IsName wanted token = (token.kind ≡ tokens.Name) × (name_in token.bytes ≡ wanted)

-- the token is the text, which has at most 65,535 bytes
abbrev pub IsText : List ℕ → Lexeme → Type 0
IsText text token = (token.kind ≡ tokens.Text) × (text_in token.bytes ≡ text) × (length text ≤ 65535)

-- the token is the number, which is in the range of 64 bits with a sign
abbrev pub IsNumber : ℤ → Lexeme → Type 0
IsNumber number token = (token.kind ≡ tokens.Number) × (signed_digits_value 10 token.bytes ≡ number) × FitsSigned w64 number

-- the token is a string in the day form of the day
abbrev pub IsDay : ℕ × ℕ × ℕ → Lexeme → Type 0
IsDay day token = (token.kind ≡ tokens.Text) × (day_in (text_in token.bytes) ≡ Some day)

abbrev pub name : List ℕ → Production
name wanted = IsToken (IsName wanted)

-- literal = string | number | TRUE | FALSE | DATE string
abbrev pub literal : Value → Production
literal (values.Text text) = IsToken (IsText text)
literal (values.Int number) = IsToken (IsNumber number)
literal (values.Bool true) = keyword "TRUE"
literal (values.Bool false) = keyword "FALSE"
literal (values.Date day) = keyword "DATE" ▸ IsToken (IsDay day)
