-- The names that stand in a schema text: each of its tokens that has the form of a name, a quoted one without its backquotes.
use Rattle.std.specs.Prelude.{ℕ, ◌-◌, ◌==◌, List, [], ◌∷◌, ◌++◌, length, take, Option, Some, None, Result, Ok, Err, nat_lt, if◌then◌else◌}
use Rattle.pgs_base.specs.Name.{is_name}
use Rattle.pgs_lexer.specs.Cut.{tokens_of}
use Rattle.pgs_lexer.specs.Token.{Lexeme}
use Rattle.pgs_run_input.specs.Input.{text_limit}

abbrev pub Names : Type 0
Names = List (List ℕ)

-- the bytes of a token, but for backquotes
abbrev pub bare : List ℕ → List ℕ
bare [] = []
bare (b ∷ bytes) = if b == 96 then take (length bytes - 1) bytes else b ∷ bytes

-- the name that a token is, as a list of one
abbrev pub name_in : List ℕ → Names
name_in bytes = if is_name (bare bytes) then bare bytes ∷ [] else []

abbrev pub name_at : Option Lexeme → Names
name_at None = []
name_at (Some token) = name_in token.bytes

abbrev pub names_of : List Lexeme → Names
names_of [] = []
names_of (token ∷ more) = name_in token.bytes ++ names_of more

-- of a text that has no tokens, since some byte begins none, there are none
abbrev pub names_found : Result (List Lexeme) ℕ → Names
names_found (Ok tokens) = names_of tokens
names_found (Err line) = []

-- nor are there of a text that is too long for a schema
unfoldable pub names_in : List ℕ → Names
names_in text = if nat_lt text_limit (length text) then [] else names_found (tokens_of text)
