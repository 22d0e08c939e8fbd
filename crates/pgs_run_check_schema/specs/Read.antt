-- The tokens and the script of a text that is a schema.
use Rattle.std.specs.Prelude.{ℕ, List, [], Result, Ok, Err}
use Rattle.pgs_lexer.specs.Cut.{tokens_of}
use Rattle.pgs_lexer.specs.Token.{Lexeme}
use Rattle.pgs_parser.specs.StatementReaders.{script_of}
use Rattle.pgs_syntax.specs.declared.script.Script.{Script}

-- what there is, or else something in its place; of a text that is a schema there are both
abbrev pub given : {A E : Type 0} → A → Result A E → A
given other (Ok found) = found
given other (Err fault) = other

abbrev pub tokens_in : List ℕ → List Lexeme
tokens_in text = given [] (tokens_of text)

abbrev pub no_script : Script
no_script = record { statements = [] }

abbrev pub script_in : List ℕ → Script
script_in text = given no_script (script_of (tokens_in text))
