-- What a schema text is: a script, or the first reason why it is none.
use Rattle.std.specs.Prelude.{◌≡◌, ℕ, ◌<◌, ◌≤◌, List, length, nat_le, if◌then◌else◌, Result, Ok, Err}
use Rattle.pgs_base.specs.declared.text_limit.TheConstants.{TEXT_LIMIT}
use Rattle.pgs_lexer.specs.Cut.{tokens_of}
use Rattle.pgs_lexer.specs.Token.{Lexeme}
use Rattle.pgs_syntax.specs.declared.script.Script.{Script}
use Rattle.pgs_parser.specs.Statements.{IsScript, IsNoScriptFrom}
use Rattle.pgs_parser.specs.StatementReaders.{script_of}

-- what the text of a schema is found to be
pub data Found : Type 0 where
  too_long : Found
  no_item : ℕ → Found
  no_statement : ℕ → Found
  script : Script → Found

-- A text of over TEXT_LIMIT bytes is too long. Else some byte may begin no item, and the line of the first is told. Else the
-- tokens up to the n-th `;` may be the first that are no statement. Else the text is a script.
pub data IsFound (text : List ℕ) : Found → Type 0 where
  is_too_long : TEXT_LIMIT < length text → IsFound text too_long
  has_no_item : {line : ℕ} → length text ≤ TEXT_LIMIT → tokens_of text ≡ Err line → IsFound text (no_item line)
  has_no_statement : {n : ℕ} {tokens : List Lexeme} → length text ≤ TEXT_LIMIT → tokens_of text ≡ Ok tokens →
      IsNoScriptFrom n tokens → IsFound text (no_statement n)
  is_script : {tree : Script} {tokens : List Lexeme} → length text ≤ TEXT_LIMIT → tokens_of text ≡ Ok tokens →
      IsScript tree tokens → IsFound text (script tree)

-- the same as a function of the tokens, and of the text
abbrev pub found_in : Result (List Lexeme) ℕ → Found
found_in (Err line) = no_item line
found_in (Ok tokens) = elim (script_of tokens) [ Ok tree ↦ script tree | Err n ↦ no_statement n ]

unfoldable pub found : List ℕ → Found
found text = if nat_le (length text) TEXT_LIMIT then found_in (tokens_of text) else too_long
