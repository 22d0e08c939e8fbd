-- What a call that reads from tokens returned and left, against what there is to read.
use Rattle.std.specs.Prelude.{◌≡◌, Bool, true, false, List, Option, Some, None, Result, Ok, Err}
use Rattle.pgs_lexer.specs.Token.{Lexeme}
use Rattle.pgs_parser.specs.declared.unread.Unread.{Unread}
use Rattle.pgs_parser.specs.Gives.{IsCause}

-- what was returned is the tree that is read, and what is left are the tokens after it, unless memory ran out
abbrev pub Reads : {A : Type 0} → Result A Unread → List Lexeme → Option (A × List Lexeme) → Type 0
Reads (Ok x) left read = read ≡ Some (x, left)
Reads (Err e) left read = IsCause read e

-- a token was passed, where there is such a token
abbrev pub Passes : {A : Type 0} → Result A Unread → List Lexeme → Option (List Lexeme) → Type 0
Passes (Ok _) left passed = passed ≡ Some left
Passes (Err e) left passed = IsCause passed e

-- whether a token was passed; else the tokens are as they were
abbrev pub Moves : Bool → List Lexeme → List Lexeme → Option (List Lexeme) → Type 0
Moves true tokens left passed = passed ≡ Some left
Moves false tokens left passed = (passed ≡ None) × (left ≡ tokens)
