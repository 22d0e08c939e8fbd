-- Tokens: the items of a text other than spaces and comments.
use Rattle.std.specs.Prelude.{◌≡◌, ℕ, Bool, true, false, ◌⊎◌, List, [], ◌∷◌, if◌then◌else◌, Option, Some, None, codes, bytes_eq}
use Rattle.std.specs.List.{list_any}
use Rattle.pgs_base.specs.Name.{is_name}
use Rattle.pgs_lexer.specs.Form.{IsQuoted, IsNumber, IsString, IsSign}
use Rattle.pgs_lexer.specs.declared.item.ItemKind.{ItemKind}
use Rattle.pgs_lexer.specs.declared.item.ItemKind.TheVariants.{Space, Comment, Word, Quoted, Number, Text, Sign}
use Rattle.pgs_lexer.specs.declared.kind.TokenKind.{TokenKind}
use Rattle.pgs_lexer.specs.declared.kind.TokenKind.TheVariants.{Name, Keyword, Number as ANumber, Text as AText, Sign as ASign}

abbrev pub keywords : List (List ℕ)
keywords = codes "ABSTRACT" ∷ codes "BOOL" ∷ codes "COUNT" ∷ codes "CREATE" ∷ codes "DATE" ∷ codes "EDGE" ∷ codes "EXCLUSIVE"
    ∷ codes "FALSE" ∷ codes "FOR" ∷ codes "GRAPH" ∷ codes "IDENTIFIER" ∷ codes "IMPORTS" ∷ codes "INT" ∷ codes "LOOSE"
    ∷ codes "MANDATORY" ∷ codes "NODE" ∷ codes "OF" ∷ codes "OPEN" ∷ codes "OPTIONAL" ∷ codes "SINGLETON" ∷ codes "STRICT"
    ∷ codes "STRING" ∷ codes "TRUE" ∷ codes "TYPE" ∷ codes "WITHIN" ∷ []

abbrev pub is_keyword : List ℕ → Bool
is_keyword word = list_any (bytes_eq word) keywords

-- a token without its loan: its kind, the places of its first byte and of the byte after its last, and its bytes
pub record Lexeme : Type 0 where
  pub kind : TokenKind
  pub start : ℕ
  pub end : ℕ
  pub bytes : List ℕ

-- the kind of token that an item with these bytes is, or none where it is a space or a comment
abbrev pub token_kind : ItemKind → List ℕ → Option TokenKind
token_kind Space bytes = None
token_kind Comment bytes = None
token_kind Word bytes = Some (if is_keyword bytes then Keyword else Name)
token_kind Quoted bytes = Some Name
token_kind Number bytes = Some ANumber
token_kind Text bytes = Some AText
token_kind Sign bytes = Some ASign

-- the form of a token: a name that is no keyword or is in backquotes, a keyword, a number, a string or a sign
abbrev pub HasForm : TokenKind → List ℕ → Type 0
HasForm Name bytes = ((is_name bytes ≡ true) × (is_keyword bytes ≡ false)) ⊎ IsQuoted bytes
HasForm Keyword bytes = is_keyword bytes ≡ true
HasForm ANumber bytes = IsNumber bytes
HasForm AText bytes = IsString bytes []
HasForm ASign bytes = IsSign bytes

abbrev pub IsWellFormed : Lexeme → Type 0
IsWellFormed token = HasForm token.kind token.bytes
