-- How keys are read from tokens. Each reader answers for the production of its name in `Keys`.
use Rattle.std.specs.Prelude.{ℕ, Bool, true, false, ◌||◌, List, [], ◌∷◌, length, Option, Some, None, if◌then◌else◌, nat_le, codes, bytes_eq, ℤ, pos, negsuc}
use Rattle.std.specs.Str.Parse.{signed_digits_value}
use Rattle.pgs_base.specs.DayForm.{day_in}
use Rattle.pgs_base.specs.Options.{◌>>=◌}
use Rattle.pgs_base.specs.Value.{is_number}
use Rattle.pgs_base.specs.declared.value.Value.{Value}
use Rattle.pgs_base.specs.declared.value.Value.TheVariants as values
use Rattle.pgs_lexer.specs.Token.{Lexeme}
use Rattle.pgs_lexer.specs.declared.kind.TokenKind.{TokenKind}
use Rattle.pgs_lexer.specs.declared.kind.TokenKind.TheVariants as tokens
use Rattle.pgs_syntax.specs.declared.key.Qualifiers.{Qualifiers}
use Rattle.pgs_syntax.specs.declared.raw.RawPlace.{RawPlace}
use Rattle.pgs_syntax.specs.declared.raw.RawStep.{RawStep}
use Rattle.pgs_syntax.specs.declared.raw.RawPath.{RawPath}
use Rattle.pgs_syntax.specs.declared.raw.RawExpr.{RawExpr}
use Rattle.pgs_syntax.specs.declared.raw.RawKey.{RawKey}
use Rattle.pgs_syntax.specs.Valid.{are_distinct}
use Rattle.pgs_parser.specs.Reader.{Reader, a_name, a_keyword, the_sign, next, sign_at, keyword_at, name_at, maybe_at, comma_unless, listed_at, each_at}
use Rattle.pgs_parser.specs.Literal.{text_in}
use Rattle.pgs_parser.specs.Keys.{all_asked, is_same_kind, asked_by}
use Rattle.pgs_parser.specs.declared.qualifier.Qualifier.{Qualifier}
use Rattle.pgs_parser.specs.declared.qualifier.Qualifier.TheVariants.{Exclusive, Mandatory, Singleton, Count}

-- ---- literals

-- the value that a text is, a number, a keyword
abbrev pub text_value : List ℕ → Option Value
text_value text = if nat_le (length text) 65535 then Some (values.Text text) else None

abbrev pub number_value : ℤ → Option Value
number_value number = if is_number number then Some (values.Int number) else None

abbrev pub keyword_value : List ℕ → Option Value
keyword_value bytes =
    if bytes_eq bytes (codes "TRUE") then Some (values.Bool true)
    else (if bytes_eq bytes (codes "FALSE") then Some (values.Bool false) else None)

-- the value that one token is
abbrev pub value_of : TokenKind → List ℕ → Option Value
value_of tokens.Text bytes = text_value (text_in bytes)
value_of tokens.Number bytes = number_value (signed_digits_value 10 bytes)
value_of tokens.Keyword bytes = keyword_value bytes
value_of _ bytes = None

abbrev pub value_at : Reader Value
value_at [] = None
value_at (token ∷ rest) = do
  value ← value_of token.kind token.bytes
  Some (value, rest)

-- the day that a string is
abbrev pub day_of : TokenKind → List ℕ → Option (ℕ × ℕ × ℕ)
day_of tokens.Text bytes = day_in (text_in bytes)
day_of kind bytes = None

abbrev pub day_at : Reader Value
day_at [] = None
day_at (token ∷ rest) = do
  day ← day_of token.kind token.bytes
  Some (values.Date day, rest)

unfoldable pub literal_at : Reader Value
literal_at tokens = elim (keyword_at "DATE" tokens) [ Some rest ↦ day_at rest | None ↦ value_at tokens ]

-- ---- paths

unfoldable pub test_at : Reader (List ℕ × Value)
test_at tokens = do
  key ← name_at tokens
  rest ← sign_at ":" key.1
  value ← literal_at rest
  Some ((key.0, value.0), value.1)

-- names after a colon, where one stands
unfoldable pub names_at : Reader (List (List ℕ))
names_at tokens = elim (sign_at ":" tokens) [ None ↦ Some ([], tokens) | Some rest ↦ listed_at (sign_at "&") name_at rest ]

-- tests, after the first brace
abbrev pub tests_rest_at : Reader (List (List ℕ × Value))
tests_rest_at tokens = do
  tests ← listed_at (sign_at ",") test_at tokens
  rest ← sign_at "}" tests.1
  Some (tests.0, rest)

unfoldable pub tests_at : Reader (List (List ℕ × Value))
tests_at tokens = elim (sign_at "{" tokens) [ None ↦ Some ([], tokens) | Some rest ↦ tests_rest_at rest ]

-- a name, where one stands
unfoldable pub name_if_at : Reader (Option (List ℕ))
name_if_at tokens =
    if next a_name tokens
    then (do
      name ← name_at tokens
      Some (Some name.0, name.1))
    else Some (None, tokens)

unfoldable pub place_at : Reader RawPlace
place_at tokens = do
  var ← name_if_at tokens
  names ← names_at var.1
  tests ← tests_at names.1
  Some (record { var = var.0; filter = record { names = names.0; tests = tests.0 } }, tests.1)

unfoldable pub node_at : Reader RawPlace
node_at tokens = do
  rest ← sign_at "(" tokens
  place ← place_at rest
  rest ← sign_at ")" place.1
  Some (place.0, rest)

-- the place of an edge, in its brackets
unfoldable pub edge_at : Reader RawPlace
edge_at tokens = do
  rest ← sign_at "[" tokens
  place ← place_at rest
  rest ← sign_at "]" place.1
  Some (place.0, rest)

unfoldable pub arrow_at : Reader (Bool × RawPlace)
arrow_at tokens = elim (sign_at "-" tokens) [
  | Some rest ↦ do
    edge ← edge_at rest
    rest ← sign_at "->" edge.1
    Some ((true, edge.0), rest)
  | None ↦ do
    rest ← sign_at "<-" tokens
    edge ← edge_at rest
    rest ← sign_at "-" edge.1
    Some ((false, edge.0), rest)
]

unfoldable pub step_at : Reader RawStep
step_at tokens = do
  arrow ← arrow_at tokens
  node ← node_at arrow.1
  Some (record { edge = arrow.0.1; forward = arrow.0.0; node = node.0 }, node.1)

-- the tokens themselves, where a step begins with them
abbrev pub step_begins : List Lexeme → Option (List Lexeme)
step_begins tokens = if next (the_sign (codes "-")) tokens || next (the_sign (codes "<-")) tokens then Some tokens else None

unfoldable pub path_at : Reader RawPath
path_at tokens = do
  start ← node_at tokens
  steps ← each_at step_begins step_at start.1
  Some (record { start = start.0; steps = steps.0 }, steps.1)

-- no path begins with FOR: after a comma it begins a further key
abbrev pub paths_at : Reader (List RawPath)
paths_at = listed_at (comma_unless (codes "FOR")) path_at

-- ---- keys

-- the bound that a value is
abbrev pub bound_of : Value → Option ℕ
bound_of (values.Int (pos number)) = if nat_le number 1000000 then Some number else None
bound_of _ = None

unfoldable pub bound_at : Reader ℕ
bound_at tokens = do
  value ← value_at tokens
  number ← bound_of value.0
  Some (number, value.1)

-- bounds, and OF
unfoldable pub bounds_at : Reader (ℕ × ℕ)
bounds_at tokens = do
  least ← bound_at tokens
  rest ← sign_at ".." least.1
  most ← bound_at rest
  rest ← keyword_at "OF" most.1
  if nat_le least.0 most.0 then Some ((least.0, most.0), rest) else None

unfoldable pub qualifier_at : Reader Qualifier
qualifier_at tokens = elim (keyword_at "EXCLUSIVE" tokens) [
  | Some rest ↦ Some (Exclusive, rest)
  | None ↦ elim (keyword_at "MANDATORY" tokens) [
    | Some rest ↦ Some (Mandatory, rest)
    | None ↦ elim (keyword_at "SINGLETON" tokens) [
      | Some rest ↦ Some (Singleton, rest)
      | None ↦ do
        rest ← keyword_at "COUNT" tokens
        bounds ← bounds_at rest
        Some (Count bounds.0.0 bounds.0.1, bounds.1)
    ]
  ]
]

-- the tokens from the next qualifier on, where a comma or a keyword says that there is one
abbrev pub qualifier_begins : List Lexeme → Option (List Lexeme)
qualifier_begins tokens = elim (sign_at "," tokens) [
  | Some rest ↦ Some rest
  | None ↦ if next a_keyword tokens then Some tokens else None
]

unfoldable pub qualifier_list_at : Reader Qualifiers
qualifier_list_at tokens = do
  written ← listed_at qualifier_begins qualifier_at tokens
  if are_distinct is_same_kind written.0 then Some (asked_by written.0, written.1) else None

unfoldable pub qualifiers_at : Reader Qualifiers
qualifiers_at tokens = elim (keyword_at "IDENTIFIER" tokens) [ Some rest ↦ Some (all_asked, rest) | None ↦ qualifier_list_at tokens ]

unfoldable pub expr_at : Reader RawExpr
expr_at tokens = do
  var ← name_at tokens
  key ← maybe_at (sign_at ".") name_at var.1
  Some (record { var = var.0; key = key.0 }, key.1)

abbrev pub exprs_at : Reader (List RawExpr)
exprs_at = listed_at (comma_unless (codes "FOR")) expr_at

-- a key, which has this number
unfoldable pub key_at : ℕ → Reader RawKey
key_at place tokens = do
  rest ← keyword_at "FOR" tokens
  scope ← paths_at rest
  asked ← qualifiers_at scope.1
  exprs ← exprs_at asked.1
  within ← maybe_at (keyword_at "WITHIN") paths_at exprs.1
  Some (record { place = place; qualifiers = asked.0; scope = scope.0; exprs = exprs.0; within = within.0 }, within.1)
