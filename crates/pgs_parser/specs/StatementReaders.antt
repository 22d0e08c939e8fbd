-- Which script tokens are, as a function. Each reader answers for the production of its name in `Statements`.
use Rattle.std.specs.Prelude.{ℕ, ◌+◌, Bool, true, false, ◌||◌, List, [], ◌∷◌, flat_map, length, Option, Some, None, Result, Ok, Err, if◌then◌else◌, codes}
use Rattle.pgs_base.specs.Options.{◌>>=◌}
use Rattle.pgs_lexer.specs.Token.{Lexeme}
use Rattle.pgs_syntax.specs.declared.raw.RawKey.{RawKey}
use Rattle.pgs_syntax.specs.declared.script.Member.{Member}
use Rattle.pgs_syntax.specs.declared.script.Member.TheVariants as members
use Rattle.pgs_syntax.specs.declared.script.Script.{Script}
use Rattle.pgs_syntax.specs.declared.script.Statement.{Statement}
use Rattle.pgs_syntax.specs.declared.script.Statement.TheVariants.{Node, Edge, Graph}
use Rattle.pgs_parser.specs.Reader.{Reader, a_name, the_keyword, the_sign, next, second, sign_at, keyword_at, name_at, keyword_if_at, comma_unless, listed_at, numbered}
use Rattle.pgs_parser.specs.TypeReaders.{node_type_at, edge_type_at}
use Rattle.pgs_parser.specs.KeyReaders.{key_at}
use Rattle.pgs_parser.specs.Statements.{place_of_member, places_in, pieces_of}

-- ---- members

-- an element type, which has this number: a node type has its name right after the parenthesis
unfoldable pub element_type_at : Bool → ℕ → Reader Member
element_type_at hidden place tokens =
    if second a_name tokens
    then (do
      type ← node_type_at hidden place tokens
      Some (members.Node type.0, type.1))
    else (do
      type ← edge_type_at hidden place tokens
      Some (members.Edge type.0, type.1))

unfoldable pub element_at : ℕ → Reader Member
element_at place tokens =
    if next a_name tokens
    then (do
      named ← name_at tokens
      Some (members.Named named.0, named.1))
    else (do
      hidden ← keyword_if_at (codes "ABSTRACT") tokens
      element_type_at hidden.0 place hidden.1)

abbrev pub elements_at : ℕ → Reader (List Member)
elements_at = numbered (comma_unless (codes "FOR")) element_at place_of_member

-- the number of a key
abbrev pub place_of_key : RawKey → List ℕ
place_of_key key = key.place ∷ []

abbrev pub keys_at : ℕ → Reader (List RawKey)
keys_at = numbered (sign_at ",") key_at place_of_key

-- the keyword FOR or the sign } says that no element stands here
abbrev pub no_element : List Lexeme → Bool
no_element tokens = next (the_keyword (codes "FOR")) tokens || next (the_sign (codes "}")) tokens

unfoldable pub elements_if_at : ℕ → Reader (List Member)
elements_if_at place tokens = if no_element tokens then Some ([], tokens) else elements_at place tokens

-- keys where no element stands before them
abbrev pub only_keys_at : ℕ → Reader (List RawKey)
only_keys_at place tokens = if next (the_keyword (codes "FOR")) tokens then keys_at place tokens else Some ([], tokens)

-- keys after elements, where a comma stands
abbrev pub further_keys_at : ℕ → Reader (List RawKey)
further_keys_at place tokens = elim (sign_at "," tokens) [ Some rest ↦ keys_at place rest | None ↦ Some ([], tokens) ]

-- the keys after these elements
unfoldable pub keys_if_at : List Member → ℕ → Reader (List RawKey)
keys_if_at [] place tokens = only_keys_at place tokens
keys_if_at (m ∷ ms) place tokens = further_keys_at place tokens

-- ---- statements

unfoldable pub mode_at : Reader Bool
mode_at tokens = elim (keyword_at "STRICT" tokens) [
  | Some rest ↦ Some (true, rest)
  | None ↦ do
    rest ← keyword_at "LOOSE" tokens
    Some (false, rest)
]

unfoldable pub imports_at : Reader (List (List ℕ))
imports_at tokens = elim (keyword_at "IMPORTS" tokens) [ None ↦ Some ([], tokens) | Some rest ↦ listed_at (sign_at ",") name_at rest ]

-- the members of a graph type, whose declarations have the numbers from this one on
unfoldable pub members_at : ℕ → Reader (List Member × List RawKey)
members_at place tokens = do
  elements ← elements_if_at place tokens
  keys ← keys_if_at elements.0 (place + length (flat_map place_of_member elements.0)) elements.1
  Some ((elements.0, keys.0), keys.1)

-- a graph type after CREATE GRAPH
unfoldable pub graph_type_at : ℕ → Reader Statement
graph_type_at place tokens = do
  rest ← keyword_at "TYPE" tokens
  name ← name_at rest
  strict ← mode_at name.1
  imports ← imports_at strict.1
  rest ← sign_at "{" imports.1
  members ← members_at (place + 1) rest
  rest ← sign_at "}" members.1
  Some (
    Graph (record {
      name = name.0;
      strict = strict.0;
      place = place;
      imports = imports.0;
      members = members.0.0;
      keys = members.0.1;
    }),
    rest,
  )

-- TYPE [ABSTRACT], where ABSTRACT has not stood before
unfoldable pub hidden_at : Bool → Reader Bool
hidden_at earlier tokens = do
  rest ← keyword_at "TYPE" tokens
  if earlier then Some (true, rest) else keyword_if_at (codes "ABSTRACT") rest

-- a node type after CREATE [ABSTRACT] NODE, an edge type after CREATE [ABSTRACT] EDGE
unfoldable pub declared_node_at : Bool → ℕ → Reader Statement
declared_node_at earlier place tokens = do
  hidden ← hidden_at earlier tokens
  type ← node_type_at hidden.0 place hidden.1
  Some (Node type.0, type.1)

unfoldable pub declared_edge_at : Bool → ℕ → Reader Statement
declared_edge_at earlier place tokens = do
  hidden ← hidden_at earlier tokens
  type ← edge_type_at hidden.0 place hidden.1
  Some (Edge type.0, type.1)

-- what is declared after CREATE [ABSTRACT]
unfoldable pub declared_at : Bool → ℕ → Reader Statement
declared_at earlier place tokens = elim (keyword_at "NODE" tokens) [
  | Some rest ↦ declared_node_at earlier place rest
  | None ↦ elim (keyword_at "EDGE" tokens) [
    | Some rest ↦ declared_edge_at earlier place rest
    | None ↦ do
      rest ← keyword_at "GRAPH" tokens
      if earlier then None else graph_type_at place rest
  ]
]

unfoldable pub statement_at : ℕ → Reader Statement
statement_at place tokens = do
  rest ← keyword_at "CREATE" tokens
  earlier ← keyword_if_at (codes "ABSTRACT") rest
  declared ← declared_at earlier.0 place earlier.1
  rest ← sign_at ";" declared.1
  Some (declared.0, rest)

-- ---- the whole

-- the statement that all of the tokens are, which has this number
unfoldable pub statement_of : ℕ → List Lexeme → Option Statement
statement_of place tokens = do
  found ← statement_at place tokens
  elim (found.1) [ [] ↦ Some found.0 | _ ↦ None ]

-- a statement in front of others
abbrev pub with_statement : Statement → Result (List Statement) ℕ → Result (List Statement) ℕ
with_statement tree (Ok trees) = Ok (tree ∷ trees)
with_statement tree (Err n) = Err n

-- the statements that pieces are, or the number of the first that is none; the first piece has this number, and so has the
-- first declaration
unfoldable pub statements_of : ℕ → ℕ → List (List Lexeme) → Result (List Statement) ℕ
statements_of n place [] = Ok []
statements_of n place (piece ∷ pieces) = elim (statement_of place piece) [
  | None ↦ Err n
  | Some tree ↦ with_statement tree (statements_of (n + 1) (place + length (places_in tree)) pieces)
]

abbrev pub as_script : Result (List Statement) ℕ → Result Script ℕ
as_script (Ok trees) = Ok (record { statements = trees })
as_script (Err n) = Err n

-- the script that tokens are, or the number of the first statement that is none
unfoldable pub script_of : List Lexeme → Result Script ℕ
script_of tokens = as_script (statements_of 1 1 (pieces_of tokens))
