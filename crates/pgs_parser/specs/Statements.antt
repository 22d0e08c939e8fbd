-- The grammar of statements, and which script tokens are.
use Prim.Native.String.{String}
use Rattle.std.specs.Prelude.{◌≡◌, ℕ, ◌+◌, ◌==◌, Bool, true, false, ◌&&◌, List, [], ◌∷◌, ◌++◌, map, flat_map, length, if◌then◌else◌, bytes_eq, codes}
use Rattle.pgs_lexer.specs.Token.{Lexeme}
use Rattle.pgs_syntax.specs.declared.raw.RawKey.{RawKey}
use Rattle.pgs_syntax.specs.declared.script.Member.{Member}
use Rattle.pgs_syntax.specs.declared.script.Member.TheVariants as members
use Rattle.pgs_syntax.specs.declared.script.Script.{Script}
use Rattle.pgs_syntax.specs.declared.script.Statement.{Statement}
use Rattle.pgs_syntax.specs.declared.script.Statement.TheVariants.{Node, Edge, Graph}
use Rattle.pgs_parser.specs.Production.{Production, ◌▸◌, ◌or◌, nothing, keyword, sign, keyword_if, listed}
use Rattle.pgs_parser.specs.Literal.{name}
use Rattle.pgs_parser.specs.Types.{node_type, edge_type}
use Rattle.pgs_parser.specs.Keys.{key}

-- CREATE [ABSTRACT] kind TYPE [ABSTRACT], where ABSTRACT stands at most once
abbrev pub create : Bool → String → Production
create false what = keyword "CREATE" ▸ keyword what ▸ keyword "TYPE"
create true what =
    (keyword "CREATE" ▸ keyword "ABSTRACT" ▸ keyword what ▸ keyword "TYPE")
    or (keyword "CREATE" ▸ keyword what ▸ keyword "TYPE" ▸ keyword "ABSTRACT")

-- element = name | [ABSTRACT] nodeType | [ABSTRACT] edgeType
abbrev pub element : Member → Production
element (members.Named named) = name named
element (members.Node type) = keyword_if type.hidden "ABSTRACT" ▸ node_type type
element (members.Edge type) = keyword_if type.hidden "ABSTRACT" ▸ edge_type type

-- elements = element {"," element}, keys = key {"," key}
abbrev pub elements : List Member → Production
elements = listed (sign ",") element

abbrev pub keys : List RawKey → Production
keys = listed (sign ",") key

-- members = elements | keys | elements "," keys, which may be left out
abbrev pub members_of : List Member → List RawKey → Production
members_of [] [] = nothing
members_of [] (k ∷ ks) = keys (k ∷ ks)
members_of (m ∷ ms) [] = elements (m ∷ ms)
members_of (m ∷ ms) (k ∷ ks) = elements (m ∷ ms) ▸ sign "," ▸ keys (k ∷ ks)

-- mode = STRICT | LOOSE
abbrev pub mode : Bool → Production
mode true = keyword "STRICT"
mode false = keyword "LOOSE"

-- [IMPORTS name {"," name}]
abbrev pub imports : List (List ℕ) → Production
imports [] = nothing
imports (n ∷ ns) = keyword "IMPORTS" ▸ listed (sign ",") name (n ∷ ns)

-- statement = nodeStmt | edgeStmt | graphStmt, with its ";"
abbrev pub statement : Statement → Production
statement (Node type) = create type.hidden "NODE" ▸ node_type type ▸ sign ";"
statement (Edge type) = create type.hidden "EDGE" ▸ edge_type type ▸ sign ";"
statement (Graph type) =
    keyword "CREATE" ▸ keyword "GRAPH" ▸ keyword "TYPE" ▸ name type.name ▸ mode type.strict ▸ imports type.imports
    ▸ sign "{" ▸ members_of type.members type.keys ▸ sign "}" ▸ sign ";"

-- the tokens are this one statement
abbrev pub IsStatement : Statement → List Lexeme → Type 0
IsStatement tree tokens = statement tree tokens []

-- the tokens are no statement
abbrev pub IsNoStatement : List Lexeme → Type 0
IsNoStatement tokens = (tree : Statement) → IsStatement tree tokens → ⊥

-- whether a token is `;`
abbrev pub is_semicolon : Lexeme → Bool
is_semicolon token = bytes_eq token.bytes (codes ";")

-- puts a token in front of the first of the pieces
abbrev pub with_token : Lexeme → List (List Lexeme) → List (List Lexeme)
with_token token [] = (token ∷ []) ∷ []
with_token token (piece ∷ pieces) = (token ∷ piece) ∷ pieces

-- the tokens up to each `;`, and those after the last one, where there are any
abbrev pub pieces_of : List Lexeme → List (List Lexeme)
pieces_of [] = []
pieces_of (token ∷ rest) = if is_semicolon token then (token ∷ []) ∷ pieces_of rest else with_token token (pieces_of rest)

-- the pieces are these statements, one by one
abbrev pub AreStatements : List Statement → List (List Lexeme) → Type 0
AreStatements [] [] = Unit {0}
AreStatements (tree ∷ trees) (piece ∷ pieces) = IsStatement tree piece × AreStatements trees pieces
AreStatements _ _ = ⊥

-- the number of a type that is declared as a member
abbrev pub place_of_member : Member → List ℕ
place_of_member (members.Named named) = []
place_of_member (members.Node type) = type.place ∷ []
place_of_member (members.Edge type) = type.place ∷ []

-- the numbers of the declarations in the order of their first tokens: a graph type comes before its members
abbrev pub places_in : Statement → List ℕ
places_in (Node type) = type.place ∷ []
places_in (Edge type) = type.place ∷ []
places_in (Graph type) = type.place ∷ flat_map place_of_member type.members ++ map (λ (k : RawKey). k.place) type.keys

-- whether numbers go up by one from a number on
abbrev pub count_from : ℕ → List ℕ → Bool
count_from n [] = true
count_from n (place ∷ places) = place == n && count_from (n + 1) places

-- The tokens are this script: its statements are the pieces, and its declarations are numbered from 1.
pub record IsScript (script : Script) (tokens : List Lexeme) : Type 0 where
  pub statements : AreStatements script.statements (pieces_of tokens)
  pub places : count_from 1 (flat_map places_in script.statements) ≡ true

-- The n-th of the pieces is no statement, and all earlier ones are.
pub record IsNoScriptFrom (n : ℕ) (tokens : List Lexeme) : Type 0 where
  pub front : List (List Lexeme)
  pub piece : List Lexeme
  pub back : List (List Lexeme)
  pub trees : List Statement
  pub cut : pieces_of tokens ≡ front ++ piece ∷ back
  pub number : n ≡ length front + 1
  pub earlier : AreStatements trees front
  pub none : IsNoStatement piece
