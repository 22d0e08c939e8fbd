-- How element types are read from tokens. Each reader answers for the production of its name in `Types`.
use Rattle.std.specs.Prelude.{ℕ, zero, suc, Bool, true, false, ◌||◌, List, [], ◌∷◌, Some, None, if◌then◌else◌, codes}
use Rattle.pgs_base.specs.Options.{◌>>=◌}
use Rattle.pgs_base.specs.declared.value.Kind.{Kind}
use Rattle.pgs_base.specs.declared.value.Kind.TheVariants as kinds
use Rattle.pgs_lexer.specs.Token.{Lexeme}
use Rattle.pgs_syntax.specs.declared.element_type.NodeType.{NodeType}
use Rattle.pgs_syntax.specs.declared.element_type.EdgeType.{EdgeType}
use Rattle.pgs_syntax.specs.declared.specification.Braces.{Braces}
use Rattle.pgs_syntax.specs.declared.specification.Property.{Property}
use Rattle.pgs_syntax.specs.declared.specification.Spec.{Word, Or, Opt}
use Rattle.pgs_parser.specs.Reader.{Reader, a_name, the_keyword, next, sign_at, keyword_at, name_at, keyword_if_at, maybe_at, comma_unless, listed_at}
use Rattle.pgs_parser.specs.Types.{Written, parts, together}

-- ---- labels

-- one is itself, and several are alternatives
abbrev pub alternatives : List Written → Written
alternatives (one ∷ []) = one
alternatives many = Or many

-- Labels, given what may stand in parentheses.
unfoldable pub parenthesised_at : Reader Written → Reader Written
parenthesised_at inner tokens = do
  rest ← sign_at "(" tokens
  spec ← inner rest
  rest ← sign_at ")" spec.1
  Some (spec.0, rest)

unfoldable pub atom_at : Reader Written → Reader Written
atom_at inner tokens =
    if next a_name tokens
    then (do
      named ← name_at tokens
      Some (Word named.0, named.1))
    else parenthesised_at inner tokens

unfoldable pub unit_at : Reader Written → Reader Written
unit_at inner tokens = do
  atom ← atom_at inner tokens
  elim (sign_at "?" atom.1) [ Some rest ↦ Some (Opt atom.0, rest) | None ↦ Some (atom.0, atom.1) ]

unfoldable pub conj_at : Reader Written → Reader Written
conj_at inner tokens = do
  units ← listed_at (sign_at "&") (unit_at inner) tokens
  Some (together units.0, units.1)

unfoldable pub level_at : Reader Written → Reader Written
level_at inner tokens = do
  conjs ← listed_at (sign_at "|") (conj_at inner) tokens
  Some (alternatives conjs.0, conjs.1)

-- what stands in parentheses, where so many may be open at once
unfoldable pub inner_at : ℕ → Reader Written
inner_at zero tokens = None
inner_at (suc further) tokens = level_at (inner_at further) tokens

unfoldable pub labels_at : Reader Written
labels_at = level_at (inner_at 64)

-- ---- braces

unfoldable pub kind_at : Reader Kind
kind_at tokens = elim (keyword_at "STRING" tokens) [
  | Some rest ↦ Some (kinds.Text, rest)
  | None ↦ elim (keyword_at "INT" tokens) [
    | Some rest ↦ Some (kinds.Int, rest)
    | None ↦ elim (keyword_at "BOOL" tokens) [
      | Some rest ↦ Some (kinds.Bool, rest)
      | None ↦ do
        rest ← keyword_at "DATE" tokens
        Some (kinds.Date, rest)
    ]
  ]
]

unfoldable pub property_at : Reader Property
property_at tokens = do
  optional ← keyword_if_at (codes "OPTIONAL") tokens
  key ← name_at optional.1
  kind ← kind_at key.1
  Some (record { key = key.0; kind = kind.0; optional = optional.0 }, kind.1)

abbrev pub begins_property : List Lexeme → Bool
begins_property tokens = next a_name tokens || next (the_keyword (codes "OPTIONAL")) tokens

unfoldable pub properties_at : Reader (List Property)
properties_at tokens = if begins_property tokens then listed_at (comma_unless (codes "OPEN")) property_at tokens else Some ([], tokens)

-- OPEN after a comma, where a comma stands
abbrev pub open_after_comma_at : Reader Bool
open_after_comma_at tokens = elim (sign_at "," tokens) [
  | None ↦ Some (false, tokens)
  | Some rest ↦ do
    rest ← keyword_at "OPEN" rest
    Some (true, rest)
]

-- OPEN, which follows a comma where properties stand before it
unfoldable pub open_at : List Property → Reader Bool
open_at [] tokens = keyword_if_at (codes "OPEN") tokens
open_at (p ∷ ps) tokens = open_after_comma_at tokens

-- braces after {
unfoldable pub braces_rest_at : Reader Braces
braces_rest_at tokens = do
  properties ← properties_at tokens
  more ← open_at properties.0 properties.1
  rest ← sign_at "}" more.1
  Some (record { properties = properties.0; more = more.0 }, rest)

-- ---- types

unfoldable pub body_at : Reader Written
body_at tokens = do
  labels ← maybe_at (sign_at ":") labels_at tokens
  is_open ← keyword_if_at (codes "OPEN") labels.1
  braces ← maybe_at (sign_at "{") braces_rest_at is_open.1
  Some (together (parts labels.0 is_open.0 braces.0), braces.1)

unfoldable pub node_type_at : Bool → ℕ → Reader (NodeType (List ℕ))
node_type_at hidden place tokens = do
  rest ← sign_at "(" tokens
  name ← name_at rest
  spec ← body_at name.1
  rest ← sign_at ")" spec.1
  Some (record { name = name.0; hidden = hidden; place = place; spec = spec.0 }, rest)

unfoldable pub end_at : Reader Written
end_at tokens = do
  rest ← sign_at "(" tokens
  spec ← body_at rest
  rest ← sign_at ")" spec.1
  Some (spec.0, rest)

-- the name and the body of an edge type
unfoldable pub middle_at : Reader (List ℕ × Written)
middle_at tokens = do
  rest ← sign_at "[" tokens
  name ← name_at rest
  spec ← body_at name.1
  rest ← sign_at "]" spec.1
  Some ((name.0, spec.0), rest)

-- an edge type's arrow: whether it leads forward, and what stands in it
unfoldable pub arrow_type_at : Reader (Bool × List ℕ × Written)
arrow_type_at tokens = elim (sign_at "-" tokens) [
  | Some rest ↦ do
    middle ← middle_at rest
    rest ← sign_at "->" middle.1
    Some ((true, middle.0.0, middle.0.1), rest)
  | None ↦ do
    rest ← sign_at "<-" tokens
    middle ← middle_at rest
    rest ← sign_at "-" middle.1
    Some ((false, middle.0.0, middle.0.1), rest)
]

unfoldable pub edge_type_at : Bool → ℕ → Reader (EdgeType (List ℕ))
edge_type_at hidden place tokens = do
  left ← end_at tokens
  arrow ← arrow_type_at left.1
  right ← end_at arrow.1
  Some (
    record {
      name = arrow.0.1;
      hidden = hidden;
      place = place;
      source = if arrow.0.0 then left.0 else right.0;
      middle = arrow.0.2;
      target = if arrow.0.0 then right.0 else left.0;
    },
    right.1,
  )
