-- No script has the sign `-` and directly after it a token that begins with `-`.
use Prim.Native.String.{String}
use Rattle.std.proofs.Common.{◌≡◌, ℕ, Bool, true, false, cond, ◌⊎◌, inl, inr, List, [], ◌∷◌, refl, ap, codes, bytes_eq}
use Rattle.std.proofs.lemmas.Bool.{eqb-true}
use Rattle.pgs_lexer.specs.Form.{begins_with}
use Rattle.pgs_lexer.specs.Scan.{is_minus}
use Rattle.pgs_lexer.specs.Token.{Lexeme}
use Rattle.pgs_lexer.specs.declared.kind.TokenKind.TheVariants.{Sign}
use Rattle.pgs_syntax.specs.declared.raw.RawKey.{RawKey}
use Rattle.pgs_syntax.specs.declared.script.Member.{Member}
use Rattle.pgs_syntax.specs.declared.script.Member.TheVariants as members
use Rattle.pgs_syntax.specs.declared.script.Script.{Script}
use Rattle.pgs_syntax.specs.declared.script.Statement.{Statement}
use Rattle.pgs_syntax.specs.declared.script.Statement.TheVariants.{Node, Edge, Graph}
use Rattle.pgs_parser.specs.Production.{IsSpelled, sign}
use Rattle.pgs_parser.specs.Literal.{name}
use Rattle.pgs_parser.specs.Keys.{key}
use Rattle.pgs_parser.specs.Statements.{create, element, elements, keys, members_of, mode, imports, statement, is_semicolon, with_token, pieces_of, AreStatements, IsScript}
use Rattle.pgs_run_laws.proofs.Ahead.{BeginsWithDash, HasPair, Stays, ◌⨟◌, either_stays, nothing_stays, listed_stays, keyword_stays, keyword_if_stays, name_stays, sign_stays}
use Rattle.pgs_run_laws.proofs.PairsInTypes.{node_type_stays, edge_type_stays}
use Rattle.pgs_run_laws.proofs.PairsInKeys.{key_stays}

-- ---- statements

create_stays : (hidden : Bool) (what : String) → Stays (create hidden what)
create_stays false what = keyword_stays "CREATE" ⨟ keyword_stays what ⨟ keyword_stays "TYPE"
create_stays true what = either_stays
    (keyword_stays "CREATE" ⨟ keyword_stays "ABSTRACT" ⨟ keyword_stays what ⨟ keyword_stays "TYPE")
    (keyword_stays "CREATE" ⨟ keyword_stays what ⨟ keyword_stays "TYPE" ⨟ keyword_stays "ABSTRACT")

element_stays : (member : Member) → Stays (element member)
element_stays (members.Named named) = name_stays named
element_stays (members.Node type) = keyword_if_stays type.hidden "ABSTRACT" ⨟ node_type_stays type
element_stays (members.Edge type) = keyword_if_stays type.hidden "ABSTRACT" ⨟ edge_type_stays type

elements_stay : (ms : List Member) → Stays (elements ms)
elements_stay = listed_stays (sign ",") element (sign_stays "," refl) element_stays

keys_stay : (ks : List RawKey) → Stays (keys ks)
keys_stay = listed_stays (sign ",") key (sign_stays "," refl) key_stays

members_stay : (ms : List Member) (ks : List RawKey) → Stays (members_of ms ks)
members_stay [] [] = nothing_stays
members_stay [] (k ∷ ks) = keys_stay (k ∷ ks)
members_stay (m ∷ ms) [] = elements_stay (m ∷ ms)
members_stay (m ∷ ms) (k ∷ ks) = elements_stay (m ∷ ms) ⨟ sign_stays "," refl ⨟ keys_stay (k ∷ ks)

mode_stays : (strict : Bool) → Stays (mode strict)
mode_stays true = keyword_stays "STRICT"
mode_stays false = keyword_stays "LOOSE"

imports_stay : (ns : List (List ℕ)) → Stays (imports ns)
imports_stay [] = nothing_stays
imports_stay (n ∷ ns) = keyword_stays "IMPORTS" ⨟ listed_stays (sign ",") name (sign_stays "," refl) name_stays (n ∷ ns)

statement_stays : (tree : Statement) → Stays (statement tree)
statement_stays (Node type) = create_stays type.hidden "NODE" ⨟ node_type_stays type ⨟ sign_stays ";" refl
statement_stays (Edge type) = create_stays type.hidden "EDGE" ⨟ edge_type_stays type ⨟ sign_stays ";" refl
statement_stays (Graph type) =
    keyword_stays "CREATE" ⨟ keyword_stays "GRAPH" ⨟ keyword_stays "TYPE" ⨟ name_stays type.name ⨟ mode_stays type.strict ⨟ imports_stay type.imports
    ⨟ sign_stays "{" refl ⨟ members_stay type.members type.keys ⨟ sign_stays "}" refl ⨟ sign_stays ";" refl

-- ---- pieces

-- one of the pieces has the pair
abbrev SomeHasPair : List (List Lexeme) → Type 0
SomeHasPair [] = ⊥
SomeHasPair (piece ∷ pieces) = HasPair piece ⊎ SomeHasPair pieces

-- a token that begins with `-` ends no piece
no_semicolon : (token : Lexeme) → begins_with is_minus token.bytes ≡ true → is_semicolon token ≡ false
no_semicolon token e = by_bytes token.bytes e
  where
    by_bytes : (bytes : List ℕ) → begins_with is_minus bytes ≡ true → bytes_eq bytes (codes ";") ≡ false
    by_bytes [] e = cc
    by_bytes (b ∷ bytes) e = let same = eqb-true b 45 e in rw same refl

-- the first of pieces, or no tokens
abbrev first_piece : List (List Lexeme) → List Lexeme
first_piece [] = []
first_piece (piece ∷ pieces) = piece

first_begins : (rest : List Lexeme) → BeginsWithDash rest → BeginsWithDash (first_piece (pieces_of rest))
first_begins [] first = absurd first
first_begins (token ∷ rest) first = rw (no_semicolon token first) (in_front (pieces_of rest))
  where
    in_front : (pieces : List (List Lexeme)) → BeginsWithDash (first_piece (with_token token pieces))
    in_front [] = first
    in_front (piece ∷ pieces) = first

pair_in_piece : (tokens : List Lexeme) → HasPair tokens → SomeHasPair (pieces_of tokens)
pair_in_piece [] pair = absurd pair
pair_in_piece (token ∷ rest) pair = elim pair [
  | inl first ↦ rw (no_semicolon token (ap (begins_with is_minus) first.0.1)) (pair_first first.0 (pieces_of rest) (first_begins rest first.1))
  | inr later ↦ by_semicolon (is_semicolon token) (pair_in_piece rest later)
]
  where
    pair_first : IsSpelled Sign "-" token → (pieces : List (List Lexeme)) → BeginsWithDash (first_piece pieces) → SomeHasPair (with_token token pieces)
    pair_first dash [] first = absurd first
    pair_first dash (piece ∷ pieces) first = inl (inl (dash, first))

    pair_later : (pieces : List (List Lexeme)) → SomeHasPair pieces → SomeHasPair (with_token token pieces)
    pair_later [] some = absurd some
    pair_later (piece ∷ pieces) some = elim some [ inl pair ↦ inl (inr pair) | inr others ↦ inr others ]

    by_semicolon : (semicolon : Bool) → SomeHasPair (pieces_of rest) →
        SomeHasPair (cond semicolon ((token ∷ []) ∷ pieces_of rest) (with_token token (pieces_of rest)))
    by_semicolon true some = inr some
    by_semicolon false some = pair_later (pieces_of rest) some

none_has_pair : (trees : List Statement) (pieces : List (List Lexeme)) → AreStatements trees pieces → SomeHasPair pieces → ⊥
none_has_pair [] [] h some = some
none_has_pair [] (piece ∷ pieces) h some = h
none_has_pair (tree ∷ trees) [] h some = h
none_has_pair (tree ∷ trees) (piece ∷ pieces) h some = elim some [
  | inl pair ↦ (statement_stays tree).leads piece [] h.0 pair
  | inr others ↦ none_has_pair trees pieces h.1 others
]

-- a script would have to be read past it
pub script_has_no_pair : (script : Script) (tokens : List Lexeme) → IsScript script tokens → HasPair tokens → ⊥
script_has_no_pair script tokens h pair = none_has_pair script.statements (pieces_of tokens) h.statements (pair_in_piece tokens pair)
