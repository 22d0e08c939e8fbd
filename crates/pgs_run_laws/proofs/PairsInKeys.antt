-- No production of a key reads past the sign `-` and a token after it that begins with `-`.
use Rattle.std.proofs.Common.{ℕ, pos, Bool, true, false, List, [], ◌∷◌, refl}
use Rattle.pgs_base.specs.declared.value.Value.{Value}
use Rattle.pgs_base.specs.declared.value.Value.TheVariants as values
use Rattle.pgs_lexer.specs.declared.kind.TokenKind.TheVariants.{Sign, Number, Text}
use Rattle.pgs_syntax.specs.declared.key.Qualifiers.{Qualifiers}
use Rattle.pgs_syntax.specs.declared.raw.RawPlace.{RawPlace}
use Rattle.pgs_syntax.specs.declared.raw.RawStep.{RawStep}
use Rattle.pgs_syntax.specs.declared.raw.RawPath.{RawPath}
use Rattle.pgs_syntax.specs.declared.raw.RawExpr.{RawExpr}
use Rattle.pgs_syntax.specs.declared.raw.RawKey.{RawKey}
use Rattle.pgs_parser.specs.declared.qualifier.Qualifier.{Qualifier}
use Rattle.pgs_parser.specs.declared.qualifier.Qualifier.TheVariants.{Exclusive, Mandatory, Singleton, Count}
use Rattle.pgs_parser.specs.Production.{◌▸◌, ◌or◌, nothing, IsSpelled, keyword, sign}
use Rattle.pgs_parser.specs.Literal.{IsText, IsNumber, IsDay, name, literal}
use Rattle.pgs_parser.specs.Keys.{test, tests, names, place, node, arrow, step, path, paths, bounds, qualifier, qualifier_list, identifier, qualifiers, expr, key}
use Rattle.pgs_run_laws.proofs.Ahead.{HasPair, IsNear, Leads, Stays, ◌⨟◌, either_stays, nothing_stays, maybe_stays, each_stays, listed_stays, token_is_near, kind_stays, keyword_stays, name_stays, sign_stays, sign_leaves}

-- ---- places

literal_stays : (value : Value) → Stays (literal value)
literal_stays (values.Text text) = kind_stays Text (IsText text) (λ e. cc) (λ token asked. asked.0)
literal_stays (values.Int number) = kind_stays Number (IsNumber number) (λ e. cc) (λ token asked. asked.0)
literal_stays (values.Bool true) = keyword_stays "TRUE"
literal_stays (values.Bool false) = keyword_stays "FALSE"
literal_stays (values.Date day) = keyword_stays "DATE" ⨟ kind_stays Text (IsDay day) (λ e. cc) (λ token asked. asked.0)

test_stays : (t : List ℕ × Value) → Stays (test t)
test_stays t = name_stays t.0 ⨟ sign_stays ":" refl ⨟ literal_stays t.1

tests_stay : (ts : List (List ℕ × Value)) → Stays (tests ts)
tests_stay [] = nothing_stays
tests_stay (t ∷ ts) = sign_stays "{" refl ⨟ listed_stays (sign ",") test (sign_stays "," refl) test_stays (t ∷ ts) ⨟ sign_stays "}" refl

names_stay : (ns : List (List ℕ)) → Stays (names ns)
names_stay [] = nothing_stays
names_stay (n ∷ ns) = sign_stays ":" refl ⨟ listed_stays (sign "&") name (sign_stays "&" refl) name_stays (n ∷ ns)

place_stays : (p : RawPlace) → Stays (place p)
place_stays p = maybe_stays name name_stays p.var ⨟ names_stay p.filter.names ⨟ tests_stay p.filter.tests

-- ---- paths

-- a node, also where an arrow has just been read
node_stays : (p : RawPlace) → Stays (node p)
node_stays p = sign_stays "(" refl ⨟ place_stays p ⨟ sign_stays ")" refl

node_leaves : (p : RawPlace) → Leads IsNear HasPair (node p)
node_leaves p = sign_leaves "(" refl ⨟ place_stays p ⨟ sign_stays ")" refl

-- the pair's first dash may end an arrow, but it begins none, since `[` would follow it
arrow_is_near : (forward : Bool) (p : RawPlace) → Leads HasPair IsNear (arrow forward p)
arrow_is_near true p = token_is_near (IsSpelled Sign "-") ⨟ sign_leaves "[" refl ⨟ place_stays p ⨟ sign_stays "]" refl ⨟ token_is_near (IsSpelled Sign "->")
arrow_is_near false p = sign_stays "<-" refl ⨟ sign_stays "[" refl ⨟ place_stays p ⨟ sign_stays "]" refl ⨟ token_is_near (IsSpelled Sign "-")

step_stays : (s : RawStep) → Stays (step s)
step_stays s = arrow_is_near s.forward s.edge ⨟ node_leaves s.node

path_stays : (p : RawPath) → Stays (path p)
path_stays p = node_stays p.start ⨟ each_stays step step_stays p.steps

paths_stay : (ps : List RawPath) → Stays (paths ps)
paths_stay = listed_stays (sign ",") path (sign_stays "," refl) path_stays

-- ---- keys

bounds_stay : (ends : ℕ × ℕ) → Stays (bounds ends)
bounds_stay ends = record {
  leads = λ before after h pair.
      (literal_stays (values.Int (pos ends.0)) ⨟ sign_stays ".." refl ⨟ literal_stays (values.Int (pos ends.1)) ⨟ keyword_stays "OF").leads before after h.2 pair;
}

qualifier_stays : (q : Qualifier) → Stays (qualifier q)
qualifier_stays Exclusive = keyword_stays "EXCLUSIVE"
qualifier_stays Mandatory = keyword_stays "MANDATORY"
qualifier_stays Singleton = keyword_stays "SINGLETON"
qualifier_stays (Count least most) = keyword_stays "COUNT" ⨟ bounds_stay (least, most)

qualifiers_stay : (asked : Qualifiers) → Stays (qualifiers asked)
qualifiers_stay asked = either_stays identifier_stays list_stays
  where
    identifier_stays : Stays (identifier asked)
    identifier_stays = record { leads = λ before after h pair. (keyword_stays "IDENTIFIER").leads before after h.1 pair }

    list_stays : Stays (qualifier_list asked)
    list_stays = record {
      leads = λ before after h pair.
          (listed_stays (sign "," or nothing) qualifier (either_stays (sign_stays "," refl) nothing_stays) qualifier_stays h.0).leads before after h.3 pair;
    }

expr_stays : (e : RawExpr) → Stays (expr e)
expr_stays e = name_stays e.var ⨟ maybe_stays (λ key. sign "." ▸ name key) (λ key. sign_stays "." refl ⨟ name_stays key) e.key

pub key_stays : (k : RawKey) → Stays (key k)
key_stays k =
    keyword_stays "FOR" ⨟ paths_stay k.scope ⨟ qualifiers_stay k.qualifiers ⨟ listed_stays (sign ",") expr (sign_stays "," refl) expr_stays k.exprs
    ⨟ maybe_stays (λ descriptor. keyword "WITHIN" ▸ paths descriptor) (λ descriptor. keyword_stays "WITHIN" ⨟ paths_stay descriptor) k.within
