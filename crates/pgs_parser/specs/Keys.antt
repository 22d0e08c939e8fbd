-- The grammar of keys. Each production has its tree as its argument.
use Rattle.std.specs.Prelude.{◌≡◌, ℕ, ◌≤◌, Bool, true, false, List, [], ◌∷◌, Option, Some, None, pos}
use Rattle.std.specs.List.{list_any}
use Rattle.pgs_base.specs.declared.value.Value.{Value}
use Rattle.pgs_base.specs.declared.value.Value.TheVariants.{Int}
use Rattle.pgs_syntax.specs.declared.key.Qualifiers.{Qualifiers}
use Rattle.pgs_syntax.specs.declared.raw.RawPlace.{RawPlace}
use Rattle.pgs_syntax.specs.declared.raw.RawStep.{RawStep}
use Rattle.pgs_syntax.specs.declared.raw.RawPath.{RawPath}
use Rattle.pgs_syntax.specs.declared.raw.RawExpr.{RawExpr}
use Rattle.pgs_syntax.specs.declared.raw.RawKey.{RawKey}
use Rattle.pgs_syntax.specs.Valid.{are_distinct}
use Rattle.pgs_parser.specs.Production.{Production, ◌▸◌, ◌or◌, nothing, keyword, sign, maybe, each, listed}
use Rattle.pgs_parser.specs.declared.qualifier.Qualifier.{Qualifier}
use Rattle.pgs_parser.specs.declared.qualifier.Qualifier.TheVariants.{Exclusive, Mandatory, Singleton, Count}
use Rattle.pgs_parser.specs.Literal.{name, literal}

-- name ":" literal
abbrev pub test : List ℕ × Value → Production
test t = name t.0 ▸ sign ":" ▸ literal t.1

-- tests = "{" name ":" literal {"," name ":" literal} "}", which may be left out
abbrev pub tests : List (List ℕ × Value) → Production
tests [] = nothing
tests (t ∷ ts) = sign "{" ▸ listed (sign ",") test (t ∷ ts) ▸ sign "}"

-- [":" name {"&" name}]
abbrev pub names : List (List ℕ) → Production
names [] = nothing
names (n ∷ ns) = sign ":" ▸ listed (sign "&") name (n ∷ ns)

-- place = [name] [":" name {"&" name}] [tests]
abbrev pub place : RawPlace → Production
place p = maybe name p.var ▸ names p.filter.names ▸ tests p.filter.tests

-- node = "(" place ")"
abbrev pub node : RawPlace → Production
node p = sign "(" ▸ place p ▸ sign ")"

-- step = "-" "[" place "]" "->" | "<-" "[" place "]" "-", and the node after it
abbrev pub arrow : Bool → RawPlace → Production
arrow true p = sign "-" ▸ sign "[" ▸ place p ▸ sign "]" ▸ sign "->"
arrow false p = sign "<-" ▸ sign "[" ▸ place p ▸ sign "]" ▸ sign "-"

abbrev pub step : RawStep → Production
step s = arrow s.forward s.edge ▸ node s.node

-- path = node {step node}
abbrev pub path : RawPath → Production
path p = node p.start ▸ each step p.steps

-- paths = path {"," path}
abbrev pub paths : List RawPath → Production
paths = listed (sign ",") path

-- whether two qualifiers are of one kind
abbrev pub is_same_kind : Qualifier → Qualifier → Bool
is_same_kind Exclusive Exclusive = true
is_same_kind Mandatory Mandatory = true
is_same_kind Singleton Singleton = true
is_same_kind (Count least most) (Count other_least other_most) = true
is_same_kind _ _ = false

-- the bounds of the first COUNT
abbrev pub bounds_in : List Qualifier → Option (ℕ × ℕ)
bounds_in [] = None
bounds_in (Count least most ∷ others) = Some (least, most)
bounds_in (other ∷ others) = bounds_in others

-- what qualifiers ask
abbrev pub asked_by : List Qualifier → Qualifiers
asked_by written = record {
  mandatory = list_any (is_same_kind Mandatory) written;
  singleton = list_any (is_same_kind Singleton) written;
  exclusive = list_any (is_same_kind Exclusive) written;
  count = bounds_in written;
}

-- a number that a COUNT names
abbrev pub bound : ℕ → Production
bound number = literal (Int (pos number))

-- number ".." number OF: the first is at most the second, and this is at most 1,000,000
abbrev pub bounds : ℕ × ℕ → Production
bounds ends before after =
    (ends.0 ≤ ends.1) × (ends.1 ≤ 1000000) × (bound ends.0 ▸ sign ".." ▸ bound ends.1 ▸ keyword "OF") before after

-- qualifier = EXCLUSIVE | MANDATORY | SINGLETON | COUNT number ".." number OF
abbrev pub qualifier : Qualifier → Production
qualifier Exclusive = keyword "EXCLUSIVE"
qualifier Mandatory = keyword "MANDATORY"
qualifier Singleton = keyword "SINGLETON"
qualifier (Count least most) = keyword "COUNT" ▸ bounds (least, most)

-- qualifier {[","] qualifier}, where each kind stands at most once
abbrev pub qualifier_list : Qualifiers → Production
qualifier_list asked before after =
    (written : List Qualifier) × (are_distinct is_same_kind written ≡ true) × (asked ≡ asked_by written)
    × listed (sign "," or nothing) qualifier written before after

-- IDENTIFIER is the other three
abbrev pub all_asked : Qualifiers
all_asked = record { mandatory = true; singleton = true; exclusive = true; count = None }

abbrev pub identifier : Qualifiers → Production
identifier asked before after = (asked ≡ all_asked) × keyword "IDENTIFIER" before after

-- qualifiers = IDENTIFIER | qualifier {[","] qualifier}
abbrev pub qualifiers : Qualifiers → Production
qualifiers asked = identifier asked or qualifier_list asked

-- expr = name ["." name]
abbrev pub expr : RawExpr → Production
expr e = name e.var ▸ maybe (λ key. sign "." ▸ name key) e.key

-- key = FOR paths qualifiers exprs [WITHIN paths]
abbrev pub key : RawKey → Production
key k =
    keyword "FOR" ▸ paths k.scope ▸ qualifiers k.qualifiers ▸ listed (sign ",") expr k.exprs
    ▸ maybe (λ descriptor. keyword "WITHIN" ▸ paths descriptor) k.within
