-- The grammar of element types. Each production has its tree as its argument.
use Rattle.std.specs.Prelude.{◌≡◌, ℕ, zero, suc, Bool, true, false, List, [], ◌∷◌, ◌++◌, Option, if◌then◌else◌}
use Rattle.std.specs.Option.{option_map_or}
use Rattle.pgs_base.specs.declared.value.Kind.{Kind}
use Rattle.pgs_base.specs.declared.value.Kind.TheVariants as kinds
use Rattle.pgs_lexer.specs.Token.{Lexeme}
use Rattle.pgs_syntax.specs.declared.element_type.NodeType.{NodeType}
use Rattle.pgs_syntax.specs.declared.element_type.EdgeType.{EdgeType}
use Rattle.pgs_syntax.specs.declared.specification.Braces.{Braces}
use Rattle.pgs_syntax.specs.declared.specification.Property.{Property}
use Rattle.pgs_syntax.specs.declared.specification.Spec as specs
use Rattle.pgs_syntax.specs.declared.specification.Spec.{Spec, Empty, Word, OpenLabels, And, Or, Opt}
use Rattle.pgs_parser.specs.Production.{Production, ◌▸◌, ◌or◌, nothing, never, keyword, sign, keyword_if, maybe, listed}
use Rattle.pgs_parser.specs.Literal.{name}

-- a specification as written, with names in its label positions
abbrev pub Written : Type 0
Written = Spec (List ℕ)

-- Labels, given what may stand in parentheses.
module _ (inner : Written → Production) where
  -- atom = name | "(" labels ")"
  pub data IsAtom : Written → List Lexeme → List Lexeme → Type 0 where
    named : {label : List ℕ} {before after : List Lexeme} → name label before after → IsAtom (Word label) before after
    parenthesised : {spec : Written} {before after : List Lexeme} →
        (sign "(" ▸ inner spec ▸ sign ")") before after → IsAtom spec before after

  -- unit = atom ["?"]
  pub data IsUnit : Written → List Lexeme → List Lexeme → Type 0 where
    plain : {spec : Written} {before after : List Lexeme} → IsAtom spec before after → IsUnit spec before after
    optional : {spec : Written} {before after : List Lexeme} →
        (IsAtom spec ▸ sign "?") before after → IsUnit (Opt spec) before after

  -- conj = unit {"&" unit}: one unit is that itself
  pub data IsConj : Written → List Lexeme → List Lexeme → Type 0 where
    one_unit : {unit : Written} {before after : List Lexeme} → IsUnit unit before after → IsConj unit before after
    units : (first second : Written) (more : List Written) {before after : List Lexeme} →
        listed (sign "&") IsUnit (first ∷ second ∷ more) before after → IsConj (And (first ∷ second ∷ more)) before after

  -- labels = conj {"|" conj}: one conjunction is that itself
  pub data IsLabels : Written → List Lexeme → List Lexeme → Type 0 where
    one_conj : {conj : Written} {before after : List Lexeme} → IsConj conj before after → IsLabels conj before after
    conjs : (first second : Written) (more : List Written) {before after : List Lexeme} →
        listed (sign "|") IsConj (first ∷ second ∷ more) before after → IsLabels (Or (first ∷ second ∷ more)) before after

-- labels in which at most so many parentheses are open at once
abbrev pub labels_within : ℕ → Written → Production
labels_within zero = IsLabels (λ spec. never)
labels_within (suc further) = IsLabels (labels_within further)

abbrev pub labels : Written → Production
labels = labels_within 64

-- kind = STRING | INT | BOOL | DATE
abbrev pub kind : Kind → Production
kind kinds.Text = keyword "STRING"
kind kinds.Int = keyword "INT"
kind kinds.Bool = keyword "BOOL"
kind kinds.Date = keyword "DATE"

-- property = [OPTIONAL] name kind
abbrev pub property : Property → Production
property p = keyword_if p.optional "OPTIONAL" ▸ name p.key ▸ kind p.kind

-- what stands between braces
abbrev pub properties : List Property → Bool → Production
properties [] false = nothing
properties [] true = keyword "OPEN"
properties (p ∷ ps) false = listed (sign ",") property (p ∷ ps)
properties (p ∷ ps) true = listed (sign ",") property (p ∷ ps) ▸ sign "," ▸ keyword "OPEN"

-- braces = "{" "}" | "{" OPEN "}" | "{" property {"," property} ["," OPEN] "}"
abbrev pub braces : Braces → Production
braces b = sign "{" ▸ properties b.properties b.more ▸ sign "}"

-- the parts of a body that are written, in the order labels, OPEN, braces
abbrev pub parts : Option Written → Bool → Option Braces → List Written
parts labels is_open braces =
    option_map_or (λ spec. spec ∷ []) labels [] ++ (if is_open then OpenLabels ∷ [] else [])
    ++ option_map_or (λ b. specs.Braces b ∷ []) braces []

-- without parts it is empty, one part is itself, and several are their join
abbrev pub together : List Written → Written
together [] = Empty
together (part ∷ []) = part
together (first ∷ second ∷ more) = And (first ∷ second ∷ more)

-- body = [":" labels] [OPEN] [braces]
abbrev pub body : Written → Production
body spec before after =
    (some : Option Written) × (is_open : Bool) × (between : Option Braces) × (spec ≡ together (parts some is_open between))
    × (maybe (λ s. sign ":" ▸ labels s) some ▸ keyword_if is_open "OPEN" ▸ maybe braces between) before after

-- nodeType = "(" name body ")"
abbrev pub node_type : NodeType (List ℕ) → Production
node_type type = sign "(" ▸ name type.name ▸ body type.spec ▸ sign ")"

-- end = "(" body ")"
abbrev pub end_of : Written → Production
end_of spec = sign "(" ▸ body spec ▸ sign ")"

-- "[" name body "]"
abbrev pub middle_of : EdgeType (List ℕ) → Production
middle_of type = sign "[" ▸ name type.name ▸ body type.middle ▸ sign "]"

-- edgeType = end "-" "[" name body "]" "->" end | end "<-" "[" name body "]" "-" end: at the arrow's head is the target
abbrev pub edge_type : EdgeType (List ℕ) → Production
edge_type type =
    (end_of type.source ▸ sign "-" ▸ middle_of type ▸ sign "->" ▸ end_of type.target)
    or (end_of type.target ▸ sign "<-" ▸ middle_of type ▸ sign "-" ▸ end_of type.source)
