-- No production of an element type reads past the sign `-` and a token after it that begins with `-`.
use Rattle.std.proofs.Common.{ℕ, zero, suc, Bool, true, false, List, [], ◌∷◌, refl}
use Rattle.pgs_base.specs.declared.value.Kind.{Kind}
use Rattle.pgs_base.specs.declared.value.Kind.TheVariants as kinds
use Rattle.pgs_lexer.specs.Token.{Lexeme}
use Rattle.pgs_lexer.specs.declared.kind.TokenKind.TheVariants.{Sign}
use Rattle.pgs_syntax.specs.declared.element_type.NodeType.{NodeType}
use Rattle.pgs_syntax.specs.declared.element_type.EdgeType.{EdgeType}
use Rattle.pgs_syntax.specs.declared.specification.Braces.{Braces}
use Rattle.pgs_syntax.specs.declared.specification.Property.{Property}
use Rattle.pgs_parser.specs.Production.{Production, ◌▸◌, never, IsSpelled, sign, listed}
use Rattle.pgs_parser.specs.Types.{Written, IsAtom, named, parenthesised, IsUnit, plain, optional, IsConj, one_unit, units, IsLabels, one_conj, conjs, labels_within, labels, kind, property, properties, braces, body, node_type, end_of, middle_of, edge_type}
use Rattle.pgs_run_laws.proofs.Ahead.{HasPair, IsNear, Leads, Stays, ◌⨟◌, either_stays, nothing_stays, maybe_stays, listed_stays, token_is_near, keyword_stays, keyword_if_stays, name_stays, sign_stays, sign_leaves}

-- ---- labels

module _ (inner : Written → Production) (inner_stays : (spec : Written) → Stays (inner spec)) where
  atom_stays : (spec : Written) → Stays (IsAtom inner spec)
  atom_stays spec = record { leads = read spec }
    where
      read : (spec : Written) (before after : List Lexeme) → IsAtom inner spec before after → HasPair before → HasPair after
      read spec before after (named {label = label} h) pair = (name_stays label).leads before after h pair
      read spec before after (parenthesised h) pair = (sign_stays "(" refl ⨟ inner_stays spec ⨟ sign_stays ")" refl).leads before after h pair

  unit_stays : (spec : Written) → Stays (IsUnit inner spec)
  unit_stays spec = record { leads = read spec }
    where
      read : (spec : Written) (before after : List Lexeme) → IsUnit inner spec before after → HasPair before → HasPair after
      read spec before after (plain h) pair = (atom_stays spec).leads before after h pair
      read spec before after (optional {spec = inside} h) pair = (atom_stays inside ⨟ sign_stays "?" refl).leads before after h pair

  conj_stays : (spec : Written) → Stays (IsConj inner spec)
  conj_stays spec = record { leads = read spec }
    where
      read : (spec : Written) (before after : List Lexeme) → IsConj inner spec before after → HasPair before → HasPair after
      read spec before after (one_unit h) pair = (unit_stays spec).leads before after h pair
      read spec before after (units first second more h) pair =
          (listed_stays (sign "&") (IsUnit inner) (sign_stays "&" refl) unit_stays (first ∷ second ∷ more)).leads before after h pair

  level_stays : (spec : Written) → Stays (IsLabels inner spec)
  level_stays spec = record { leads = read spec }
    where
      read : (spec : Written) (before after : List Lexeme) → IsLabels inner spec before after → HasPair before → HasPair after
      read spec before after (one_conj h) pair = (conj_stays spec).leads before after h pair
      read spec before after (conjs first second more h) pair =
          (listed_stays (sign "|") (IsConj inner) (sign_stays "|" refl) conj_stays (first ∷ second ∷ more)).leads before after h pair

labels_within_stay : (further : ℕ) (spec : Written) → Stays (labels_within further spec)
labels_within_stay zero = level_stays (λ spec. never) (λ spec. record { leads = λ before after h pair. absurd h })
labels_within_stay (suc further) = level_stays (labels_within further) (labels_within_stay further)

labels_stay : (spec : Written) → Stays (labels spec)
labels_stay = labels_within_stay 64

-- ---- braces

kind_stays : (kind_ : Kind) → Stays (kind kind_)
kind_stays kinds.Text = keyword_stays "STRING"
kind_stays kinds.Int = keyword_stays "INT"
kind_stays kinds.Bool = keyword_stays "BOOL"
kind_stays kinds.Date = keyword_stays "DATE"

property_stays : (p : Property) → Stays (property p)
property_stays p = keyword_if_stays p.optional "OPTIONAL" ⨟ name_stays p.key ⨟ kind_stays p.kind

list_of_properties : (ps : List Property) → Stays (listed (sign ",") property ps)
list_of_properties ps = listed_stays (sign ",") property (sign_stays "," refl) property_stays ps

properties_stay : (ps : List Property) (more : Bool) → Stays (properties ps more)
properties_stay [] false = nothing_stays
properties_stay [] true = keyword_stays "OPEN"
properties_stay (p ∷ ps) false = list_of_properties (p ∷ ps)
properties_stay (p ∷ ps) true = list_of_properties (p ∷ ps) ⨟ sign_stays "," refl ⨟ keyword_stays "OPEN"

braces_stay : (b : Braces) → Stays (braces b)
braces_stay b = sign_stays "{" refl ⨟ properties_stay b.properties b.more ⨟ sign_stays "}" refl

-- ---- types

body_stays : (spec : Written) → Stays (body spec)
body_stays spec = record {
  leads = λ before after h pair.
      (maybe_stays (λ s. sign ":" ▸ labels s) (λ s. sign_stays ":" refl ⨟ labels_stay s) h.0
      ⨟ keyword_if_stays h.1 "OPEN" ⨟ maybe_stays braces braces_stay h.2).leads before after h.4 pair;
}

pub node_type_stays : (type : NodeType (List ℕ)) → Stays (node_type type)
node_type_stays type = sign_stays "(" refl ⨟ name_stays type.name ⨟ body_stays type.spec ⨟ sign_stays ")" refl

-- an end, also where an arrow has just been read
end_stays : (spec : Written) → Stays (end_of spec)
end_stays spec = sign_stays "(" refl ⨟ body_stays spec ⨟ sign_stays ")" refl

end_leaves : (spec : Written) → Leads IsNear HasPair (end_of spec)
end_leaves spec = sign_leaves "(" refl ⨟ body_stays spec ⨟ sign_stays ")" refl

middle_stays : (type : EdgeType (List ℕ)) → Stays (middle_of type)
middle_stays type = sign_stays "[" refl ⨟ name_stays type.name ⨟ body_stays type.middle ⨟ sign_stays "]" refl

middle_leaves : (type : EdgeType (List ℕ)) → Leads IsNear HasPair (middle_of type)
middle_leaves type = sign_leaves "[" refl ⨟ name_stays type.name ⨟ body_stays type.middle ⨟ sign_stays "]" refl

-- After the first dash of the pair would have to come `[` or `(`.
pub edge_type_stays : (type : EdgeType (List ℕ)) → Stays (edge_type type)
edge_type_stays type = either_stays
    (end_stays type.source ⨟ token_is_near (IsSpelled Sign "-") ⨟ middle_leaves type ⨟ sign_stays "->" refl ⨟ end_stays type.target)
    (end_stays type.target ⨟ sign_stays "<-" refl ⨟ middle_stays type ⨟ token_is_near (IsSpelled Sign "-") ⨟ end_leaves type.source)
