-- Schemas with keys, and graphs on which their scopes and key values are tried.
use Rattle.std.specs.Prelude.{ℕ, true, false, List, [], ◌∷◌, codes}
use Rattle.pgs_base.specs.declared.element.Elem.{Elem}
use Rattle.pgs_base.specs.declared.element.Elem.TheVariants as elems
use Rattle.pgs_base.specs.declared.part.Part.{Part}
use Rattle.pgs_base.specs.declared.part.Part.TheVariants as parts
use Rattle.pgs_base.specs.declared.value.Kind.TheVariants as kinds
use Rattle.pgs_base.specs.declared.value.Value.{Value}
use Rattle.pgs_base.specs.declared.value.Value.TheVariants as values
use Rattle.pgs_base.specs.Graph.{Graph}
use Rattle.pgs_syntax.specs.declared.key.Key.{Key}
use Rattle.pgs_syntax.specs.declared.pattern.Atom.TheVariants.{Ends, HasLabel, FitsNode}
use Rattle.pgs_syntax.specs.declared.pattern.Expr.TheVariants.{Element, Property as PropertyOf}
use Rattle.pgs_syntax.specs.declared.resolved.Resolved.{Resolved}
use Rattle.pgs_syntax.specs.declared.resolved.TypeNo.TheVariants.{Node}
use Rattle.pgs_syntax.specs.Samples.{label, ◌&◌, braces, property, node_type, schema, node, edge, key, qualifiers, pattern}

-- the node of a number, and the tuple of one text
abbrev pub the_node : ℕ → Elem
the_node number = elems.Node (record { 0 = number })

abbrev pub one_text : List ℕ → List Part
one_text text = parts.Value (values.Text text) ∷ []

-- FOR (x:person) EXCLUSIVE x.mail
abbrev pub mail_key : Key
mail_key =
    key (qualifiers false false true) (pattern (false ∷ []) (FitsNode 0 0 ∷ [])) (PropertyOf 0 (codes "mail") ∷ [])
    (pattern (false ∷ []) [])

-- STRICT {(person: Person {mail STRING}), FOR (x:person) EXCLUSIVE x.mail}
abbrev pub mails : Resolved
mails =
    schema (node_type (codes "person") 1 (label (codes "Person") & braces (property (codes "mail") kinds.Text ∷ [])) ∷ []) []
    (Node 0 ∷ []) (mail_key ∷ [])

-- a property of a text
abbrev pub mail : List ℕ → List (List ℕ × Value)
mail text = (codes "mail", values.Text text) ∷ []

-- n1 and n2 with these mails
abbrev pub two_persons : List ℕ → List ℕ → Graph
two_persons first second = record {
  nodes = node 1 (codes "Person" ∷ []) (mail first) ∷ node 2 (codes "Person" ∷ []) (mail second) ∷ [];
  edges = [];
}

-- FOR (b:Post) MANDATORY SINGLETON f WITHIN (b)<-[:holds]-(f:Forum)
abbrev pub holder : Key
holder =
    key (qualifiers true true false)
    (pattern (false ∷ []) (HasLabel 0 (codes "Post") ∷ []))
    (Element 2 ∷ [])
    (pattern (false ∷ true ∷ false ∷ []) (HasLabel 1 (codes "holds") ∷ HasLabel 2 (codes "Forum") ∷ Ends 1 2 0 ∷ []))

-- the forum n10 holds the post n20, by e1
abbrev pub held_post : Graph
held_post = record {
  nodes = node 10 (codes "Forum" ∷ []) [] ∷ node 20 (codes "Post" ∷ []) [] ∷ [];
  edges = edge 1 10 20 (codes "holds") ∷ [];
}
