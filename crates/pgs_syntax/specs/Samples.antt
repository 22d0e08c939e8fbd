-- Schemas, pairs and triples on which the definitions are tried.
use Rattle.std.specs.Prelude.{ℕ, Bool, true, false, pos, List, [], ◌∷◌, Some, None, codes}
use Rattle.pgs_base.specs.declared.element.NodeId.{NodeId}
use Rattle.pgs_base.specs.declared.element.EdgeId.{EdgeId}
use Rattle.pgs_base.specs.declared.row.NodeRow.{NodeRow}
use Rattle.pgs_base.specs.declared.row.EdgeRow.{EdgeRow}
use Rattle.pgs_base.specs.declared.value.Kind.{Kind}
use Rattle.pgs_base.specs.declared.value.Kind.TheVariants as kinds
use Rattle.pgs_base.specs.declared.value.Value.{Value}
use Rattle.pgs_base.specs.declared.value.Value.TheVariants as values
use Rattle.pgs_base.specs.Graph.{Graph}
use Rattle.pgs_base.specs.Pair.{pair_of}
use Rattle.pgs_syntax.specs.declared.element_type.NodeType.{NodeType}
use Rattle.pgs_syntax.specs.declared.element_type.EdgeType.{EdgeType}
use Rattle.pgs_syntax.specs.declared.key.Key.{Key}
use Rattle.pgs_syntax.specs.declared.key.Qualifiers.{Qualifiers}
use Rattle.pgs_syntax.specs.declared.pattern.Atom.{Atom}
use Rattle.pgs_syntax.specs.declared.pattern.Atom.TheVariants.{Ends, HasLabel}
use Rattle.pgs_syntax.specs.declared.pattern.Expr.{Expr}
use Rattle.pgs_syntax.specs.declared.pattern.Expr.TheVariants.{Element, Property as PropertyOf}
use Rattle.pgs_syntax.specs.declared.pattern.Pattern.{Pattern}
use Rattle.pgs_syntax.specs.declared.resolved.Resolved.{Resolved}
use Rattle.pgs_syntax.specs.declared.resolved.TypeNo.{TypeNo}
use Rattle.pgs_syntax.specs.declared.resolved.TypeNo.TheVariants as numbers
use Rattle.pgs_syntax.specs.declared.specification.Leaf.{Leaf}
use Rattle.pgs_syntax.specs.declared.specification.Leaf.TheVariants.{Label, Named}
use Rattle.pgs_syntax.specs.declared.specification.Property.{Property}
use Rattle.pgs_syntax.specs.declared.specification.Spec as specs
use Rattle.pgs_syntax.specs.declared.specification.Spec.{Spec, Empty, Word, OpenLabels, And, Or, Opt}

-- a label, a named type, and braces without and with OPEN
abbrev pub label : List ℕ → Spec Leaf
label name = Word (Label name)

abbrev pub type : ℕ → Spec Leaf
type number = Word (Named number)

abbrev pub braces : List Property → Spec Leaf
braces properties = specs.Braces (record { properties = properties; more = false })

abbrev pub open_braces : List Property → Spec Leaf
open_braces properties = specs.Braces (record { properties = properties; more = true })

-- `&` between two parts
infixl 20 ◌&◌
abbrev pub ◌&◌ : Spec Leaf → Spec Leaf → Spec Leaf
first & second = And (first ∷ second ∷ [])

-- a property, and an optional one
abbrev pub property : List ℕ → Kind → Property
property key kind = record { key = key; kind = kind; optional = false }

abbrev pub optional : List ℕ → Kind → Property
optional key kind = record { key = key; kind = kind; optional = true }

-- a node type that isn't abstract, and an abstract one
abbrev pub node_type : List ℕ → ℕ → Spec Leaf → NodeType Leaf
node_type name place spec = record { name = name; hidden = false; place = place; spec = spec }

abbrev pub abstract_type : List ℕ → ℕ → Spec Leaf → NodeType Leaf
abstract_type name place spec = record { name = name; hidden = true; place = place; spec = spec }

-- a STRICT schema of these node and edge types, with these members and keys
abbrev pub schema : List (NodeType Leaf) → List (EdgeType Leaf) → List TypeNo → List Key → Resolved
schema nodes edges types keys =
    record { nodes = nodes; edges = edges; guard = record { strict = true; types = types; keys = keys } }

-- a node and an edge with these labels, and a node's properties
abbrev pub node : ℕ → List (List ℕ) → List (List ℕ × Value) → NodeId × NodeRow
node number labels props = (record { 0 = number }, pair_of labels props)

abbrev pub edge : ℕ → ℕ → ℕ → List ℕ → EdgeId × EdgeRow
edge number source target name =
    (record { 0 = number }, record { source = record { 0 = source }; target = record { 0 = target }; labels = name ∷ []; props = [] })

abbrev pub pattern : List Bool → List Atom → Pattern
pattern edge_vars atoms = record { edge_vars = edge_vars; atoms = atoms }

abbrev pub key : Qualifiers → Pattern → List Expr → Pattern → Key
key qualifiers scope exprs descriptor =
    record { qualifiers = qualifiers; scope = scope; descriptor = descriptor; exprs = exprs }

abbrev pub qualifiers : Bool → Bool → Bool → Qualifiers
qualifiers mandatory singleton exclusive =
    record { mandatory = mandatory; singleton = singleton; exclusive = exclusive; count = None }

-- COUNT between two numbers alone
abbrev pub counted : ℕ → ℕ → Qualifiers
counted least most = record (qualifiers false false false) { count = Some (least, most) }

-- (personType: Person {name STRING}), (employeeType: personType & Employee {salary INT})
abbrev pub staff_types : List (NodeType Leaf)
staff_types =
    node_type (codes "personType") 1 (label (codes "Person") & braces (property (codes "name") kinds.Text ∷ []))
    ∷ node_type (codes "employeeType") 2 ((type 0 & label (codes "Employee")) & braces (property (codes "salary") kinds.Int ∷ []))
    ∷ []

-- those types, of which these are members of the guard
abbrev pub staff : List TypeNo → Resolved
staff types = schema staff_types [] types []

-- Ann, a person with a name, who is employed with a salary
abbrev pub ann : NodeRow
ann = pair_of (codes "Employee" ∷ codes "Person" ∷ [])
    ((codes "name", values.Text (codes "Ann")) ∷ (codes "salary", values.Int (pos 5)) ∷ [])

-- (a {k INT}), (b {OPTIONAL k STRING}), (c: a & b), of which c is a member
abbrev pub shared_key : Resolved
shared_key =
    schema
    (node_type (codes "a") 1 (braces (property (codes "k") kinds.Int ∷ []))
    ∷ node_type (codes "b") 2 (braces (optional (codes "k") kinds.Text ∷ []))
    ∷ node_type (codes "c") 3 (type 0 & type 1) ∷ [])
    [] (numbers.Node 2 ∷ []) []

-- a pair of labels
abbrev pub labelled : List (List ℕ) → NodeRow
labelled labels = pair_of labels []

-- a pair of one property
abbrev pub with : List ℕ → Value → NodeRow
with key value = pair_of [] ((key, value) ∷ [])

-- (t {OPTIONAL age INT, OPEN})
abbrev pub open_type : Resolved
open_type =
    schema (node_type (codes "t") 1 (open_braces (optional (codes "age") kinds.Int ∷ [])) ∷ []) [] (numbers.Node 0 ∷ []) []

-- (t: A | (B & C?))
abbrev pub either_type : Resolved
either_type =
    schema
    (node_type (codes "t") 1 (Or (label (codes "A") ∷ (label (codes "B") & Opt (label (codes "C"))) ∷ [])) ∷ [])
    [] (numbers.Node 0 ∷ []) []

-- (t: A OPEN)
abbrev pub open_labels : Resolved
open_labels = schema (node_type (codes "t") 1 (label (codes "A") & OpenLabels) ∷ []) [] (numbers.Node 0 ∷ []) []

-- (t)
abbrev pub bare_type : Resolved
bare_type = schema (node_type (codes "t") 1 Empty ∷ []) [] (numbers.Node 0 ∷ []) []

-- ABSTRACT (t: A), ABSTRACT (u: B)
abbrev pub abstract_types : Resolved
abstract_types =
    schema
    (abstract_type (codes "t") 1 (label (codes "A")) ∷ abstract_type (codes "u") 2 (label (codes "B")) ∷ [])
    [] (numbers.Node 0 ∷ numbers.Node 1 ∷ []) []

-- (p: P), (q: P & Q), (:q)-[e: knows]->(:p)
abbrev pub acquaintance : Resolved
acquaintance =
    schema
    (node_type (codes "p") 1 (label (codes "P")) ∷ node_type (codes "q") 2 (label (codes "P") & label (codes "Q")) ∷ [])
    (record { name = codes "e"; hidden = false; place = 3; source = type 1; middle = label (codes "knows"); target = type 0 } ∷ [])
    (numbers.Node 0 ∷ numbers.Node 1 ∷ numbers.Edge 0 ∷ []) []

-- n1 with these labels, n2 with P, and e1 from n1 to n2 with this label
abbrev pub tied : List (List ℕ) → List ℕ → Graph
tied labels name = record {
  nodes = node 1 labels [] ∷ node 2 (codes "P" ∷ []) [] ∷ [];
  edges = edge 1 1 2 name ∷ [];
}

-- the same with knows
abbrev pub acquainted : List (List ℕ) → Graph
acquainted labels = tied labels (codes "knows")

-- (p: P), (q: Q), (:p)-[e: knows]->(:p), (:q)-[f: e | likes]->(:p), of which f is a member
abbrev pub ties : Resolved
ties =
    schema
    (node_type (codes "p") 1 (label (codes "P")) ∷ node_type (codes "q") 2 (label (codes "Q")) ∷ [])
    (record { name = codes "e"; hidden = false; place = 3; source = type 0; middle = label (codes "knows"); target = type 0 }
    ∷ record {
      name = codes "f";
      hidden = false;
      place = 4;
      source = type 1;
      middle = Or (type 0 ∷ label (codes "likes") ∷ []);
      target = type 0;
    } ∷ [])
    (numbers.Edge 1 ∷ []) []

-- ABSTRACT (namedType {name STRING}), (personType: namedType & Person {mail STRING, OPTIONAL born DATE}) and
-- (employeeType: personType & Employee {salary INT}), as members
abbrev pub social : Resolved
social =
    schema
    (abstract_type (codes "namedType") 1 (braces (property (codes "name") kinds.Text ∷ []))
    ∷ node_type (codes "personType") 2
    ((type 0 & label (codes "Person")) & braces (property (codes "mail") kinds.Text ∷ optional (codes "born") kinds.Date ∷ []))
    ∷ node_type (codes "employeeType") 3
    ((type 1 & label (codes "Employee")) & braces (property (codes "salary") kinds.Int ∷ []))
    ∷ [])
    [] (numbers.Node 0 ∷ numbers.Node 1 ∷ numbers.Node 2 ∷ []) []

-- Cyd, a person born on a day, and Bob, who is employed where he has this label
abbrev pub cyd : NodeRow
cyd = pair_of (codes "Person" ∷ [])
    ((codes "born", values.Date (1990, 2, 28)) ∷ (codes "mail", values.Text (codes "c")) ∷ (codes "name", values.Text (codes "Cyd")) ∷ [])

abbrev pub bob : List (List ℕ) → NodeRow
bob labels = pair_of labels
    ((codes "mail", values.Text (codes "b")) ∷ (codes "name", values.Text (codes "Bob")) ∷ (codes "salary", values.Int (pos 4000)) ∷ [])

-- FOR (x:A) MANDATORY z.v WITHIN (x)-[:r]->()-[:r]->(z)
abbrev pub two_steps : Key
two_steps =
    key (qualifiers true false false)
    (pattern (false ∷ []) (HasLabel 0 (codes "A") ∷ []))
    (PropertyOf 4 (codes "v") ∷ [])
    (pattern (false ∷ true ∷ false ∷ true ∷ false ∷ [])
    (HasLabel 1 (codes "r") ∷ Ends 1 0 2 ∷ HasLabel 3 (codes "r") ∷ Ends 3 2 4 ∷ []))

-- n3 with A, n5, n9 with these properties, e1 from n3 to n5 and e2 from n5 to n9, both with r
abbrev pub steps_to : List (List ℕ × Value) → Graph
steps_to props = record {
  nodes = node 3 (codes "A" ∷ []) [] ∷ node 5 [] [] ∷ node 9 [] props ∷ [];
  edges = edge 1 3 5 (codes "r") ∷ edge 2 5 9 (codes "r") ∷ [];
}

-- FOR (f:Forum)<-[:joined]-(:Person) IDENTIFIER f.name, p WITHIN (f)<-[:moderates]-(p:Person)
abbrev pub moderator : Key
moderator =
    key (qualifiers true true true)
    (pattern (false ∷ true ∷ false ∷ [])
    (HasLabel 0 (codes "Forum") ∷ HasLabel 1 (codes "joined") ∷ HasLabel 2 (codes "Person") ∷ Ends 1 2 0 ∷ []))
    (PropertyOf 0 (codes "name") ∷ Element 2 ∷ [])
    (pattern (false ∷ true ∷ false ∷ [])
    (HasLabel 1 (codes "moderates") ∷ HasLabel 2 (codes "Person") ∷ Ends 1 2 0 ∷ []))

-- n1, the forum db, n4 and n5 with Person, e1 joined from n4 to n1, and these edges
abbrev pub forum : List (EdgeId × EdgeRow) → Graph
forum edges = record {
  nodes = node 1 (codes "Forum" ∷ []) ((codes "name", values.Text (codes "db")) ∷ []) ∷ node 4 (codes "Person" ∷ []) []
      ∷ node 5 (codes "Person" ∷ []) [] ∷ [];
  edges = edge 1 4 1 (codes "joined") ∷ edges;
}

-- e2 and e3, which say that n4 and that n5 moderates the forum
abbrev pub by_n4 : EdgeId × EdgeRow
by_n4 = edge 2 4 1 (codes "moderates")

abbrev pub by_n5 : EdgeId × EdgeRow
by_n5 = edge 3 5 1 (codes "moderates")

-- a schema of keys alone, under which an element need not be typed
abbrev pub keyed : List Key → Resolved
keyed keys = record { nodes = []; edges = []; guard = record { strict = false; types = []; keys = keys } }

-- the pattern (x), (y:A), whose variables nothing connects
abbrev pub two_apart : Pattern
two_apart = pattern (false ∷ false ∷ []) (HasLabel 1 (codes "A") ∷ [])

-- a type that names the type after it, and braces that name a key twice
abbrev pub names_later : Resolved
names_later =
    schema (node_type (codes "b") 1 (type 1 & label (codes "B")) ∷ node_type (codes "a") 2 (label (codes "A")) ∷ []) [] [] []

abbrev pub names_twice : Resolved
names_twice =
    schema (node_type (codes "a") 1 (braces (property (codes "k") kinds.Int ∷ optional (codes "k") kinds.Text ∷ [])) ∷ []) [] [] []
