-- Schema texts, and the scripts that they are.
use Rattle.std.specs.Prelude.{ℕ, Bool, true, false, List, [], ◌∷◌, ◌++◌, Option, Some, None, negsuc, replicate, codes}
use Rattle.pgs_base.specs.declared.value.Kind.TheVariants as kinds
use Rattle.pgs_base.specs.declared.value.Value.TheVariants as values
use Rattle.pgs_syntax.specs.declared.element_type.NodeType.{NodeType}
use Rattle.pgs_syntax.specs.declared.raw.RawExpr.{RawExpr}
use Rattle.pgs_syntax.specs.declared.raw.RawKey.{RawKey}
use Rattle.pgs_syntax.specs.declared.raw.RawPath.{RawPath}
use Rattle.pgs_syntax.specs.declared.raw.RawPlace.{RawPlace}
use Rattle.pgs_syntax.specs.declared.raw.RawStep.{RawStep}
use Rattle.pgs_syntax.specs.declared.script.Member.{Member}
use Rattle.pgs_syntax.specs.declared.script.Member.TheVariants as members
use Rattle.pgs_syntax.specs.declared.script.Script.{Script}
use Rattle.pgs_syntax.specs.declared.script.Statement.{Statement}
use Rattle.pgs_syntax.specs.declared.script.Statement.TheVariants.{Node, Graph}
use Rattle.pgs_syntax.specs.declared.specification.Spec as specs
use Rattle.pgs_syntax.specs.declared.specification.Spec.{Spec, Empty, Word, OpenLabels, And, Or, Opt}
use Rattle.pgs_syntax.specs.Samples.{property, optional, qualifiers}

-- a script of these statements
abbrev pub script : List Statement → Script
script statements = record { statements = statements }

-- (name: spec), which has this place
abbrev pub written : List ℕ → ℕ → Spec (List ℕ) → NodeType (List ℕ)
written name place spec = record { name = name; hidden = false; place = place; spec = spec }

abbrev pub word : List ℕ → Spec (List ℕ)
word name = Word name

-- the graph type of a name, with imports, members and keys
abbrev pub graph : List ℕ → Bool → ℕ → List (List ℕ) → List Member → List RawKey → Statement
graph name strict place imports members keys =
    Graph (record { name = name; strict = strict; place = place; imports = imports; members = members; keys = keys })

-- the least schema
abbrev pub least_text : List ℕ
least_text = codes "CREATE GRAPH TYPE g STRICT {};"

abbrev pub least_script : Script
least_script = script (graph (codes "g") true 1 [] [] [] ∷ [])

-- persons, and employees, who are persons
abbrev pub staff_text : List ℕ
staff_text =
    codes "CREATE NODE TYPE (personType: Person {name STRING}); "
    ++ codes "CREATE NODE TYPE (employeeType: personType & Employee {salary INT}); "
    ++ codes "CREATE GRAPH TYPE g STRICT {personType, employeeType};"

abbrev pub staff_script : Script
staff_script = script (
    Node (written (codes "personType") 1
    (And (word (codes "Person") ∷ specs.Braces (record { properties = property (codes "name") kinds.Text ∷ []; more = false }) ∷ [])))
    ∷ Node (written (codes "employeeType") 2
    (And (And (word (codes "personType") ∷ word (codes "Employee") ∷ [])
    ∷ specs.Braces (record { properties = property (codes "salary") kinds.Int ∷ []; more = false }) ∷ [])))
    ∷ graph (codes "g") true 3 [] (members.Named (codes "personType") ∷ members.Named (codes "employeeType") ∷ []) []
    ∷ [])

-- nodes that know other nodes
abbrev pub acquaintance_text : List ℕ
acquaintance_text = codes "CREATE GRAPH TYPE g STRICT {(p: P), (q: P & Q), (:q)-[e: knows]->(:p)};"

abbrev pub acquaintance_script : Script
acquaintance_script = script (
    graph (codes "g") true 1 [] (
    members.Node (written (codes "p") 2 (word (codes "P")))
    ∷ members.Node (written (codes "q") 3 (And (word (codes "P") ∷ word (codes "Q") ∷ [])))
    ∷ members.Edge (record {
      name = codes "e";
      hidden = false;
      place = 4;
      source = word (codes "q");
      middle = word (codes "knows");
      target = word (codes "p");
    }) ∷ []) [] ∷ [])

-- the types named before their declarations: (c: b), (b: a), (a: A)
abbrev pub backwards_script : Script
backwards_script = script (
    Node (written (codes "c") 1 (word (codes "b"))) ∷ Node (written (codes "b") 2 (word (codes "a")))
    ∷ Node (written (codes "a") 3 (word (codes "A"))) ∷ graph (codes "g") false 4 [] [] [] ∷ [])

-- CREATE NODE TYPE (b: a); CREATE NODE TYPE (a: b); CREATE GRAPH TYPE g LOOSE {};
abbrev pub cycle_of_types : Script
cycle_of_types = script (
    Node (written (codes "b") 1 (word (codes "a"))) ∷ Node (written (codes "a") 2 (word (codes "b")))
    ∷ graph (codes "g") false 3 [] [] [] ∷ [])

-- CREATE GRAPH TYPE g LOOSE IMPORTS g {};
abbrev pub cycle_of_imports : Script
cycle_of_imports = script (graph (codes "g") false 1 (codes "g" ∷ []) [] [] ∷ [])

-- CREATE NODE TYPE (a); CREATE NODE TYPE (a); CREATE GRAPH TYPE g LOOSE {};
abbrev pub declared_twice : Script
declared_twice = script (
    Node (written (codes "a") 1 Empty) ∷ Node (written (codes "a") 2 Empty) ∷ graph (codes "g") false 3 [] [] [] ∷ [])

-- CREATE GRAPH TYPE g LOOSE {a};
abbrev pub not_declared : Script
not_declared = script (graph (codes "g") false 1 [] (members.Named (codes "a") ∷ []) [] ∷ [])

-- CREATE NODE TYPE (a: A); CREATE GRAPH TYPE g LOOSE {()-[e: a]->()};
abbrev pub wrong_kind : Script
wrong_kind = script (
    Node (written (codes "a") 1 (word (codes "A")))
    ∷ graph (codes "g") false 2 [] (members.Edge (record {
      name = codes "e";
      hidden = false;
      place = 3;
      source = Empty;
      middle = word (codes "a");
      target = Empty;
    }) ∷ []) [] ∷ [])

-- a place of a path with this variable and these labels, and a path of one place
abbrev pub place : Option (List ℕ) → List (List ℕ) → RawPlace
place var names = record { var = var; filter = record { names = names; tests = [] } }

abbrev pub alone : RawPlace → RawPath
alone start = record { start = start; steps = [] }

abbrev pub step : Bool → RawPlace → RawPlace → RawStep
step forward edge node = record { edge = edge; forward = forward; node = node }

abbrev pub path : RawPlace → List RawStep → RawPath
path start steps = record { start = start; steps = steps }

-- a graph type of this one key
abbrev pub keyed_script : RawKey → Script
keyed_script key = script (graph (codes "g") false 1 [] [] (key ∷ []) ∷ [])

-- FOR (x) EXCLUSIVE y.k
abbrev pub reads_y : RawKey
reads_y = record {
  place = 2;
  qualifiers = qualifiers false false true;
  scope = alone (place (Some (codes "x")) []) ∷ [];
  exprs = record { var = codes "y"; key = Some (codes "k") } ∷ [];
  within = None;
}

-- FOR (x:A) MANDATORY z.v WITHIN (x)-[:r]->()-[:r]->(z)
abbrev pub two_steps_written : RawKey
two_steps_written = record {
  place = 2;
  qualifiers = qualifiers true false false;
  scope = alone (place (Some (codes "x")) (codes "A" ∷ [])) ∷ [];
  exprs = record { var = codes "z"; key = Some (codes "v") } ∷ [];
  within = Some (path (place (Some (codes "x")) []) (
      step true (place None (codes "r" ∷ [])) (place None [])
      ∷ step true (place None (codes "r" ∷ [])) (place (Some (codes "z")) []) ∷ []) ∷ []);
}

-- a key of forums: their names and their moderators
abbrev pub moderator_text : List ℕ
moderator_text =
    codes "CREATE GRAPH TYPE g LOOSE {FOR (f:Forum)<-[:joined]-(:Person) IDENTIFIER f.name, p WITHIN (f)<-[:moderates]-(p:Person)};"

abbrev pub moderator_written : RawKey
moderator_written = record {
  place = 2;
  qualifiers = qualifiers true true true;
  scope = path (place (Some (codes "f")) (codes "Forum" ∷ [])) (
      step false (place None (codes "joined" ∷ [])) (place None (codes "Person" ∷ [])) ∷ []) ∷ [];
  exprs = record { var = codes "f"; key = Some (codes "name") } ∷ record { var = codes "p"; key = None } ∷ [];
  within = Some (path (place (Some (codes "f")) []) (
      step false (place None (codes "moderates" ∷ [])) (place (Some (codes "p")) (codes "Person" ∷ [])) ∷ []) ∷ []);
}

abbrev pub moderator_script : Script
moderator_script = keyed_script moderator_written

-- a key of these parts that asks that x.k differs
abbrev pub differing : List RawPath → Option (List RawPath) → List RawExpr → RawKey
differing scope within exprs = record {
  place = 2;
  qualifiers = qualifiers false false true;
  scope = scope;
  exprs = exprs;
  within = within;
}

-- a node place of a variable, and one without
abbrev pub var : List ℕ → RawPlace
var name = place (Some name) []

abbrev pub nameless : RawPlace
nameless = place None []

-- x.k
abbrev pub x_k : RawExpr
x_k = record { var = codes "x"; key = Some (codes "k") }

-- FOR () EXCLUSIVE x.k, and FOR (x) EXCLUSIVE x.k WITHIN (y)
abbrev pub names_nothing : RawKey
names_nothing = differing (alone nameless ∷ []) None (x_k ∷ [])

abbrev pub leaves_x_out : RawKey
leaves_x_out = differing (alone (var (codes "x")) ∷ []) (Some (alone (var (codes "y")) ∷ [])) (x_k ∷ [])

-- FOR (x)-[x]->() EXCLUSIVE x.k
abbrev pub node_and_edge : RawKey
node_and_edge = differing (path (var (codes "x")) (step true (var (codes "x")) nameless ∷ []) ∷ []) None (x_k ∷ [])

-- FOR (x)-[]->(y) EXCLUSIVE x.k WITHIN (x)-[]->(y)
abbrev pub x_to_y : List RawPath
x_to_y = path (var (codes "x")) (step true nameless (var (codes "y")) ∷ []) ∷ []

abbrev pub shares_y : RawKey
shares_y = differing x_to_y (Some x_to_y) (x_k ∷ [])

-- FOR (x), (y) EXCLUSIVE x.k, and FOR (x), (x)-[]->(y) EXCLUSIVE x.k, which is linked
abbrev pub apart : RawKey
apart = differing (alone (var (codes "x")) ∷ alone (var (codes "y")) ∷ []) None (x_k ∷ [])

abbrev pub linked : RawKey
linked = differing (alone (var (codes "x")) ∷ x_to_y) None (x_k ∷ [])

-- FOR (x), (x), (x), (x), (x) EXCLUSIVE x.k
abbrev pub of_five_paths : RawKey
of_five_paths =
    let x = alone (var (codes "x")) in
    differing (x ∷ x ∷ x ∷ x ∷ x ∷ []) None (x_k ∷ [])

-- FOR (x)-[]->().. EXCLUSIVE x.k with so many edges, and FOR (x) EXCLUSIVE x.k, .. with so many expressions
abbrev pub of_edges : ℕ → RawKey
of_edges count = differing (path (var (codes "x")) (replicate count (step true nameless nameless)) ∷ []) None (x_k ∷ [])

abbrev pub of_exprs : ℕ → RawKey
of_exprs count = differing (alone (var (codes "x")) ∷ []) None (replicate count x_k)

-- FOR ()-[e]->(y:A) EXCLUSIVE e, whose first named variable is an edge
abbrev pub edge_first : RawKey
edge_first = differing (path nameless (
    step true (var (codes "e")) (place (Some (codes "y")) (codes "A" ∷ [])) ∷ []) ∷ []) None (record { var = codes "e"; key = None } ∷ [])

-- CREATE GRAPH TYPE f STRICT {(a), FOR (x), (x)-[]->(y) EXCLUSIVE x.k}; CREATE GRAPH TYPE h LOOSE IMPORTS f {(b), a};
-- CREATE GRAPH TYPE g LOOSE IMPORTS h, f {(c)};
abbrev pub importing : Script
importing = script (
    graph (codes "f") true 1 [] (members.Node (written (codes "a") 2 Empty) ∷ []) (record linked { place = 3 } ∷ [])
    ∷ graph (codes "h") false 4 (codes "f" ∷ []) (members.Node (written (codes "b") 5 Empty) ∷ members.Named (codes "a") ∷ []) []
    ∷ graph (codes "g") false 6 (codes "h" ∷ codes "f" ∷ []) (members.Node (written (codes "c") 7 Empty) ∷ []) [] ∷ [])

-- persons whose mail differs
abbrev pub mail_text : List ℕ
mail_text = codes "CREATE GRAPH TYPE g STRICT {(person: Person {mail STRING}), FOR (x:person) EXCLUSIVE x.mail};"

abbrev pub mail_key : RawKey
mail_key = record {
  place = 3;
  qualifiers = qualifiers false false true;
  scope = alone (place (Some (codes "x")) (codes "person" ∷ [])) ∷ [];
  exprs = record { var = codes "x"; key = Some (codes "mail") } ∷ [];
  within = None;
}

abbrev pub mail_script : Script
mail_script = script (
    graph (codes "g") true 1 [] (members.Node (written (codes "person") 2
    (And (word (codes "Person") ∷ specs.Braces (record { properties = property (codes "mail") kinds.Text ∷ []; more = false }) ∷ []))) ∷ [])
    (mail_key ∷ []) ∷ [])

-- a text of many forms: ABSTRACT behind TYPE, parentheses, a quoted name, an arrow to the left, tests, qualifiers with
-- a comma and without, and bounds
abbrev pub forms_text : List ℕ
forms_text =
    codes "CREATE NODE TYPE ABSTRACT (t: (A | B)? & `NODE` OPEN {OPTIONAL k DATE, OPEN}); "
    ++ codes "CREATE GRAPH TYPE h LOOSE IMPORTS g {(:t)<-[e]-(OPEN), "
    ++ codes "FOR (x:t {k: DATE '2024-02-29', s: 'it''s', n: -5}) EXCLUSIVE, MANDATORY SINGLETON COUNT 0..12 OF x.k, x};"

abbrev pub forms_body : Spec (List ℕ)
forms_body = And (
    And (Opt (Or (word (codes "A") ∷ word (codes "B") ∷ [])) ∷ word (codes "NODE") ∷ [])
    ∷ OpenLabels
    ∷ specs.Braces (record { properties = optional (codes "k") kinds.Date ∷ []; more = true }) ∷ [])

abbrev pub forms_key : RawKey
forms_key = record {
  place = 4;
  qualifiers = record (qualifiers true true true) { count = Some (0, 12) };
  scope = alone (record {
    var = Some (codes "x");
    filter = record {
      names = codes "t" ∷ [];
      tests = (codes "k", values.Date (2024, 2, 29)) ∷ (codes "s", values.Text (codes "it's")) ∷ (codes "n", values.Int (negsuc 4)) ∷ [];
    };
  }) ∷ [];
  exprs = record { var = codes "x"; key = Some (codes "k") } ∷ record { var = codes "x"; key = None } ∷ [];
  within = None;
}

abbrev pub forms_script : Script
forms_script = script (
    Node (record { name = codes "t"; hidden = true; place = 1; spec = forms_body })
    ∷ graph (codes "h") false 2 (codes "g" ∷ []) (members.Edge (record {
      name = codes "e";
      hidden = false;
      place = 3;
      source = OpenLabels;
      middle = Empty;
      target = word (codes "t");
    }) ∷ []) (forms_key ∷ []) ∷ [])

-- texts that are no script: by a byte that begins no item, and by a statement
abbrev pub bad_byte_text : List ℕ
bad_byte_text = codes "CREATE GRAPH TYPE g LOOSE {#};"

abbrev pub no_mode_text : List ℕ
no_mode_text = codes "CREATE GRAPH TYPE g {};"
