-- Schemas of the samples.
use Rattle.std.specs.Prelude.{ℕ, true, false, List, [], ◌∷◌, ◌++◌, replicate, codes}
use Rattle.pgs_base.specs.declared.value.Kind.TheVariants as kinds
use Rattle.pgs_syntax.specs.declared.pattern.Atom.TheVariants.{FitsNode}
use Rattle.pgs_syntax.specs.declared.pattern.Expr.TheVariants.{Property}
use Rattle.pgs_syntax.specs.declared.resolved.Resolved.{Resolved}
use Rattle.pgs_syntax.specs.declared.resolved.TypeNo.TheVariants as numbers
use Rattle.pgs_syntax.specs.declared.element_type.NodeType.{NodeType}
use Rattle.pgs_syntax.specs.declared.specification.Leaf.{Leaf}
use Rattle.pgs_syntax.specs.declared.specification.Spec.{Spec, And, Opt}
use Rattle.pgs_resolve_declared.specs.declared.order.Numbering.{Numbering}
use Rattle.pgs_syntax.specs.Samples.{label, type, node_type, braces, property, key, qualifiers, pattern}

-- the schema of nodes that know other nodes
abbrev pub acquaintance_schema : Resolved
acquaintance_schema = record {
  nodes = node_type (codes "p") 2 (label (codes "P")) ∷ node_type (codes "q") 3 (And (label (codes "P") ∷ label (codes "Q") ∷ [])) ∷ [];
  edges = record { name = codes "e"; hidden = false; place = 4; source = type 1; middle = label (codes "knows"); target = type 0 } ∷ [];
  guard = record { strict = true; types = numbers.Node 0 ∷ numbers.Node 1 ∷ numbers.Edge 0 ∷ []; keys = [] };
}

-- no type has a name
abbrev pub no_names : Numbering
no_names = record { nodes = []; edges = [] }

-- the schema of persons whose mail differs
abbrev pub mail_schema : Resolved
mail_schema = record {
  nodes = node_type (codes "person") 2 (And (label (codes "Person") ∷ braces (property (codes "mail") kinds.Text ∷ []) ∷ [])) ∷ [];
  edges = [];
  guard = record {
    strict = true;
    types = numbers.Node 0 ∷ [];
    keys = key (qualifiers false false true) (pattern (false ∷ []) (FitsNode 0 0 ∷ [])) (Property 0 (codes "mail") ∷ [])
        (pattern (false ∷ []) []) ∷ [];
  };
}

-- the schema of node types alone
abbrev pub of_nodes : List (NodeType Leaf) → Resolved
of_nodes types = record { nodes = types; edges = []; guard = record { strict = false; types = []; keys = [] } }

-- so many labels, each of them optional
abbrev pub options : ℕ → List (Spec Leaf)
options number = replicate number (Opt (label (codes "a")))

-- (t: a? & a? & ..), of so many parts
abbrev pub of_options : ℕ → Resolved
of_options number = of_nodes (node_type (codes "t") 1 (And (options number)) ∷ [])

-- a type as wide as all types may be together: 4,096 forms of 1,024 labels
abbrev pub widest : NodeType Leaf
widest = node_type (codes "widest") 1 (And (options 12 ++ replicate 1012 (label (codes "b"))))

-- a type of one form and one label, at a place
abbrev pub narrow : List ℕ → ℕ → NodeType Leaf
narrow name place = node_type name place (label (codes "a"))
