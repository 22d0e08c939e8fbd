-- Patterns, keys and graphs on which matches are tried.
use Rattle.std.specs.Prelude.{ℕ, true, false, pos, List, [], ◌∷◌, codes}
use Rattle.pgs_base.specs.declared.element.EdgeId.{EdgeId}
use Rattle.pgs_base.specs.declared.element.Elem.{Elem}
use Rattle.pgs_base.specs.declared.element.Elem.TheVariants as elems
use Rattle.pgs_base.specs.declared.row.EdgeRow.{EdgeRow}
use Rattle.pgs_base.specs.declared.value.Value.{Value}
use Rattle.pgs_base.specs.declared.value.Value.TheVariants as values
use Rattle.pgs_base.specs.Graph.{Graph}
use Rattle.pgs_syntax.specs.declared.key.Key.{Key}
use Rattle.pgs_syntax.specs.declared.key.Qualifiers.{Qualifiers}
use Rattle.pgs_syntax.specs.declared.pattern.Atom.{Atom}
use Rattle.pgs_syntax.specs.declared.pattern.Atom.TheVariants.{Ends, HasLabel}
use Rattle.pgs_syntax.specs.declared.pattern.Expr.TheVariants.{Element, Property as PropertyOf}
use Rattle.pgs_syntax.specs.declared.pattern.Pattern.{Pattern}
use Rattle.pgs_syntax.specs.Samples.{node, edge, key, pattern}

-- the edge of a number
abbrev pub the_edge : ℕ → Elem
the_edge number = elems.Edge (record { 0 = number })

-- the pattern of one node, and of one edge, of which these atoms are asked
abbrev pub one_node : List Atom → Pattern
one_node atoms = pattern (false ∷ []) atoms

abbrev pub one_edge : List Atom → Pattern
one_edge atoms = pattern (true ∷ []) atoms

-- (x)-[:r]->(y), for a label r
abbrev pub one_step : List ℕ → Pattern
one_step name = pattern (false ∷ true ∷ false ∷ []) (HasLabel 1 name ∷ Ends 1 0 2 ∷ [])

-- FOR (x:A) with these qualifiers y WITHIN (x)-[:r]->(y), for a label r
abbrev pub next_node : Qualifiers → List ℕ → Key
next_node asked name = key asked (one_node (HasLabel 0 (codes "A") ∷ [])) (Element 2 ∷ []) (one_step name)

-- FOR ()-[x:r]->() with these qualifiers x.k
abbrev pub edge_key : Qualifiers → Key
edge_key asked =
    key asked (pattern (true ∷ false ∷ false ∷ []) (HasLabel 0 (codes "r") ∷ Ends 0 1 2 ∷ [])) (PropertyOf 0 (codes "k") ∷ []) (one_edge [])

-- n1 with e1 from n1 to n1
abbrev pub self_loop : Graph
self_loop = record { nodes = node 1 [] [] ∷ []; edges = edge 1 1 1 (codes "r") ∷ [] }

-- n1 and n2, and e1 and e2 from n1 to n2
abbrev pub parallel_edges : Graph
parallel_edges = record {
  nodes = node 1 (codes "A" ∷ []) [] ∷ node 2 [] [] ∷ [];
  edges = edge 1 1 2 (codes "r") ∷ edge 2 1 2 (codes "r") ∷ [];
}

-- a property k
abbrev pub valued : Value → List (List ℕ × Value)
valued value = (codes "k", value) ∷ []

-- an edge from n1 to n2 with the label r and these properties
abbrev pub edge_with : ℕ → List (List ℕ × Value) → EdgeId × EdgeRow
edge_with number props =
    (record { 0 = number }, record { source = record { 0 = 1 }; target = record { 0 = 2 }; labels = codes "r" ∷ []; props = props })

-- n1 and n2, and three edges between them: two with the value 5 and one without
abbrev pub valued_edges : Graph
valued_edges = record {
  nodes = node 1 [] [] ∷ node 2 [] [] ∷ [];
  edges = edge_with 1 (valued (values.Int (pos 5))) ∷ edge_with 2 (valued (values.Int (pos 5))) ∷ edge_with 3 [] ∷ [];
}

-- four nodes: with the number 5, with the number 6, with the text 5, and with nothing
abbrev pub valued_nodes : Graph
valued_nodes = record {
  nodes = node 1 [] (valued (values.Int (pos 5))) ∷ node 2 [] (valued (values.Int (pos 6))) ∷ node 3 [] (valued (values.Text (codes "5")))
      ∷ node 4 [] [] ∷ [];
  edges = [];
}

-- n1 with P and Q, n2 with P, e1 from n1 to n2 and e2 back, both with knows
abbrev pub both_ways : Graph
both_ways = record {
  nodes = node 1 (codes "P" ∷ codes "Q" ∷ []) [] ∷ node 2 (codes "P" ∷ []) [] ∷ [];
  edges = edge 1 1 2 (codes "knows") ∷ edge 2 2 1 (codes "knows") ∷ [];
}
