-- Graphs on which the violations of keys are tried. Nodes n1, n2 and n3 have the label A, and edges lead from them to others.
use Rattle.std.specs.Prelude.{List, [], ◌∷◌, codes}
use Rattle.pgs_base.specs.declared.element.EdgeId.{EdgeId}
use Rattle.pgs_base.specs.declared.row.EdgeRow.{EdgeRow}
use Rattle.pgs_base.specs.Graph.{Graph}
use Rattle.pgs_syntax.specs.Samples.{node, edge}

abbrev pub three_with : List (EdgeId × EdgeRow) → Graph
three_with edges = record {
  nodes = node 1 (codes "A" ∷ []) [] ∷ node 2 (codes "A" ∷ []) [] ∷ node 3 (codes "A" ∷ []) []
      ∷ node 7 [] [] ∷ node 8 [] [] ∷ node 9 [] [] ∷ [];
  edges = edges;
}

-- from n1 to n9, n8 and n7
abbrev pub three_values : List (EdgeId × EdgeRow)
three_values = edge 1 1 9 (codes "r") ∷ edge 2 1 8 (codes "r") ∷ edge 3 1 7 (codes "r") ∷ []

-- from n1 to n8, twice
abbrev pub one_twice : List (EdgeId × EdgeRow)
one_twice = edge 1 1 8 (codes "r") ∷ edge 2 1 8 (codes "r") ∷ []

-- from n1 to n8 and n9, from n2 to n7, and from n3 to n9 and n8
abbrev pub later_sharer : List (EdgeId × EdgeRow)
later_sharer =
    edge 1 1 8 (codes "r") ∷ edge 2 1 9 (codes "r") ∷ edge 3 2 7 (codes "r") ∷ edge 4 3 9 (codes "r") ∷ edge 5 3 8 (codes "r") ∷ []

-- from n2 to n7 and n8, and from n3 to n8; with r, and the same with s
abbrev pub each_kind : List (EdgeId × EdgeRow)
each_kind = edge 1 2 7 (codes "r") ∷ edge 2 2 8 (codes "r") ∷ edge 3 3 8 (codes "r") ∷ []

abbrev pub each_kind_twice : List (EdgeId × EdgeRow)
each_kind_twice =
    edge 1 2 7 (codes "r") ∷ edge 2 2 8 (codes "r") ∷ edge 3 3 8 (codes "r") ∷ edge 4 2 7 (codes "s") ∷ edge 5 2 8 (codes "s")
    ∷ edge 6 3 8 (codes "s") ∷ []
