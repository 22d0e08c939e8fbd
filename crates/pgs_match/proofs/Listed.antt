-- An edge of a graph is listed among those at its ends, and what is listed there has the node as that end.
use Rattle.std.proofs.Common.{◌≡◌, Bool, true, false, cond, List, [], ◌∷◌, filter, Some, refl, sym, ◌∙◌, ap}
use Rattle.std.specs.List.{list_any}
use Rattle.std.specs.Map.{keys_of, lookup}
use Rattle.std.specs.BTreeMap.{is_at}
use Rattle.std.specs.Cmp.{Equal-is}
use Rattle.std.proofs.lemmas.Bool.{or_left, or_right, eq-eqb}
use Rattle.std.proofs.lemmas.Map.Lookups.{exact_unsigned}
use Rattle.pgs_base.specs.declared.element.NodeId.{NodeId}
use Rattle.pgs_base.specs.declared.element.EdgeId.{EdgeId}
use Rattle.pgs_base.specs.declared.row.EdgeRow.{EdgeRow}
use Rattle.pgs_base.specs.Graph.{Graph, edge_cmp, edge_at}
use Rattle.pgs_graph.specs.declared.scan.End.{End}
use Rattle.pgs_graph.specs.declared.scan.End.TheVariants.{Source, Target}
use Rattle.pgs_graph.specs.Reads.{end_of, ends_at, edges_with, out_edges_of, in_edges_of}

pub same_edge : (a b : EdgeId) → is_at (edge_cmp a) b ≡ true → a ≡ b
same_edge a b h = ap (λ n. record { 0 = n }) (exact_unsigned a.0 b.0 ((Equal-is (edge_cmp a b)).0 h))

-- a test that the edge of a look-up passes is passed by one of the edges at its end
pub any_listed : (end : End) (node : NodeId) (id : EdgeId) (row : EdgeRow) (test : EdgeId → Bool) (edges : List (EdgeId × EdgeRow)) → lookup (is_at (edge_cmp id)) edges ≡ Some row →
    end_of end row ≡ node → test id ≡ true → list_any test (edges_with end node edges) ≡ true
any_listed end node id row test [] found at passes = cc
any_listed end node id row test (edge ∷ edges) found at passes = by (is_at (edge_cmp id) edge.0) refl found (λ later. any_listed end node id row test edges later at passes)
  where
    keeps : (b : Bool) → ends_at end node edge ≡ b → list_any test (edges_with end node edges) ≡ true → list_any test (keys_of (cond b (edge ∷ filter (ends_at end node) edges) (filter (ends_at end node) edges))) ≡ true
    keeps true e rest = or_right (test edge.0) _ rest
    keeps false e rest = rest

    by : (b : Bool) → is_at (edge_cmp id) edge.0 ≡ b → cond b (Some edge.1) (lookup (is_at (edge_cmp id)) edges) ≡ Some row →
        (lookup (is_at (edge_cmp id)) edges ≡ Some row → list_any test (edges_with end node edges) ≡ true) → list_any test (edges_with end node (edge ∷ edges)) ≡ true
    by true own here rest =
        let same : edge.1 ≡ row = cc in
        let number = same_edge id edge.0 own in
        let ends : ends_at end node edge ≡ true = eq-eqb (end_of end edge.1).0 node.0 (ap (λ (r : EdgeRow). (end_of end r).0) same ∙ ap (λ (n : NodeId). n.0) at) in
        ap (λ t. list_any test (keys_of (cond t (edge ∷ filter (ends_at end node) edges) (filter (ends_at end node) edges)))) ends
        ∙ or_left (test edge.0) _ (ap test (sym number) ∙ passes)
    by false own later rest = keeps (ends_at end node edge) refl (rest later)

module _ (g : Graph) (id : EdgeId) (row : EdgeRow) (at : edge_at g id ≡ Some row) (test : EdgeId → Bool) (passes : test id ≡ true) where
  pub any_along : (forward : Bool) (node : NodeId) → cond forward row.source row.target ≡ node → list_any test (cond forward (out_edges_of g node) (in_edges_of g node)) ≡ true
  any_along true node same = any_listed Source node id row test g.edges at same passes
  any_along false node same = any_listed Target node id row test g.edges at same passes
