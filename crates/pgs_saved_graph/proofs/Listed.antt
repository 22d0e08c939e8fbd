-- Entries that ascend, read one by one under their keys.
use Rattle.std.proofs.Common.{◌≡◌, ℕ, zero, suc, ◌+◌, ◌<◌, true, List, [], ◌∷◌, ◌++◌, length, take, get_or, Some, None, refl, sym, ◌∙◌, ap, arith, Ordering}
use Rattle.std.specs.Cmp.{IsTotalOrder, nat_cmp_total, on_total}
use Rattle.std.specs.List.Sorted.{IsStrictlySortedBy}
use Rattle.std.specs.Map.{keys_of, lookup}
use Rattle.std.specs.BTreeMap.{is_at}
use Rattle.std.proofs.lemmas.List.{take_more}
use Rattle.std.proofs.lemmas.Map.Entries.{length-keys_of}
use Rattle.pgs_base.specs.declared.element.NodeId.{NodeId}
use Rattle.pgs_base.specs.declared.element.EdgeId.{EdgeId}
use Rattle.pgs_base.specs.Graph.{Graph, node_cmp, edge_cmp, is_graph}
use Rattle.pgs_base.proofs.Ascending.{ascends_decides}
use Rattle.pgs_base.proofs.Graphs.{graph_parts}
use Rattle.pgs_base.proofs.Lookups.{found_at_place}

key_at : {K V : Type 0} (es : List (K × V)) (place : ℕ) (e : K × V) → get_or (keys_of es) place e.0 ≡ (get_or es place e).0
key_at [] place e = refl
key_at (first ∷ es) zero e = refl
key_at (first ∷ es) (suc place) e = key_at es place e

module _ {K V : Type 0} {cmp : K → K → Ordering} (total : IsTotalOrder cmp) (es : List (K × V)) (sorted : IsStrictlySortedBy cmp (keys_of es))
    (ids : List K) (are : ids ≡ keys_of es) (place : ℕ) (within : place < length ids) (d : K) where
  inside : place < length es
  inside = omega (arith, within, ap length are, length-keys_of es)

  key_is : (e : K × V) → e.0 ≡ d → get_or ids place d ≡ (get_or es place e).0
  key_is e is = ap (λ (ks : List K). get_or ks place d) are ∙ (ap (get_or (keys_of es) place) (sym is) ∙ key_at es place e)

  under : (e : K × V) → e.0 ≡ d → lookup (is_at (cmp (get_or ids place d))) es ≡ Some (get_or es place e).1
  under e is = ap (λ (k : K). lookup (is_at (cmp k)) es) (key_is e is) ∙ found_at_place total es sorted place e inside

  -- under the key at a place there is something
  found : (fs : List (K × V)) → fs ≡ es → lookup (is_at (cmp (get_or ids place d))) es ≡ None → ⊥
  found [] is none = let none_there = ap length is in absurd (omega (arith, none_there, inside))
  found (f ∷ fs) is none = let some = under (d, f.1) refl in cc

  pub is_there : lookup (is_at (cmp (get_or ids place d))) es ≡ None → ⊥
  is_there = found es refl

  -- and with it the entries before are one more
  pub one_more : (v : V) → lookup (is_at (cmp (get_or ids place d))) es ≡ Some v → take (place + 1) es ≡ take place es ++ (get_or ids place d, v) ∷ []
  one_more v is =
      let here = under (d, v) refl in
      let value : (get_or es place (d, v)).1 ≡ v = cc in
      take_more es place (d, v) inside
      ∙ ap (λ (e : K × V). take place es ++ e ∷ [])
      (ap (λ (k : K). let pair : K × V = (k, (get_or es place (d, v)).1) in pair) (sym (key_is (d, v) refl))
      ∙ ap (λ (w : V). let pair : K × V = (get_or ids place d, w) in pair) value)

module _ (g : Graph) (graph : is_graph g ≡ true) where
  pub nodes_sorted : IsStrictlySortedBy node_cmp (keys_of g.nodes)
  nodes_sorted = (ascends_decides node_cmp (keys_of g.nodes)).0 (graph_parts g graph).node_order

  pub edges_sorted : IsStrictlySortedBy edge_cmp (keys_of g.edges)
  edges_sorted = (ascends_decides edge_cmp (keys_of g.edges)).0 (graph_parts g graph).edge_order

pub node_total : IsTotalOrder node_cmp
node_total = on_total (λ (id : NodeId). id.0) nat_cmp_total

pub edge_total : IsTotalOrder edge_cmp
edge_total = on_total (λ (id : EdgeId). id.0) nat_cmp_total
