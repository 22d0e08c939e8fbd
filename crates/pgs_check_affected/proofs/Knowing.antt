-- What is known of the elements of a sound delta is a change.
use Rattle.std.proofs.Common.{◌≡◌, ℕ, zero, suc, ◌+◌, ◌<◌, true, List, [], ◌∷◌, ◌++◌, Option, length, get_or, map, refl, sym, ◌∙◌, ap, subst, arith}
use Rattle.std.specs.Map.{keys_of}
use Rattle.std.proofs.lemmas.Bool.{or_left, or_right}
use Rattle.std.proofs.lemmas.List.{length-append}
use Rattle.pgs_base.specs.declared.element.NodeId.{NodeId}
use Rattle.pgs_base.specs.declared.element.EdgeId.{EdgeId}
use Rattle.pgs_base.specs.declared.element.Elem.{Elem}
use Rattle.pgs_base.specs.declared.element.Elem.TheVariants.{Node, Edge}
use Rattle.pgs_base.specs.declared.row.NodeRow.{NodeRow}
use Rattle.pgs_base.specs.declared.row.EdgeRow.{EdgeRow}
use Rattle.pgs_base.specs.Graph.{Graph, is_graph}
use Rattle.pgs_graph.specs.declared.delta.Delta.{Delta}
use Rattle.pgs_graph.specs.Changed.{changed, is_sound}
use Rattle.pgs_graph.proofs.Deltas.{changed_graph}
use Rattle.pgs_syntax.specs.Matches.{same_elem}
use Rattle.pgs_check_affected.specs.declared.known.Known.{Known}
use Rattle.pgs_check_affected.specs.Changes.{elems_of, known_in, IsChange}
use Rattle.pgs_check_affected.specs.Local.{is_one_of, AgreeBut}
use Rattle.pgs_check_affected.proofs.Loops.{map_append}
use Rattle.pgs_check_affected.proofs.Touching.{changed_agrees, elems_ascend, itself}

-- how many elements a delta has
mapped_size : {K V : Type 0} (f : K → Elem) (rows : List (K × V)) → length (map f (keys_of rows)) ≡ length rows
mapped_size f [] = refl
mapped_size f (row ∷ rows) = ap suc (mapped_size f rows)

pub elems_size : (delta : Delta) → length (elems_of delta) ≡ length delta.nodes + length delta.edges
elems_size delta =
    let all = length-append (map (λ id. Node id) (keys_of delta.nodes)) (map (λ id. Edge id) (keys_of delta.edges)) in
    let first = mapped_size (λ id. Node id) delta.nodes in
    let second = mapped_size (λ id. Edge id) delta.edges in
    omega (arith, all, first, second)

module _ (g h : Graph) where
  pub of_nodes : {R : Type 0} (nodes : List (NodeId × Option R)) →
      map (λ (node : NodeId × Option R). known_in g h (Node node.0)) nodes ≡ map (known_in g h) (map (λ id. Node id) (keys_of nodes))
  of_nodes [] = refl
  of_nodes (node ∷ nodes) = ap (λ rest. known_in g h (Node node.0) ∷ rest) (of_nodes nodes)

  pub of_edges : {R : Type 0} (edges : List (EdgeId × Option R)) →
      map (λ (edge : EdgeId × Option R). known_in g h (Edge edge.0)) edges ≡ map (known_in g h) (map (λ id. Edge id) (keys_of edges))
  of_edges [] = refl
  of_edges (edge ∷ edges) = ap (λ rest. known_in g h (Edge edge.0) ∷ rest) (of_edges edges)

  -- the elements of what is known
  pub known_elems : (elems : List Elem) → map (λ (known : Known). known.elem) (map (known_in g h) elems) ≡ elems
  known_elems [] = refl
  known_elems (elem ∷ elems) = ap (λ rest. elem ∷ rest) (known_elems elems)

  pub known_all : (delta : Delta) (known : List Known) →
      known ≡ map (known_in g h) (map (λ id. Node id) (keys_of delta.nodes)) ++ map (known_in g h) (map (λ id. Edge id) (keys_of delta.edges)) →
      known ≡ map (known_in g h) (elems_of delta)
  known_all delta known is =
      is ∙ sym (map_append (known_in g h) (map (λ id. Node id) (keys_of delta.nodes)) (map (λ id. Edge id) (keys_of delta.edges)))

  pub known_added : (delta : Delta) (nodes : List (NodeId × Option NodeRow)) (edges : List (EdgeId × Option EdgeRow)) (start first second known : List Known) → nodes ≡ delta.nodes → edges ≡ delta.edges →
      start ≡ [] → first ≡ start ++ map (known_in g h) (map (λ id. Node id) (keys_of nodes)) → second ≡ first ++ map (known_in g h) (map (λ id. Edge id) (keys_of edges)) → known ≡ second →
      known ≡ map (known_in g h) (elems_of delta)
  known_added delta nodes edges start first second known n e none one two is =
      known_all delta known
      (is ∙ two ∙ ap (λ xs. first ++ map (known_in g h) (map (λ id. Edge id) (keys_of xs))) e
      ∙ ap (λ xs. xs ++ map (known_in g h) (map (λ id. Edge id) (keys_of delta.edges)))
      (one ∙ ap (λ xs. xs ++ map (known_in g h) (map (λ id. Node id) (keys_of nodes))) none ∙ ap (λ xs. map (known_in g h) (map (λ id. Node id) (keys_of xs))) n))

  pub is_change : (delta : Delta) (known : List Known) → is_graph g ≡ true → is_sound g delta ≡ true → h ≡ changed g delta → known ≡ map (known_in g h) (elems_of delta) →
      IsChange g h (map (λ (known : Known). known.elem) known) known
  is_change delta known graph sound after is =
      subst (λ elems. IsChange g h elems known) (sym (ap (map (λ (one : Known). one.elem)) is ∙ known_elems (elems_of delta)))
      (record {
        before = graph;
        after = ap is_graph after ∙ changed_graph g delta sound;
        ascending = elems_ascend delta g sound;
        rows = is;
        agree = subst (λ other. AgreeBut (is_one_of (elems_of delta)) g other) (sym after) (changed_agrees delta g graph sound);
      })

  -- one of what is known
  pub known_at : (elems : List Elem) (i : ℕ) (known : Known) → i < length (map (known_in g h) elems) → get_or (map (known_in g h) elems) i known ≡ known → known ≡ known_in g h known.elem
  known_at [] i known below is = absurd (omega arith)
  known_at (elem ∷ elems) zero known below is = subst (λ (one : Known). one ≡ known_in g h one.elem) is refl
  known_at (elem ∷ elems) (suc i) known below is = known_at elems i known (omega arith) is

-- its element is one of all
pub elem_own : (known : List Known) (i : ℕ) (one : Known) → i < length known → get_or known i one ≡ one → is_one_of (map (λ (k : Known). k.elem) known) one.elem ≡ true
elem_own [] i one below is = absurd (omega arith)
elem_own (k ∷ ks) zero one below is =
    or_left (same_elem one.elem k.elem) _ (ap (λ (known : Known). same_elem one.elem known.elem) is ∙ itself one.elem)
elem_own (k ∷ ks) (suc i) one below is = or_right (same_elem one.elem k.elem) _ (elem_own ks i one (omega arith) is)
