-- The lists of types, one type after another: each denotes what its type asks.
use Rattle.std.proofs.Common.{◌≡◌, ℕ, zero, suc, ◌+◌, ◌<◌, Bool, true, List, [], ◌∷◌, ◌++◌, length, get_or, slice_get, Some, refl, sym, ◌∙◌, ap, subst, arith, ◌⊎◌, inl, inr, ⊎_elim}
use Rattle.std.proofs.lemmas.Bool.{and_parts}
use Rattle.std.proofs.lemmas.Option.{slice_get_read}
use Rattle.pgs_base.specs.declared.row.NodeRow.{NodeRow}
use Rattle.pgs_syntax.specs.declared.element_type.NodeType.{NodeType}
use Rattle.pgs_syntax.specs.declared.element_type.EdgeType.{EdgeType}
use Rattle.pgs_syntax.specs.declared.resolved.Resolved.{Resolved}
use Rattle.pgs_syntax.specs.declared.specification.Leaf.{Leaf}
use Rattle.pgs_syntax.specs.Fitting.{suits, fits_node, fits_edge, fits_edge_type}
use Rattle.pgs_syntax.specs.Join.{of_pairs, PairTriple}
use Rattle.pgs_syntax.specs.Valid.{is_valid, is_valid_spec, are_valid_nodes, are_valid_edges}
use Rattle.pgs_syntax.proofs.Named.{node_type_meant, edge_type_meant}
use Rattle.pgs_conform.specs.declared.shape.Shape.{Shape}
use Rattle.pgs_conform.specs.declared.shape.Triple.{Triple as ShapeTriple}
use Rattle.pgs_conform.specs.Shapes.{Denotes, DenotesTriples}
use Rattle.pgs_conform.specs.Standing.{EachDenotes, EachDenotesTriples}

-- ---- one list more

found_pushed : {X : Type 0} (xs : List X) (x y : X) (n : ℕ) → slice_get (xs ++ x ∷ []) n ≡ Some y → (slice_get xs n ≡ Some y) ⊎ ((n ≡ length xs) × (y ≡ x))
found_pushed [] x y zero e = inr (refl, cc)
found_pushed [] x y (suc n) e = cc
found_pushed (z ∷ zs) x y zero e = inl e
found_pushed (z ∷ zs) x y (suc n) e = ⊎_elim inl (λ last. inr ((let same : n ≡ length zs = last.0 in omega arith), last.1)) (found_pushed zs x y n e)

each_pushed : {X : Type 0} (D : X → ℕ → Type 0) (xs ys : List X) (x : X) → ((n : ℕ) (y : X) → slice_get xs n ≡ Some y → D y n) → D x (length xs) → ys ≡ xs ++ x ∷ [] →
    (n : ℕ) (y : X) → slice_get ys n ≡ Some y → D y n
each_pushed D xs ys x each own e n y at =
    ⊎_elim (each n y) (λ last. subst (λ m. D y m) (sym last.0) (subst (λ z. D z (length xs)) (sym last.1) own))
    (found_pushed xs x y n (ap (λ zs. slice_get zs n) (sym e) ∙ at))

-- ---- what a valid schema says of each type

valid_node : (first : ℕ) (types : List (NodeType Leaf)) (i : ℕ) (type : NodeType Leaf) → are_valid_nodes first types ≡ true → slice_get types i ≡ Some type →
    is_valid_spec (first + i) type.spec ≡ true
valid_node first [] i type valid at = cc
valid_node first (own ∷ types) zero type valid at =
    let same : own ≡ type = cc in
    let here : first + 0 ≡ first = omega arith in
    ap (λ n. is_valid_spec n type.spec) here ∙ ap (λ (t : NodeType Leaf). is_valid_spec first t.spec) (sym same) ∙ (and_parts _ _ valid).0
valid_node first (own ∷ types) (suc i) type valid at =
    let here : first + suc i ≡ (first + 1) + i = omega arith in
    ap (λ n. is_valid_spec n type.spec) here ∙ valid_node (first + 1) types i type (and_parts _ _ valid).1 at

record AreValid (nodes own : ℕ) (type : EdgeType Leaf) : Type 0 where
  pub source : is_valid_spec nodes type.source ≡ true
  pub middle : is_valid_spec own type.middle ≡ true
  pub target : is_valid_spec nodes type.target ≡ true

valid_edge : (nodes first : ℕ) (types : List (EdgeType Leaf)) (i : ℕ) (type : EdgeType Leaf) → are_valid_edges nodes first types ≡ true → slice_get types i ≡ Some type →
    AreValid nodes (first + i) type
valid_edge nodes first [] i type valid at = cc
valid_edge nodes first (own ∷ types) zero type valid at =
    let same : own ≡ type = cc in
    let here : first ≡ first + 0 = omega arith in
    let outer = and_parts _ _ valid in
    let parts = and_parts _ _ outer.0 in
    let inner = and_parts _ _ parts.0 in
    let own_valid : AreValid nodes first own = record { source = inner.0; middle = inner.1; target = parts.1 } in
    subst (λ n. AreValid nodes n type) here (subst (AreValid nodes first) same own_valid)
valid_edge nodes first (own ∷ types) (suc i) type valid at =
    let here : (first + 1) + i ≡ first + suc i = omega arith in
    subst (λ n. AreValid nodes n type) here (valid_edge nodes (first + 1) types i type (and_parts _ _ valid).1 at)

-- ---- node types

module _ (resolved : Resolved) (valid : is_valid resolved ≡ true) where
  all_valid : (are_valid_nodes 0 resolved.nodes ≡ true) × (are_valid_edges (length resolved.nodes) 0 resolved.edges ≡ true)
  all_valid = and_parts _ _ (and_parts _ _ (and_parts _ _ (and_parts _ _ (and_parts _ _ valid).0).0).0).0

  pub node_more : (nodes : List (NodeType Leaf)) (i : ℕ) (node : NodeType Leaf) (old new : List (List Shape)) (shapes : List Shape) → nodes ≡ resolved.nodes →
      i < length nodes → node ≡ get_or nodes i node → length old ≡ i → EachDenotes old (fits_node resolved) →
      (is_valid_spec (length old) node.spec ≡ true → (test : ℕ → NodeRow → Bool) → EachDenotes old test → Denotes shapes (suits of_pairs test node.spec)) →
      new ≡ old ++ shapes ∷ [] → EachDenotes new (fits_node resolved)
  node_more nodes i node old new shapes same lt is count each denotes e =
      let at : slice_get resolved.nodes i ≡ Some node = ap (λ ns. slice_get ns i) (sym same) ∙ slice_get_read nodes (length nodes) i node refl lt is in
      let here : length old ≡ 0 + i = omega arith in
      let own_valid = ap (λ n. is_valid_spec n node.spec) here ∙ valid_node 0 resolved.nodes i node all_valid.0 at in
      let own : Denotes shapes (fits_node resolved (length old)) =
      λ p pair. denotes own_valid (fits_node resolved) each p pair ∙ sym (node_type_meant resolved valid i node at p) ∙ ap (λ n. fits_node resolved n p) (sym count) in
      each_pushed (λ list n. Denotes list (fits_node resolved n)) old new shapes each own e

  -- ---- edge types

  pub edge_more : (nodes : List (List Shape)) (edges : List (EdgeType Leaf)) (i : ℕ) (edge : EdgeType Leaf) (old new : List (List ShapeTriple)) (triples : List ShapeTriple) →
      length nodes ≡ length resolved.nodes → EachDenotes nodes (fits_node resolved) → edges ≡ resolved.edges →
      i < length edges → edge ≡ get_or edges i edge → length old ≡ i → EachDenotesTriples old (fits_edge resolved) →
      (is_valid_spec (length nodes) edge.source ≡ true → is_valid_spec (length old) edge.middle ≡ true → is_valid_spec (length nodes) edge.target ≡ true →
      (schema : Resolved) → EachDenotes nodes (fits_node schema) → (test : ℕ → PairTriple → Bool) → EachDenotesTriples old test →
      DenotesTriples triples (fits_edge_type schema test edge)) →
      new ≡ old ++ triples ∷ [] → EachDenotesTriples new (fits_edge resolved)
  edge_more nodes edges i edge old new triples node_count node_each same lt is count each denotes e =
      let at : slice_get resolved.edges i ≡ Some edge = ap (λ es. slice_get es i) (sym same) ∙ slice_get_read edges (length edges) i edge refl lt is in
      let own_valid = valid_edge (length resolved.nodes) 0 resolved.edges i edge all_valid.1 at in
      let here : length old ≡ 0 + i = omega arith in
      let own : DenotesTriples triples (fits_edge resolved (length old)) =
      λ t pairs. denotes (ap (λ n. is_valid_spec n edge.source) node_count ∙ own_valid.source) (ap (λ n. is_valid_spec n edge.middle) here ∙ own_valid.middle)
      (ap (λ n. is_valid_spec n edge.target) node_count ∙ own_valid.target) resolved node_each (fits_edge resolved) each t pairs
      ∙ sym (edge_type_meant resolved valid i edge at t) ∙ ap (λ n. fits_edge resolved n t) (sym count) in
      each_pushed (λ list n. DenotesTriples list (fits_edge resolved n)) old new triples each own e
