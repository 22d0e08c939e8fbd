-- The elements of a match are elements of the graph, each of the kind of its variable.
use Rattle.std.proofs.Common.{◌≡◌, ℕ, zero, suc, ◌+◌, ◌<◌, add-zero, Bool, true, false, ◌||◌, cond, not, List, [], ◌∷◌, length, slice_get, Option, Some, None, refl, sym, ◌∙◌, ap, subst, true≢false, arith}
use Rattle.std.specs.List.{list_any}
use Rattle.std.specs.Map.{lookup}
use Rattle.std.specs.Option.{option_map_or}
use Rattle.std.specs.BTreeMap.{is_at}
use Rattle.std.proofs.lemmas.Bool.{and_parts, and_from}
use Rattle.pgs_base.specs.declared.element.NodeId.{NodeId}
use Rattle.pgs_base.specs.declared.element.EdgeId.{EdgeId}
use Rattle.pgs_base.specs.declared.element.Elem.{Elem}
use Rattle.pgs_base.specs.declared.element.Elem.TheVariants.{Node, Edge}
use Rattle.pgs_base.specs.declared.row.NodeRow.{NodeRow}
use Rattle.pgs_base.specs.declared.row.EdgeRow.{EdgeRow}
use Rattle.pgs_base.specs.Graph.{Graph, node_cmp, edge_cmp, node_at, edge_at}
use Rattle.pgs_syntax.specs.Matches.{same_elem, elements, are_there}
use Rattle.pgs_syntax.specs.Valid.{is_edge_var, is_node_var}
use Rattle.pgs_syntax.proofs.Halves.{any_map}

-- ---- a list by a function of the place

abbrev pub listing : (ℕ → Elem) → ℕ → List Bool → List Elem
listing f start [] = []
listing f start (k ∷ ks) = f start ∷ listing f (suc start) ks

pub listing_at : (f : ℕ → Elem) (start : ℕ) (kinds : List Bool) (var : ℕ) → var < length kinds → slice_get (listing f start kinds) var ≡ Some (f (start + var))
listing_at f start [] var below = absurd (omega arith)
listing_at f start (k ∷ ks) zero below = ap (λ i. Some (f i)) (sym (add-zero start))
listing_at f start (k ∷ ks) (suc var) below =
    let same : suc start + var ≡ start + suc var = omega arith in listing_at f (suc start) ks var (omega arith) ∙ ap (λ i. Some (f i)) same

-- ---- look-ups

module _ {K V : Type 0} (test : K → Bool) where
  pub looked_up : (es : List (K × V)) → list_any (λ (e : K × V). test e.0) es ≡ true → (v : V) × (lookup test es ≡ Some v)
  looked_up [] h = absurd (true≢false (sym h))
  looked_up (e ∷ es) h = by (test e.0) refl h (looked_up es)
    where
      by : (b : Bool) → test e.0 ≡ b → (b || list_any (λ (x : K × V). test x.0) es) ≡ true → (list_any (λ (x : K × V). test x.0) es ≡ true → (v : V) × (lookup test es ≡ Some v)) →
          (v : V) × (cond b (Some e.1) (lookup test es) ≡ Some v)
      by true own there rest = (e.1, refl)
      by false own there rest = rest there

  pub any_looked_up : (es : List (K × V)) (v : V) → lookup test es ≡ Some v → list_any (λ (e : K × V). test e.0) es ≡ true
  any_looked_up [] v h = cc
  any_looked_up (e ∷ es) v h = by (test e.0) refl h (any_looked_up es v)
    where
      by : (b : Bool) → test e.0 ≡ b → cond b (Some e.1) (lookup test es) ≡ Some v → (lookup test es ≡ Some v → list_any (λ (x : K × V). test x.0) es ≡ true) →
          (b || list_any (λ (x : K × V). test x.0) es) ≡ true
      by true own found rest = refl
      by false own found rest = rest found

-- ---- kinds

pub edge_kind : (edge_vars : List Bool) (var : ℕ) → is_edge_var edge_vars var ≡ true → slice_get edge_vars var ≡ Some true
edge_kind edge_vars var h = by (slice_get edge_vars var) refl
  where
    by : (o : Option Bool) → slice_get edge_vars var ≡ o → o ≡ Some true
    by None e = absurd (true≢false (sym h ∙ ap (λ (p : Option Bool). option_map_or (λ is_edge. is_edge) p false) e))
    by (Some true) e = refl
    by (Some false) e = absurd (true≢false (sym h ∙ ap (λ (p : Option Bool). option_map_or (λ is_edge. is_edge) p false) e))

pub node_kind : (edge_vars : List Bool) (var : ℕ) → is_node_var edge_vars var ≡ true → slice_get edge_vars var ≡ Some false
node_kind edge_vars var h = by (slice_get edge_vars var) refl
  where
    by : (o : Option Bool) → slice_get edge_vars var ≡ o → o ≡ Some false
    by None e = absurd (true≢false (sym h ∙ ap (λ (p : Option Bool). option_map_or not p false) e))
    by (Some false) e = refl
    by (Some true) e = absurd (true≢false (sym h ∙ ap (λ (p : Option Bool). option_map_or not p false) e))

pub no_two_kinds : (edge_vars : List Bool) (var : ℕ) → is_edge_var edge_vars var ≡ true → is_node_var edge_vars var ≡ true → ⊥
no_two_kinds edge_vars var edge node = let e = edge_kind edge_vars var edge in let n = node_kind edge_vars var node in let same : Some true ≡ Some false = sym e ∙ n in cc

-- ---- elements of a graph, by their kind

module _ (g : Graph) where
  abbrev pub IsOfKind : Bool → Elem → Type 0
  IsOfKind true elem = (id : EdgeId) × (row : EdgeRow) × (elem ≡ Edge id) × (edge_at g id ≡ Some row)
  IsOfKind false elem = (id : NodeId) × (row : NodeRow) × (elem ≡ Node id) × (node_at g id ≡ Some row)

  no_node : (id : NodeId) (edges : List (EdgeId × EdgeRow)) → list_any (λ (edge : EdgeId × EdgeRow). same_elem (Node id) (Edge edge.0)) edges ≡ true → ⊥
  no_node id [] h = true≢false (sym h)
  no_node id (edge ∷ edges) h = no_node id edges h

  no_edge : (id : EdgeId) (nodes : List (NodeId × NodeRow)) → list_any (λ (node : NodeId × NodeRow). same_elem (Edge id) (Node node.0)) nodes ≡ true → ⊥
  no_edge id [] h = true≢false (sym h)
  no_edge id (node ∷ nodes) h = no_edge id nodes h

  pub of_kind : (kind : Bool) (elem : Elem) → list_any (same_elem elem) (elements g kind) ≡ true → IsOfKind kind elem
  of_kind true (Edge id) h =
      let found = looked_up (is_at (edge_cmp id)) g.edges (sym (any_map (same_elem (Edge id)) (λ (edge : EdgeId × EdgeRow). Edge edge.0) g.edges) ∙ h) in
      (id, found.0, refl, found.1)
  of_kind true (Node id) h = absurd (no_node id g.edges (sym (any_map (same_elem (Node id)) (λ (edge : EdgeId × EdgeRow). Edge edge.0) g.edges) ∙ h))
  of_kind false (Node id) h =
      let found = looked_up (is_at (node_cmp id)) g.nodes (sym (any_map (same_elem (Node id)) (λ (node : NodeId × NodeRow). Node node.0) g.nodes) ∙ h) in
      (id, found.0, refl, found.1)
  of_kind false (Edge id) h = absurd (no_edge id g.nodes (sym (any_map (same_elem (Edge id)) (λ (node : NodeId × NodeRow). Node node.0) g.nodes) ∙ h))

  pub edge_there : (id : EdgeId) (row : EdgeRow) → edge_at g id ≡ Some row → list_any (same_elem (Edge id)) (elements g true) ≡ true
  edge_there id row at =
      any_map (same_elem (Edge id)) (λ (edge : EdgeId × EdgeRow). Edge edge.0) g.edges ∙ any_looked_up (is_at (edge_cmp id)) g.edges row at

  pub node_there : (id : NodeId) (row : NodeRow) → node_at g id ≡ Some row → list_any (same_elem (Node id)) (elements g false) ≡ true
  node_there id row at =
      any_map (same_elem (Node id)) (λ (node : NodeId × NodeRow). Node node.0) g.nodes ∙ any_looked_up (is_at (node_cmp id)) g.nodes row at

  -- ---- all elements of an assignment

  pub there_size : (kinds : List Bool) (elems : List Elem) → are_there g kinds elems ≡ true → length elems ≡ length kinds
  there_size [] [] h = refl
  there_size [] (x ∷ xs) h = absurd (true≢false (sym h))
  there_size (k ∷ ks) [] h = absurd (true≢false (sym h))
  there_size (k ∷ ks) (x ∷ xs) h = ap suc (there_size ks xs (and_parts _ _ h).1)

  pub there_at : (kinds : List Bool) (elems : List Elem) (var : ℕ) (kind : Bool) → are_there g kinds elems ≡ true → slice_get kinds var ≡ Some kind →
      (elem : Elem) × (slice_get elems var ≡ Some elem) × IsOfKind kind elem
  there_at [] elems var kind h at = cc
  there_at (k ∷ ks) [] var kind h at = absurd (true≢false (sym h))
  there_at (k ∷ ks) (x ∷ xs) zero kind h at = (x, refl, let same : k ≡ kind = cc in subst (λ z. IsOfKind z x) same (of_kind k x (and_parts _ _ h).0))
  there_at (k ∷ ks) (x ∷ xs) (suc var) kind h at = there_at ks xs var kind (and_parts _ _ h).1 at

  pub there_from : (f : ℕ → Elem) (start : ℕ) (kinds : List Bool) →
      ((var : ℕ) (kind : Bool) → slice_get kinds var ≡ Some kind → list_any (same_elem (f (start + var))) (elements g kind) ≡ true) → are_there g kinds (listing f start kinds) ≡ true
  there_from f start [] h = refl
  there_from f start (k ∷ ks) h =
      and_from _ _ (subst (λ i. list_any (same_elem (f i)) (elements g k) ≡ true) (add-zero start) (h 0 k refl))
      (there_from f (suc start) ks (λ var kind at. subst (λ i. list_any (same_elem (f i)) (elements g kind) ≡ true) (omega arith) (h (suc var) kind at)))
