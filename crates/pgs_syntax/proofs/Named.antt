-- In a valid schema the number of a type stands for what the type asks.
use Rattle.std.proofs.Common.{◌≡◌, ℕ, zero, suc, ◌+◌, ◌<◌, Bool, true, false, ◌||◌, ◌==◌, List, [], ◌∷◌, length, slice_get, Some, refl, sym, ◌∙◌, ap, subst, arith}
use Rattle.std.specs.Option.{option_map_or}
use Rattle.std.proofs.lemmas.Bool.{and_parts, eqb-true, eqb-false, ltb-true}
use Rattle.pgs_base.specs.declared.row.NodeRow.{NodeRow}
use Rattle.pgs_syntax.specs.declared.element_type.NodeType.{NodeType}
use Rattle.pgs_syntax.specs.declared.element_type.EdgeType.{EdgeType}
use Rattle.pgs_syntax.specs.declared.resolved.Resolved.{Resolved}
use Rattle.pgs_syntax.specs.declared.specification.Leaf.{Leaf}
use Rattle.pgs_syntax.specs.declared.specification.Leaf.TheVariants.{Label, Named}
use Rattle.pgs_syntax.specs.declared.specification.Spec as specs
use Rattle.pgs_syntax.specs.declared.specification.Spec.{Spec, Empty, Word, OpenLabels, And', Or', Opt', Row_of-Spec, end_of-Spec, more_of-Spec}
use Rattle.pgs_syntax.specs.Join.{Joins, of_pairs, of_triples, PairTriple, is_empty_pair}
use Rattle.pgs_syntax.specs.Fitting.{suits, suits_each, suits_some, fits, fits_below, fits_node, fits_edge_type, fits_edge_below, fits_edge, has_ends_of}
use Rattle.pgs_syntax.specs.Valid.{is_valid, is_valid_spec, are_valid_specs, are_valid_nodes, are_valid_edges}
use Rattle.pgs_syntax.proofs.Halves.{joined_same}

-- ---- only the numbers that a specification names matter

module _ {P : Type 0} (joins : Joins P) (f g : ℕ → P → Bool) (bound : ℕ) (same : (k : ℕ) → k < bound → (p : P) → f k p ≡ g k p) where
  mutual
    pub suits_below : (spec : Spec Leaf) → is_valid_spec bound spec ≡ true → (p : P) → suits joins f spec p ≡ suits joins g spec p
    suits_below Empty valid p = refl
    suits_below (Word (Label label)) valid p = refl
    suits_below (Word (Named number)) valid p = same number (ltb-true number bound valid) p
    suits_below OpenLabels valid p = refl
    suits_below (specs.Braces braces) valid p = refl
    suits_below (And' _ parts) valid p = each_below parts valid p
    suits_below (Or' _ parts) valid p = some_below parts valid p
    suits_below (Opt' _ part) valid p = ap (λ b. joins.asks is_empty_pair p || b) (some_below part valid p)

    each_below : {n : _} (parts : Row_of-Spec Leaf n) → are_valid_specs bound parts ≡ true → (p : P) → suits_each joins f parts p ≡ suits_each joins g parts p
    each_below end_of-Spec valid p = refl
    each_below (more_of-Spec part parts) valid p =
        joined_same joins _ _ (suits joins g part) (suits_each joins g parts)
        (suits_below part (and_parts _ _ valid).0) (each_below parts (and_parts _ _ valid).1) p

    some_below : {n : _} (parts : Row_of-Spec Leaf n) → are_valid_specs bound parts ≡ true → (p : P) → suits_some joins f parts p ≡ suits_some joins g parts p
    some_below end_of-Spec valid p = refl
    some_below (more_of-Spec part parts) valid p =
        ap (λ b. b || suits_some joins f parts p) (suits_below part (and_parts _ _ valid).0 p)
        ∙ ap (λ b. suits joins g part p || b) (some_below parts (and_parts _ _ valid).1 p)

-- ---- numbers below two bounds mean the same below both

there : {X : Type 0} (xs : List X) (i : ℕ) (x : X) → slice_get xs i ≡ Some x → i < length xs
there [] i x e = cc
there (y ∷ ys) zero x e = omega arith
there (y ∷ ys) (suc i) x e = let later : i < length ys = there ys i x e in omega arith

-- below any bound above it a number means its type, with the types before it
pub node_reached : (types : List (NodeType Leaf)) (bound number : ℕ) (type : NodeType Leaf) (p : NodeRow) → number < bound → slice_get types number ≡ Some type →
    fits_below types bound number p ≡ suits of_pairs (fits_below types number) type.spec p
node_reached types zero number type p below at = absurd (omega arith)
node_reached types (suc bound) number type p below at =
    by (number == bound) refl (λ earlier. node_reached types bound number type p earlier at)
  where
    by : (b : Bool) → (number == bound) ≡ b → (number < bound → fits_below types bound number p ≡ suits of_pairs (fits_below types number) type.spec p) →
        (elim b [
          | true ↦ option_map_or (λ (other : NodeType Leaf). suits of_pairs (fits_below types bound) other.spec p) (slice_get types bound) false
          | false ↦ fits_below types bound number p
        ]) ≡ suits of_pairs (fits_below types number) type.spec p
    by true same rest =
        let last : bound ≡ number = sym (eqb-true number bound same) in
        ap (λ n. option_map_or (λ (other : NodeType Leaf). suits of_pairs (fits_below types n) other.spec p) (slice_get types n) false) last
        ∙ ap (λ o. option_map_or (λ (other : NodeType Leaf). suits of_pairs (fits_below types number) other.spec p) o false) at
    by false other rest =
        let apart : number ≡ bound → ⊥ = eqb-false number bound other in rest (omega arith)

pub edge_reached : (resolved : Resolved) (bound number : ℕ) (type : EdgeType Leaf) (t : PairTriple) → number < bound → slice_get resolved.edges number ≡ Some type →
    fits_edge_below resolved bound number t ≡ fits_edge_type resolved (fits_edge_below resolved number) type t
edge_reached resolved zero number type t below at = absurd (omega arith)
edge_reached resolved (suc bound) number type t below at =
    by (number == bound) refl (λ earlier. edge_reached resolved bound number type t earlier at)
  where
    by : (b : Bool) → (number == bound) ≡ b → (number < bound → fits_edge_below resolved bound number t ≡ fits_edge_type resolved (fits_edge_below resolved number) type t) →
        (elim b [
          | true ↦ option_map_or (λ (other : EdgeType Leaf). fits_edge_type resolved (fits_edge_below resolved bound) other t) (slice_get resolved.edges bound) false
          | false ↦ fits_edge_below resolved bound number t
        ]) ≡ fits_edge_type resolved (fits_edge_below resolved number) type t
    by true same rest =
        let last : bound ≡ number = sym (eqb-true number bound same) in
        ap (λ n. option_map_or (λ (other : EdgeType Leaf). fits_edge_type resolved (fits_edge_below resolved n) other t) (slice_get resolved.edges n) false) last
        ∙ ap (λ o. option_map_or (λ (other : EdgeType Leaf). fits_edge_type resolved (fits_edge_below resolved number) other t) o false) at
    by false other rest =
        let apart : number ≡ bound → ⊥ = eqb-false number bound other in rest (omega arith)

-- ---- in a valid schema

some_at : {X : Type 0} (xs : List X) (i : ℕ) → i < length xs → (x : X) × (slice_get xs i ≡ Some x)
some_at [] i below = absurd (omega arith)
some_at (x ∷ xs) zero below = (x, refl)
some_at (x ∷ xs) (suc i) below = some_at xs i (omega arith)

valid_node : (first : ℕ) (types : List (NodeType Leaf)) (i : ℕ) (type : NodeType Leaf) → are_valid_nodes first types ≡ true → slice_get types i ≡ Some type →
    is_valid_spec (first + i) type.spec ≡ true
valid_node first [] i type valid at = cc
valid_node first (own ∷ types) zero type valid at =
    let same : first + 0 ≡ first = omega arith in rw same (ap (λ o. option_map_or (λ (t : NodeType Leaf). is_valid_spec first t.spec) o false) (sym at) ∙ (and_parts _ _ valid).0)
valid_node first (own ∷ types) (suc i) type valid at =
    let same : first + suc i ≡ (first + 1) + i = omega arith in rw same (valid_node (first + 1) types i type (and_parts _ _ valid).1 at)

valid_edge : (nodes first : ℕ) (types : List (EdgeType Leaf)) (i : ℕ) (type : EdgeType Leaf) → are_valid_edges nodes first types ≡ true → slice_get types i ≡ Some type →
    is_valid_spec (first + i) type.middle ≡ true
valid_edge nodes first [] i type valid at = cc
valid_edge nodes first (own ∷ types) zero type valid at =
    let same : first + 0 ≡ first = omega arith in
    rw same (ap (λ o. option_map_or (λ (t : EdgeType Leaf). is_valid_spec first t.middle) o false) (sym at) ∙ (and_parts _ _ (and_parts _ _ (and_parts _ _ valid).0).0).1)
valid_edge nodes first (own ∷ types) (suc i) type valid at =
    let same : first + suc i ≡ (first + 1) + i = omega arith in rw same (valid_edge nodes (first + 1) types i type (and_parts _ _ valid).1 at)

nodes_valid : (resolved : Resolved) → is_valid resolved ≡ true → are_valid_nodes 0 resolved.nodes ≡ true
nodes_valid resolved valid = (and_parts _ _ (and_parts _ _ (and_parts _ _ (and_parts _ _ (and_parts _ _ valid).0).0).0).0).0

edges_valid : (resolved : Resolved) → is_valid resolved ≡ true → are_valid_edges (length resolved.nodes) 0 resolved.edges ≡ true
edges_valid resolved valid = (and_parts _ _ (and_parts _ _ (and_parts _ _ (and_parts _ _ (and_parts _ _ valid).0).0).0).0).1

pub node_type_meant : (resolved : Resolved) → is_valid resolved ≡ true → (number : ℕ) (type : NodeType Leaf) → slice_get resolved.nodes number ≡ Some type →
    (p : NodeRow) → fits_node resolved number p ≡ fits resolved type.spec p
node_type_meant resolved valid number type at p =
    let below = there resolved.nodes number type at in
    let valid_here : is_valid_spec number type.spec ≡ true = subst (λ n. is_valid_spec n type.spec ≡ true) (omega arith) (valid_node 0 resolved.nodes number type (nodes_valid resolved valid) at) in
    node_reached resolved.nodes (length resolved.nodes) number type p below at
    ∙ suits_below of_pairs (fits_below resolved.nodes number) (fits_node resolved) number
    (λ k less q. let earlier = some_at resolved.nodes k (omega arith) in
    node_reached resolved.nodes number k earlier.0 q less earlier.1 ∙ sym (node_reached resolved.nodes (length resolved.nodes) k earlier.0 q (omega arith) earlier.1))
    type.spec valid_here p

pub edge_type_meant : (resolved : Resolved) → is_valid resolved ≡ true → (number : ℕ) (type : EdgeType Leaf) → slice_get resolved.edges number ≡ Some type →
    (t : PairTriple) → fits_edge resolved number t ≡ fits_edge_type resolved (fits_edge resolved) type t
edge_type_meant resolved valid number type at t =
    let below = there resolved.edges number type at in
    let valid_here : is_valid_spec number type.middle ≡ true = subst (λ n. is_valid_spec n type.middle ≡ true) (omega arith) (valid_edge (length resolved.nodes) 0 resolved.edges number type (edges_valid resolved valid) at) in
    edge_reached resolved (length resolved.edges) number type t below at
    ∙ joined_same of_triples _ _ (has_ends_of resolved type) _ (λ u. refl)
    (suits_below of_triples (fits_edge_below resolved number) (fits_edge resolved) number
    (λ k less u. let earlier = some_at resolved.edges k (omega arith) in
    edge_reached resolved number k earlier.0 u less earlier.1 ∙ sym (edge_reached resolved (length resolved.edges) k earlier.0 u (omega arith) earlier.1))
    type.middle valid_here) t
