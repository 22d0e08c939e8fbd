-- The types that an element fits, by the pair of a node and by the triple of an edge.
use Rattle.std.proofs.Common.{◌≡◌, ℕ, zero, suc, ◌<◌, Bool, true, false, cond, List, [], ◌∷◌, filter, get_or, length, Option, Some, None, Result, IfOk, refl, ◌∙◌, ap, ap₂, subst, arith}
use Rattle.std.specs.Prelude.{option_and_then}
use Rattle.std.specs.List.{list_all}
use Rattle.std.specs.Option.{option_map_or}
use Rattle.std.proofs.lemmas.Bool.{and_parts}
use Rattle.pgs_base.specs.declared.element.NodeId.{NodeId}
use Rattle.pgs_base.specs.declared.element.EdgeId.{EdgeId}
use Rattle.pgs_base.specs.declared.element.Elem.TheVariants as elems
use Rattle.pgs_base.specs.declared.row.NodeRow.{NodeRow}
use Rattle.pgs_base.specs.declared.row.EdgeRow.{EdgeRow}
use Rattle.pgs_base.specs.Graph.{Graph, node_at, edge_at}
use Rattle.pgs_base.specs.Pair.{pair_of}
use Rattle.pgs_conform.specs.Shapes.{triple_of}
use Rattle.pgs_syntax.specs.declared.resolved.Resolved.{Resolved}
use Rattle.pgs_syntax.specs.declared.resolved.TypeNo.{TypeNo}
use Rattle.pgs_syntax.specs.declared.resolved.TypeNo.TheVariants.{Node, Edge}
use Rattle.pgs_syntax.specs.Typed.{triple_at}
use Rattle.pgs_syntax.specs.Valid.{is_type, is_valid}
use Rattle.pgs_store.specs.Explained.{fits_type, types_of}
use Rattle.pgs_store.specs.Fits.{fits_as_node, fits_as_edge, edge_types_of}

-- an answer that is one thing is one that is the same thing
pub ok_same : {X E : Type 0} (r : Result X E) (x y : X) → x ≡ y → IfOk r (λ given. given ≡ x) → IfOk r (λ given. given ≡ y)
ok_same r x y same h = subst (λ z. IfOk r (λ given. given ≡ z)) same h

each_passes : {X : Type 0} (test : X → Bool) (xs : List X) (i : ℕ) (d : X) → list_all test xs ≡ true → i < length xs → test (get_or xs i d) ≡ true
each_passes test [] i d all below = absurd (omega arith)
each_passes test (x ∷ xs) zero d all below = (and_parts _ _ all).0
each_passes test (x ∷ xs) (suc i) d all below = each_passes test xs i d (and_parts _ _ all).1 (omega arith)

-- the types of a valid schema's guard are there
pub type_there : (resolved : Resolved) → is_valid resolved ≡ true → (types : List TypeNo) → types ≡ resolved.guard.types → (place : ℕ) → place < length types
    → (d : TypeNo) → is_type resolved (get_or types place d) ≡ true
type_there resolved valid types same place below d =
    each_passes (is_type resolved) types place d
    (ap (list_all (is_type resolved)) same ∙ (and_parts _ _ (and_parts _ _ (and_parts _ _ valid).0).0).1) below

none_pass : {X : Type 0} (full : X → Bool) (xs : List X) → ((x : X) → full x ≡ false) → filter full xs ≡ []
none_pass full [] fails = refl
none_pass full (x ∷ xs) fails = ap (λ b. cond b (x ∷ filter full xs) (filter full xs)) (fails x) ∙ none_pass full xs fails

same_pass : {X : Type 0} (full test : X → Bool) (xs : List X) → ((x : X) → full x ≡ test x) → filter full xs ≡ filter test xs
same_pass full test [] same = refl
same_pass full test (x ∷ xs) same = ap₂ (λ b ys. cond b (x ∷ ys) ys) (same x) (same_pass full test xs same)

-- a test of what may be there lets through what the test of what is there does
there_pass : {P X : Type 0} (test : P → X → Bool) (full : X → Bool) (o : Option P) (xs : List X)
    → ((x : X) → full x ≡ option_map_or (λ p. test p x) o false) → filter full xs ≡ option_map_or (λ p. filter (test p) xs) o []
there_pass test full None xs same = none_pass full xs same
there_pass test full (Some p) xs same = same_pass full (test p) xs same

never : {P : Type 0} (o : Option P) → false ≡ option_map_or (λ p. false) o false
never None = refl
never (Some p) = refl

module _ (resolved : Resolved) (g : Graph) where
  as_node : (id : NodeId) (type_no : TypeNo) → fits_type resolved g (elems.Node id) type_no ≡ option_map_or (λ p. fits_as_node resolved p type_no) (node_at g id) false
  as_node id (Node number) = refl
  as_node id (Edge number) = never (node_at g id)

  pub types_of_node : (id : NodeId) → types_of resolved g (elems.Node id) ≡ option_map_or (λ p. filter (fits_as_node resolved p) resolved.guard.types) (node_at g id) []
  types_of_node id = there_pass (fits_as_node resolved) (fits_type resolved g (elems.Node id)) (node_at g id) resolved.guard.types (as_node id)

  pub of_ends : (row : EdgeRow) (source target : NodeRow) → node_at g row.source ≡ Some source → node_at g row.target ≡ Some target
      → filter (fits_as_edge resolved (triple_of source (pair_of row.labels row.props) target)) resolved.guard.types ≡ edge_types_of resolved g row
  of_ends row source target from to = rw (from, to) refl

  as_edge : (id : EdgeId) (type_no : TypeNo)
      → fits_type resolved g (elems.Edge id) type_no ≡ option_map_or (λ t. fits_as_edge resolved t type_no) (option_and_then (triple_at g) (edge_at g id)) false
  as_edge id (Node number) = never (option_and_then (triple_at g) (edge_at g id))
  as_edge id (Edge number) = refl

  in_row : (o : Option EdgeRow) → option_map_or (λ t. filter (fits_as_edge resolved t) resolved.guard.types) (option_and_then (triple_at g) o) []
      ≡ option_map_or (edge_types_of resolved g) o []
  in_row None = refl
  in_row (Some row) = refl

  pub types_of_edge : (id : EdgeId) → types_of resolved g (elems.Edge id) ≡ option_map_or (edge_types_of resolved g) (edge_at g id) []
  types_of_edge id =
      there_pass (fits_as_edge resolved) (fits_type resolved g (elems.Edge id)) (option_and_then (triple_at g) (edge_at g id)) resolved.guard.types (as_edge id)
      ∙ in_row (edge_at g id)
