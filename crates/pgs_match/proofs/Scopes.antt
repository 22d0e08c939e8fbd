-- The scope of a key has elements of one kind alone.
use Rattle.std.proofs.Common.{◌≡◌, ℕ, ◌<◌, ◌≤◌, Bool, true, false, not, cond, List, [], ◌∷◌, ◌++◌, map, filter, length, slice_get, append-nil, Option, Some, None, Result, Ok, Err, IfOk, refl, sym, ap, ◌∙◌, subst, true≢false, arith}
use Rattle.std.specs.Option.{option_map_or}
use Rattle.std.specs.Map.{keys_of}
use Rattle.std.specs.Cmp.{Equal-is}
use Rattle.std.proofs.lemmas.Bool.{and_parts, leb-true}
use Rattle.std.proofs.lemmas.List.Elements.{filter-append}
use Rattle.pgs_base.specs.declared.element.NodeId.{NodeId}
use Rattle.pgs_base.specs.declared.element.EdgeId.{EdgeId}
use Rattle.pgs_base.specs.declared.element.Elem.{Elem}
use Rattle.pgs_base.specs.declared.element.Elem.TheVariants.{Node, Edge}
use Rattle.pgs_base.specs.declared.row.NodeRow.{NodeRow}
use Rattle.pgs_base.specs.declared.row.EdgeRow.{EdgeRow}
use Rattle.pgs_base.specs.Graph.{Graph}
use Rattle.pgs_base.specs.Order.{elem_cmp}
use Rattle.pgs_base.specs.OrderLaws.{exact_elem}
use Rattle.pgs_syntax.specs.declared.key.Key.{Key}
use Rattle.pgs_syntax.specs.declared.pattern.Pattern.{Pattern}
use Rattle.pgs_syntax.specs.declared.resolved.Resolved.{Resolved}
use Rattle.pgs_syntax.specs.KeyValues.{starts_at, is_in_scope, scope_of}
use Rattle.pgs_syntax.specs.Matches.{same_elem, elements}
use Rattle.pgs_syntax.specs.Valid.{edge_count, is_edge_var, is_node_var, is_valid_pattern, is_valid_key}
use Rattle.pgs_syntax.proofs.Assigned.{match_found}
use Rattle.pgs_match.specs.Tests.{admitted, admitted_node, admitted_edge}
use Rattle.pgs_match.proofs.Started.{admitted_of_match}
use Rattle.pgs_match.proofs.There.{edge_kind}
use Rattle.pgs_match.proofs.Values.{scope_valid, descriptor_valid}
use Rattle.pgs_match.specs.declared.planned.Side.{Side}
use Rattle.pgs_match.specs.declared.planned.Side.TheVariants.{Scope, Descriptor}
use Rattle.pgs_match.specs.Planned.{pattern_of, most_edges}

pub side_valid : (side : Side) (key : Key) → is_valid_key key ≡ true → is_valid_pattern (pattern_of side key) ≡ true
side_valid Scope key valid = scope_valid key valid
side_valid Descriptor key valid = descriptor_valid key valid

-- each pattern of a valid key has a variable
pub pattern_has : (pattern : Pattern) → is_valid_pattern pattern ≡ true → 0 < length pattern.edge_vars
pattern_has pattern valid = leb-true 1 (length pattern.edge_vars) (and_parts _ _ (and_parts _ _ (and_parts _ _ (and_parts _ _ (and_parts _ _ valid).0).0).0).0).0

pub some_variable : (key : Key) → is_valid_key key ≡ true → 0 < length key.descriptor.edge_vars
some_variable key valid = pattern_has key.descriptor (descriptor_valid key valid)

-- ---- rows and their numbers

pub node_keys : (nodes : List (NodeId × NodeRow)) → map (λ id. Node id) (keys_of nodes) ≡ map (λ (node : NodeId × NodeRow). Node node.0) nodes
node_keys [] = refl
node_keys (node ∷ nodes) = ap (λ elems. Node node.0 ∷ elems) (node_keys nodes)

pub edge_keys : (edges : List (EdgeId × EdgeRow)) → map (λ id. Edge id) (keys_of edges) ≡ map (λ (edge : EdgeId × EdgeRow). Edge edge.0) edges
edge_keys [] = refl
edge_keys (edge ∷ edges) = ap (λ elems. Edge edge.0 ∷ elems) (edge_keys edges)

-- ---- one kind

module _ (resolved : Resolved) (g : Graph) (key : Key) (valid : is_valid_key key ≡ true) where
  stands : (elem : Elem) (o : Option Elem) → option_map_or (same_elem elem) o false ≡ true → o ≡ Some elem
  stands elem None h = absurd (true≢false (sym h))
  stands elem (Some other) h = ap Some (sym (exact_elem elem other ((Equal-is (elem_cmp elem other)).0 h)))

  some : 0 < length key.scope.edge_vars
  some = pattern_has key.scope (scope_valid key valid)

  not_admitted : (elem : Elem) → admitted resolved g key.scope 0 elem ≡ None → is_in_scope resolved g key elem ≡ false
  not_admitted elem none = by (is_in_scope resolved g key elem) refl
    where
      by : (b : Bool) → is_in_scope resolved g key elem ≡ b → is_in_scope resolved g key elem ≡ false
      by false is = is
      by true is =
          let it = match_found resolved g key.scope (starts_at elem) is in
          let bound = admitted_of_match resolved g key.scope (scope_valid key valid) it.0 it.1 0 elem some (stands elem (slice_get it.0 0) it.2) in
          let e : None ≡ Some bound.0 = sym none ∙ bound.1 in cc

  no_edges : is_edge_var key.scope.edge_vars 0 ≡ false → (edges : List (EdgeId × EdgeRow)) → filter (is_in_scope resolved g key) (map (λ (edge : EdgeId × EdgeRow). Edge edge.0) edges) ≡ []
  no_edges kind [] = refl
  no_edges kind (edge ∷ edges) =
      ap (λ b. cond b (Edge edge.0 ∷ filter (is_in_scope resolved g key) (map (λ (e : EdgeId × EdgeRow). Edge e.0) edges)) (filter (is_in_scope resolved g key) (map (λ (e : EdgeId × EdgeRow). Edge e.0) edges)))
      (not_admitted (Edge edge.0) (ap (λ b. cond b (admitted_edge resolved g key.scope.atoms 0 edge.0) None) kind)) ∙ no_edges kind edges

  no_nodes : is_node_var key.scope.edge_vars 0 ≡ false → (nodes : List (NodeId × NodeRow)) → filter (is_in_scope resolved g key) (map (λ (node : NodeId × NodeRow). Node node.0) nodes) ≡ []
  no_nodes kind [] = refl
  no_nodes kind (node ∷ nodes) =
      ap (λ b. cond b (Node node.0 ∷ filter (is_in_scope resolved g key) (map (λ (n : NodeId × NodeRow). Node n.0) nodes)) (filter (is_in_scope resolved g key) (map (λ (n : NodeId × NodeRow). Node n.0) nodes)))
      (not_admitted (Node node.0) (ap (λ b. cond b (admitted_node resolved g key.scope.atoms 0 node.0) None) kind)) ∙ no_nodes kind nodes

  edges_are_scope : slice_get key.scope.edge_vars 0 ≡ Some true → filter (is_in_scope resolved g key) (elements g true) ≡ scope_of resolved g key
  edges_are_scope at =
      sym (filter-append (is_in_scope resolved g key) (elements g false) (elements g true)
      ∙ ap (λ xs. xs ++ filter (is_in_scope resolved g key) (elements g true)) (no_nodes (ap (λ (o : Option Bool). option_map_or not o false) at) g.nodes))

  nodes_are_scope : is_edge_var key.scope.edge_vars 0 ≡ false → filter (is_in_scope resolved g key) (elements g false) ≡ scope_of resolved g key
  nodes_are_scope kind =
      sym (filter-append (is_in_scope resolved g key) (elements g false) (elements g true)
      ∙ ap (λ xs. filter (is_in_scope resolved g key) (elements g false) ++ xs) (no_edges kind g.edges) ∙ append-nil (filter (is_in_scope resolved g key) (elements g false)))

  -- of the kind of x
  pub kind_is_scope : filter (is_in_scope resolved g key) (elements g (is_edge_var key.scope.edge_vars 0)) ≡ scope_of resolved g key
  kind_is_scope = by (is_edge_var key.scope.edge_vars 0) refl
    where
      by : (b : Bool) → is_edge_var key.scope.edge_vars 0 ≡ b → filter (is_in_scope resolved g key) (elements g b) ≡ scope_of resolved g key
      by true kind = edges_are_scope (edge_kind key.scope.edge_vars 0 kind)
      by false kind = nodes_are_scope kind

-- an answer that is one thing is one that is the same thing
pub ok_same : {X E : Type 0} (r : Result X E) (x y : X) → x ≡ y → IfOk r (λ given. given ≡ x) → IfOk r (λ given. given ≡ y)
ok_same r x y same h = subst (λ z. IfOk r (λ given. given ≡ z)) same h

-- so is one that is no longer than such a list
pub ok_fewer : {X E : Type 0} (r : Result (List X) E) (xs : List X) (most : ℕ) → length xs ≤ most → IfOk r (λ given. given ≡ xs) → IfOk r (λ given. length given ≤ most)
ok_fewer (Ok ys) xs most few h = subst (λ zs. length zs ≤ most) (sym h) few
ok_fewer (Err e) xs most few h = h

-- a pattern of a key has no more edge variables than the greater number
pub side_edges : (side : Side) (key : Key) → edge_count (pattern_of side key).edge_vars ≤ most_edges key
side_edges Scope key = omega arith
side_edges Descriptor key = omega arith
