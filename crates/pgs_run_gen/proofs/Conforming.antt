-- The graph of a workload has no violations.
use Rattle.std.proofs.Common.{◌≡◌, ℕ, pos, ◌+◌, ◌-◌, ◌*◌, ◌%◌, ◌≤◌, ◌<◌, ◌^◌, ◌&&◌, ◌||◌, true, false, cond, List, [], ◌∷◌, ◌++◌, map, filter, Option, Some, None, Ordering, Less, Equal, Greater, is_lt, is_eq, codes, refl, sym, ap, ap₂, ◌∙◌, arith}
use Rattle.std.specs.Prelude.{decimal, slice_get, option_map, option_and_then, filter_map}
use Rattle.std.specs.Cmp.{nat_cmp_is}
use Rattle.std.specs.Cmp.Lexicographic.{slice_cmp}
use Rattle.std.specs.List.{list_any, list_all, cons_option}
use Rattle.std.specs.Option.{option_map_or}
use Rattle.std.specs.Ordering.{nat_cmp, int_cmp, ordering_then}
use Rattle.std.proofs.Math.Nat.{mod-lt}
use Rattle.std.proofs.lemmas.Fmt.{decimal_injective}
use Rattle.std.proofs.lemmas.List.{append-nil, append_cancel_left, append_cancel_right}
use Rattle.std.proofs.lemmas.List.Elements.{filter-append}
use Rattle.std.proofs.lemmas.Map.Lookups.{exact_bytes, exact_signed}
use Rattle.pgs_base.specs.declared.element.EdgeId.{EdgeId}
use Rattle.pgs_base.specs.declared.element.Elem.{Elem}
use Rattle.pgs_base.specs.declared.element.Elem.TheVariants.{Node, Edge}
use Rattle.pgs_base.specs.declared.element.NodeId.{NodeId}
use Rattle.pgs_base.specs.declared.part.Part.{Part}
use Rattle.pgs_base.specs.declared.part.Part.TheVariants as parts
use Rattle.pgs_base.specs.declared.row.EdgeRow.{EdgeRow}
use Rattle.pgs_base.specs.declared.row.NodeRow.{NodeRow}
use Rattle.pgs_base.specs.declared.value.Value.{Value}
use Rattle.pgs_base.specs.declared.value.Value.TheVariants.{Text, Int}
use Rattle.pgs_base.specs.Graph.{Graph, node_at, node_cmp}
use Rattle.pgs_base.specs.Order.{elem_cmp, value_cmp}
use Rattle.pgs_base.specs.Pair.{pair_of, value_at}
use Rattle.pgs_gen.specs.Generated.{address, known_by}
use Rattle.pgs_syntax.specs.declared.pattern.Atom.TheVariants.{FitsNode}
use Rattle.pgs_syntax.specs.Fitting.{fits_node}
use Rattle.pgs_syntax.specs.Join.{PairTriple, is_empty}
use Rattle.pgs_syntax.specs.KeyValues.{as_set, is_in_scope, key_values, scope_of, starts_at, tuple_of}
use Rattle.pgs_syntax.specs.Matches.{assignments, elements, holds, matches}
use Rattle.pgs_syntax.specs.Typed.{is_typed_edge, is_typed_triple}
use Rattle.pgs_violation.specs.declared.violation.Verdict.TheVariants.{Conforms}
use Rattle.pgs_violation.specs.declared.violation.Violation.{Violation}
use Rattle.pgs_violation.specs.declared.violation.Violation.TheVariants.{Exclusive, Mandatory, UntypedEdge, UntypedNode}
use Rattle.pgs_violation.specs.Violations.{exclusive_violation, first_of, key_violations, mandatory_violation, shared_tuple, sharing, singleton_violation, two_least, untyped_edge, untyped_node, verdict, violations}
use Rattle.pgs_run_gen.specs.Persons.{identified_by, persons}
use Rattle.pgs_run_gen.proofs.Numbered.{IsOther, IsUpTo, any_kept, each_so, flat_ones, found, kept_all, kept_none, map_map, none_kept, none_of, numbers, numbers_up_to, other_number, others, others_up_to, picked, same_number}
use Rattle.pgs_run_gen.proofs.Typed.{knowing_typed, person_fits, person_row, person_typed}

-- ---- the graph

abbrev pub node_id : ℕ → NodeId
node_id i = record { 0 = i }

abbrev pub edge_id : ℕ → EdgeId
edge_id i = record { 0 = i }

abbrev pub node_row : ℕ → NodeRow
node_row i = person_row i (address i)

abbrev pub edge_row : ℕ → ℕ → EdgeRow
edge_row start i = record { source = node_id i; target = node_id (known_by start i); labels = codes "knows" ∷ []; props = [] }

abbrev pub graph_to : ℕ → ℕ → Graph
graph_to start n = record {
  nodes = map (λ i. (node_id i, node_row i)) (numbers n);
  edges = map (λ i. (edge_id i, edge_row start i)) (others n);
}

-- ---- orders

no_tie : (o : Ordering) → (o ≡ Equal → ⊥) → is_eq o ≡ false
no_tie Less other = refl
no_tie Equal other = absurd (other refl)
no_tie Greater other = refl

then_apart : (o : Ordering) → is_eq o ≡ false → is_eq (ordering_then o Equal) ≡ false
then_apart Less apart = refl
then_apart Equal apart = apart
then_apart Greater apart = refl

tied_less : (o : Ordering) → o ≡ Equal → is_lt o ≡ true → ⊥
tied_less o tied less = let no : is_lt Equal ≡ true = sym (ap is_lt tied) ∙ less in cc

not_itself : (i j : ℕ) → is_lt (nat_cmp i j) ≡ true → i ≡ j → ⊥
not_itself i j less same = tied_less (nat_cmp i j) (sym (nat_cmp_is i j Equal same)) less

-- ---- its elements are typed

pub known_before : (start i : ℕ) → 2 ≤ i → (1 ≤ known_by start i) × (known_by start i ≤ i)
known_before start i two =
    let rest = mod-lt (start % 4294967296 + 7 * i) (let h : 0 < i - 1 = omega arith in h) in
    (omega arith, omega arith)

module _ (start n : ℕ) where
  node_found : (i : ℕ) → IsUpTo n i → node_at (graph_to start n) (node_id i) ≡ Some (node_row i)
  node_found i up = found node_cmp node_id node_row (λ i j. refl) n i up

  pub edge_typed : (i : ℕ) → IsOther n i → is_typed_edge persons (graph_to start n) (edge_row start i) ≡ true
  edge_typed i up =
      let two = up.0 in
      let high = up.1 in
      let known = known_before start i two in
      let low = known.0 in
      let within = known.1 in
      let source = node_found i (omega arith, high) in
      let target = node_found (known_by start i) (low, omega arith) in
      ap₂ (λ (s t : Option NodeRow). option_map_or (is_typed_triple persons)
      (option_and_then (λ (a : NodeRow). option_map (λ (b : NodeRow). let triple : PairTriple = record { source = a; own = pair_of (codes "knows" ∷ []) []; target = b } in triple) t) s) false) source target
      ∙ knowing_typed i (address i) (known_by start i) (address (known_by start i))

  -- ---- matches

  abbrev node_of : ℕ → Elem
  node_of i = Node (node_id i)

  abbrev single : ℕ → List Elem
  single i = Node (node_id i) ∷ []

  nodes_of : elements (graph_to start n) false ≡ map (λ i. Node (node_id i)) (numbers n)
  nodes_of = map_map (λ i. (node_id i, node_row i)) (λ (node : NodeId × NodeRow). Node node.0) (numbers n)

  edges_of : elements (graph_to start n) true ≡ map (λ i. Edge (edge_id i)) (others n)
  edges_of = map_map (λ i. (edge_id i, edge_row start i)) (λ (edge : EdgeId × EdgeRow). Edge edge.0) (others n)

  assigned : assignments (graph_to start n) (false ∷ []) ≡ map (λ i. Node (node_id i) ∷ []) (numbers n)
  assigned =
      flat_ones (λ (x : Elem). x ∷ []) (elements (graph_to start n) false)
      ∙ ap (map (λ (x : Elem). x ∷ [])) nodes_of
      ∙ map_map (λ i. Node (node_id i)) (λ (x : Elem). x ∷ []) (numbers n)

  in_scope : matches persons (graph_to start n) (record { edge_vars = false ∷ []; atoms = FitsNode 0 0 ∷ [] }) ≡ map (λ i. Node (node_id i) ∷ []) (numbers n)
  in_scope =
      ap (filter (λ elems. list_all (holds persons (graph_to start n) elems) (FitsNode 0 0 ∷ []))) assigned
      ∙ kept_all (λ i. Node (node_id i) ∷ []) (λ elems. list_all (holds persons (graph_to start n) elems) (FitsNode 0 0 ∷ [])) (numbers n)
      (each_so (IsUpTo n) _ (numbers n) (λ i up.
      ap (λ (row : Option NodeRow). option_map_or (fits_node persons 0) row false && true) (node_found i up) ∙ ap (λ b. b && true) (person_fits i (address i))) (numbers_up_to n))

  described : matches persons (graph_to start n) (record { edge_vars = false ∷ []; atoms = [] }) ≡ map (λ i. Node (node_id i) ∷ []) (numbers n)
  described =
      ap (filter (λ elems. list_all (holds persons (graph_to start n) elems) [])) assigned
      ∙ kept_all (λ i. Node (node_id i) ∷ []) (λ elems. list_all (holds persons (graph_to start n) elems) []) (numbers n)
      (each_so (IsUpTo n) _ (numbers n) (λ i up. refl) (numbers_up_to n))

  starting : (i : ℕ) → IsUpTo n i → filter (starts_at (Node (node_id i))) (map (λ i. Node (node_id i) ∷ []) (numbers n)) ≡ (Node (node_id i) ∷ []) ∷ []
  starting i up = picked (λ i. Node (node_id i) ∷ []) (starts_at (Node (node_id i))) i (same_number i) (λ j other. other_number i j other) n up

  never_edge : (i : ℕ) (xs : List ℕ) → list_any (starts_at (Edge (edge_id i))) (map (λ i. Node (node_id i) ∷ []) xs) ≡ false
  never_edge i [] = refl
  never_edge i (x ∷ xs) = never_edge i xs

  -- ---- keys

  module _ (name : List ℕ) (value : ℕ → Value) (has : (i : ℕ) → value_at name (node_row i).props ≡ Some (value i)) where
    scope_is : scope_of persons (graph_to start n) (identified_by name) ≡ map (λ i. Node (node_id i)) (numbers n)
    scope_is =
        let asks = is_in_scope persons (graph_to start n) (identified_by name) in
        filter-append asks (elements (graph_to start n) false) (elements (graph_to start n) true)
        ∙ ap₂ (λ (xs ys : List Elem). xs ++ ys)
        (ap (filter asks) nodes_of ∙ kept_all (λ i. Node (node_id i)) asks (numbers n)
        (each_so (IsUpTo n) _ (numbers n) (λ i up. ap (list_any (starts_at (Node (node_id i)))) in_scope ∙ any_kept (starts_at (Node (node_id i))) (map (λ i. Node (node_id i) ∷ []) (numbers n)) [] (Node (node_id i) ∷ []) (starting i up)) (numbers_up_to n)))
        (ap (filter asks) edges_of ∙ kept_none (λ i. Edge (edge_id i)) asks (others n)
        (each_so (IsOther n) _ (others n) (λ i up. ap (list_any (starts_at (Edge (edge_id i)))) in_scope ∙ never_edge i (numbers n)) (others_up_to n)))
        ∙ append-nil (map (λ i. Node (node_id i)) (numbers n))

    tuple_is : (i : ℕ) → IsUpTo n i → tuple_of (graph_to start n) (identified_by name).exprs (Node (node_id i) ∷ []) ≡ Some (parts.Value (value i) ∷ [])
    tuple_is i up =
        ap (λ (row : Option NodeRow). option_and_then (λ part. option_map (λ rest. part ∷ rest) (Some []))
        (option_map parts.Value (option_and_then (λ (own : NodeRow). value_at name own.props) row))) (node_found i up)
        ∙ ap (λ (v : Option Value). option_and_then (λ part. option_map (λ rest. part ∷ rest) (Some [])) (option_map parts.Value v)) (has i)

    values_are : (i : ℕ) → IsUpTo n i → key_values persons (graph_to start n) (identified_by name) (Node (node_id i)) ≡ (parts.Value (value i) ∷ []) ∷ []
    values_are i up =
        ap (λ (found : List (List Elem)). as_set (filter_map (tuple_of (graph_to start n) (identified_by name).exprs) (filter (starts_at (Node (node_id i))) found))) described
        ∙ ap (λ (found : List (List Elem)). as_set (filter_map (tuple_of (graph_to start n) (identified_by name).exprs) found)) (starting i up)
        ∙ ap (λ (tuple : Option (List Part)). as_set (cons_option tuple [])) (tuple_is i up)

    module _ (differ : (i j : ℕ) → i ≤ n → j ≤ n → (i ≡ j → ⊥) → is_eq (value_cmp (value i) (value j)) ≡ false) (number : ℕ) where
      each_has_one : filter_map (mandatory_violation number (key_values persons (graph_to start n) (identified_by name))) (map (λ i. Node (node_id i)) (numbers n)) ≡ []
      each_has_one =
          none_of (λ i. Node (node_id i)) (mandatory_violation number (key_values persons (graph_to start n) (identified_by name))) (numbers n)
          (each_so (IsUpTo n) _ (numbers n) (λ i up. ap (λ (found : List (List Part)). cond (is_empty found) (Some (Mandatory number (Node (node_id i)))) None) (values_are i up)) (numbers_up_to n))

      each_has_no_more : filter_map (singleton_violation number (key_values persons (graph_to start n) (identified_by name))) (map (λ i. Node (node_id i)) (numbers n)) ≡ []
      each_has_no_more =
          none_of (λ i. Node (node_id i)) (singleton_violation number (key_values persons (graph_to start n) (identified_by name))) (numbers n)
          (each_so (IsUpTo n) _ (numbers n) (λ i up. ap (two_least number (Node (node_id i))) (values_are i up)) (numbers_up_to n))

      apart : (i j : ℕ) → IsUpTo n i → IsUpTo n j → (i ≡ j → ⊥) → sharing number (key_values persons (graph_to start n) (identified_by name)) (Node (node_id i)) (Node (node_id j)) ≡ None
      apart i j one two other =
          ap₂ (λ (a b : List (List Part)). option_map (Exclusive number (Node (node_id i)) (Node (node_id j))) (shared_tuple a b)) (values_are i one) (values_are j two)
          ∙ ap (λ b. option_map (Exclusive number (Node (node_id i)) (Node (node_id j))) (cond (b || false) (Some (parts.Value (value i) ∷ [])) None)) (then_apart (value_cmp (value i) (value j)) (differ i j one.1 two.1 other))

      none_shared : filter_map (exclusive_violation number (map (λ i. Node (node_id i)) (numbers n)) (key_values persons (graph_to start n) (identified_by name))) (map (λ i. Node (node_id i)) (numbers n)) ≡ []
      none_shared =
          none_of (λ i. Node (node_id i)) (exclusive_violation number (map (λ i. Node (node_id i)) (numbers n)) (key_values persons (graph_to start n) (identified_by name))) (numbers n)
          (each_so (IsUpTo n) _ (numbers n) (λ i up.
          ap (λ (found : List Violation). slice_get found 0)
          (none_kept (λ i. Node (node_id i)) (sharing number (key_values persons (graph_to start n) (identified_by name)) (Node (node_id i))) (λ other. is_lt (elem_cmp (Node (node_id i)) other)) (numbers n)
          (each_so (IsUpTo n) _ (numbers n) (λ j too less. apart i j up too (not_itself i j less)) (numbers_up_to n)))) (numbers_up_to n))

      pub key_holds : key_violations persons (graph_to start n) number (identified_by name) ≡ []
      key_holds =
          ap (λ (scope : List Elem).
          filter_map (mandatory_violation number (key_values persons (graph_to start n) (identified_by name))) scope
          ++ filter_map (singleton_violation number (key_values persons (graph_to start n) (identified_by name))) scope
          ++ filter_map (exclusive_violation number scope (key_values persons (graph_to start n) (identified_by name))) scope ++ []) scope_is
          ∙ ap (λ (found : List Violation). found
          ++ filter_map (singleton_violation number (key_values persons (graph_to start n) (identified_by name))) (map (λ i. Node (node_id i)) (numbers n))
          ++ filter_map (exclusive_violation number (map (λ i. Node (node_id i)) (numbers n)) (key_values persons (graph_to start n) (identified_by name))) (map (λ i. Node (node_id i)) (numbers n)) ++ []) each_has_one
          ∙ ap₂ (λ (found more : List Violation). found ++ more ++ []) each_has_no_more none_shared

-- ---- the keys differ

same_numbers : (i j : ℕ) → pos i ≡ pos j → i ≡ j
same_numbers i j is = cc

ids_differ : (i j : ℕ) → (i ≡ j → ⊥) → is_eq (value_cmp (Int (pos i)) (Int (pos j))) ≡ false
ids_differ i j other = no_tie (int_cmp (pos i) (pos j)) (λ tied. other (same_numbers i j (exact_signed (pos i) (pos j) tied)))

addresses_differ : (i j : ℕ) → i < 2 ^ 64 → j < 2 ^ 64 → (i ≡ j → ⊥) → is_eq (value_cmp (Text (address i)) (Text (address j))) ≡ false
addresses_differ i j one two other =
    no_tie (slice_cmp nat_cmp (address i) (address j))
    (λ tied. other (decimal_injective i j one two
    (append_cancel_right (decimal i) (decimal j) (codes "@x.org") (append_cancel_left (codes "u") _ _ (exact_bytes (address i) (address j) tied)))))

-- ---- all of it

module _ (start n : ℕ) (few : n ≤ 500000) where
  low : (i : ℕ) → i ≤ n → i < 2 ^ 64
  low i within = omega (arith, few, within)

  mails : key_violations persons (graph_to start n) 1 (identified_by (codes "mail")) ≡ []
  mails = key_holds start n (codes "mail") (λ i. Text (address i)) (λ i. refl) (λ i j one two other. addresses_differ i j (low i one) (low j two) other) 1

  ids : key_violations persons (graph_to start n) 2 (identified_by (codes "id")) ≡ []
  ids = key_holds start n (codes "id") (λ i. Int (pos i)) (λ i. refl) (λ i j one two other. ids_differ i j other) 2

  nodes_typed : filter_map (untyped_node persons) (map (λ i. (node_id i, node_row i)) (numbers n)) ≡ []
  nodes_typed =
      none_of (λ i. (node_id i, node_row i)) (untyped_node persons) (numbers n)
      (each_so (IsUpTo n) _ (numbers n) (λ i up. ap (λ b. cond b None (Some (UntypedNode (node_id i)))) (person_typed i (address i))) (numbers_up_to n))

  edges_typed : filter_map (untyped_edge persons (graph_to start n)) (map (λ i. (edge_id i, edge_row start i)) (others n)) ≡ []
  edges_typed =
      none_of (λ i. (edge_id i, edge_row start i)) (untyped_edge persons (graph_to start n)) (others n)
      (each_so (IsOther n) _ (others n) (λ i up. ap (λ b. cond b None (Some (UntypedEdge (edge_id i)))) (edge_typed start n i up)) (others_up_to n))

  no_violations : violations persons (graph_to start n) ≡ []
  no_violations =
      ap₂ (λ (xs ys : List Violation). (xs ++ ys) ++ (key_violations persons (graph_to start n) 1 (identified_by (codes "mail"))
      ++ (key_violations persons (graph_to start n) 2 (identified_by (codes "id")) ++ []))) nodes_typed edges_typed
      ∙ ap₂ (λ (xs ys : List Violation). xs ++ (ys ++ [])) mails ids

  pub graph_conforms : verdict persons (graph_to start n) ≡ Conforms
  graph_conforms = ap first_of no_violations
