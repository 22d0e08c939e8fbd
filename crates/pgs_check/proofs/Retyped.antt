-- Nodes that look the same to types as before: they and the edges there are typed as they were, so the first 25 and 26 are found elsewhere.
use Rattle.std.proofs.Common.{◌≡◌, ℕ, ◌+◌, ◌*◌, ◌<◌, ◌≤◌, Bool, true, false, ◌⊎◌, inl, inr, ⊎_elim, cond, List, [], ◌∷◌, ◌++◌, length, take, get_or, Option, Some, None, is_some, refl, sym, ◌∙◌, ap, subst, true≢false, append_assoc, arith, is_lt}
use Rattle.std.specs.Prelude.{Contains, filter, filter_map, flat_map, not, option_map, option_and_then, if◌then◌else◌}
use Rattle.std.specs.BTreeMap.{is_at}
use Rattle.std.specs.Option.{option_map_or}
use Rattle.std.specs.Cmp.{Equal-is}
use Rattle.std.specs.Map.{lookup, keys_of}
use Rattle.std.proofs.Math.Nat.{mul-le-mul_left, mul-le-mul_right}
use Rattle.std.proofs.lemmas.List.{length-append, take_more}
use Rattle.std.proofs.lemmas.List.Elements.{Contains-append_left, Contains-append_right}
use Rattle.std.proofs.lemmas.Map.Views.{Contains-from_lookup}
use Rattle.pgs_base.specs.declared.element.NodeId.{NodeId}
use Rattle.pgs_base.specs.declared.element.EdgeId.{EdgeId}
use Rattle.pgs_base.specs.declared.row.NodeRow.{NodeRow}
use Rattle.pgs_base.specs.declared.row.EdgeRow.{EdgeRow}
use Rattle.pgs_base.specs.Graph.{Graph, node_cmp, edge_cmp, node_at, edge_at, is_graph}
use Rattle.pgs_base.specs.Pair.{pair_of}
use Rattle.pgs_graph.specs.declared.delta.Delta.{Delta}
use Rattle.pgs_graph.specs.declared.scan.End.TheVariants.{Source, Target}
use Rattle.pgs_graph.specs.Changed.{changed, is_sound, after_changes}
use Rattle.pgs_graph.specs.Reads.{out_edges_of, in_edges_of}
use Rattle.pgs_graph.proofs.Deltas.{exact_node, edge_cmp_total, exact_edge, node_after, edge_after}
use Rattle.pgs_conform.specs.Kinds.{looks_same}
use Rattle.pgs_conform.proofs.Compared.{one_plain, typed_node_same, typed_by_plain}
use Rattle.pgs_conform.proofs.Plain.{plain}
use Rattle.pgs_syntax.specs.declared.resolved.Resolved.{Resolved}
use Rattle.pgs_syntax.specs.Typed.{is_typed_triple}
use Rattle.pgs_syntax.proofs.Members.{contains_none, contains_cases, contains_later, kept_given}
use Rattle.pgs_violation.specs.declared.violation.Violation.TheVariants.{UntypedNode, UntypedEdge}
use Rattle.pgs_violation.specs.Violations.{untyped_node, untyped_edge, where_asked}
use Rattle.pgs_check.specs.Untyped.{untyped_violations, untyped_change, untyped_edge_at, is_untyped_edge, least_edge, edges_at, touched_edges, looks_as_before, retyped_nodes, IsTyped}
use Rattle.pgs_check.proofs.Firsts.{none_given}
use Rattle.pgs_check.proofs.KeyFirst.{no_front}
use Rattle.pgs_check.proofs.Least.{Below, all_below, least_passes}
use Rattle.pgs_check.proofs.Shared.{not_less}
use Rattle.pgs_check.proofs.Types.{there, some_and, same_node, edge_there, row_there, at_end, in_flat, edge_touched, no_edge_before, give_edge}

-- ---- the nodes of changes that may be told from what they were

abbrev Change : Type 0
Change = NodeId × Option NodeRow

next_taken : (xs : List Change) (i : ℕ) (x : Change) → x ≡ get_or xs i x → i < length xs → take (i + 1) xs ≡ take i xs ++ x ∷ []
next_taken xs i x is below = take_more xs i x below ∙ ap (λ y. take i xs ++ y ∷ []) (sym is)

module _ (g : Graph) where
  retyped_append : (xs : List Change) (x : Change) → retyped_nodes g (xs ++ x ∷ []) ≡ retyped_nodes g xs ++ cond (looks_as_before g x) [] (x.0 ∷ [])
  retyped_append [] x = by (looks_as_before g x)
    where
      by : (b : Bool) → keys_of (cond (not b) (x ∷ []) []) ≡ cond b [] (x.0 ∷ [])
      by true = refl
      by false = refl
  retyped_append (y ∷ ys) x = by (looks_as_before g y) (retyped_append ys x)
    where
      by : (b : Bool) → retyped_nodes g (ys ++ x ∷ []) ≡ retyped_nodes g ys ++ cond (looks_as_before g x) [] (x.0 ∷ []) →
          keys_of (cond (not b) (y ∷ filter (λ change. not (looks_as_before g change)) (ys ++ x ∷ [])) (filter (λ change. not (looks_as_before g change)) (ys ++ x ∷ [])))
          ≡ keys_of (cond (not b) (y ∷ filter (λ change. not (looks_as_before g change)) ys) (filter (λ change. not (looks_as_before g change)) ys)) ++ cond (looks_as_before g x) [] (x.0 ∷ [])
      by true rest = rest
      by false rest = ap (λ ids. y.0 ∷ ids) rest

  append_nil : (ids : List NodeId) → ids ++ [] ≡ ids
  append_nil [] = refl
  append_nil (id ∷ ids) = ap (λ rest. id ∷ rest) (append_nil ids)

  module _ (xs : List Change) (i : ℕ) (x : Change) (is : x ≡ get_or xs i x) (below : i < length xs) where
    pub retyped_more : looks_as_before g x ≡ false → retyped_nodes g (take (i + 1) xs) ≡ retyped_nodes g (take i xs) ++ x.0 ∷ []
    retyped_more looks = ap (retyped_nodes g) (next_taken xs i x is below) ∙ retyped_append (take i xs) x ∙ ap (λ b. retyped_nodes g (take i xs) ++ cond b [] (x.0 ∷ [])) looks

    pub retyped_same : looks_as_before g x ≡ true → retyped_nodes g (take (i + 1) xs) ≡ retyped_nodes g (take i xs)
    retyped_same looks =
        ap (retyped_nodes g) (next_taken xs i x is below) ∙ retyped_append (take i xs) x ∙ ap (λ b. retyped_nodes g (take i xs) ++ cond b [] (x.0 ∷ [])) looks
        ∙ append_nil (retyped_nodes g (take i xs))

  pub retyped_has : (xs : List Change) (x : Change) → Contains xs x → looks_as_before g x ≡ false → Contains (retyped_nodes g xs) x.0
  retyped_has xs x has looks =
      key_of (filter (λ change. not (looks_as_before g change)) xs) (kept_given (λ change. not (looks_as_before g change)) xs x has (ap not looks))
    where
      key_of : (rows : List Change) → Contains rows x → Contains (keys_of rows) x.0
      key_of [] has = absurd (contains_none x has)
      key_of (first ∷ rows) has =
          ⊎_elim (λ (same : first ≡ x). (0, omega arith, ap (λ (r : Change). r.0) same)) (λ later. contains_later first.0 (keys_of rows) x.0 (key_of rows later))
          (contains_cases first rows x has)

  pub retyped_own : (xs : List Change) (id : NodeId) → Contains (retyped_nodes g xs) id → Contains (keys_of xs) id
  retyped_own [] id has = has
  retyped_own (x ∷ xs) id has = by (looks_as_before g x) has (retyped_own xs id)
    where
      by : (b : Bool) →
          Contains (keys_of (cond (not b) (x ∷ filter (λ change. not (looks_as_before g change)) xs) (filter (λ change. not (looks_as_before g change)) xs))) id →
          (Contains (retyped_nodes g xs) id → Contains (keys_of xs) id) → Contains (x.0 ∷ keys_of xs) id
      by true has rest = contains_later x.0 (keys_of xs) id (rest has)
      by false has rest =
          ⊎_elim (λ (same : x.0 ≡ id). (0, omega arith, same)) (λ later. contains_later x.0 (keys_of xs) id (rest later)) (contains_cases x.0 (retyped_nodes g xs) id has)

  pub retyped_few : (xs : List Change) → length (retyped_nodes g xs) ≤ length xs
  retyped_few [] = omega arith
  retyped_few (x ∷ xs) = by (looks_as_before g x) (retyped_few xs)
    where
      by : (b : Bool) → length (retyped_nodes g xs) ≤ length xs →
          length (keys_of (cond (not b) (x ∷ filter (λ change. not (looks_as_before g change)) xs) (filter (λ change. not (looks_as_before g change)) xs))) ≤ length (x ∷ xs)
      by true rest = omega (arith, rest)
      by false rest = omega (arith, rest)

-- ---- a node that looks as before is typed, where all were

module _ (resolved : Resolved) (g : Graph) (typed : IsTyped resolved g) where
  pub kept_typed : (change : Change) → looks_as_before g change ≡ true → untyped_change resolved change ≡ None
  kept_typed change looks = by change.1 refl looks
    where
      row_of : (row before : NodeRow) → node_at g change.0 ≡ Some before → looks_same before row ≡ true → untyped_node resolved (change.0, row) ≡ None
      row_of row before at same =
          ap (λ b. if b then None else Some (UntypedNode change.0)) (sym (typed_node_same resolved before row same))
          ∙ none_given (untyped_node resolved) g.nodes typed.0 (change.0, before) (Contains-from_lookup (λ a b t. exact_node a b ((Equal-is (node_cmp a b)).0 t)) change.0 before g.nodes at)

      by : (o : Option NodeRow) → change.1 ≡ o → option_map_or (λ (row : NodeRow). option_map_or (λ before. looks_same before row) (node_at g change.0) false) o false ≡ true →
          option_and_then (λ row. untyped_node resolved (change.0, row)) o ≡ None
      by None is looks = refl
      by (Some row) is looks = inner (node_at g change.0) refl looks
        where
          inner : (p : Option NodeRow) → node_at g change.0 ≡ p → option_map_or (λ before. looks_same before row) p false ≡ true → untyped_node resolved (change.0, row) ≡ None
          inner None at looks = absurd (true≢false (sym looks))
          inner (Some before) at looks = row_of row before at looks

pub both_typed : (resolved : Resolved) (g : Graph) → resolved.guard.strict ≡ true → untyped_violations resolved g ≡ [] → IsTyped resolved g
both_typed resolved g strict none =
    let nodes = filter_map (untyped_node resolved) g.nodes in
    let edges = filter_map (untyped_edge resolved g) g.edges in
    let both = no_front nodes edges (ap (λ b. where_asked b (nodes ++ edges)) (sym strict) ∙ none) in (both.0, both.1)

-- ---- an edge at nodes that look as before is typed as it was

same_some : (p q : NodeRow) → Some p ≡ Some q → p ≡ q
same_some p q e = cc

typed_looked : (resolved : Resolved) (source other_source : Option NodeRow) (own : NodeRow) (target other_target : Option NodeRow) → option_map plain source ≡ option_map plain other_source →
    option_map plain target ≡ option_map plain other_target →
    option_map_or (is_typed_triple resolved) (option_and_then (λ (s : NodeRow). option_map (λ t. record { source = s; own = own; target = t }) target) source) false
    ≡ option_map_or (is_typed_triple resolved) (option_and_then (λ (s : NodeRow). option_map (λ t. record { source = s; own = own; target = t }) other_target) other_source) false
typed_looked resolved None None own target other_target s t = refl
typed_looked resolved None (Some b) own target other_target s t = cc
typed_looked resolved (Some a) None own target other_target s t = cc
typed_looked resolved (Some a) (Some b) own None None s t = refl
typed_looked resolved (Some a) (Some b) own None (Some d) s t = cc
typed_looked resolved (Some a) (Some b) own (Some c) None s t = cc
typed_looked resolved (Some a) (Some b) own (Some c) (Some d) s t =
    let source = same_some _ _ s in
    let target = same_some _ _ t in
    typed_by_plain resolved (record { source = a; own = own; target = c }) (record { source = b; own = own; target = d }) (λ i. record { source = source i; own = plain own; target = target i })

module _ (resolved : Resolved) (g : Graph) (graph : is_graph g ≡ true) (delta : Delta) (sound : is_sound g delta ≡ true) (typed : IsTyped resolved g) where
  abbrev h : Graph
  h = changed g delta

  -- the edges that are asked for their types
  abbrev pub retyped_edges : List EdgeId
  retyped_edges = keys_of delta.edges ++ flat_map (edges_at h) (retyped_nodes g delta.nodes)

  -- a node may be told from what it was, or looks the same
  told_or_same : (id : NodeId) → Contains (retyped_nodes g delta.nodes) id ⊎ (option_map plain (node_at h id) ≡ option_map plain (node_at g id))
  told_or_same id = by (lookup (is_at (node_cmp id)) delta.nodes) refl
    where
      new_row : (change : Option NodeRow) → lookup (is_at (node_cmp id)) delta.nodes ≡ Some change → node_at h id ≡ change
      new_row change is = node_after g delta id graph sound ∙ ap (λ o. after_changes o (node_at g id)) is

      looked : (o p : Option NodeRow) → option_map_or (λ (row : NodeRow). option_map_or (λ before. looks_same before row) p false) o false ≡ true → option_map plain o ≡ option_map plain p
      looked None p looks = absurd (true≢false (sym looks))
      looked (Some row) None looks = absurd (true≢false (sym looks))
      looked (Some row) (Some before) looks = ap Some (sym (one_plain before row looks))

      own : (change : Option NodeRow) → lookup (is_at (node_cmp id)) delta.nodes ≡ Some change → (b : Bool) → looks_as_before g (id, change) ≡ b →
          Contains (retyped_nodes g delta.nodes) id ⊎ (option_map plain (node_at h id) ≡ option_map plain (node_at g id))
      own change is false looks =
          inl (retyped_has g delta.nodes (id, change) (Contains-from_lookup (λ a b t. exact_node a b ((Equal-is (node_cmp a b)).0 t)) id change delta.nodes is) looks)
      own change is true looks = inr (ap (option_map plain) (new_row change is) ∙ looked change (node_at g id) looks)

      by : (o : Option (Option NodeRow)) → lookup (is_at (node_cmp id)) delta.nodes ≡ o →
          Contains (retyped_nodes g delta.nodes) id ⊎ (option_map plain (node_at h id) ≡ option_map plain (node_at g id))
      by None is = inr (ap (option_map plain) (same_node resolved g graph delta sound id is))
      by (Some change) is = own change is (looks_as_before g (id, change)) refl

  at_retyped : (node : NodeId) (id : EdgeId) → Contains (retyped_nodes g delta.nodes) node → Contains (edges_at h node) id → Contains retyped_edges id
  at_retyped node id has is =
      Contains-append_right (keys_of delta.edges) (flat_map (edges_at h) (retyped_nodes g delta.nodes)) id (in_flat resolved g graph delta sound (retyped_nodes g delta.nodes) node id has is)

  edge_retyped : (id : EdgeId) → is_untyped_edge resolved h id ≡ true → Contains retyped_edges id
  edge_retyped id gives = by (lookup (is_at (edge_cmp id)) delta.edges) refl
    where
      whole : (row : EdgeRow) → edge_at h id ≡ Some row → edge_at g id ≡ Some row → Contains retyped_edges id
      whole row at_h at_g =
          ⊎_elim
          (λ told. at_retyped row.source id told
          (Contains-append_left (out_edges_of h row.source) (in_edges_of h row.source) id
          (at_end resolved g graph delta sound Source id row (row_there resolved g graph delta sound id row at_h))))
          (λ source. ⊎_elim
          (λ told. at_retyped row.target id told
          (Contains-append_right (out_edges_of h row.target) (in_edges_of h row.target) id
          (at_end resolved g graph delta sound Target id row (row_there resolved g graph delta sound id row at_h))))
          (λ target. none source target) (told_or_same row.target))
          (told_or_same row.source)
        where
          none : option_map plain (node_at h row.source) ≡ option_map plain (node_at g row.source) → option_map plain (node_at h row.target) ≡ option_map plain (node_at g row.target) →
              Contains retyped_edges id
          none source target =
              let same : untyped_edge_at resolved h id ≡ untyped_edge_at resolved g id =
              ap (option_and_then (give_edge resolved g graph delta sound h id)) at_h
              ∙ ap (λ b. if b then None else Some (UntypedEdge id))
              (typed_looked resolved (node_at h row.source) (node_at g row.source) (pair_of row.labels row.props) (node_at h row.target) (node_at g row.target) source target)
              ∙ sym (ap (option_and_then (give_edge resolved g graph delta sound g id)) at_g) in
              let gave = ap is_some (sym same) ∙ gives in
              absurd (true≢false (sym gave
              ∙ ap is_some (none_given (untyped_edge_at resolved g) (keys_of g.edges) (no_edge_before resolved g graph delta sound typed.1) id (edge_there resolved g graph delta sound g id gave))))

      by : (o : Option (Option EdgeRow)) → lookup (is_at (edge_cmp id)) delta.edges ≡ o → Contains retyped_edges id
      by (Some change) is =
          Contains-append_left (keys_of delta.edges) (flat_map (edges_at h) (retyped_nodes g delta.nodes)) id (there edge_cmp_total exact_edge delta.edges id change is)
      by None is =
          let row = some_and (give_edge resolved g graph delta sound h id) (edge_at h id) gives in
          whole row.0 row.1 (sym (edge_after g delta id graph sound ∙ ap (λ o. after_changes o (edge_at g id)) is) ∙ row.1)

  -- so the least of these is the least of all that the delta touches
  pub least_retyped : least_edge (is_untyped_edge resolved h) None retyped_edges ≡ least_edge (is_untyped_edge resolved h) None (touched_edges h delta)
  least_retyped = one_least (is_untyped_edge resolved h) retyped_edges (touched_edges h delta) edge_retyped (edge_touched resolved g graph delta sound typed.1)
    where
      one_least : (test : EdgeId → Bool) (xs ys : List EdgeId) → ((id : EdgeId) → test id ≡ true → Contains xs id) → ((id : EdgeId) → test id ≡ true → Contains ys id) →
          least_edge test None xs ≡ least_edge test None ys
      one_least test xs ys in_xs in_ys = by (least_edge test None xs) (least_edge test None ys) refl refl
        where
          no_passing : (id : EdgeId) → None ≡ Some id → test id ≡ true
          no_passing id e = cc

          below : (zs : List EdgeId) (o : Option EdgeId) → least_edge test None zs ≡ o → ((id : EdgeId) → test id ≡ true → Contains zs id) → (id : EdgeId) → test id ≡ true → Below test o id
          below zs o is within id passes = subst (λ p. Below test p id) is (all_below test None zs id (within id passes) passes)

          one : (a b : EdgeId) → is_lt (edge_cmp a b) ≡ false → is_lt (edge_cmp b a) ≡ false → a ≡ b
          one a b first second =
              ⊎_elim (λ (same : a ≡ b). same) (λ less. absurd (true≢false (sym (ap is_lt less) ∙ second))) (not_less edge_cmp_total exact_edge b a first)

          by : (o p : Option EdgeId) → least_edge test None xs ≡ o → least_edge test None ys ≡ p → o ≡ p
          by None None one_is other_is = refl
          by (Some a) None one_is other_is = absurd (below ys None other_is in_ys a (least_passes test None xs no_passing a one_is))
          by None (Some b) one_is other_is = absurd (below xs None one_is in_xs b (least_passes test None ys no_passing b other_is))
          by (Some a) (Some b) one_is other_is =
              ap Some (one a b
              (below ys (Some b) other_is in_ys a (least_passes test None xs no_passing a one_is))
              (below xs (Some a) one_is in_xs b (least_passes test None ys no_passing b other_is)))

pub least_retyped_in : (resolved : Resolved) (g : Graph) → is_graph g ≡ true → (delta : Delta) → is_sound g delta ≡ true → IsTyped resolved g → (new : Graph) → new ≡ changed g delta →
    least_edge (is_untyped_edge resolved new) None (keys_of delta.edges ++ flat_map (edges_at new) (retyped_nodes g delta.nodes))
    ≡ least_edge (is_untyped_edge resolved new) None (touched_edges new delta)
least_retyped_in resolved g graph delta sound typed new is =
    subst (λ x. least_edge (is_untyped_edge resolved x) None (keys_of delta.edges ++ flat_map (edges_at x) (retyped_nodes g delta.nodes))
    ≡ least_edge (is_untyped_edge resolved x) None (touched_edges x delta)) (sym is) (least_retyped resolved g graph delta sound typed)

-- ---- the loop over the changes, and the costs

pub nodes_last : (f : NodeId → List EdgeId) (ids : List NodeId) (id : NodeId) → flat_map f ids ++ f id ≡ flat_map f (ids ++ id ∷ [])
nodes_last f [] id = sym (append_none (f id))
  where
    append_none : (xs : List EdgeId) → xs ++ [] ≡ xs
    append_none [] = refl
    append_none (x ∷ xs) = ap (λ rest. x ∷ rest) (append_none xs)
nodes_last f (first ∷ ids) id = append_assoc (f first) (flat_map f ids) (f id) ∙ ap (λ rest. f first ++ rest) (nodes_last f ids id)

pub item_there : (xs : List Change) (i : ℕ) (x : Change) → x ≡ get_or xs i x → i < length xs → Contains xs x
item_there xs i x is below = (i, below, sym is)

pub turn_past : (i rate before after : ℕ) → after ≡ before → (start now next : ℕ) → now ≤ start + i + before * rate → next ≤ now + 1 → next ≤ start + (i + 1) + after * rate
turn_past i rate before after same start now next cost step = let moved : after * rate ≡ before * rate = ap (λ n. n * rate) same in omega (arith, cost, step, moved)

pub turn_more : (i rate : ℕ) (before : List NodeId) (id : NodeId) (after : List NodeId) → after ≡ before ++ id ∷ [] → (start now next last : ℕ) →
    now ≤ start + i + length before * rate → next ≤ now + 1 → last ≤ next + rate → last ≤ start + (i + 1) + length after * rate
turn_more i rate before id after is start now next last cost step looked =
    let size = length-append before (id ∷ []) in
    let count : length after ≡ length before + 1 = ap (λ ids. length ids) is ∙ size in
    let moved : length after * rate ≡ (length before + 1) * rate = ap (λ n. n * rate) count in
    turn (length before) (length after * rate) moved cost
  where
    turn : (count whole : ℕ) → whole ≡ (count + 1) * rate → now ≤ start + i + count * rate → last ≤ start + (i + 1) + whole
    turn count whole same cost = omega (arith, same, cost, step, looked)

pub turns_all : (i size whole start now : ℕ) → i ≤ size → now ≤ start + i + whole → now ≤ start + size + whole
turns_all i size whole start now most cost = omega (arith, most, cost)

pub first_cost : (most nodes edges start now : ℕ) → now ≤ start + nodes → now ≤ start + 4 * (nodes + edges) * (most + 2)
first_cost most nodes edges start now cost = let more = mul-le-mul_left nodes (let some : 1 ≤ most + 2 = omega arith in some) in omega (arith, cost, more)

pub all_cost : (g : Graph) (nodes : List Change) (most edges start mid now : ℕ) → mid ≤ start + length nodes →
    now ≤ mid + 3 * (length nodes + edges) + length (retyped_nodes g nodes) * (4 * most + 2) → now ≤ start + 4 * (length nodes + edges) * (most + 2)
all_cost g nodes most edges start mid now first second =
    let less = mul-le-mul_right (4 * most + 2) (retyped_few g nodes) in turn (length nodes) (length (retyped_nodes g nodes) * (4 * most + 2)) first second less
  where
    turn : (count whole : ℕ) → mid ≤ start + count → now ≤ mid + 3 * (count + edges) + whole → whole ≤ count * (4 * most + 2) → now ≤ start + 4 * (count + edges) * (most + 2)
    turn count whole a b c = omega (arith, a, b, c)

pub retyped_cost : (g : Graph) (nodes : List Change) (most edges start mid now : ℕ) → mid ≤ start + length nodes →
    now ≤ mid + 3 * (length nodes + edges) + length (retyped_nodes g nodes) * (4 * most + 2) →
    now ≤ start + 4 * (length nodes + edges) + 4 * length (retyped_nodes g nodes) * (most + 1)
retyped_cost g nodes most edges start mid now first second = turn (length nodes) (length (retyped_nodes g nodes)) first second
  where
    turn : (count told : ℕ) → mid ≤ start + count → now ≤ mid + 3 * (count + edges) + told * (4 * most + 2) → now ≤ start + 4 * (count + edges) + 4 * told * (most + 1)
    turn count told a b = omega (arith, a, b)
