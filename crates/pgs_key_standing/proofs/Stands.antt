-- The graph of places can stand, and its elements are a match, where the pairs are as the placed pattern asks.
use Rattle.std.proofs.Common.{◌≡◌, ℕ, suc, zero, ◌+◌, ◌<◌, ◌≤◌, Bool, true, false, ◌&&◌, not, List, [], ◌∷◌, length, Option, Some, None, slice_get, is_some, refl, sym, ◌∙◌, ap, arith, ◌==◌}
use Rattle.std.specs.Prelude.{option_and_then, nat_lt}
use Rattle.std.specs.Option.{option_map_or, option_map}
use Rattle.std.specs.List.{list_all}
use Rattle.std.proofs.lemmas.Bool.{true≢false, and_parts, and_from, lt-ltb, ltb-true, eqb-true, eq-eqb}
use Rattle.std.proofs.lemmas.Option.{same_Some, slice_get_within}
use Rattle.pgs_base.specs.declared.element.EdgeId.{EdgeId}
use Rattle.pgs_base.specs.declared.element.Elem.{Elem}
use Rattle.pgs_base.specs.declared.element.Elem.TheVariants.{Node, Edge}
use Rattle.pgs_base.specs.declared.element.NodeId.{NodeId}
use Rattle.pgs_base.specs.declared.row.EdgeRow.{EdgeRow}
use Rattle.pgs_base.specs.declared.row.NodeRow.{NodeRow}
use Rattle.pgs_base.specs.declared.value.Value.{Value}
use Rattle.pgs_base.specs.Graph.{Graph, node_at, edge_at, is_node_entry, is_edge_entry, has_ends}
use Rattle.pgs_base.specs.Pair.{has_name, value_at, pair_of, is_pair}
use Rattle.pgs_base.proofs.Graphs.{graph_from}
use Rattle.pgs_syntax.specs.declared.pattern.Atom.{Atom}
use Rattle.pgs_syntax.specs.declared.pattern.Atom.TheVariants.{Ends, HasLabel, FitsNode, FitsEdge, Equals}
use Rattle.pgs_syntax.specs.declared.pattern.Expr.{Expr}
use Rattle.pgs_syntax.specs.declared.pattern.Expr.TheVariants.{Element, Property}
use Rattle.pgs_syntax.specs.declared.resolved.Resolved.{Resolved}
use Rattle.pgs_syntax.specs.Fitting.{fits_node, fits_edge}
use Rattle.pgs_syntax.specs.Join.{PairTriple}
use Rattle.pgs_base.specs.declared.part.Part.TheVariants as parts
use Rattle.pgs_syntax.specs.KeyValues.{part_of}
use Rattle.pgs_syntax.specs.Valid.{is_edge_var, is_node_var, read_var}
use Rattle.pgs_syntax.specs.Matches.{carried, leads, carries, holds, are_there, same_value, is_node_of_type, is_edge_of_type}
use Rattle.pgs_syntax.specs.Typed.{triple_at}
use Rattle.pgs_conform.specs.Shapes.{triple_of}
use Rattle.pgs_standing.specs.Standing.{can_stand_node, can_stand_edge}
use Rattle.pgs_key_standing.specs.Placed.{Placed, ends_of, passes_at, pass_at, asks, asks_present, stand_from, ask_all, IsPlaced, fits_places}
use Rattle.pgs_key_standing.specs.Reach.{IsStanding}
use Rattle.pgs_key_standing.proofs.Built.{Pairs, the_node, the_edge, row_between, elem_at, elems_from, built, node_found, edge_found, elem_found, nodes_ascend, edges_ascend, all_nodes, all_edges, node_among, edge_among, at_zero, to_zero}

-- what passes at a place is there
pub passed : (o : Option NodeRow) (test : NodeRow → Bool) → option_map_or test o false ≡ true → (p : NodeRow) × (o ≡ Some p) × (test p ≡ true)
passed None test h = absurd (true≢false (sym h))
passed (Some p) test h = (p, refl, h)

pub record IsThree (ps : Pairs) (edge : ℕ) (ends : ℕ × ℕ) (test : PairTriple → Bool) : Type 0 where
  pub source : NodeRow
  pub own : NodeRow
  pub target : NodeRow
  pub source_is : slice_get ps ends.0 ≡ Some source
  pub own_is : slice_get ps edge ≡ Some own
  pub target_is : slice_get ps ends.1 ≡ Some target
  pub passes : test (triple_of source own target) ≡ true

pub three_passed : (ps : Pairs) (edge : ℕ) (ends : ℕ × ℕ) (test : PairTriple → Bool) → pass_at ps edge ends test ≡ true → IsThree ps edge ends test
three_passed ps edge ends test h =
    let first = passed (slice_get ps ends.0) _ h in
    let second = passed (slice_get ps edge) _ first.2 in
    let third = passed (slice_get ps ends.1) _ second.2 in
    record { source = first.0; own = second.0; target = third.0; source_is = first.1; own_is = second.1; target_is = third.1; passes = third.2 }

module _ (resolved : Resolved) (atoms : List Atom) (ps : Pairs) where
  pub node_stands : (kinds : List Bool) (i j : ℕ) → stand_from resolved atoms ps i kinds ≡ true → slice_get kinds j ≡ Some false → passes_at ps (i + j) (can_stand_node resolved) ≡ true
  node_stands [] i j all kind = cc
  node_stands (true ∷ kinds) i zero all kind = absurd (true≢false (same_Some true false kind))
  node_stands (false ∷ kinds) i zero all kind = ap (λ n. passes_at ps n (can_stand_node resolved)) (let e : i + 0 ≡ i = omega arith in e) ∙ (and_parts _ _ all).0
  node_stands (true ∷ kinds) i (suc j) all kind =
      ap (λ n. passes_at ps n (can_stand_node resolved)) (let e : i + suc j ≡ (i + 1) + j = omega arith in e) ∙ node_stands kinds (i + 1) j (and_parts _ _ all).1 kind
  node_stands (false ∷ kinds) i (suc j) all kind =
      ap (λ n. passes_at ps n (can_stand_node resolved)) (let e : i + suc j ≡ (i + 1) + j = omega arith in e) ∙ node_stands kinds (i + 1) j (and_parts _ _ all).1 kind

  abbrev pub edge_test : ℕ → Bool
  edge_test n = pass_at ps n (ends_of atoms n) (can_stand_edge resolved)

  pub edge_stands : (kinds : List Bool) (i j : ℕ) → stand_from resolved atoms ps i kinds ≡ true → slice_get kinds j ≡ Some true → edge_test (i + j) ≡ true
  edge_stands [] i j all kind = cc
  edge_stands (false ∷ kinds) i zero all kind = absurd (true≢false (sym (same_Some false true kind)))
  edge_stands (true ∷ kinds) i zero all kind = ap edge_test (let e : i + 0 ≡ i = omega arith in e) ∙ (and_parts _ _ all).0
  edge_stands (true ∷ kinds) i (suc j) all kind =
      ap edge_test (let e : i + suc j ≡ (i + 1) + j = omega arith in e) ∙ edge_stands kinds (i + 1) j (and_parts _ _ all).1 kind
  edge_stands (false ∷ kinds) i (suc j) all kind =
      ap edge_test (let e : i + suc j ≡ (i + 1) + j = omega arith in e) ∙ edge_stands kinds (i + 1) j (and_parts _ _ all).1 kind

pair_at : (ps : Pairs) (j : ℕ) (p : NodeRow) → list_all is_pair ps ≡ true → slice_get ps j ≡ Some p → is_pair p ≡ true
pair_at [] j p all there = cc
pair_at (q ∷ ps) zero p all there = ap is_pair (sym (same_Some q p there)) ∙ (and_parts _ _ all).0
pair_at (q ∷ ps) (suc j) p all there = pair_at ps j p (and_parts _ _ all).1 there

number_fits : (n m : ℕ) → n < m → m ≤ 18446744073709551616 → nat_lt n 18446744073709551616 ≡ true
number_fits n m lt le = lt-ltb n 18446744073709551616 (omega arith)

module _ (resolved : Resolved) (placed : Placed) (ok : IsPlaced placed) (ps : Pairs) (pairs : list_all is_pair ps ≡ true) (asked : ask_all resolved placed ps ≡ true) where
  abbrev g : Graph
  g = built placed.atoms placed.kinds ps

  all_stand : stand_from resolved placed.atoms ps 0 placed.kinds ≡ true
  all_stand = (and_parts _ _ (and_parts _ _ asked).0).0

  asked_atoms : list_all (asks resolved placed.atoms ps) placed.atoms ≡ true
  asked_atoms = (and_parts _ _ (and_parts _ _ asked).0).1

  node_is : (j : ℕ) → slice_get placed.kinds j ≡ Some false → (p : NodeRow) × (slice_get ps j ≡ Some p) × (can_stand_node resolved p ≡ true)
  node_is j kind = passed (slice_get ps j) (can_stand_node resolved)
      (at_zero (λ n. passes_at ps n (can_stand_node resolved) ≡ true) j (node_stands resolved placed.atoms ps placed.kinds 0 j all_stand kind))

  edge_is : (j : ℕ) → slice_get placed.kinds j ≡ Some true → IsThree ps j (ends_of placed.atoms j) (can_stand_edge resolved)
  edge_is j kind = three_passed ps j (ends_of placed.atoms j) (can_stand_edge resolved)
      (at_zero (λ n. edge_test resolved placed.atoms ps n ≡ true) j (edge_stands resolved placed.atoms ps placed.kinds 0 j all_stand kind))

  node_there : (j : ℕ) (p : NodeRow) → slice_get placed.kinds j ≡ Some false → slice_get ps j ≡ Some p → node_at g (the_node j) ≡ Some p
  node_there j p kind there = at_zero (λ n. node_at g (the_node n) ≡ Some p) j (node_found placed.kinds ps 0 j p kind there)

  edge_there : (j : ℕ) (p : NodeRow) → slice_get placed.kinds j ≡ Some true → slice_get ps j ≡ Some p → edge_at g (the_edge j) ≡ Some (row_between (ends_of placed.atoms j) p)
  edge_there j p kind there =
      at_zero (λ n. edge_at g (the_edge n) ≡ Some (row_between (ends_of placed.atoms n) p)) j (edge_found placed.atoms placed.kinds ps 0 j p kind there)

  -- the triple of an edge
  triple_there : (j : ℕ) (p : NodeRow) (kind : slice_get placed.kinds j ≡ Some true) → slice_get ps j ≡ Some p →
      triple_at g (row_between (ends_of placed.atoms j) p) ≡ Some (triple_of (edge_is j kind).source p (edge_is j kind).target)
  triple_there j p kind there =
      let three = edge_is j kind in
      let ends = ok.ends j kind in
      ap (option_and_then (λ source. option_map (λ target. triple_of source p target) (node_at g (the_node (ends_of placed.atoms j).1))))
      (node_there (ends_of placed.atoms j).0 three.source ends.0 three.source_is)
      ∙ ap (option_map (λ target. triple_of three.source p target)) (node_there (ends_of placed.atoms j).1 three.target ends.1 three.target_is)

  pub built_stands : length placed.kinds ≤ 18446744073709551616 → IsStanding resolved g
  built_stands few = record {
    graph = graph_from g (record {
      node_order = nodes_ascend placed.kinds ps 0;
      edge_order = edges_ascend placed.atoms placed.kinds ps 0;
      nodes = all_nodes is_node_entry placed.kinds ps 0
          (λ j p kind there. to_zero (λ n. is_node_entry (the_node n, p) ≡ true) j
          (and_from _ _ (number_fits j (length placed.kinds) (slice_get_within placed.kinds j false kind) few) (pair_at ps j p pairs there)));
      edges = all_edges placed.atoms is_edge_entry placed.kinds ps 0
          (λ j p kind there. to_zero (λ n. is_edge_entry (the_edge n, row_between (ends_of placed.atoms n) p) ≡ true) j
          (and_from _ _ (number_fits j (length placed.kinds) (slice_get_within placed.kinds j true kind) few) (pair_at ps j p pairs there)));
      ends = all_edges placed.atoms (λ (edge : EdgeId × EdgeRow). has_ends g edge.1) placed.kinds ps 0
          (λ j p kind there.
          let three = edge_is j kind in
          let ends = ok.ends j kind in
          to_zero (λ n. has_ends g (row_between (ends_of placed.atoms n) p) ≡ true) j
          (and_from _ _ (ap is_some (node_there (ends_of placed.atoms j).0 three.source ends.0 three.source_is))
          (ap is_some (node_there (ends_of placed.atoms j).1 three.target ends.1 three.target_is))));
    });
    nodes = all_nodes (λ (node : NodeId × NodeRow). can_stand_node resolved node.1) placed.kinds ps 0
        (λ j p kind there. let one = node_is j kind in ap (can_stand_node resolved) (same_Some p one.0 (sym there ∙ one.1)) ∙ one.2);
    edges = all_edges placed.atoms (λ (edge : EdgeId × EdgeRow). option_map_or (can_stand_edge resolved) (triple_at g edge.1) false) placed.kinds ps 0
        (λ j p kind there.
        let three = edge_is j kind in
        to_zero (λ n. option_map_or (can_stand_edge resolved) (triple_at g (row_between (ends_of placed.atoms n) p)) false ≡ true) j
        (ap (λ o. option_map_or (can_stand_edge resolved) o false) (triple_there j p kind there)
        ∙ ap (λ own. can_stand_edge resolved (triple_of three.source own three.target)) (same_Some p three.own (sym there ∙ three.own_is)) ∙ three.passes));
  }

  -- ---- the match

  abbrev pub elems : List Elem
  elems = elems_from 0 placed.kinds

  elem_is : (j : ℕ) (kind : Bool) → slice_get placed.kinds j ≡ Some kind → slice_get elems j ≡ Some (elem_at kind j)
  elem_is j kind there = at_zero (λ n. slice_get elems j ≡ Some (elem_at kind n)) j (elem_found placed.kinds 0 j kind there)

  carried_is : (j : ℕ) (kind : Bool) (p : NodeRow) → slice_get placed.kinds j ≡ Some kind → slice_get ps j ≡ Some p → option_and_then (carried g) (slice_get elems j) ≡ Some p
  carried_is j false p kind there = ap (option_and_then (carried g)) (elem_is j false kind) ∙ node_there j p kind there
  carried_is j true p kind there =
      ap (option_and_then (carried g)) (elem_is j true kind)
      ∙ ap (option_map (λ (row : EdgeRow). pair_of row.labels row.props)) (edge_there j p kind there)

  -- the kind of a place at which a pair stands
  kind_of_place : (j : ℕ) (p : NodeRow) → length ps ≡ length placed.kinds → slice_get ps j ≡ Some p → (kind : Bool) × (slice_get placed.kinds j ≡ Some kind)
  kind_of_place j p same there = some_at placed.kinds j (let lt = slice_get_within ps j p there in omega arith)
    where
      some_at : (kinds : List Bool) (n : ℕ) → n < length kinds → (kind : Bool) × (slice_get kinds n ≡ Some kind)
      some_at [] n lt = absurd (omega arith)
      some_at (k ∷ kinds) zero lt = (k, refl)
      some_at (k ∷ kinds) (suc n) lt = some_at kinds n (omega arith)

  carries_it : length ps ≡ length placed.kinds → (j : ℕ) (test : NodeRow → Bool) → passes_at ps j test ≡ true → carries g elems j test ≡ true
  carries_it same j test h =
      let one = passed (slice_get ps j) test h in
      let kind = kind_of_place j one.0 same one.1 in
      ap (λ o. option_map_or test o false) (carried_is j kind.0 one.0 kind.1 one.1) ∙ one.2

  same_places : (a b : ℕ) → (a == b) ≡ true → a ≡ b
  same_places a b h = eqb-true a b h

  edge_kind : (j : ℕ) → is_edge_var placed.kinds j ≡ true → slice_get placed.kinds j ≡ Some true
  edge_kind j h = by (slice_get placed.kinds j) refl h
    where
      by : (o : Option Bool) → slice_get placed.kinds j ≡ o → option_map_or (λ is_edge. is_edge) o false ≡ true → slice_get placed.kinds j ≡ Some true
      by None e h = absurd (true≢false (sym h))
      by (Some true) e h = e
      by (Some false) e h = absurd (true≢false (sym h))

  node_kind : (j : ℕ) → is_node_var placed.kinds j ≡ true → slice_get placed.kinds j ≡ Some false
  node_kind j h = by (slice_get placed.kinds j) refl h
    where
      by : (o : Option Bool) → slice_get placed.kinds j ≡ o → option_map_or not o false ≡ true → slice_get placed.kinds j ≡ Some false
      by None e h = absurd (true≢false (sym h))
      by (Some true) e h = absurd (true≢false (sym h))
      by (Some false) e h = e

  same_itself : (n : ℕ) → (n == n) ≡ true
  same_itself n = eq-eqb n n refl

  ends_hold : (edge source target : ℕ) → fits_places placed.kinds placed.atoms (Ends edge source target) ≡ true → holds resolved g elems (Ends edge source target) ≡ true
  ends_hold edge source target fit =
      let outer = and_parts (is_edge_var placed.kinds edge && (ends_of placed.atoms edge).0 == source) ((ends_of placed.atoms edge).1 == target) fit in
      let inner = and_parts (is_edge_var placed.kinds edge) ((ends_of placed.atoms edge).0 == source) outer.0 in
      let kind = edge_kind edge inner.0 in
      let ends = ok.ends edge kind in
      let three = edge_is edge kind in
      ap (λ o. leads g o (slice_get elems source) (slice_get elems target)) (elem_is edge true kind)
      ∙ ap (λ n. leads g (Some (Edge (the_edge edge))) (slice_get elems n) (slice_get elems target)) (sym (same_places (ends_of placed.atoms edge).0 source inner.1))
      ∙ ap (λ o. leads g (Some (Edge (the_edge edge))) o (slice_get elems target)) (elem_is (ends_of placed.atoms edge).0 false ends.0)
      ∙ ap (λ n. leads g (Some (Edge (the_edge edge))) (Some (Node (the_node (ends_of placed.atoms edge).0))) (slice_get elems n))
      (sym (same_places (ends_of placed.atoms edge).1 target outer.1))
      ∙ ap (λ o. leads g (Some (Edge (the_edge edge))) (Some (Node (the_node (ends_of placed.atoms edge).0))) o) (elem_is (ends_of placed.atoms edge).1 false ends.1)
      ∙ ap (λ o. option_map_or (λ (row : EdgeRow). row.source.0 == (ends_of placed.atoms edge).0 && row.target.0 == (ends_of placed.atoms edge).1) o false)
      (edge_there edge three.own kind three.own_is)
      ∙ and_from ((ends_of placed.atoms edge).0 == (ends_of placed.atoms edge).0) ((ends_of placed.atoms edge).1 == (ends_of placed.atoms edge).1)
      (same_itself (ends_of placed.atoms edge).0) (same_itself (ends_of placed.atoms edge).1)

  atom_holds : length ps ≡ length placed.kinds → (atom : Atom) → fits_places placed.kinds placed.atoms atom ≡ true → asks resolved placed.atoms ps atom ≡ true →
      holds resolved g elems atom ≡ true
  atom_holds same (Ends edge source target) fit h = ends_hold edge source target fit
  atom_holds same (HasLabel place label) fit h = carries_it same place (λ own. has_name label own.labels) h
  atom_holds same (Equals place key value) fit h = carries_it same place (λ own. option_map_or (same_value value) (value_at key own.props) false) h
  atom_holds same (FitsNode place number) fit h =
      let kind = node_kind place fit in
      let one = passed (slice_get ps place) (fits_node resolved number) h in
      ap (λ o. option_map_or (is_node_of_type resolved g number) o false) (elem_is place false kind)
      ∙ ap (λ o. option_map_or (fits_node resolved number) o false) (node_there place one.0 kind one.1) ∙ one.2
  atom_holds same (FitsEdge place number) fit h =
      let kind = edge_kind place fit in
      let own = edge_is place kind in
      let three = three_passed ps place (ends_of placed.atoms place) (fits_edge resolved number) h in
      ap (λ o. option_map_or (is_edge_of_type resolved g number) o false) (elem_is place true kind)
      ∙ ap (λ o. option_map_or (fits_edge resolved number) (option_and_then (triple_at g) o) false) (edge_there place three.own kind three.own_is)
      ∙ ap (λ o. option_map_or (fits_edge resolved number) o false) (triple_there place three.own kind three.own_is)
      ∙ ap (λ s. fits_edge resolved number (triple_of s three.own own.target)) (same_Some own.source three.source (sym own.source_is ∙ three.source_is))
      ∙ ap (λ t. fits_edge resolved number (triple_of three.source three.own t)) (same_Some own.target three.target (sym own.target_is ∙ three.target_is))
      ∙ three.passes

  atoms_hold : length ps ≡ length placed.kinds → (some : List Atom) → list_all (fits_places placed.kinds placed.atoms) some ≡ true →
      list_all (asks resolved placed.atoms ps) some ≡ true → list_all (holds resolved g elems) some ≡ true
  atoms_hold same [] fit h = refl
  atoms_hold same (atom ∷ some) fit h =
      let first = and_parts _ _ fit in
      let second = and_parts _ _ h in
      and_from _ _ (atom_holds same atom first.0 second.0) (atoms_hold same some first.1 second.1)

  all_there : (kinds : List Bool) (i : ℕ) → ((j : ℕ) (kind : Bool) → slice_get kinds j ≡ Some kind → slice_get placed.kinds (i + j) ≡ Some kind) → are_there g kinds (elems_from i kinds) ≡ true
  all_there [] i each = refl
  all_there (true ∷ kinds) i each =
      let kind = sym (ap (slice_get placed.kinds) (let e : i + 0 ≡ i = omega arith in e)) ∙ each 0 true refl in
      let three = edge_is i kind in
      and_from _ _ (edge_among (the_edge i) g.edges (row_between (ends_of placed.atoms i) three.own) (edge_there i three.own kind three.own_is))
      (all_there kinds (i + 1) (λ j k there. sym (ap (slice_get placed.kinds) (let e : i + suc j ≡ (i + 1) + j = omega arith in e)) ∙ each (suc j) k there))
  all_there (false ∷ kinds) i each =
      let kind = sym (ap (slice_get placed.kinds) (let e : i + 0 ≡ i = omega arith in e)) ∙ each 0 false refl in
      let one = node_is i kind in
      and_from _ _ (node_among (the_node i) g.nodes one.0 (node_there i one.0 kind one.1))
      (all_there kinds (i + 1) (λ j k there. sym (ap (slice_get placed.kinds) (let e : i + suc j ≡ (i + 1) + j = omega arith in e)) ∙ each (suc j) k there))

  pub built_there : are_there g placed.kinds elems ≡ true
  built_there = all_there placed.kinds 0 (λ j kind there. to_zero (λ n. slice_get placed.kinds n ≡ Some kind) j there)

  pub built_holds : length ps ≡ length placed.kinds → list_all (holds resolved g elems) placed.atoms ≡ true
  built_holds same = atoms_hold same placed.atoms ok.atoms asked_atoms

  -- what is to be present is
  expr_present : length ps ≡ length placed.kinds → (expr : Expr) → nat_lt (read_var expr) (length placed.kinds) ≡ true → asks_present ps expr ≡ true → is_some (part_of g elems expr) ≡ true
  expr_present same (Element place) within h = elem_some placed.kinds 0 place (ltb-true place (length placed.kinds) within)
    where
      elem_some : (kinds : List Bool) (i n : ℕ) → n < length kinds → is_some (option_map parts.Elem (slice_get (elems_from i kinds) n)) ≡ true
      elem_some [] i n lt = absurd (omega arith)
      elem_some (k ∷ kinds) i zero lt = refl
      elem_some (k ∷ kinds) i (suc n) lt = elem_some kinds (i + 1) n (omega arith)
  expr_present same (Property place key) within h =
      let one = passed (slice_get ps place) (λ p. is_some (value_at key p.props)) h in
      let kind = kind_of_place place one.0 same one.1 in
      ap (λ o. is_some (option_map parts.Value (option_and_then (λ (own : NodeRow). value_at key own.props) o))) (carried_is place kind.0 one.0 kind.1 one.1)
      ∙ still (value_at key one.0.props) one.2
    where
      still : (o : Option Value) → is_some o ≡ true → is_some (option_map parts.Value o) ≡ true
      still None e = e
      still (Some v) e = e

  pub all_present : length ps ≡ length placed.kinds → (exprs : List Expr) → list_all (λ (expr : Expr). nat_lt (read_var expr) (length placed.kinds)) exprs ≡ true →
      list_all (asks_present ps) exprs ≡ true → list_all (λ expr. is_some (part_of g elems expr)) exprs ≡ true
  all_present same [] within h = refl
  all_present same (expr ∷ exprs) within h =
      let first = and_parts _ _ within in
      let second = and_parts _ _ h in
      and_from _ _ (expr_present same expr first.0 second.0) (all_present same exprs first.1 second.1)
