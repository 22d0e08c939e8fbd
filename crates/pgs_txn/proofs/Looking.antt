-- What the walks over the edges at a node find.
use Rattle.std.proofs.Common.{◌≡◌, ℕ, zero, suc, ◌≤◌, Bool, true, false, ◌&&◌, ◌||◌, ◌==◌, not, List, [], ◌∷◌, length, take, slice_get, Option, Some, None, is_some, refl, sym, ◌∙◌, ap, true≢false, arith}
use Rattle.std.specs.List.{list_any, list_all}
use Rattle.std.specs.BTreeMap.{is_at}
use Rattle.std.proofs.lemmas.Bool.{and_parts, and_from, not-true, not_from_false, or_left, or_right}
use Rattle.std.proofs.lemmas.List.{take_all}
use Rattle.pgs_base.specs.declared.element.NodeId.{NodeId}
use Rattle.pgs_base.specs.declared.element.EdgeId.{EdgeId}
use Rattle.pgs_base.specs.declared.row.EdgeRow.{EdgeRow}
use Rattle.pgs_base.specs.Graph.{Graph, edge_cmp, edge_at, is_graph, element_count}
use Rattle.pgs_graph.specs.Changed.{after_changes}
use Rattle.pgs_graph.proofs.Deltas.{ascending_edges}
use Rattle.pgs_txn.specs.declared.changed_rows.ChangedRows.{ChangedRows}
use Rattle.pgs_txn.specs.declared.edges_at_node.Direction.{Direction}
use Rattle.pgs_txn.specs.declared.edges_at_node.Direction.TheVariants.{Out, In}
use Rattle.pgs_txn.specs.declared.working.Working.{Working}
use Rattle.pgs_txn.specs.Looks.{end_for, edges_of, has_direction, is_unchanged_at, is_at_node}
use Rattle.pgs_txn.specs.Rows.{edge_change, has_end, is_changed, was_put_at, IsLeast}
use Rattle.pgs_txn.specs.Working.{graph_now, IsCovered, StandsOn}
use Rattle.pgs_txn.proofs.Edges.{least_same, none_less, any_passes, with_has, ascending_with, length_with}
use Rattle.pgs_txn.proofs.Standing.{edge_now}

past_end : {X : Type 0} (xs : List X) (nth : ℕ) → slice_get xs nth ≡ None → length xs ≤ nth
past_end [] nth none = omega arith
past_end (x ∷ xs) zero none = cc
past_end (x ∷ xs) (suc nth) none = let rest = past_end xs nth none in omega arith

-- where there is nothing at a place, all come before it
pub all_before : {X : Type 0} (xs : List X) (nth : ℕ) → slice_get xs nth ≡ None → take nth xs ≡ xs
all_before xs nth none = take_all nth xs (past_end xs nth none)

module _ (direction : Direction) (id : NodeId) (g : Graph) where
  -- an edge of a direction is among those of it
  pub among : (edge : EdgeId) → has_direction direction id (edge_at g edge) ≡ true → list_any (is_at (edge_cmp edge)) (edges_of direction g id) ≡ true
  among edge there = with_has (end_for direction) id g.edges edge there

  module _ (rows : ChangedRows) where
    pub least_unchanged : is_graph g ≡ true → (nth : ℕ) (edge : EdgeId) → slice_get (edges_of direction g id) nth ≡ Some edge →
        list_all (is_changed rows) (take nth (edges_of direction g id)) ≡ true → has_direction direction id (edge_at g edge) ≡ true → is_changed rows edge ≡ false →
        IsLeast (is_unchanged_at direction id g rows) (Some edge)
    least_unchanged graph nth edge at all there own = (
      and_from (has_direction direction id (edge_at g edge)) (not (is_changed rows edge)) there (not_from_false (is_changed rows edge) own),
      λ other h. let parts = and_parts (has_direction direction id (edge_at g other)) (not (is_changed rows other)) h in
          none_less (is_changed rows) (edges_of direction g id) (ascending_with (end_for direction) id g.edges (ascending_edges g graph)) nth edge at all other
          (among other parts.0) (not-true (is_changed rows other) parts.1),
    )

    pub all_changed : list_all (is_changed rows) (edges_of direction g id) ≡ true → (edge : EdgeId) → has_direction direction id (edge_at g edge) ≡ true → is_changed rows edge ≡ true
    all_changed all edge there = any_passes (is_changed rows) (edges_of direction g id) all edge (among edge there)

    pub none_unchanged : list_all (is_changed rows) (edges_of direction g id) ≡ true → IsLeast (is_unchanged_at direction id g rows) None
    none_unchanged all edge = by (has_direction direction id (edge_at g edge)) refl
      where
        by : (b : Bool) → has_direction direction id (edge_at g edge) ≡ b → (b && not (is_changed rows edge)) ≡ false
        by true there = ap not (all_changed all edge there)
        by false other = refl

-- an edge that has a node as an end has one of the two directions
pub either_direction : (id : NodeId) (o : Option EdgeRow) → (has_direction Out id o || has_direction In id o) ≡ has_end id o
either_direction id None = refl
either_direction id (Some row) = refl

-- each edge at a node was changed, where those of either direction were
pub covered_from : (g : Graph) (rows : ChangedRows) (id : NodeId) →
    ((edge : EdgeId) → has_direction Out id (edge_at g edge) ≡ true → is_changed rows edge ≡ true) →
    ((edge : EdgeId) → has_direction In id (edge_at g edge) ≡ true → is_changed rows edge ≡ true) → IsCovered g rows id
covered_from g rows id out into edge there =
    by (has_direction Out id (edge_at g edge)) refl (has_direction In id (edge_at g edge)) refl (either_direction id (edge_at g edge) ∙ there)
  where
    by : (a : Bool) → has_direction Out id (edge_at g edge) ≡ a → (b : Bool) → has_direction In id (edge_at g edge) ≡ b → (a || b) ≡ true → is_changed rows edge ≡ true
    by true first b second h = out edge first
    by false first true second h = into edge second
    by false first false second h = absurd (true≢false (sym h))

module _ (g : Graph) (w : Working) (stands : StandsOn g w) (id : NodeId) where
  -- an edge stands at a node now where it did at the start and was not changed, or where it was put in there
  three_ways : (o : Option EdgeRow) (change : Option (Option EdgeRow)) →
      (((has_direction Out id o && not (is_some change)) || (has_direction In id o && not (is_some change))) || was_put_at id change) ≡ has_end id (after_changes change o)
  three_ways o None = by (has_direction Out id o) (has_direction In id o) ∙ either_direction id o
    where
      by : (a b : Bool) → (((a && true) || (b && true)) || false) ≡ (a || b)
      by true b = refl
      by false true = refl
      by false false = refl
  three_ways o (Some row) = by (has_direction Out id o) (has_direction In id o)
    where
      by : (a b : Bool) → (((a && false) || (b && false)) || has_end id row) ≡ has_end id row
      by true true = refl
      by true false = refl
      by false true = refl
      by false false = refl

  pub least_now : (o : Option EdgeId) →
      IsLeast (λ edge. (is_unchanged_at Out id g w.rows edge || is_unchanged_at In id g w.rows edge) || was_put_at id (edge_change w.rows edge)) o →
      IsLeast (is_at_node id (graph_now g w)) o
  least_now o least =
      least_same _ (is_at_node id (graph_now g w))
      (λ edge. three_ways (edge_at g edge) (edge_change w.rows edge) ∙ ap (has_end id) (sym (edge_now g w stands edge))) o least

  -- where all edges of the start were changed, only those that were put in are left
  pub put_alone : IsCovered g w.rows id → (edge : EdgeId) → was_put_at id (edge_change w.rows edge) ≡ is_at_node id (graph_now g w) edge
  put_alone covered edge = by (edge_change w.rows edge) refl ∙ ap (has_end id) (sym (edge_now g w stands edge))
    where
      by : (change : Option (Option EdgeRow)) → edge_change w.rows edge ≡ change → was_put_at id change ≡ has_end id (after_changes change (edge_at g edge))
      by (Some row) is = refl
      by None is = unchanged (has_end id (edge_at g edge)) refl
        where
          unchanged : (b : Bool) → has_end id (edge_at g edge) ≡ b → false ≡ b
          unchanged true there = absurd (true≢false (sym (covered edge there) ∙ ap is_some is))
          unchanged false there = refl

  pub least_put_now : IsCovered g w.rows id → (o : Option EdgeId) → IsLeast (λ edge. was_put_at id (edge_change w.rows edge)) o → IsLeast (is_at_node id (graph_now g w)) o
  least_put_now covered o least = least_same (λ edge. was_put_at id (edge_change w.rows edge)) (is_at_node id (graph_now g w)) (put_alone covered) o least

  -- where no edge is left at a node, each of the start was changed
  pub covered_now : IsLeast (is_at_node id (graph_now g w)) None → IsCovered g w.rows id
  covered_now none edge there = by (edge_change w.rows edge) refl
    where
      by : (change : Option (Option EdgeRow)) → edge_change w.rows edge ≡ change → is_some change ≡ true
      by (Some row) is = refl
      by None is = absurd (true≢false (sym there ∙ sym (ap (has_end id) (edge_now g w stands edge ∙ ap (λ change. after_changes change (edge_at g edge)) is)) ∙ none edge))

-- a walk of as many places as there are elements goes past the last edge
pub all_walked : (direction : Direction) (id : NodeId) (g : Graph) (nth count : ℕ) → count ≡ element_count g → count ≤ nth → take nth (edges_of direction g id) ≡ edges_of direction g id
all_walked direction id g nth count is past =
    let few = length_with (end_for direction) id g.edges in take_all nth (edges_of direction g id) (omega arith)

-- an edge of a direction at a node stands there
pub direction_end : (direction : Direction) (id : NodeId) (g : Graph) (edge : EdgeId) → has_direction direction id (edge_at g edge) ≡ true → is_at_node id g edge ≡ true
direction_end direction id g edge there = by direction (edge_at g edge) there
  where
    by : (direction : Direction) (o : Option EdgeRow) → has_direction direction id o ≡ true → has_end id o ≡ true
    by direction None h = absurd (true≢false (sym h))
    by Out (Some row) h = or_left (row.source.0 == id.0) (row.target.0 == id.0) h
    by In (Some row) h = or_right (row.source.0 == id.0) (row.target.0 == id.0) h
