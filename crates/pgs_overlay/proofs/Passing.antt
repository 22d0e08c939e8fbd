-- What an edge's change makes of the lists of a side.
use Rattle.std.proofs.Common.{◌≡◌, ◌∙◌, ℕ, suc, ◌==◌, Bool, true, false, cond, ◌&&◌, List, [], ◌∷◌, ◌++◌, Option, Some, None, IfSome, refl, sym, ap, subst, true≢false, arith}
use Rattle.std.specs.Cmp.{Equal-is}
use Rattle.std.specs.Option.{option_map}
use Rattle.std.specs.List.{list_any}
use Rattle.std.specs.List.Sorted.{IsStrictlySortedBy}
use Rattle.std.specs.Map.{keys_of, lookup}
use Rattle.std.specs.BTreeMap.{is_at}
use Rattle.pgs_base.specs.declared.element.NodeId.{NodeId}
use Rattle.pgs_base.specs.declared.element.EdgeId.{EdgeId}
use Rattle.pgs_base.specs.declared.row.EdgeRow.{EdgeRow}
use Rattle.pgs_base.specs.Graph.{Graph, edge_cmp, edge_at, is_graph}
use Rattle.pgs_base.proofs.Lookups.{same_keys}
use Rattle.pgs_tables_edges.proofs.Copied.{IsCopied, copied_none}
use Rattle.pgs_graph.specs.declared.scan.End.{End}
use Rattle.pgs_graph.specs.Reads.{end_of, edges_with}
use Rattle.pgs_graph.specs.Changed.{entry_changed, entries_changed, after_changes}
use Rattle.pgs_graph.proofs.Deltas.{edge_cmp_total, exact_edge, ascending_edges, ascending-entry_changed, ascending-entries_changed, lookup-entries_changed}
use Rattle.pgs_graph.specs.Lists.{has_end}
use Rattle.pgs_graph.proofs.EdgeLists.{edited-changed, any-edges_with, ascending-edges_with}
use Rattle.pgs_overlay.specs.declared.side.Side.{Side}
use Rattle.pgs_overlay.specs.declared.edit.EditKind.{EditKind}
use Rattle.pgs_overlay.specs.declared.edit.EditKind.TheVariants.{PutIn, TakeOut}
use Rattle.pgs_overlay.specs.declared.edited_list.EditedList.{EditedList}
use Rattle.pgs_overlay.specs.Edited.{IsEditedAt}
use Rattle.pgs_overlay.specs.Passed.{list_at, is_here, edit_here, edit_between, list_changed, FollowsChange, IsEditAt, IsReadyAt, AreReady, ArePassed, AllFollow, end_on}
use Rattle.pgs_overlay.specs.Sides.{end_at, edges_at}
use Rattle.pgs_overlay.proofs.Before.{entries_push}
use Rattle.pgs_overlay.proofs.Lists.{ascending_list}
use Rattle.pgs_overlay.proofs.Taking.{itself}

-- an edge that changes nothing in a list
copied_later : (xs : List EdgeId) (done : ℕ) (built edited : List EdgeId) (edge : EdgeId) (later : List EdgeId) → IsCopied xs done built edited (edge ∷ later) → IsCopied xs done built edited later
copied_later xs done built edited edge later c = record {
  in_range = c.in_range;
  edited_is = c.edited_is;
  built_below = λ k j low high. c.built_below k (suc j) low (omega arith);
  done_below = λ k j low high. c.done_below k (suc j) low (omega arith);
  ascending = c.ascending;
}

edited_later : (xs edited : List EdgeId) (edge : EdgeId) (later : List EdgeId) (kept : Option EditedList) → IsEditedAt xs edited (edge ∷ later) kept → IsEditedAt xs edited later kept
edited_later xs edited edge later None was = copied_later xs 0 [] edited edge later was
edited_later xs edited edge later (Some list) was = record { stands = was.stands; copied = copied_later xs list.done _ edited edge later was.copied }

-- the edit between a list that had an edge or not, and one that has it or not
abbrev pub edit_by : Bool → Bool → Option EditKind
edit_by had has = cond had (cond has None (Some TakeOut)) (cond has (Some PutIn) None)

pub follows_none : (xs : List EdgeId) (edge : EdgeId) (had : Bool) (kept : Option EditedList) → FollowsChange xs edge (edit_by had had) kept kept
follows_none xs edge true kept edited later was rising = edited_later xs edited edge later kept was
follows_none xs edge false kept edited later was rising = edited_later xs edited edge later kept was

-- taken out at the old end, then put in at the new one
pub follows_both : (xs : List EdgeId) (edge : EdgeId) (had has : Bool) → (had && has) ≡ false → (old between new : Option EditedList) →
    IsEditAt xs edge (cond had (Some TakeOut) None) old between → IsEditAt xs edge (cond has (Some PutIn) None) between new → FollowsChange xs edge (edit_by had has) old new
follows_both xs edge true true apart old between new first second = absurd (true≢false apart)
follows_both xs edge true false apart old between new first second = rw second first
follows_both xs edge false true apart old between new first second = rw (sym first) second
follows_both xs edge false false apart old between new first second = rw (second ∙ first) (follows_none xs edge false old)

-- a node has an edge in its list exactly where it is its end
module _ (side : Side) (g : Graph) (graph : is_graph g ≡ true) (edge : EdgeId) where
  pub ends_here : (q : NodeId) (row : Option EdgeRow) → has_end (end_at side) q row ≡ is_here q (option_map (end_of (end_at side)) row)
  ends_here q None = refl
  ends_here q (Some row) = refl

  listed_here : (q : NodeId) (end : Option NodeId) → end ≡ option_map (end_of (end_at side)) (edge_at g edge) →
      list_any (is_at (edge_cmp edge)) (edges_at side q g.edges) ≡ is_here q end
  listed_here q end is =
      any-edges_with (end_at side) q edge g.edges (ascending_edges g graph) ∙ ends_here q (edge_at g edge) ∙ ap (is_here q) (sym is)

  pub there_at : (end : Option NodeId) → end ≡ option_map (end_of (end_at side)) (edge_at g edge) →
      IfSome end (λ id. list_any (is_at (edge_cmp edge)) (edges_at side id g.edges) ≡ true)
  there_at None is = tt
  there_at (Some id) is = listed_here id (Some id) is ∙ itself id.0

  pub absent_at : (old new : Option NodeId) → old ≡ option_map (end_of (end_at side)) (edge_at g edge) →
      ((id : NodeId) → (is_here id old && is_here id new) ≡ false) →
      IfSome new (λ id. list_any (is_at (edge_cmp edge)) (edges_at side id g.edges) ≡ false)
  absent_at old None is apart = tt
  absent_at old (Some id) is apart = listed_here id old is ∙ other (is_here id old) (apart id)
    where
      other : (b : Bool) → (b && (id.0 == id.0)) ≡ false → b ≡ false
      other true e = absurd (true≢false (sym (itself id.0) ∙ e))
      other false e = refl

pub ready_at : (edge : EdgeId) (side : Side) (g : Graph) (lists : List (NodeId × EditedList)) → AreReady edge side g lists → (end : Option NodeId) →
    IfSome end (λ id. IsReadyAt edge (edges_at side id g.edges) (list_at lists id))
ready_at edge side g lists ready None = tt
ready_at edge side g lists ready (Some id) = ready id

-- after the edge was taken out elsewhere, the new end is ready still
pub ready_after : (edge : EdgeId) (side : Side) (g : Graph) (lists after : List (NodeId × EditedList)) → AreReady edge side g lists → (old end : Option NodeId) →
    ((id : NodeId) → (is_here id old && is_here id end) ≡ false) →
    ((id : NodeId) → IsEditAt (edges_at side id g.edges) edge (edit_here TakeOut id old) (list_at lists id) (list_at after id)) →
    IfSome end (λ id. IsReadyAt edge (edges_at side id g.edges) (list_at after id))
ready_after edge side g lists after ready old None apart taken = tt
ready_after edge side g lists after ready old (Some id) apart taken = rw (stays (other (is_here id old) (apart id))) (ready id)
  where
    stays : is_here id old ≡ false → list_at after id ≡ list_at lists id
    stays e = subst (λ b. IsEditAt (edges_at side id g.edges) edge (cond b (Some TakeOut) None) (list_at lists id) (list_at after id)) e (taken id)

    other : (b : Bool) → (b && (id.0 == id.0)) ≡ false → b ≡ false
    other true e = absurd (true≢false (sym (itself id.0) ∙ e))
    other false e = refl

-- ---- all lists of a side

-- the list of a node after a change of an edge
pub edges_changed : (end : End) (q : NodeId) (es : List (EdgeId × EdgeRow)) (edge : EdgeId) (new : Option EdgeRow) → IsStrictlySortedBy edge_cmp (keys_of es) →
    edges_with end q (entry_changed edge_cmp es edge new)
    ≡ list_changed (edit_by (has_end end q (lookup (is_at (edge_cmp edge)) es)) (has_end end q new)) edge (edges_with end q es)
unfolding IsStrictlySortedBy
edges_changed end q es edge new sorted = by (has_end end q (lookup (is_at (edge_cmp edge)) es)) (has_end end q new) refl refl
  where
    list : List EdgeId
    list = edges_with end q es

    kept : has_end end q (lookup (is_at (edge_cmp edge)) es) ≡ has_end end q new → edges_with end q (entry_changed edge_cmp es edge new) ≡ list
    kept same =
        same_keys edge_cmp_total exact_edge (edges_with end q (entry_changed edge_cmp es edge new)) list
        (ascending-edges_with end q (entry_changed edge_cmp es edge new) (ascending-entry_changed edge_cmp_total edge new es sorted)) (ascending-edges_with end q es sorted)
        (λ x. any-edges_with end q x (entry_changed edge_cmp es edge new) (ascending-entry_changed edge_cmp_total edge new es sorted)
        ∙ ap (has_end end q) (lookup-entries_changed edge_cmp_total x es ((edge, new) ∷ []) sorted alone) ∙ either x (is_at (edge_cmp x) edge) refl ∙ sym (any-edges_with end q x es sorted))
      where
        alone : IsStrictlySortedBy edge_cmp (edge ∷ [])
        alone = (tt, tt)

        either : (x : EdgeId) (t : Bool) → is_at (edge_cmp x) edge ≡ t →
            has_end end q (after_changes (cond t (Some new) None) (lookup (is_at (edge_cmp x)) es)) ≡ has_end end q (lookup (is_at (edge_cmp x)) es)
        either x true tie =
            let is : x ≡ edge = exact_edge x edge ((Equal-is (edge_cmp x edge)).0 tie) in
            sym same ∙ ap (λ k. has_end end q (lookup (is_at (edge_cmp k)) es)) (sym is)
        either x false apart = refl

    by : (had has : Bool) → has_end end q (lookup (is_at (edge_cmp edge)) es) ≡ had → has_end end q new ≡ has →
        edges_with end q (entry_changed edge_cmp es edge new) ≡ list_changed (edit_by had has) edge list
    by true true h n = kept (h ∙ sym n)
    by false false h n = kept (h ∙ sym n)
    by true false h n = sym (edited-changed end q es edge sorted new) ∙ rw (h, n) refl
    by false true h n = sym (edited-changed end q es edge sorted new) ∙ rw (h, n) refl

module _ (side : Side) (g : Graph) (graph : is_graph g ≡ true) where
  -- before the first change
  pub passed_none : (later : List EdgeId) → ArePassed side g [] later []
  passed_none later q = copied_none (edges_at side q g.edges) later (ascending_list side q g graph)

  module _ (changes : List (EdgeId × Option EdgeRow)) (change : EdgeId × Option EdgeRow) (later : List EdgeId) (lists new : List (NodeId × EditedList)) (passed : ArePassed side g changes (change.0 ∷ later) lists) where
    -- the lists are ready for the next edge
    pub passed_ready : AreReady change.0 side g lists
    passed_ready q = by (list_at lists q) (passed q)
      where
        by : (kept : Option EditedList) → IsEditedAt (edges_at side q g.edges) (edges_at side q (entries_changed edge_cmp g.edges changes)) (change.0 ∷ later) kept
            → IsReadyAt change.0 (edges_at side q g.edges) kept
        by None was = tt
        by (Some list) was = record { stands = was.stands; lower = λ k low. was.copied.done_below k 0 low (omega arith) }

    -- and after it, it is among those that were passed
    pub passed_more : AllFollow side g change lists new → lookup (is_at (edge_cmp change.0)) changes ≡ None → IsStrictlySortedBy edge_cmp (keys_of changes)
        → IsStrictlySortedBy edge_cmp (change.0 ∷ later) → ArePassed side g (changes ++ change ∷ []) later new
    passed_more follows fresh sorted rising q =
        rw whole (follows q (edges_at side q es) later (passed q) rising)
      where
        es : List (EdgeId × EdgeRow)
        es = entries_changed edge_cmp g.edges changes

        before : lookup (is_at (edge_cmp change.0)) es ≡ edge_at g change.0
        before = lookup-entries_changed edge_cmp_total change.0 g.edges changes (ascending_edges g graph) sorted ∙ ap (λ o. after_changes o (edge_at g change.0)) fresh

        whole : edges_at side q (entries_changed edge_cmp g.edges (changes ++ change ∷ []))
            ≡ list_changed (edit_between q (end_on side (edge_at g change.0)) (end_on side change.1)) change.0 (edges_at side q es)
        whole =
            ap (edges_at side q) (entries_push edge_cmp g.edges changes change)
            ∙ edges_changed (end_at side) q es change.0 change.1 (ascending-entries_changed edge_cmp_total g.edges changes (ascending_edges g graph))
            ∙ ap (λ o. list_changed (edit_by (has_end (end_at side) q o) (has_end (end_at side) q change.1)) change.0 (edges_at side q es)) before
            ∙ ap (λ b. list_changed (edit_by b (has_end (end_at side) q change.1)) change.0 (edges_at side q es)) (ends_here side g graph change.0 q (edge_at g change.0))
            ∙ ap (λ b. list_changed (edit_by (is_here q (end_on side (edge_at g change.0))) b) change.0 (edges_at side q es)) (ends_here side g graph change.0 q change.1)
