-- What becomes of the lists that are kept, when the list of one node is edited.
use Rattle.std.proofs.Common.{◌≡◌, ◌∙◌, ℕ, ◌==◌, Bool, true, false, cond, List, ◌∷◌, Option, Some, None, refl, ap, subst, arith, rules, is_eq}
use Rattle.std.specs.Cmp.{Equal-is}
use Rattle.std.specs.Ordering.{nat_cmp}
use Rattle.std.specs.List.Sorted.{IsStrictlySortedBy}
use Rattle.std.specs.Map.{keys_of, remove_entry}
use Rattle.std.specs.BTreeMap.{is_at, insert_entry}
use Rattle.pgs_base.specs.declared.element.NodeId.{NodeId}
use Rattle.pgs_base.specs.declared.element.EdgeId.{EdgeId}
use Rattle.pgs_base.specs.Graph.{node_cmp, edge_cmp}
use Rattle.pgs_base.proofs.Lookups.{lookup-insert_entry, lookup-remove_key}
use Rattle.pgs_graph.proofs.Deltas.{node_cmp_total, exact_node}
use Rattle.pgs_overlay.specs.declared.edit.EditKind.{EditKind}
use Rattle.pgs_overlay.specs.declared.edited_list.EditedList.{EditedList}
use Rattle.pgs_overlay.specs.Edited.{IsEdited, IsEditedAt, IsReadyFor}
use Rattle.pgs_overlay.specs.Passed.{list_at, edit_here, list_changed, FollowsChange, IsEditAt, IsListOf, IsReadyAt}

nat_tied : (a b : ℕ) → is_eq (nat_cmp a b) ≡ (a == b)
nat_tied a b = search rules

pub itself : (n : ℕ) → (n == n) ≡ true
itself n = search rules

-- the list that an edit begins with is what was kept
pub list_ready : (edge : EdgeId) (xs : List EdgeId) (kept : Option EditedList) (list : EditedList) → IsListOf kept list → IsReadyAt edge xs kept → IsReadyFor edge xs list
list_ready edge xs None list is ready = record { stands = is.2 xs; lower = λ k low. absurd (omega (arith, low, is.1)) }
list_ready edge xs (Some kept) list is ready = rw is ready

pub edited_list : (xs edited later : List EdgeId) (kept : Option EditedList) (list : EditedList) → IsListOf kept list → IsEditedAt xs edited later kept → IsEdited xs edited later list
edited_list xs edited later None list is was = record {
  stands = is.2 xs;
  copied = rw (is.1, is.0) was;
}
edited_list xs edited later (Some kept) list is was = rw is was

module _ (lists : List (NodeId × EditedList)) (up : IsStrictlySortedBy node_cmp (keys_of lists)) (id : NodeId) (list : EditedList) where
  abbrev after : List (NodeId × EditedList)
  after = insert_entry node_cmp (remove_entry (is_at (node_cmp id)) lists) id list

  kept_after : (q : NodeId) → list_at after q ≡ cond (id.0 == q.0) (Some list) (list_at lists q)
  kept_after q =
      lookup-insert_entry node_cmp_total q id list (remove_entry (is_at (node_cmp id)) lists)
      ∙ ap (cond (is_at (node_cmp id) q) (Some list)) (lookup-remove_key node_cmp_total q id lists up)
      ∙ either (is_at (node_cmp id) q)
      ∙ ap (λ b. cond b (Some list) (list_at lists q)) (nat_tied id.0 q.0)
    where
      either : (b : Bool) → cond b (Some list) (cond b None (list_at lists q)) ≡ cond b (Some list) (list_at lists q)
      either true = refl
      either false = refl

  pub kept_other : (q : NodeId) → (id.0 == q.0) ≡ false → list_at after q ≡ list_at lists q
  kept_other q other = kept_after q ∙ ap (λ b. cond b (Some list) (list_at lists q)) other

  pub kept_here : list_at after id ≡ Some list
  kept_here = kept_after id ∙ ap (λ b. cond b (Some list) (list_at lists id)) (itself id.0)

pub same_node : (a b : NodeId) → (a.0 == b.0) ≡ true → a ≡ b
same_node a b e = exact_node a b ((Equal-is (node_cmp a b)).0 (nat_tied a.0 b.0 ∙ e))

-- an edit at an end
pub edited_at : (xs_of : NodeId → List EdgeId) (edge : EdgeId) (kind : EditKind) (lists : List (NodeId × EditedList)) → IsStrictlySortedBy node_cmp (keys_of lists)
    → (id : NodeId) (list : EditedList) (rest new : List (NodeId × EditedList)) → rest ≡ remove_entry (is_at (node_cmp id)) lists → new ≡ insert_entry node_cmp rest id list
    → ((edited later : List EdgeId) → IsEditedAt (xs_of id) edited (edge ∷ later) (list_at lists id) → IsStrictlySortedBy edge_cmp (edge ∷ later)
    → IsEdited (xs_of id) (list_changed (Some kind) edge edited) later list)
    → (end : Option NodeId) → end ≡ Some id → (q : NodeId) → IsEditAt (xs_of q) edge (edit_here kind q end) (list_at lists q) (list_at new q)
edited_at xs_of edge kind lists up id list rest new left put follows end at q = rw (at, put, left) (either (id.0 == q.0) refl)
  where
    put_back : List (NodeId × EditedList)
    put_back = insert_entry node_cmp (remove_entry (is_at (node_cmp id)) lists) id list

    either : (here : Bool) → (id.0 == q.0) ≡ here → IsEditAt (xs_of q) edge (cond here (Some kind) None) (list_at lists q) (list_at put_back q)
    either true same = subst (λ n. FollowsChange (xs_of n) edge (Some kind) (list_at lists n) (list_at put_back n))
        (same_node id q same) (λ edited later was rising. rw (kept_here lists up id list) (follows edited later was rising))
    either false other = kept_other lists up id list q other
