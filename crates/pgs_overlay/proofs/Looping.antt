-- A loop over the changes of a delta: what comes before a change, and what after it.
use Rattle.std.proofs.Common.{◌≡◌, ◌∙◌, ℕ, zero, suc, ◌+◌, ◌*◌, ◌<◌, ◌≤◌, ◌==◌, Bool, true, false, ◌||◌, List, [], ◌∷◌, length, take, drop, get_or, Option, Some, None, IfSome, Result, Ok, Err, OnOk, refl, sym, ap, subst, arith}
use Rattle.std.specs.List.{list_any}
use Rattle.std.specs.List.Sorted.{IsStrictlySortedBy}
use Rattle.std.specs.Map.{keys_of, lookup}
use Rattle.std.specs.BTreeMap.{is_at}
use Rattle.std.proofs.Math.Nat.{mul-le-mul_left}
use Rattle.pgs_base.specs.declared.element.NodeId.{NodeId}
use Rattle.pgs_base.specs.declared.element.EdgeId.{EdgeId}
use Rattle.pgs_base.specs.declared.row.EdgeRow.{EdgeRow}
use Rattle.pgs_base.specs.Graph.{Graph, edge_cmp, edge_at, is_graph}
use Rattle.pgs_graph.proofs.Deltas.{edge_cmp_total}
use Rattle.pgs_tables.specs.Adjacency.{is_end_of, ends_here}
use Rattle.pgs_overlay.specs.declared.side.Side.{Side}
use Rattle.pgs_overlay.specs.declared.side.Side.TheVariants.{Out, In}
use Rattle.pgs_overlay.specs.declared.edited_list.EditedList.{EditedList}
use Rattle.pgs_overlay.specs.Passed.{list_at, edit_between, FollowsChange, AreReady, ArePassed, AllFollow, HasFew, end_on}
use Rattle.pgs_overlay.specs.Sides.{edges_at}
use Rattle.pgs_overlay.proofs.Before.{first_of_rest, last_of_front, ascending_before, ascending_from, fresh_at}
use Rattle.pgs_overlay.proofs.Passing.{passed_ready, passed_more}
use Rattle.pgs_overlay.proofs.Taking.{itself}

abbrev Change : Type 0
Change = EdgeId × Option EdgeRow

module _ (side : Side) (g : Graph) (graph : is_graph g ≡ true) (cs : List Change) (i : ℕ) (c : Change) (s : IsStrictlySortedBy edge_cmp (keys_of cs)) (within : i < length cs) (is : c ≡ get_or cs i c) (lists : List (NodeId × EditedList)) (passed : ArePassed side g (take i cs) (keys_of (drop i cs)) lists) where
  passed_here : ArePassed side g (take i cs) (c.0 ∷ keys_of (drop (i + 1) cs)) lists
  passed_here = subst (λ l. ArePassed side g (take i cs) (keys_of l) lists) (first_of_rest cs i c within is) passed

  pub ready_next : AreReady c.0 side g lists
  ready_next = passed_ready side g graph (take i cs) c (keys_of (drop (i + 1) cs)) lists [] passed_here

  pub passed_next : (new : List (NodeId × EditedList)) → AllFollow side g c lists new → ArePassed side g (take (i + 1) cs) (keys_of (drop (i + 1) cs)) new
  passed_next new follows =
      let rising : IsStrictlySortedBy edge_cmp (c.0 ∷ keys_of (drop (i + 1) cs)) =
      subst (λ l. IsStrictlySortedBy edge_cmp (keys_of l)) (first_of_rest cs i c within is) (ascending_from edge_cmp i cs s) in
      let fresh : lookup (is_at (edge_cmp c.0)) (take i cs) ≡ None =
      subst (λ x. lookup (is_at (edge_cmp x.0)) (take i cs) ≡ None) (sym is) (fresh_at edge_cmp edge_cmp_total cs i c s within) in
      subst (λ l. ArePassed side g l (keys_of (drop (i + 1) cs)) new) (sym (last_of_front cs i c within is))
      (passed_more side g graph (take i cs) c (keys_of (drop (i + 1) cs)) lists new passed_here follows fresh (ascending_before edge_cmp i cs s) rising)

-- what holds in any case holds where a call succeeds
pub holds_on_ok : {A E P : Type 0} (r : Result A E) → P → OnOk r P
holds_on_ok (Ok a) p = p
holds_on_ok (Err e) p = tt

-- what is edited at two ends follows the change
pub all_follow : (side : Side) (g : Graph) (c : Change) (first second : Option NodeId) (old new : List (NodeId × EditedList))
    → first ≡ end_on side (edge_at g c.0) → second ≡ end_on side c.1
    → ((id : NodeId) → FollowsChange (edges_at side id g.edges) c.0 (edit_between id first second) (list_at old id) (list_at new id)) → AllFollow side g c old new
all_follow side g c first second old new one two follows id =
    subst (λ e. FollowsChange (edges_at side id g.edges) c.0 (edit_between id e (end_on side c.1)) (list_at old id) (list_at new id)) one
    (subst (λ e. FollowsChange (edges_at side id g.edges) c.0 (edit_between id first e) (list_at old id) (list_at new id)) two (follows id))

-- ---- costs

or_left : (a b : Bool) → a ≡ true → (a || b) ≡ true
or_left true b e = refl
or_left false b e = absurd (cc)

pub or_right : (a b : Bool) → b ≡ true → (a || b) ≡ true
or_right true b e = refl
or_right false b e = e

few_at : (g : Graph) (most : ℕ) (row : Option EdgeRow) → ((id : NodeId) → is_end_of id row ≡ true → HasFew g most id) → (side : Side) → IfSome (end_on side row) (λ id. length (edges_at side id g.edges) ≤ most)
few_at g most None few side = tt
few_at g most (Some row) few Out = (few row.source (or_left (row.source.0 == row.source.0) (row.target.0 == row.source.0) (itself row.source.0))).outgoing
few_at g most (Some row) few In = (few row.target (or_right (row.source.0 == row.target.0) (row.target.0 == row.target.0) (itself row.target.0))).incoming

module _ (side : Side) (g : Graph) (most : ℕ) (c : Change) (few : (id : NodeId) → ends_here g id c ≡ true → HasFew g most id) (end : Option NodeId) where
  pub few_before : end ≡ end_on side (edge_at g c.0) → IfSome end (λ id. length (edges_at side id g.edges) ≤ most)
  few_before is =
      subst (λ (e : Option NodeId). IfSome e (λ id. length (edges_at side id g.edges) ≤ most)) (sym is)
      (few_at g most (edge_at g c.0) (λ id here. few id (or_left (is_end_of id (edge_at g c.0)) (is_end_of id c.1) here)) side)

  pub few_after : end ≡ end_on side c.1 → IfSome end (λ id. length (edges_at side id g.edges) ≤ most)
  few_after is =
      subst (λ (e : Option NodeId). IfSome e (λ id. length (edges_at side id g.edges) ≤ most)) (sym is)
      (few_at g most c.1 (λ id here. few id (or_right (is_end_of id (edge_at g c.0)) (is_end_of id c.1) here)) side)

any_at : (test : Change → Bool) (cs : List Change) (i : ℕ) (d : Change) → i < length cs → test (get_or cs i d) ≡ true → list_any test cs ≡ true
any_at test [] i d lt is = absurd (omega arith)
any_at test (c ∷ cs) zero d lt is = or_left (test c) (list_any test cs) is
any_at test (c ∷ cs) (suc i) d lt is = or_right (test c) (list_any test cs) (any_at test cs i d (omega arith) is)

-- the ends of one change are among the ends of all
pub few_of_one : (g : Graph) (most : ℕ) (cs : List Change) (i : ℕ) (c : Change) → i < length cs → c ≡ get_or cs i c
    → ((id : NodeId) → list_any (ends_here g id) cs ≡ true → HasFew g most id) → (id : NodeId) → ends_here g id c ≡ true → HasFew g most id
few_of_one g most cs i c within is few id here = few id (any_at (ends_here g id) cs i c within (ap (ends_here g id) (sym is) ∙ here))

pub one_more : (n i : ℕ) → n * (i + 1) ≡ n * i + n
one_more n i = grind arith

pub all_of_them : (n i m : ℕ) → i < m → n * i + n ≤ n * m
all_of_them n i m lt = let le : i + 1 ≤ m = omega arith in omega (arith, one_more n i, mul-le-mul_left n le)
