-- What a search binds lies near the element from which it began.
use Rattle.std.proofs.Common.{◌≡◌, ℕ, zero, suc, ◌+◌, ◌-◌, zero-add, ◌≤◌, Bool, true, false, ◌&&◌, ◌||◌, cond, ⊎_elim, List, [], ◌∷◌, length, slice_get, Option, Some, None, IfSome, refl, sym, ◌∙◌, ap, subst, arith}
use Rattle.std.specs.Prelude.{option_map}
use Rattle.std.specs.Option.{option_map_or}
use Rattle.std.specs.List.{list_any}
use Rattle.std.specs.Map.{lookup}
use Rattle.std.specs.BTreeMap.{is_at}
use Rattle.std.proofs.lemmas.Bool.{and_from, or_left, or_right, eq-eqb}
use Rattle.pgs_base.specs.declared.element.NodeId.{NodeId}
use Rattle.pgs_base.specs.declared.element.EdgeId.{EdgeId}
use Rattle.pgs_base.specs.declared.element.Elem.{Elem}
use Rattle.pgs_base.specs.declared.row.EdgeRow.{EdgeRow}
use Rattle.pgs_base.specs.Graph.{Graph, edge_cmp, edge_at, is_end, is_graph}
use Rattle.pgs_syntax.specs.declared.pattern.Pattern.{Pattern}
use Rattle.pgs_syntax.specs.declared.resolved.Resolved.{Resolved}
use Rattle.pgs_graph.specs.declared.scan.End.{End}
use Rattle.pgs_graph.specs.declared.scan.End.TheVariants.{Source, Target}
use Rattle.pgs_graph.specs.Reads.{end_of, edges_with, out_edges_of, in_edges_of, degree_of}
use Rattle.pgs_graph.proofs.EdgesWith.{listed_end}
use Rattle.pgs_match.specs.declared.bindings.Bound.{Bound}
use Rattle.pgs_match.specs.declared.bindings.Bound.TheVariants as bounds
use Rattle.pgs_match.specs.Bounds.{elem_of, bound_at, with_bound, nothing_bound, end_at}
use Rattle.pgs_match.specs.Near.{is_within}
use Rattle.pgs_match.proofs.Standing.{IsGood, bound_other, one_or_other}
use Rattle.pgs_match.proofs.Started.{nothing_at}

any_value : {K V : Type 0} (test : K → Bool) (passes : V → Bool) (es : List (K × V)) (v : V) → lookup test es ≡ Some v → passes v ≡ true → list_any (λ (e : K × V). passes e.1) es ≡ true
any_value test passes [] v found h = cc
any_value {K} {V} test passes (e ∷ es) v found h = by (test e.0) found (λ later. any_value test passes es v later h)
  where
    by : (b : Bool) → cond b (Some e.1) (lookup test es) ≡ Some v → (lookup test es ≡ Some v → list_any (λ (x : K × V). passes x.1) es ≡ true) →
        (passes e.1 || list_any (λ (x : K × V). passes x.1) es) ≡ true
    by true here rest = or_left _ _ (let same : e.1 ≡ v = cc in ap passes same ∙ h)
    by false later rest = or_right _ _ (rest later)

-- to what a variable is bound after it was bound
pub bound_is : (b : List (Option Bound)) (var : ℕ) (x y : Bound) → bound_at (with_bound b var x) var ≡ Some y → x ≡ y
bound_is [] var x y h = cc
bound_is (o ∷ os) zero x y h = cc
bound_is (o ∷ os) (suc var) x y h = bound_is os var x y h

-- an edge that is listed at a node has the node as that end
module _ (g : Graph) (graph : is_graph g ≡ true) where
  listed_with : (end : End) (from : NodeId) (id : EdgeId) (row : EdgeRow) (i : ℕ) → slice_get (edges_with end from g.edges) i ≡ Some id → edge_at g id ≡ Some row → end_of end row ≡ from
  listed_with end from id row i at row_at =
      let ends = listed_end end from g graph i in
      let here : option_map (end_of end) (edge_at g id) ≡ Some from = subst (λ o. IfSome o (λ edge. option_map (end_of end) (edge_at g edge) ≡ Some from)) at ends in
      let e : Some (end_of end row) ≡ Some from = sym (ap (option_map (end_of end)) row_at) ∙ here in
      cc

  pub listed_from : (forward : Bool) (from : NodeId) (id : EdgeId) (row : EdgeRow) (i : ℕ) → slice_get (cond forward (out_edges_of g from) (in_edges_of g from)) i ≡ Some id → edge_at g id ≡ Some row →
      cond forward row.source row.target ≡ from
  listed_from true from id row i at row_at = listed_with Source from id row i at row_at
  listed_from false from id row i at row_at = listed_with Target from id row i at row_at

module _ (g : Graph) (elem : Elem) where
  pub within_more : (near more : ℕ) (id : NodeId) → is_within g near elem id ≡ true → is_within g (more + near) elem id ≡ true
  within_more near zero id h = subst (λ n. is_within g n elem id ≡ true) (sym (zero-add near)) h
  within_more near (suc more) id h =
      let same : suc (more + near) ≡ suc more + near = omega arith in
      subst (λ n. is_within g n elem id ≡ true) same (or_left (is_within g (more + near) elem id) _ (within_more near more id h))

  pub within_less : (near far : ℕ) (id : NodeId) → near ≤ far → is_within g near elem id ≡ true → is_within g far elem id ≡ true
  within_less near far id less h =
      let same : (far - near) + near ≡ far = omega arith in subst (λ n. is_within g n elem id ≡ true) same (within_more near (far - near) id h)

  -- an end of an edge of which an end is within is within one more
  pub within_by : (near : ℕ) (edge : EdgeId) (row : EdgeRow) (id : NodeId) → edge_at g edge ≡ Some row → is_end id row ≡ true →
      (is_within g near elem row.source || is_within g near elem row.target) ≡ true → is_within g (suc near) elem id ≡ true
  within_by near edge row id at end some =
      or_right (is_within g near elem id) _
      (any_value (is_at (edge_cmp edge)) (λ (r : EdgeRow). is_end id r && (is_within g near elem r.source || is_within g near elem r.target)) g.edges row at (and_from _ _ end some))

  -- ---- what is bound is near

  abbrev pub IsNear : ℕ → Bound → Type 0
  IsNear near (bounds.Node id) = is_within g near elem id ≡ true
  IsNear near (bounds.Edge id source target) = (is_within g near elem source ≡ true) × (is_within g near elem target ≡ true)

  abbrev pub AreNear : ℕ → List (Option Bound) → Type 0
  AreNear near b = (var : ℕ) (x : Bound) → bound_at b var ≡ Some x → IsNear near x

  pub further : (near : ℕ) (x : Bound) → IsNear near x → IsNear (suc near) x
  further near (bounds.Node id) h = or_left (is_within g near elem id) _ h
  further near (bounds.Edge id source target) h = (or_left (is_within g near elem source) _ h.0, or_left (is_within g near elem target) _ h.1)

  pub near_more : (near : ℕ) (b : List (Option Bound)) (var : ℕ) (x : Bound) → AreNear near b → IsNear near x → AreNear near (with_bound b var x)
  near_more near b var x all here other y at =
      ⊎_elim (λ is. subst (IsNear near) (bound_is b var x y (subst (λ v. bound_at (with_bound b var x) v ≡ Some y) is at)) here)
      (λ apart. all other y (sym (bound_other b var other x apart) ∙ at)) (one_or_other other var)

  -- an edge that is listed at a near node
  module _ (graph : is_graph g ≡ true) where
    listed_near : (end : End) (near : ℕ) (from : NodeId) (id : EdgeId) (row : EdgeRow) (i : ℕ) → is_within g near elem from ≡ true → slice_get (edges_with end from g.edges) i ≡ Some id →
        edge_at g id ≡ Some row → IsNear (suc near) (bounds.Edge id row.source row.target)
    listed_near end near from id row i within at row_at =
        let ends = listed_end end from g graph i in
        let here : option_map (end_of end) (edge_at g id) ≡ Some from = subst (λ o. IfSome o (λ edge. option_map (end_of end) (edge_at g edge) ≡ Some from)) at ends in
        let is : end_of end row ≡ from = (let e : Some (end_of end row) ≡ Some from = sym (ap (option_map (end_of end)) row_at) ∙ here in cc) in
        let some = by end is in (
          within_by near id row row.source row_at (or_left _ _ (eq-eqb row.source.0 row.source.0 refl)) some,
          within_by near id row row.target row_at (or_right _ _ (eq-eqb row.target.0 row.target.0 refl)) some,
        )
      where
        by : (end : End) → end_of end row ≡ from → (is_within g near elem row.source || is_within g near elem row.target) ≡ true
        by Source is = or_left _ _ (subst (λ n. is_within g near elem n ≡ true) (sym is) within)
        by Target is = or_right _ _ (subst (λ n. is_within g near elem n ≡ true) (sym is) within)

    pub along_near : (forward : Bool) (near : ℕ) (from : NodeId) (id : EdgeId) (row : EdgeRow) (i : ℕ) → is_within g near elem from ≡ true →
        slice_get (cond forward (out_edges_of g from) (in_edges_of g from)) i ≡ Some id → edge_at g id ≡ Some row → IsNear (suc near) (bounds.Edge id row.source row.target)
    along_near true near from id row i within at row_at = listed_near Source near from id row i within at row_at
    along_near false near from id row i within at row_at = listed_near Target near from id row i within at row_at

  -- a list of edges at a node is no longer than its degree
  pub few_at : (forward : Bool) (from : NodeId) → length (cond forward (out_edges_of g from) (in_edges_of g from)) ≤ degree_of g from
  few_at true from = omega arith
  few_at false from = omega arith

  -- the end of a near edge is near
  pub end_near : (near : ℕ) (source : Bool) (o : Option Bound) (id : NodeId) → ((x : Bound) → o ≡ Some x → IsNear near x) → end_at source o ≡ Some id → is_within g near elem id ≡ true
  end_near near source None id all h = cc
  end_near near source (Some (bounds.Node other)) id all h = cc
  end_near near source (Some (bounds.Edge edge first second)) id all h = by source h (all (bounds.Edge edge first second) refl)
    where
      by : (source : Bool) → Some (cond source first second) ≡ Some id → IsNear near (bounds.Edge edge first second) → is_within g near elem id ≡ true
      by true same both = let e : first ≡ id = cc in subst (λ n. is_within g near elem n ≡ true) e both.0
      by false same both = let e : second ≡ id = cc in subst (λ n. is_within g near elem n ≡ true) e both.1

-- the element itself is within 0 edges
module _ (resolved : Resolved) (g : Graph) (pattern : Pattern) where
  pub near_itself : (var : ℕ) (x : Bound) → IsGood resolved g pattern var x → IsNear g (elem_of x) 0 x
  near_itself var (bounds.Node id) good = eq-eqb id.0 id.0 refl
  near_itself var (bounds.Edge id source target) good =
      let row = good.1.0 in (
        ap (λ o. option_map_or (is_end source) o false) good.1.1 ∙ or_left _ _ (eq-eqb row.source.0 source.0 (ap (λ (n : NodeId). n.0) good.1.2)),
        ap (λ o. option_map_or (is_end target) o false) good.1.1 ∙ or_right _ _ (eq-eqb row.target.0 target.0 (ap (λ (n : NodeId). n.0) good.1.3)),
      )

  pub near_alone : (var : ℕ) (x : Bound) → IsGood resolved g pattern var x → AreNear g (elem_of x) 0 (with_bound nothing_bound var x)
  near_alone var x good =
      near_more g (elem_of x) 0 nothing_bound var x (λ v y at. let e : None ≡ Some y = sym (nothing_at 20 v) ∙ at in cc) (near_itself var x good)
