-- What a search gathers of x alone are the elements that are reached.
use Rattle.std.proofs.Common.{◌≡◌, ℕ, ◌<◌, Bool, true, false, ◌&&◌, ◌||◌, ⊎_elim, List, [], ◌∷◌, ◌++◌, map, length, nat_lt, slice_get, Option, Some, None, refl, sym, ◌∙◌, ap, subst, true≢false, arith, Ordering, Less, Equal, Greater, is_lt}
use Rattle.std.specs.Prelude.{option_and_then, option_map}
use Rattle.std.specs.Option.{option_map_or}
use Rattle.std.specs.Ordering.{is_eq, ordering_then}
use Rattle.std.specs.List.{list_any, list_all}
use Rattle.std.specs.BTreeMap.{is_at}
use Rattle.std.specs.Cmp.{tied_itself, Equal-is}
use Rattle.std.proofs.lemmas.Bool.{and_parts, and_from, or_cases, or_left, or_right, le-leb}
use Rattle.std.proofs.lemmas.List.Folds.{list_any-append, list_all-append}
use Rattle.std.proofs.lemmas.List.Kept.{IsStrictlySortedBy-filter}
use Rattle.pgs_base.specs.declared.element.NodeId.{NodeId}
use Rattle.pgs_base.specs.declared.element.EdgeId.{EdgeId}
use Rattle.pgs_base.specs.declared.row.NodeRow.{NodeRow}
use Rattle.pgs_base.specs.declared.row.EdgeRow.{EdgeRow}
use Rattle.pgs_base.specs.declared.element.Elem.{Elem}
use Rattle.pgs_base.specs.declared.element.Elem.TheVariants.{Node, Edge}
use Rattle.pgs_base.specs.declared.part.Part.{Part}
use Rattle.pgs_base.specs.declared.part.Part.TheVariants as parts
use Rattle.pgs_base.specs.Graph.{Graph, is_graph}
use Rattle.pgs_base.specs.Order.{ascends, elem_cmp, tuple_cmp}
use Rattle.pgs_base.specs.OrderLaws.{elem_cmp_total, exact_elem, tuple_cmp_total, exact_tuple}
use Rattle.pgs_base.proofs.Ascending.{ascends_decides}
use Rattle.pgs_base.proofs.Lookups.{same_keys}
use Rattle.pgs_syntax.specs.declared.pattern.Expr.{Expr}
use Rattle.pgs_syntax.specs.declared.pattern.Expr.TheVariants.{Element}
use Rattle.pgs_syntax.specs.declared.pattern.Pattern.{Pattern}
use Rattle.pgs_syntax.specs.declared.resolved.Resolved.{Resolved}
use Rattle.pgs_syntax.specs.KeyValues.{starts_at, tuple_of}
use Rattle.pgs_syntax.specs.Matches.{same_elem, elements, is_match, matches}
use Rattle.pgs_syntax.specs.Valid.{read_var, is_valid_pattern}
use Rattle.pgs_syntax.proofs.Assigned.{match_found, match_given}
use Rattle.pgs_syntax.proofs.InOrder.{nodes_ascend, edges_ascend}
use Rattle.pgs_syntax.proofs.Halves.{any_map, any_filter}
use Rattle.pgs_match.specs.declared.step.Step.{Step}
use Rattle.pgs_match.specs.Plans.{is_plan}
use Rattle.pgs_match.proofs.Counts.{some_at}
use Rattle.pgs_match.specs.Bounds.{with_bound, nothing_bound, stands_at}
use Rattle.pgs_match.specs.Reached.{reaches, reached}
use Rattle.pgs_match.specs.Search.{gathered}
use Rattle.pgs_match.specs.Tests.{admitted}
use Rattle.pgs_match.proofs.Completed.{any_gives}
use Rattle.pgs_match.proofs.Started.{same_truth}
use Rattle.pgs_match.proofs.There.{there_at, IsOfKind, node_there, edge_there}
use Rattle.pgs_match.proofs.Values.{from_ascends, has_from}

-- the tuple of one element
abbrev pub one_elem : Elem → List Part
one_elem elem = parts.Elem elem ∷ []

-- ---- tuples of one element go as the elements

lt_same : (o : Ordering) → is_lt (ordering_then o Equal) ≡ is_lt o
lt_same Less = refl
lt_same Equal = refl
lt_same Greater = refl

above_same : (x : Elem) (xs : List Elem) → list_all (λ later. is_lt (tuple_cmp (one_elem x) later)) (map one_elem xs) ≡ list_all (λ later. is_lt (elem_cmp x later)) xs
above_same x [] = refl
above_same x (y ∷ ys) = ap (λ t. t && list_all (λ later. is_lt (tuple_cmp (one_elem x) later)) (map one_elem ys)) (lt_same (elem_cmp x y)) ∙ ap (λ t. is_lt (elem_cmp x y) && t) (above_same x ys)

ascends_same : (xs : List Elem) → ascends tuple_cmp (map one_elem xs) ≡ ascends elem_cmp xs
ascends_same [] = refl
ascends_same (x ∷ xs) = ap (λ t. t && ascends tuple_cmp (map one_elem xs)) (above_same x xs) ∙ ap (λ t. list_all (λ later. is_lt (elem_cmp x later)) xs && t) (ascends_same xs)

-- ---- the elements of a graph ascend, nodes before edges

ascends_append : {K : Type 0} (cmp : K → K → Ordering) (xs ys : List K) → ascends cmp xs ≡ true → ascends cmp ys ≡ true →
    list_all (λ x. list_all (λ y. is_lt (cmp x y)) ys) xs ≡ true → ascends cmp (xs ++ ys) ≡ true
ascends_append cmp [] ys first second across = second
ascends_append cmp (x ∷ xs) ys first second across =
    let own = and_parts _ _ first in
    let apart = and_parts _ _ across in
    and_from _ _ (list_all-append (λ w. is_lt (cmp x w)) xs ys ∙ and_from _ _ own.0 apart.0) (ascends_append cmp xs ys own.1 second apart.1)

edges_after : (id : NodeId) (edges : List (EdgeId × EdgeRow)) → list_all (λ y. is_lt (elem_cmp (Node id) y)) (map (λ (edge : EdgeId × EdgeRow). Edge edge.0) edges) ≡ true
edges_after id [] = refl
edges_after id (edge ∷ edges) = edges_after id edges

nodes_before : (nodes : List (NodeId × NodeRow)) (edges : List (EdgeId × EdgeRow)) →
    list_all (λ x. list_all (λ y. is_lt (elem_cmp x y)) (map (λ (edge : EdgeId × EdgeRow). Edge edge.0) edges)) (map (λ (node : NodeId × NodeRow). Node node.0) nodes) ≡ true
nodes_before [] edges = refl
nodes_before (node ∷ nodes) edges = and_from _ _ (edges_after node.0 edges) (nodes_before nodes edges)

pub elements_ascend : (g : Graph) → is_graph g ≡ true → ascends elem_cmp (elements g false ++ elements g true) ≡ true
elements_ascend g graph = ascends_append elem_cmp (elements g false) (elements g true) (nodes_ascend g graph) (edges_ascend g graph) (nodes_before g.nodes g.edges)

-- a test that an element passes is passed by one of those among which it is
any_at : (test : Elem → Bool) (x : Elem) (xs : List Elem) → list_any (same_elem x) xs ≡ true → test x ≡ true → list_any test xs ≡ true
any_at test x [] there h = there
any_at test x (y ∷ ys) there h =
    ⊎_elim (λ here. or_left (test y) _ (ap test (sym (exact_elem x y ((Equal-is (elem_cmp x y)).0 here))) ∙ h)) (λ later. or_right (test y) _ (any_at test x ys later h)) (or_cases _ _ there)

module _ (resolved : Resolved) (g : Graph) (pattern : Pattern) (valid : is_valid_pattern pattern ≡ true) (var : ℕ) (below : var < length pattern.edge_vars)
    (plan : List Step) (plans : is_plan pattern var plan ≡ true) (elem : Elem) where
  some : 0 < length pattern.edge_vars
  some = omega arith

  inside : list_all (λ (expr : Expr). nat_lt (read_var expr) (length pattern.edge_vars)) (Element 0 ∷ []) ≡ true
  inside = and_from _ _ (le-leb 1 (length pattern.edge_vars) some) refl

  abbrev all : List Elem
  all = elements g false ++ elements g true

  abbrev gives_first : List Part → List Elem → Bool
  gives_first tuple elems = stands_at var elem elems && option_map_or (is_at (tuple_cmp tuple)) (tuple_of g (Element 0 ∷ []) elems) false

  abbrev is_reached_as : List Part → Elem → Bool
  is_reached_as tuple first = reaches resolved g pattern var elem first && is_at (tuple_cmp tuple) (one_elem first)

  has_reached : (tuple : List Part) → list_any (is_at (tuple_cmp tuple)) (map one_elem (reached resolved g pattern var elem)) ≡ list_any (is_reached_as tuple) all
  has_reached tuple = any_map (is_at (tuple_cmp tuple)) one_elem (reached resolved g pattern var elem) ∙ any_filter (λ first. is_at (tuple_cmp tuple) (one_elem first)) (reaches resolved g pattern var elem) all

  first_of : (tuple : List Part) (o : Option Elem) →
      option_map_or (is_at (tuple_cmp tuple)) (option_and_then (λ part. option_map (λ rest. part ∷ rest) (Some [])) (option_map parts.Elem o)) false ≡ true → (first : Elem) × (o ≡ Some first) × (is_at (tuple_cmp tuple) (one_elem first) ≡ true)
  first_of tuple None h = absurd (true≢false (sym h))
  first_of tuple (Some first) h = (first, refl, h)

  is_there : (elems : List Elem) → is_match resolved g pattern elems ≡ true → (first : Elem) → slice_get elems 0 ≡ Some first → list_any (same_elem first) all ≡ true
  is_there elems match first at =
      let kind = some_at pattern.edge_vars 0 some in
      let it = there_at g pattern.edge_vars elems 0 kind.0 (and_parts _ _ match).0 kind.1 in
      let same : it.0 ≡ first = (let e : Some it.0 ≡ Some first = sym it.1 ∙ at in cc) in
      list_any-append (same_elem first) (elements g false) (elements g true) ∙ by kind.0 first (subst (IsOfKind g kind.0) same it.2)
    where
      by : (kind : Bool) (first : Elem) → IsOfKind g kind first → (list_any (same_elem first) (elements g false) || list_any (same_elem first) (elements g true)) ≡ true
      by true first form = or_right _ _ (subst (λ e. list_any (same_elem e) (elements g true) ≡ true) (sym form.2) (edge_there g form.0 form.1 form.3))
      by false first form = or_left _ _ (subst (λ e. list_any (same_elem e) (elements g false) ≡ true) (sym form.2) (node_there g form.0 form.1 form.3))

  stands_first : (elems : List Elem) (first : Elem) → slice_get elems 0 ≡ Some first → starts_at first elems ≡ true
  stands_first elems first at = ap (λ o. option_map_or (same_elem first) o false) at ∙ ap is_eq (tied_itself elem_cmp_total first)

  there : (tuple : List Part) → list_any (gives_first tuple) (matches resolved g pattern) ≡ true → list_any (is_reached_as tuple) all ≡ true
  there tuple h =
      let it = match_found resolved g pattern (gives_first tuple) h in
      let both = and_parts (stands_at var elem it.0) _ it.2 in
      let first = first_of tuple (slice_get it.0 0) both.1 in
      any_at (is_reached_as tuple) first.0 all (is_there it.0 it.1 first.0 first.1)
      (and_from _ _ (match_given resolved g pattern (λ elems. stands_at var elem elems && starts_at first.0 elems) it.0 it.1 (and_from _ _ both.0 (stands_first it.0 first.0 first.1))) first.2)

  back : (tuple : List Part) → list_any (is_reached_as tuple) all ≡ true → list_any (gives_first tuple) (matches resolved g pattern) ≡ true
  back tuple h =
      let first = any_gives (is_reached_as tuple) all h in
      let both = and_parts (reaches resolved g pattern var elem first.0) _ first.1 in
      let it = match_found resolved g pattern (λ elems. stands_at var elem elems && starts_at first.0 elems) both.0 in
      let stand = and_parts (stands_at var elem it.0) _ it.2 in
      match_given resolved g pattern (gives_first tuple) it.0 it.1 (and_from _ _ stand.0 (by (slice_get it.0 0) first.0 stand.1 both.1))
    where
      by : (o : Option Elem) (first : Elem) → option_map_or (same_elem first) o false ≡ true → is_at (tuple_cmp tuple) (one_elem first) ≡ true →
          option_map_or (is_at (tuple_cmp tuple)) (option_and_then (λ part. option_map (λ rest. part ∷ rest) (Some [])) (option_map parts.Elem o)) false ≡ true
      by None first at same = absurd (true≢false (sym at))
      by (Some other) first at same = subst (λ e. is_at (tuple_cmp tuple) (one_elem e) ≡ true) (exact_elem first other ((Equal-is (elem_cmp first other)).0 at)) same

  -- a tuple is gathered exactly where its element is reached
  pub has_all : (tuple : List Part) →
      list_any (is_at (tuple_cmp tuple)) (option_map_or (λ x. gathered resolved g pattern.atoms (Element 0 ∷ []) plan (with_bound nothing_bound var x) []) (admitted resolved g pattern var elem) [])
      ≡ list_any (is_at (tuple_cmp tuple)) (map one_elem (reached resolved g pattern var elem))
  has_all tuple = has_from resolved g pattern valid var below plan plans elem (Element 0 ∷ []) inside tuple ∙ same_truth _ _ (there tuple) (back tuple) ∙ sym (has_reached tuple)

  pub gathered_are_reached : is_graph g ≡ true → option_map_or (λ x. gathered resolved g pattern.atoms (Element 0 ∷ []) plan (with_bound nothing_bound var x) []) (admitted resolved g pattern var elem) []
      ≡ map one_elem (reached resolved g pattern var elem)
  gathered_are_reached graph =
      same_keys tuple_cmp_total exact_tuple _ _ (from_ascends resolved g pattern valid var below plan plans elem (Element 0 ∷ []) inside)
      ((ascends_decides tuple_cmp (map one_elem (reached resolved g pattern var elem))).0 (ascends_same (reached resolved g pattern var elem) ∙ reached_ascends))
      has_all
    where
      reached_ascends : ascends elem_cmp (reached resolved g pattern var elem) ≡ true
      reached_ascends =
          (ascends_decides elem_cmp (reached resolved g pattern var elem)).1
          (IsStrictlySortedBy-filter elem_cmp (reaches resolved g pattern var elem) all ((ascends_decides elem_cmp all).0 (elements_ascend g graph)))
