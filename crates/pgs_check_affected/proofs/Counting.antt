-- How much is found from a change, and that it lies near it.
use Rattle.std.proofs.Common.{◌≡◌, ℕ, zero, suc, ◌+◌, ◌*◌, ◌^◌, ◌<◌, ◌≤◌, Bool, true, false, ◌||◌, ◌==◌, not, cond, ⊎_elim, List, [], ◌∷◌, ◌++◌, map, length, slice_get, Option, Some, None, IfSome, refl, sym, ◌∙◌, ap, subst, true≢false, arith}
use Rattle.std.specs.Prelude.{option_map}
use Rattle.std.specs.Option.{option_map_or}
use Rattle.std.specs.List.{list_any, All, Contains}
use Rattle.std.specs.Cmp.{Equal-is}
use Rattle.std.proofs.Math.Nat.{pow-zero, pow-succ', pow-le-pow_right, mul-le-mul, mul-le-mul_left, mul-le-mul_right}
use Rattle.std.proofs.lemmas.Bool.{or_cases, or_left, or_right, eq-eqb}
use Rattle.std.proofs.lemmas.List.{length-append, length-map}
use Rattle.std.proofs.lemmas.List.Elements.{All-weaker, All-contains, All-contains_itself}
use Rattle.std.proofs.lemmas.List.Folds.{list_any-append}
use Rattle.pgs_base.specs.declared.element.NodeId.{NodeId}
use Rattle.pgs_base.specs.declared.element.EdgeId.{EdgeId}
use Rattle.pgs_base.specs.declared.element.Elem.{Elem}
use Rattle.pgs_base.specs.declared.element.Elem.TheVariants.{Node, Edge}
use Rattle.pgs_base.specs.declared.row.EdgeRow.{EdgeRow}
use Rattle.pgs_base.specs.Graph.{Graph, edge_at, is_graph}
use Rattle.pgs_base.specs.Order.{elem_cmp}
use Rattle.pgs_base.specs.OrderLaws.{exact_elem}
use Rattle.pgs_graph.specs.declared.scan.End.{End}
use Rattle.pgs_graph.specs.declared.scan.End.TheVariants.{Source, Target}
use Rattle.pgs_graph.specs.Reads.{end_of, edges_with, out_edges_of, in_edges_of}
use Rattle.pgs_graph.proofs.EdgesWith.{listed_end}
use Rattle.pgs_syntax.specs.declared.key.Key.{Key}
use Rattle.pgs_syntax.specs.declared.pattern.Pattern.{Pattern}
use Rattle.pgs_syntax.specs.declared.resolved.Resolved.{Resolved}
use Rattle.pgs_syntax.specs.Matches.{same_elem}
use Rattle.pgs_syntax.specs.Valid.{edge_count, is_edge_var, is_valid_pattern, is_valid_key}
use Rattle.pgs_syntax.proofs.Halves.{any_map, any_flat_map}
use Rattle.pgs_match.specs.declared.planned.Side.TheVariants.{Scope, Descriptor}
use Rattle.pgs_match.specs.Near.{IsSparse, IsNearTo}
use Rattle.pgs_match.specs.Planned.{most_edges}
use Rattle.pgs_match.specs.Reached.{reached}
use Rattle.pgs_match.proofs.Costs.{one_at_least}
use Rattle.pgs_match.proofs.Known.{valid_most}
use Rattle.pgs_match.proofs.Nearby.{within_less}
use Rattle.pgs_match.proofs.Scopes.{side_edges}
use Rattle.pgs_match.proofs.Walked.{reached_few, reached_near}
use Rattle.pgs_check_affected.specs.Found.{passes, edges_at, found_alone, found_from, found_in, found_by, found, IsMore, IsFoundByAll}
use Rattle.pgs_check_affected.specs.Local.{is_one_of, AgreeBut, has_touched_end}
use Rattle.pgs_check_affected.specs.Touched.{touched, AreSparse, IsSparseInBoth, AreSparseInBoth}
use Rattle.pgs_check_affected.proofs.Finding.{contains_it, has_it, found_is}
use Rattle.pgs_check_affected.proofs.Locality.{patterns_valid}
use Rattle.pgs_check_affected.proofs.Touching.{any_of, one_that, itself, touched_is, own_fewer, sparse_touched, sparse_own, sparse_before, sparse_after}

-- ---- powers

pub power_more : (most less more : ℕ) → less ≤ more → (most + 2) ^ less ≤ (most + 2) ^ more
power_more most less more h = pow-le-pow_right {n = most + 2} (omega arith) h

pub one_power : (most w : ℕ) → 1 ≤ w → most + 2 ≤ (most + 2) ^ w
one_power most w some =
    let first = power_more most 1 w some in
    let once = pow-succ' (most + 2) 0 in
    let none = pow-zero (most + 2) in
    let same : (most + 2) ^ 1 ≡ (most + 2) * 1 = once ∙ ap (λ n. (most + 2) * n) none in
    omega (arith, first, same)

-- a search of each variable, and none
pub searched_few : (vars power start now : ℕ) → vars ≤ 20 → now ≤ start + vars * (32 * power) → now ≤ start + 640 * power
searched_few vars power start now few cost = let most = mul-le-mul_right (32 * power) few in omega (arith, cost, most)

pub alone_few_steps : (most w start now : ℕ) → now ≤ start + 2 * (most + 2) → now ≤ start + 640 * (most + 2) ^ (w + 1)
alone_few_steps most w start now cost = let some = one_power most (w + 1) (omega arith) in omega (arith, cost, some)

-- one turn more
pub turn_more : (index power start now mid after : ℕ) → now ≤ start + index * (32 * power) → mid ≤ now + 16 * power → after ≤ mid + 16 * power → after ≤ start + (index + 1) * (32 * power)
turn_more index power start now mid after a b c = omega arith

pub known_more : (each index power start now after : ℕ) → now ≤ start + each * index * power → after ≤ now + each * power → after ≤ start + each * (index + 1) * power
known_more each index power start now after a b = omega arith

pub known_within : (each index count power start now after : ℕ) → index < count → now ≤ start + each * index * power → after ≤ now + each * power → after ≤ start + each * count * power
known_within each index count power start now after below a b =
    let whole : each * ((index + 1) * power) ≤ each * (count * power) =
    mul-le-mul_left each (mul-le-mul_right power (let more : index + 1 ≤ count = omega (arith, below) in more)) in omega (arith, a, b, whole)

-- what the searches of the two patterns cost, and what is spread in the others
pub both_cost : (scope descriptor : Bool) (count power start one two three : ℕ) → one ≤ start + (cond scope 640 0 + cond descriptor 640 0) * count * power →
    two ≤ one + cond scope 0 640 * count * power → three ≤ two + cond descriptor 0 640 * count * power → three ≤ start + 1280 * count * power
both_cost true true count power start one two three a b c = omega (arith, a, b, c)
both_cost true false count power start one two three a b c = omega (arith, a, b, c)
both_cost false true count power start one two three a b c = omega (arith, a, b, c)
both_cost false false count power start one two three a b c = omega (arith, a, b, c)

pub first_cost : (scope descriptor : Bool) (count power start one two : ℕ) → one ≤ start + (cond scope 640 0 + cond descriptor 640 0) * count * power →
    two ≤ one + cond scope 0 640 * count * power → two ≤ start + 1280 * count * power
first_cost true true count power start one two a b = omega (arith, a, b)
first_cost true false count power start one two a b = omega (arith, a, b)
first_cost false true count power start one two a b = omega (arith, a, b)
first_cost false false count power start one two a b = omega (arith, a, b)

pub searched_cost : (scope descriptor : Bool) (count power start one : ℕ) → one ≤ start + (cond scope 640 0 + cond descriptor 640 0) * count * power → one ≤ start + 1280 * count * power
searched_cost true true count power start one a = omega (arith, a)
searched_cost true false count power start one a = omega (arith, a)
searched_cost false true count power start one a = omega (arith, a)
searched_cost false false count power start one a = omega (arith, a)

-- what of an element is found in the patterns that are asked for, and what is spread in the others
abbrev share : Bool → ℕ
share true = 40
share false = 0

shared : (b : Bool) (xs : List Elem) (power : ℕ) → length xs ≤ 40 * power → length (cond b xs []) ≤ share b * power
shared true xs power few = few
shared false xs power few = omega arith

edges_some : (edge_vars : List Bool) → is_edge_var edge_vars 0 ≡ true → 1 ≤ edge_count edge_vars
edges_some [] is = absurd (true≢false (sym is))
edges_some (true ∷ rest) is = omega arith
edges_some (false ∷ rest) is = absurd (true≢false (sym is))

-- ---- from one element

-- the edges at an element
pub edges_few : (g : Graph) (elem : Elem) (w most : ℕ) → IsSparse g w elem most → length (edges_at g elem) ≤ most
edges_few g (Edge id) w most sparse = omega arith
edges_few g (Node id) w most sparse =
    let here = sparse id (within_less g (Node id) 0 w id (omega arith) (eq-eqb id.0 id.0 refl)) in
    let all = length-append (map (λ edge. Edge edge) (out_edges_of g id)) (map (λ edge. Edge edge) (in_edges_of g id)) in
    let first : length (map (λ edge. Edge edge) (out_edges_of g id)) ≡ length (out_edges_of g id) = length-map (out_edges_of g id) (λ edge. Edge edge) in
    let second : length (map (λ edge. Edge edge) (in_edges_of g id)) ≡ length (in_edges_of g id) = length-map (in_edges_of g id) (λ edge. Edge edge) in
    omega (arith, here, all, first, second)

module _ (resolved : Resolved) (g h : Graph) (elem : Elem) (w most : ℕ) (sparse : IsSparseInBoth g h w elem most) where
  from_few : is_graph g ≡ true → is_graph h ≡ true → (pattern : Pattern) → is_valid_pattern pattern ≡ true → edge_count pattern.edge_vars ≤ w → (vars : ℕ) → vars ≤ length pattern.edge_vars →
      length (found_from resolved g h elem pattern vars) ≤ vars * (2 * (most + 2) ^ w)
  from_few before after pattern valid few zero inside = omega arith
  from_few before after pattern valid few (suc vars) inside =
      let rest = from_few before after pattern valid few vars (omega arith) in
      let old = reached_few resolved g pattern valid vars (omega arith) elem before w most few sparse.0 in
      let new = reached_few resolved h pattern valid vars (omega arith) elem after w most few sparse.1 in
      let both = length-append (reached resolved g pattern vars elem) (reached resolved h pattern vars elem) in
      let all = length-append (found_from resolved g h elem pattern vars) (reached resolved g pattern vars elem ++ reached resolved h pattern vars elem) in
      added vars ((most + 2) ^ w) _ _ _ _ _ rest old new both all
    where
      added : (vars power before old new both all : ℕ) → before ≤ vars * (2 * power) → old ≤ power → new ≤ power → both ≡ old + new → all ≡ before + both → all ≤ suc vars * (2 * power)
      added vars power before old new both all a b c d e = omega arith

  alone_few : (pattern : Pattern) → edge_count pattern.edge_vars ≤ w → length (found_alone resolved g h elem pattern) ≤ 40 * (most + 2) ^ w
  alone_few pattern few =
      let all = length-append (cond (passes resolved g pattern 0 elem || passes resolved h pattern 0 elem) (elem ∷ []) [])
      (cond (is_edge_var pattern.edge_vars 0) (edges_at g elem ++ edges_at h elem) []) in
      let first = one (passes resolved g pattern 0 elem || passes resolved h pattern 0 elem) in
      let second = by (is_edge_var pattern.edge_vars 0) refl in
      let some = one_at_least most w in
      omega (arith, all, first, second, some)
    where
      one : (b : Bool) → length (cond b (elem ∷ []) []) ≤ 1
      one true = omega arith
      one false = omega arith

      by : (b : Bool) → is_edge_var pattern.edge_vars 0 ≡ b → length (cond b (edges_at g elem ++ edges_at h elem) []) ≤ 2 * (most + 2) ^ w
      by false is = omega arith
      by true is =
          let before = edges_few g elem w most sparse.0 in
          let after = edges_few h elem w most sparse.1 in
          let both = length-append (edges_at g elem) (edges_at h elem) in
          let some = edges_some pattern.edge_vars is in
          let power = one_power most w (omega (arith, some, few)) in
          omega (arith, before, after, both, power)

  in_few : is_graph g ≡ true → is_graph h ≡ true → (pattern : Pattern) → is_valid_pattern pattern ≡ true → edge_count pattern.edge_vars ≤ w →
      length (found_in resolved g h elem pattern) ≤ 40 * (most + 2) ^ w
  in_few before after pattern valid few = by (length pattern.edge_vars == 1)
    where
      by : (b : Bool) → length (cond b (found_alone resolved g h elem pattern) (found_from resolved g h elem pattern (length pattern.edge_vars))) ≤ 40 * (most + 2) ^ w
      by true = alone_few pattern few
      by false =
          let all = from_few before after pattern valid few (length pattern.edge_vars) (omega arith) in
          let vars = mul-le-mul_right (2 * (most + 2) ^ w) (valid_most pattern valid) in
          omega (arith, all, vars)

  by_few : is_graph g ≡ true → is_graph h ≡ true → (scope descriptor : Bool) (key : Key) → is_valid_key key ≡ true → most_edges key ≤ w →
      length (found_by resolved g h elem scope descriptor key) ≤ (share scope + share descriptor) * (most + 2) ^ w
  by_few before after scope descriptor key valid few =
      let scope_edges = side_edges Scope key in
      let descriptor_edges = side_edges Descriptor key in
      let valids = patterns_valid key valid in
      let first = in_few before after key.scope valids.0 (omega (arith, scope_edges, few)) in
      let second = in_few before after key.descriptor valids.1 (omega (arith, descriptor_edges, few)) in
      let one = shared scope (found_in resolved g h elem key.scope) ((most + 2) ^ w) first in
      let other = shared descriptor (found_in resolved g h elem key.descriptor) ((most + 2) ^ w) second in
      let all = length-append (cond scope (found_in resolved g h elem key.scope) []) (cond descriptor (found_in resolved g h elem key.descriptor) []) in
      omega (arith, one, other, all)

-- ---- from all

module _ (resolved : Resolved) (g h : Graph) (before : is_graph g ≡ true) (after : is_graph h ≡ true) (key : Key) (valid : is_valid_key key ≡ true) (most : ℕ) where
  each_few : (scope descriptor : Bool) (w : ℕ) → most_edges key ≤ w → (elems : List Elem) → AreSparseInBoth g h w elems most →
      length (found resolved g h scope descriptor key elems) ≤ length elems * ((share scope + share descriptor) * (most + 2) ^ w)
  each_few scope descriptor w few [] sparse = omega arith
  each_few scope descriptor w few (elem ∷ elems) sparse =
      let first = by_few resolved g h elem w most (sparse elem (or_left _ _ (itself elem))) before after scope descriptor key valid few in
      let rest = each_few scope descriptor w few elems (λ other own. sparse other (or_right (same_elem other elem) _ own)) in
      let all = length-append (found_by resolved g h elem scope descriptor key) (found resolved g h scope descriptor key elems) in
      added (length elems) (share scope + share descriptor) ((most + 2) ^ w) _ _ _ first rest all
    where
      added : (count each power one rest all : ℕ) → one ≤ each * power → rest ≤ count * (each * power) → all ≡ one + rest → all ≤ suc count * (each * power)
      added count each power one rest all a b c = omega arith

  more_few : (searched : Bool) (w : ℕ) (pattern : Pattern) (elems items : List Elem) → AreSparseInBoth g h w elems most → IsMore resolved g h w searched pattern elems items →
      length items ≤ length elems * (share (not searched) * (most + 2) ^ w)
  more_few true w pattern elems items sparse none = let size : length items ≡ 0 = ap (λ xs. length xs) none in omega (arith, size)
  more_few false w pattern elems items sparse more = more.few most sparse

  both_few : (scope descriptor : Bool) (count power found_size one other all : ℕ) → found_size ≤ count * ((share scope + share descriptor) * power) → one ≤ count * (share (not scope) * power) →
      other ≤ count * (share (not descriptor) * power) → all ≡ (found_size + one) + other → all ≤ count * (80 * power)
  both_few true true count power found_size one other all a b c e = omega (arith, a, b, c, e)
  both_few true false count power found_size one other all a b c e = omega (arith, a, b, c, e)
  both_few false true count power found_size one other all a b c e = omega (arith, a, b, c, e)
  both_few false false count power found_size one other all a b c e = omega (arith, a, b, c, e)

  all_few : (elems items : List Elem) → AreSparseInBoth g h (most_edges key) elems most → IsFoundByAll resolved g h key elems items → length items ≤ length elems * (80 * (most + 2) ^ most_edges key)
  all_few elems items sparse it =
      let first = each_few it.by_scope it.by_descriptor (most_edges key) (omega arith) elems sparse in
      let one = more_few it.by_scope (most_edges key) key.scope elems it.scope sparse it.in_scope in
      let other = more_few it.by_descriptor (most_edges key) key.descriptor elems it.descriptor sparse it.in_descriptor in
      let inner = length-append (found resolved g h it.by_scope it.by_descriptor key elems) it.scope in
      let outer = length-append (found resolved g h it.by_scope it.by_descriptor key elems ++ it.scope) it.descriptor in
      let size = ap (λ xs. length xs) it.is in
      both_few it.by_scope it.by_descriptor (length elems) ((most + 2) ^ most_edges key) _ _ _ (length items) first one other (omega (arith, inner, outer, size))

  module _ (elems : List Elem) (agree : AgreeBut (is_one_of elems) g h) (edges : ℕ) (few : most_edges key ≤ edges) (sparse : AreSparse g h (2 * edges) (touched g elems) most) where
    pub items_few : (seen items : List Elem) → length seen ≤ length elems → AreSparseInBoth g h (most_edges key) seen most → IsFoundByAll resolved g h key seen items →
        length items ≤ 80 * length (touched g elems) * (most + 2) ^ edges
    items_few seen items fewer near it =
        let all = all_few seen items near it in
        let own = own_fewer g elems in
        let power = power_more most (most_edges key) edges few in
        let less = mul-le-mul (let size : length seen ≤ length (touched g elems) = omega (arith, fewer, own) in size) power in
        turn (length seen) (length (touched g elems)) ((most + 2) ^ most_edges key) ((most + 2) ^ edges) (length items) all less
      where
        turn : (count u small power all : ℕ) → all ≤ count * (80 * small) → count * small ≤ u * power → all ≤ 80 * u * power
        turn count u small power all a b = omega (arith, a, b)

    -- ---- what is found is near

    row_end : (one : Graph) → is_graph one ≡ true → (end : End) (node : NodeId) (x : Elem) → is_one_of (map (λ edge. Edge edge) (edges_with end node one.edges)) x ≡ true →
        (id : EdgeId) × (x ≡ Edge id) × (option_map (end_of end) (edge_at one id) ≡ Some node)
    row_end one graph end node x some =
        let it = any_slice_of (λ id. same_elem x (Edge id)) (edges_with end node one.edges) (sym (any_map (same_elem x) (λ edge. Edge edge) (edges_with end node one.edges)) ∙ some) in (
          it.1,
          exact_elem x (Edge it.1) ((Equal-is (elem_cmp x (Edge it.1))).0 it.3),
          subst (λ o. IfSome o (λ edge. option_map (end_of end) (edge_at one edge) ≡ Some node)) it.2 (listed_end end node one graph it.0),
        )
      where
        any_slice_of : {X : Type 0} (test : X → Bool) (xs : List X) → list_any test xs ≡ true → (var : ℕ) × (x : X) × (slice_get xs var ≡ Some x) × (test x ≡ true)
        any_slice_of test [] some = absurd (true≢false (sym some))
        any_slice_of test (x ∷ xs) some =
            ⊎_elim (λ here. (0, x, refl, here)) (λ later. let rest = any_slice_of test xs later in (suc rest.0, rest.1, rest.2, rest.3)) (or_cases (test x) _ some)

    ends_touched : (one : Graph) → is_graph one ≡ true → (elem x : Elem) → is_one_of elems elem ≡ true → is_one_of (edges_at one elem) x ≡ true → has_touched_end (is_one_of elems) one x ≡ true
    ends_touched one graph (Edge id) x own some = absurd (true≢false (sym some))
    ends_touched one graph (Node node) x own some =
        ⊎_elim (λ out. at_end Source (row_end one graph Source node x out)) (λ inside. at_end Target (row_end one graph Target node x inside))
        (or_cases (is_one_of (map (λ edge. Edge edge) (out_edges_of one node)) x) _
        (sym (list_any-append (same_elem x) (map (λ edge. Edge edge) (out_edges_of one node)) (map (λ edge. Edge edge) (in_edges_of one node))) ∙ some))
      where
        by : (end : End) (o : Option EdgeRow) → option_map (end_of end) o ≡ Some node →
            option_map_or (λ (row : EdgeRow). is_one_of elems (Node row.source) || is_one_of elems (Node row.target)) o false ≡ true
        by end None at = cc
        by Source (Some row) at = or_left _ _ (let same : row.source ≡ node = cc in ap (λ n. is_one_of elems (Node n)) same ∙ own)
        by Target (Some row) at = or_right (is_one_of elems (Node row.source)) _ (let same : row.target ≡ node = cc in ap (λ n. is_one_of elems (Node n)) same ∙ own)

        at_end : (end : End) → (id : EdgeId) × (x ≡ Edge id) × (option_map (end_of end) (edge_at one id) ≡ Some node) → has_touched_end (is_one_of elems) one x ≡ true
        at_end end it = subst (λ e. has_touched_end (is_one_of elems) one e ≡ true) (sym it.1) (by end (edge_at one it.0) it.2)

    abbrev IsNear : Elem → Type 0
    IsNear x = IsSparseInBoth g h edges x most

    either : (P : Type 0) (x : Elem) (xs ys : List Elem) → (is_one_of xs x ≡ true → P) → (is_one_of ys x ≡ true → P) → is_one_of (xs ++ ys) x ≡ true → P
    either P x xs ys first second some = ⊎_elim first second (or_cases (is_one_of xs x) _ (sym (list_any-append (same_elem x) xs ys) ∙ some))

    kept : (P : Type 0) (x : Elem) (b : Bool) (xs : List Elem) → (is_one_of xs x ≡ true → P) → is_one_of (cond b xs []) x ≡ true → P
    kept P x true xs by some = by some
    kept P x false xs by some = absurd (true≢false (sym some))

    module _ (pattern : Pattern) (good : is_valid_pattern pattern ≡ true) (least : edge_count pattern.edge_vars ≤ edges) (elem : Elem) (own : is_one_of elems elem ≡ true) (x : Elem) where
      near_alone : is_one_of (found_alone resolved g h elem pattern) x ≡ true → IsNear x
      near_alone =
          either (IsNear x) x _ _
          (kept (IsNear x) x (passes resolved g pattern 0 elem || passes resolved h pattern 0 elem) (elem ∷ [])
          (λ here. subst IsNear (sym (same here)) (sparse_touched g h elems agree edges most sparse elem (touched_is g h elems agree elem ∙ or_left _ _ own))))
          (kept (IsNear x) x (is_edge_var pattern.edge_vars 0) (edges_at g elem ++ edges_at h elem)
          (either (IsNear x) x (edges_at g elem) (edges_at h elem)
          (λ old. beside (or_left _ _ (ends_touched g before elem x own old)))
          (λ new. beside (or_right (has_touched_end (is_one_of elems) g x) _ (ends_touched h after elem x own new)))))
        where
          same : is_one_of (elem ∷ []) x ≡ true → x ≡ elem
          same here = ⊎_elim (λ first. exact_elem x elem ((Equal-is (elem_cmp x elem)).0 first)) (λ none. absurd (true≢false (sym none))) (or_cases (same_elem x elem) _ here)

          beside : (has_touched_end (is_one_of elems) g x || has_touched_end (is_one_of elems) h x) ≡ true → IsNear x
          beside some = sparse_touched g h elems agree edges most sparse x (touched_is g h elems agree x ∙ or_right (is_one_of elems x) _ some)

      near_from : (vars : ℕ) → vars ≤ length pattern.edge_vars → is_one_of (found_from resolved g h elem pattern vars) x ≡ true → IsNear x
      near_from zero inside some = absurd (true≢false (sym some))
      near_from (suc vars) inside some =
          either (IsNear x) x (found_from resolved g h elem pattern vars) _ (near_from vars (omega arith))
          (either (IsNear x) x (reached resolved g pattern vars elem) (reached resolved h pattern vars elem)
          (λ old. sparse_before g h elems agree edges most sparse edges (omega arith) elem x own
          (All-contains (IsNearTo g edges elem) (reached resolved g pattern vars elem) x (reached_near resolved g pattern good vars (omega arith) elem edges least)
          (contains_it (reached resolved g pattern vars elem) x old)))
          (λ new. sparse_after g h elems agree edges most sparse edges (omega arith) elem x own
          (All-contains (IsNearTo h edges elem) (reached resolved h pattern vars elem) x (reached_near resolved h pattern good vars (omega arith) elem edges least)
          (contains_it (reached resolved h pattern vars elem) x new)))) some

      near_in : is_one_of (found_in resolved g h elem pattern) x ≡ true → IsNear x
      near_in = by (length pattern.edge_vars == 1)
        where
          by : (b : Bool) → is_one_of (cond b (found_alone resolved g h elem pattern) (found_from resolved g h elem pattern (length pattern.edge_vars))) x ≡ true → IsNear x
          by true = near_alone
          by false = near_from (length pattern.edge_vars) (omega arith)

    pub found_near : (x : Elem) → Contains (found resolved g h true true key elems) x → IsNear x
    found_near x inside =
        let it = one_that (λ elem. is_one_of (found_by resolved g h elem true true key) x) elems (sym (found_is resolved g h elems key x) ∙ has_it (found resolved g h true true key elems) x inside) in
        let valids = patterns_valid key valid in
        let scope_edges = side_edges Scope key in
        let descriptor_edges = side_edges Descriptor key in
        either (IsNear x) x (found_in resolved g h it.0 key.scope) (found_in resolved g h it.0 key.descriptor)
        (near_in key.scope valids.0 (omega (arith, scope_edges, few)) it.0 it.1 x)
        (near_in key.descriptor valids.1 (omega (arith, descriptor_edges, few)) it.0 it.1 x)
        it.2

    -- and so is what is spread
    more_near : (seen : List Elem) → ((elem : Elem) → is_one_of seen elem ≡ true → is_one_of elems elem ≡ true) → (searched : Bool) (pattern : Pattern) (items : List Elem) →
        IsMore resolved g h (most_edges key) searched pattern seen items → (x : Elem) → is_one_of items x ≡ true → IsNear x
    more_near seen own true pattern items none x some = absurd (true≢false (sym some ∙ ap (λ xs. is_one_of xs x) none))
    more_near seen own false pattern items more x some =
        let it = more.near x some in
        ⊎_elim
        (λ old. sparse_before g h elems agree edges most sparse (most_edges key) few it.0 x (own it.0 it.1) old)
        (λ new. sparse_after g h elems agree edges most sparse (most_edges key) few it.0 x (own it.0 it.1) new) it.2

    wide : (scope descriptor : Bool) (elem x : Elem) → is_one_of (found_by resolved g h elem scope descriptor key) x ≡ true → is_one_of (found_by resolved g h elem true true key) x ≡ true
    wide scope descriptor elem x some =
        list_any-append (same_elem x) (found_in resolved g h elem key.scope) (found_in resolved g h elem key.descriptor)
        ∙ ⊎_elim (λ one. or_left _ _ (part scope (found_in resolved g h elem key.scope) one))
        (λ other. or_right (is_one_of (found_in resolved g h elem key.scope) x) _ (part descriptor (found_in resolved g h elem key.descriptor) other))
        (or_cases (is_one_of (cond scope (found_in resolved g h elem key.scope) []) x) _
        (sym (list_any-append (same_elem x) (cond scope (found_in resolved g h elem key.scope) []) (cond descriptor (found_in resolved g h elem key.descriptor) [])) ∙ some))
      where
        part : (b : Bool) (xs : List Elem) → is_one_of (cond b xs []) x ≡ true → is_one_of xs x ≡ true
        part true xs some = some
        part false xs some = absurd (true≢false (sym some))

    pub items_near : (seen items : List Elem) → ((elem : Elem) → is_one_of seen elem ≡ true → is_one_of elems elem ≡ true) → IsFoundByAll resolved g h key seen items → (x : Elem) → Contains items x → IsNear x
    items_near seen items own it x inside =
        either (IsNear x) x (found resolved g h it.by_scope it.by_descriptor key seen ++ it.scope) it.descriptor
        (either (IsNear x) x (found resolved g h it.by_scope it.by_descriptor key seen) it.scope searched (more_near seen own it.by_scope key.scope it.scope it.in_scope x))
        (more_near seen own it.by_descriptor key.descriptor it.descriptor it.in_descriptor x)
        (ap (λ xs. is_one_of xs x) (sym it.is) ∙ has_it items x inside)
      where
        searched : is_one_of (found resolved g h it.by_scope it.by_descriptor key seen) x ≡ true → IsNear x
        searched some =
            let one = one_that (λ elem. is_one_of (found_by resolved g h elem it.by_scope it.by_descriptor key) x) seen
            (sym (any_flat_map (same_elem x) (λ elem. found_by resolved g h elem it.by_scope it.by_descriptor key) seen) ∙ some) in
            found_near x
            (contains_it (found resolved g h true true key elems) x
            (found_is resolved g h elems key x
            ∙ any_of (λ elem. is_one_of (found_by resolved g h elem true true key) x) one.0 elems (own one.0 one.1) (wide it.by_scope it.by_descriptor one.0 x one.2)))

    -- a list of what is found alone
    pub all_near : (xs items seen : List Elem) → ((x : Elem) → Contains xs x → Contains items x) → ((elem : Elem) → is_one_of seen elem ≡ true → is_one_of elems elem ≡ true) →
        IsFoundByAll resolved g h key seen items → All IsNear xs
    all_near xs items seen no_other own it = All-weaker (Contains xs) IsNear (λ x inside. items_near seen items own it x (no_other x inside)) xs (All-contains_itself xs)

    -- ---- what the searches cost

    pub own_sparse : AreSparseInBoth g h (most_edges key) elems most
    own_sparse = sparse_own g h elems agree edges most sparse (most_edges key) few

    pub found_cost : (start now : ℕ) → now ≤ start + 1280 * length elems * (most + 2) ^ (most_edges key + 1) →
        now ≤ start + 1280 * length (touched g elems) * (most + 2) ^ (edges + 1)
    found_cost start now cost =
        let more = power_more most (most_edges key + 1) (edges + 1) (omega (arith, few)) in
        let all = mul-le-mul (own_fewer g elems) more in
        turn start now (length elems) (length (touched g elems)) ((most + 2) ^ (most_edges key + 1)) ((most + 2) ^ (edges + 1)) cost all
      where
        turn : (start now count u less more : ℕ) → now ≤ start + 1280 * count * less → count * less ≤ u * more → now ≤ start + 1280 * u * more
        turn start now count u less more a b = omega arith

-- ---- with two look-ups for each element before

module _ (g : Graph) (elems : List Elem) (most edges : ℕ) where
  pub read_cost : (start mid : ℕ) → mid ≤ start + 2 * length elems → mid ≤ start + 1536 * (length (touched g elems) + 1) * (most + 2) ^ (edges + 1)
  read_cost start mid first =
      let all : (length (touched g elems) + 1) * 1 ≤ (length (touched g elems) + 1) * (most + 2) ^ (edges + 1) =
      mul-le-mul (let same : length (touched g elems) + 1 ≤ length (touched g elems) + 1 = omega arith in same) (one_at_least most (edges + 1)) in
      turn start mid (length elems) (length (touched g elems)) ((most + 2) ^ (edges + 1)) first (own_fewer g elems) all
    where
      turn : (start mid count u power : ℕ) → mid ≤ start + 2 * count → count ≤ u → (u + 1) * 1 ≤ (u + 1) * power → mid ≤ start + 1536 * (u + 1) * power
      turn start mid count u power a b c = omega arith

  pub affected_cost : (start mid now : ℕ) → mid ≤ start + 2 * length elems → now ≤ mid + 1280 * length (touched g elems) * (most + 2) ^ (edges + 1) →
      now ≤ start + 1536 * (length (touched g elems) + 1) * (most + 2) ^ (edges + 1)
  affected_cost start mid now first second =
      let all : (length (touched g elems) + 1) * 1 ≤ (length (touched g elems) + 1) * (most + 2) ^ (edges + 1) =
      mul-le-mul (let same : length (touched g elems) + 1 ≤ length (touched g elems) + 1 = omega arith in same) (one_at_least most (edges + 1)) in
      turn start mid now (length elems) (length (touched g elems)) ((most + 2) ^ (edges + 1)) first second (own_fewer g elems) all
    where
      turn : (start mid now count u power : ℕ) → mid ≤ start + 2 * count → now ≤ mid + 1280 * u * power → count ≤ u → (u + 1) * 1 ≤ (u + 1) * power →
          now ≤ start + 1536 * (u + 1) * power
      turn start mid now count u power a b c d = omega arith
