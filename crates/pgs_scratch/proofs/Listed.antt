-- A violation stands in the list exactly where it is the one of its key, number and least element.
use Rattle.std.proofs.Common.{◌≡◌, ◌↔◌, ℕ, zero, suc, Bool, true, false, IsTrue, List, [], ◌∷◌, length, Option, Some, None, slice_get, refl, sym, ap, ◌∙◌, subst, true≢false, arith}
use Rattle.std.specs.Prelude.{Contains, ◌&&◌, option_map, option_and_then, filter_map, if◌then◌else◌}
use Rattle.std.specs.BTreeMap.{is_at}
use Rattle.std.specs.Cmp.{Equal-is, nat_cmp_total, on_total}
use Rattle.std.specs.List.{cons_option}
use Rattle.std.specs.Map.{keys_of}
use Rattle.std.proofs.lemmas.Bool.{and_parts, and_from}
use Rattle.std.proofs.lemmas.Map.Views.{Contains-from_lookup}
use Rattle.std.proofs.lemmas.Map.Lookups.{exact_unsigned}
use Rattle.pgs_base.specs.declared.element.NodeId.{NodeId}
use Rattle.pgs_base.specs.declared.element.EdgeId.{EdgeId}
use Rattle.pgs_base.specs.declared.element.Elem.{Elem}
use Rattle.pgs_base.specs.declared.part.Part.{Part}
use Rattle.pgs_base.specs.declared.row.NodeRow.{NodeRow}
use Rattle.pgs_base.specs.declared.row.EdgeRow.{EdgeRow}
use Rattle.pgs_base.specs.Graph.{Graph, node_cmp, edge_cmp, node_at, edge_at, is_graph}
use Rattle.pgs_base.proofs.Ascending.{ascends_decides}
use Rattle.pgs_base.proofs.Graphs.{graph_parts}
use Rattle.pgs_syntax.specs.declared.key.Key.{Key}
use Rattle.pgs_syntax.specs.declared.resolved.Resolved.{Resolved}
use Rattle.pgs_syntax.specs.Join.{is_empty}
use Rattle.pgs_syntax.specs.KeyValues.{starts_at, is_in_scope, scope_of, key_values}
use Rattle.pgs_syntax.specs.Typed.{is_typed_node, is_typed_edge}
use Rattle.pgs_syntax.proofs.Assigned.{match_found}
use Rattle.pgs_syntax.proofs.Members.{kept_found, in_scope_given}
use Rattle.pgs_violation.specs.declared.violation.Violation.{Violation}
use Rattle.pgs_violation.specs.declared.violation.Violation.TheVariants.{UntypedNode, UntypedEdge, Mandatory, Singleton, Exclusive, CountOutside}
use Rattle.pgs_violation.specs.Violations.{two_least, shared_tuple, sharing, later_than, is_within, count_outside, violations}
use Rattle.pgs_violation.specs.Meaning.{IsKeyOf}
use Rattle.pgs_violation.proofs.Origins.{Origin, of_node, of_edge, missing, several, shared, counted, origin, listed}
use Rattle.pgs_scratch.specs.Confirmed.{key_numbered, missing_at, several_at, shared_at, count_at, violation_at}
use Rattle.pgs_scratch.specs.Untyped.{untyped_node_at, untyped_edge_at}
use Rattle.pgs_scratch.proofs.ByNumber.{found_row}

-- ---- small steps

unless : (b : Bool) (u v : Violation) → (if b then None else Some u) ≡ Some v → u ≡ v
unless true u v e = cc
unless false u v e = cc

when : (b : Bool) (u v : Violation) → (if b then Some u else None) ≡ Some v → u ≡ v
when true u v e = cc
when false u v e = cc

then_found : {X Y : Type 0} (give : X → Option Y) (o : Option X) (y : Y) → option_and_then give o ≡ Some y → (x : X) × (o ≡ Some x) × (give x ≡ Some y)
then_found give None y e = cc
then_found give (Some x) y e = (x, refl, e)

if_found : {Y : Type 0} (b : Bool) (o : Option Y) (y : Y) → (if b then o else None) ≡ Some y → (b ≡ true) × (o ≡ Some y)
if_found true o y e = (refl, e)
if_found false o y e = cc

if_given : {Y : Type 0} (b : Bool) (o : Option Y) (y : Y) → b ≡ true → o ≡ Some y → (if b then o else None) ≡ Some y
if_given true o y is e = e
if_given false o y is e = cc

two_form : (number : ℕ) (elem : Elem) (tuples : List (List Part)) (v : Violation) → two_least number elem tuples ≡ Some v →
    (first : List Part) × (second : List Part) × (Singleton number elem first second ≡ v)
two_form number elem [] v e = cc
two_form number elem (first ∷ []) v e = cc
two_form number elem (first ∷ second ∷ rest) v e = (first, second, cc)

shared_form : (number : ℕ) (values : Elem → List (List Part)) (elem : Elem) (later : List Elem) (v : Violation) →
    slice_get (filter_map (sharing number values elem) later) 0 ≡ Some v → (second : Elem) × (tuple : List Part) × (Exclusive number elem second tuple ≡ v)
shared_form number values elem [] v e = cc
shared_form number values elem (other ∷ later) v e = by (shared_tuple (values elem) (values other)) e (shared_form number values elem later v)
  where
    by : (o : Option (List Part)) → slice_get (cons_option (option_map (Exclusive number elem other) o) (filter_map (sharing number values elem) later)) 0 ≡ Some v →
        (slice_get (filter_map (sharing number values elem) later) 0 ≡ Some v → (second : Elem) × (tuple : List Part) × (Exclusive number elem second tuple ≡ v)) →
        (second : Elem) × (tuple : List Part) × (Exclusive number elem second tuple ≡ v)
    by None h rest = rest h
    by (Some tuple) h rest = (other, tuple, cc)

count_form : (number : ℕ) (bounds : ℕ × ℕ) (elem : Elem) (tuples : List (List Part)) (v : Violation) → count_outside number bounds elem tuples ≡ Some v →
    CountOutside number elem (length tuples) bounds.0 bounds.1 ≡ v
count_form number bounds elem tuples v e = unless (is_within bounds (length tuples)) (CountOutside number elem (length tuples) bounds.0 bounds.1) v e

-- ---- keys and scopes

key_found : (resolved : Resolved) (number : ℕ) (key : Key) → key_numbered resolved.guard.keys number ≡ Some key → IsKeyOf resolved number key
key_found resolved zero key e = cc
key_found resolved (suc place) key e = (place, omega arith, e)

key_given : (resolved : Resolved) (number : ℕ) (key : Key) → IsKeyOf resolved number key → key_numbered resolved.guard.keys number ≡ Some key
key_given resolved zero key (place, same, at) = absurd (omega arith)
key_given resolved (suc before) key (place, same, at) =
    let one : before ≡ place = omega arith in ap (slice_get resolved.guard.keys) one ∙ at

scope_found : (resolved : Resolved) (g : Graph) (key : Key) (elem : Elem) → is_in_scope resolved g key elem ≡ true → Contains (scope_of resolved g key) elem
scope_found resolved g key elem is =
    let it = match_found resolved g key.scope (starts_at elem) is in in_scope_given resolved g key elem it.0 it.1 it.2

scope_given : (resolved : Resolved) (g : Graph) (key : Key) (elem : Elem) → Contains (scope_of resolved g key) elem → is_in_scope resolved g key elem ≡ true
scope_given resolved g key elem h = (kept_found (is_in_scope resolved g key) _ elem h).1

node_exact : (a b : NodeId) → is_at (node_cmp a) b ≡ true → a ≡ b
node_exact a b h = let e = exact_unsigned a.0 b.0 ((Equal-is (node_cmp a b)).0 h) in λ i. record { 0 = e i }

edge_exact : (a b : EdgeId) → is_at (edge_cmp a) b ≡ true → a ≡ b
edge_exact a b h = let e = exact_unsigned a.0 b.0 ((Equal-is (edge_cmp a b)).0 h) in λ i. record { 0 = e i }

module _ (resolved : Resolved) (g : Graph) (graph : is_graph g ≡ true) where
  node_found : (row : NodeId × NodeRow) → Contains g.nodes row → node_at g row.0 ≡ Some row.1
  node_found row there =
      found_row {Y = Violation} (on_total (λ (id : NodeId). id.0) nat_cmp_total) (λ _. None) g.nodes
      ((ascends_decides node_cmp (keys_of g.nodes)).0 (graph_parts g graph).node_order) row there

  edge_found : (row : EdgeId × EdgeRow) → Contains g.edges row → edge_at g row.0 ≡ Some row.1
  edge_found row there =
      found_row {Y = Violation} (on_total (λ (id : EdgeId). id.0) nat_cmp_total) (λ _. None) g.edges
      ((ascends_decides edge_cmp (keys_of g.edges)).0 (graph_parts g graph).edge_order) row there

  -- ---- found, so listed

  of_key_found : (v : Violation) (number : ℕ) (give : Key → Option Violation) → option_and_then give (key_numbered resolved.guard.keys number) ≡ Some v →
      (key : Key) × IsKeyOf resolved number key × (give key ≡ Some v)
  of_key_found v number give e = let found = then_found give (key_numbered resolved.guard.keys number) v e in (found.0, key_found resolved number found.0 found.1, found.2)

  pub found_listed : (v : Violation) → violation_at resolved g v ≡ Some v → Contains (violations resolved g) v
  found_listed (UntypedNode node) e =
      let asked = if_found resolved.guard.strict (untyped_node_at resolved g node) (UntypedNode node) e in
      let found = then_found _ (node_at g node) (UntypedNode node) asked.1 in
      listed resolved g (UntypedNode node) (of_node (node, found.0) asked.0 (Contains-from_lookup node_exact node found.0 g.nodes found.1) found.2)
  found_listed (UntypedEdge edge) e =
      let asked = if_found resolved.guard.strict (untyped_edge_at resolved g edge) (UntypedEdge edge) e in
      let found = then_found _ (edge_at g edge) (UntypedEdge edge) asked.1 in
      listed resolved g (UntypedEdge edge) (of_edge (edge, found.0) asked.0 (Contains-from_lookup edge_exact edge found.0 g.edges found.1) found.2)
  found_listed (Mandatory number elem) e =
      let v = Mandatory number elem in
      let found = of_key_found v number (missing_at resolved g number elem) e in
      let key = found.0 in
      let asked = if_found (key.qualifiers.mandatory && is_in_scope resolved g key elem) _ v found.2 in
      let both = and_parts _ _ asked.0 in
      listed resolved g v (missing number key elem found.1 both.0 (scope_found resolved g key elem both.1) asked.1)
  found_listed (Singleton number elem first second) e =
      let v = Singleton number elem first second in
      let found = of_key_found v number (several_at resolved g number elem) e in
      let key = found.0 in
      let asked = if_found (key.qualifiers.singleton && is_in_scope resolved g key elem) _ v found.2 in
      let both = and_parts _ _ asked.0 in
      listed resolved g v (several number key elem found.1 both.0 (scope_found resolved g key elem both.1) asked.1)
  found_listed (Exclusive number elem second tuple) e =
      let v = Exclusive number elem second tuple in
      let found = of_key_found v number (shared_at resolved g number elem) e in
      let key = found.0 in
      let asked = if_found (key.qualifiers.exclusive && is_in_scope resolved g key elem) _ v found.2 in
      let both = and_parts _ _ asked.0 in
      listed resolved g v (shared number key elem found.1 both.0 (scope_found resolved g key elem both.1) asked.1)
  found_listed (CountOutside number elem count least most) e =
      let v = CountOutside number elem count least most in
      let found = of_key_found v number (count_at resolved g number elem) e in
      let key = found.0 in
      let bounded = then_found _ key.qualifiers.count v found.2 in
      let asked = if_found (is_in_scope resolved g key elem) _ v bounded.2 in
      listed resolved g v (counted number key bounded.0 elem found.1 bounded.1 (scope_found resolved g key elem asked.0) asked.1)

  -- ---- listed, so found

  of_key_given : (number : ℕ) (give : Key → Option Violation) (key : Key) (v : Violation) → IsKeyOf resolved number key → give key ≡ Some v →
      option_and_then give (key_numbered resolved.guard.keys number) ≡ Some v
  of_key_given number give key v is e = ap (option_and_then give) (key_given resolved number key is) ∙ e

  pub listed_found : (v : Violation) → Contains (violations resolved g) v → violation_at resolved g v ≡ Some v
  listed_found v h = by (origin resolved g v h)
    where
      by : Origin resolved g v → violation_at resolved g v ≡ Some v
      by (of_node node strict there gives) =
          subst (λ w. violation_at resolved g w ≡ Some v) (unless (is_typed_node resolved node.1) (UntypedNode node.0) v gives)
          (if_given resolved.guard.strict (untyped_node_at resolved g node.0) v strict (ap (option_and_then _) (node_found node there) ∙ gives))
      by (of_edge edge strict there gives) =
          subst (λ w. violation_at resolved g w ≡ Some v) (unless (is_typed_edge resolved g edge.1) (UntypedEdge edge.0) v gives)
          (if_given resolved.guard.strict (untyped_edge_at resolved g edge.0) v strict (ap (option_and_then _) (edge_found edge there) ∙ gives))
      by (missing number key elem is asked there gives) =
          subst (λ w. violation_at resolved g w ≡ Some v) (when (is_empty (key_values resolved g key elem)) (Mandatory number elem) v gives)
          (of_key_given number (missing_at resolved g number elem) key v is (if_given _ _ v (and_from _ _ asked (scope_given resolved g key elem there)) gives))
      by (several number key elem is asked there gives) =
          let form = two_form number elem (key_values resolved g key elem) v gives in
          subst (λ w. violation_at resolved g w ≡ Some v) form.2
          (of_key_given number (several_at resolved g number elem) key v is (if_given _ _ v (and_from _ _ asked (scope_given resolved g key elem there)) gives))
      by (shared number key elem is asked there gives) =
          let form = shared_form number (key_values resolved g key) elem (later_than elem (scope_of resolved g key)) v gives in
          subst (λ w. violation_at resolved g w ≡ Some v) form.2
          (of_key_given number (shared_at resolved g number elem) key v is (if_given _ _ v (and_from _ _ asked (scope_given resolved g key elem there)) gives))
      by (counted number key bounds elem is asked there gives) =
          subst (λ w. violation_at resolved g w ≡ Some v) (count_form number bounds elem (key_values resolved g key elem) v gives)
          (of_key_given number (count_at resolved g number elem) key v is
          (ap (option_and_then (λ (bounds : ℕ × ℕ). if is_in_scope resolved g key elem then count_outside number bounds elem (key_values resolved g key elem) else None))
          asked ∙ if_given _ _ v (scope_given resolved g key elem there) gives))

  -- ---- what a comparison with it says

  pub same_is_listed : (v own : Violation) (answer : Bool) → Some own ≡ violation_at resolved g v → IsTrue answer ↔ (own ≡ v) →
      IsTrue answer ↔ Contains (violations resolved g) v
  same_is_listed v own answer found same = (
    λ t. found_listed v (sym found ∙ ap Some (same.0 t)),
    λ h. let both : Some own ≡ Some v = found ∙ listed_found v h in same.1 (cc),
  )

  pub none_is_not_listed : (v : Violation) → None ≡ violation_at resolved g v → IsTrue false ↔ Contains (violations resolved g) v
  none_is_not_listed v found = (
    λ t. absurd (true≢false (sym t)),
    λ h. let both : None ≡ Some v = found ∙ listed_found v h in cc,
  )
