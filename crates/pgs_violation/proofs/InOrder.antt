-- The violations of a graph ascend strictly.
use Rattle.std.proofs.Common.{map-id, ◌≡◌, ℕ, ◌+◌, ◌*◌, ◌<◌, ◌≤◌, Bool, true, false, List, [], ◌∷◌, ◌++◌, map, length, Option, Some, None, refl, sym, ◌∙◌, ap, subst, arith, le_refl, ⊎_elim, Ordering, Less, Equal, Greater, is_lt}
use Rattle.std.specs.Prelude.{filter_map, slice_get, option_map, if◌then◌else◌}
use Rattle.std.specs.Ordering.{nat_cmp, ordering_then}
use Rattle.std.specs.Cmp.{tied_itself, nat_cmp_total, nat_cmp_is}
use Rattle.std.specs.List.{list_all, AllByRecursion, cons_option}
use Rattle.std.proofs.lemmas.Bool.{and_parts, and_from, cases_order}
use Rattle.std.proofs.lemmas.List.Folds.{list_all-append}
use Rattle.pgs_base.specs.declared.element.NodeId.{NodeId}
use Rattle.pgs_base.specs.declared.element.EdgeId.{EdgeId}
use Rattle.pgs_base.specs.declared.element.Elem.{Elem}
use Rattle.pgs_base.specs.declared.element.Elem.TheVariants.{Node, Edge}
use Rattle.pgs_base.specs.declared.part.Part.{Part}
use Rattle.pgs_base.specs.declared.row.NodeRow.{NodeRow}
use Rattle.pgs_base.specs.declared.row.EdgeRow.{EdgeRow}
use Rattle.pgs_base.specs.Graph.{Graph, is_graph}
use Rattle.pgs_base.specs.Order.{elem_cmp, ascends}
use Rattle.pgs_syntax.specs.declared.key.Key.{Key}
use Rattle.pgs_syntax.specs.declared.resolved.Resolved.{Resolved}
use Rattle.pgs_syntax.specs.Join.{is_empty}
use Rattle.pgs_syntax.specs.KeyValues.{scope_of, key_values}
use Rattle.pgs_syntax.specs.Typed.{is_typed_node, is_typed_edge}
use Rattle.pgs_syntax.proofs.InOrder.{nodes_ascend, edges_ascend, scope_ascends}
use Rattle.pgs_violation.specs.declared.violation.Violation.{Violation}
use Rattle.pgs_violation.specs.declared.violation.Violation.TheVariants.{UntypedNode, UntypedEdge, Mandatory, Singleton, Exclusive, CountOutside}
use Rattle.pgs_violation.specs.Standing.{violation_cmp, key_of, number_of, elem_of, carried_cmp}
use Rattle.pgs_violation.specs.Violations.{untyped_node, untyped_edge, mandatory_violation, two_least, singleton_violation, shared_tuple, later_than, sharing, exclusive_violation, is_within, count_outside, count_violation, where_asked, where_bounded, key_violations, keys_violations, violations}

-- ---- one number for the key and the number of a violation

abbrev rank : Violation → ℕ
rank v = key_of v * 100 + number_of v

number_within : (v : Violation) → (25 ≤ number_of v) × (number_of v ≤ 39)
number_within (UntypedNode node) = (omega arith, omega arith)
number_within (UntypedEdge edge) = (omega arith, omega arith)
number_within (Mandatory key elem) = (omega arith, omega arith)
number_within (Singleton key elem first second) = (omega arith, omega arith)
number_within (Exclusive key first second tuple) = (omega arith, omega arith)
number_within (CountOutside key elem count least most) = (omega arith, omega arith)

less_is : (a b : ℕ) → a < b → nat_cmp a b ≡ Less
less_is a b h = sym (nat_cmp_is a b Less h)

-- of lesser rank is less
rank_less : (v w : Violation) → rank v < rank w → is_lt (violation_cmp v w) ≡ true
rank_less v w h =
    let one = number_within v in
    let other = number_within w in
    ⊎_elim
    (λ (same : key_of v ≡ key_of w).
    let less : number_of v < number_of w = omega arith in
    ap (λ o. is_lt (ordering_then (ordering_then (ordering_then o (nat_cmp (number_of v) (number_of w))) (elem_cmp (elem_of v) (elem_of w))) (carried_cmp v w)))
    (ap (nat_cmp (key_of v)) (sym same) ∙ tied_itself nat_cmp_total (key_of v))
    ∙ ap (λ o. is_lt (ordering_then (ordering_then o (elem_cmp (elem_of v) (elem_of w))) (carried_cmp v w))) (less_is (number_of v) (number_of w) less))
    (λ apart. ⊎_elim
    (λ (less : key_of v < key_of w).
    ap (λ o. is_lt (ordering_then (ordering_then (ordering_then o (nat_cmp (number_of v) (number_of w))) (elem_cmp (elem_of v) (elem_of w))) (carried_cmp v w)))
    (less_is (key_of v) (key_of w) less))
    (λ (more : key_of w < key_of v). absurd (omega arith))
    apart)
    (cases_order (key_of v) (key_of w))

-- of equal rank, the one of the lesser element is less
elem_less : (v w : Violation) → key_of v ≡ key_of w → number_of v ≡ number_of w → is_lt (elem_cmp (elem_of v) (elem_of w)) ≡ true → is_lt (violation_cmp v w) ≡ true
elem_less v w keys numbers less =
    ap (λ o. is_lt (ordering_then (ordering_then (ordering_then o (nat_cmp (number_of v) (number_of w))) (elem_cmp (elem_of v) (elem_of w))) (carried_cmp v w)))
    (ap (nat_cmp (key_of v)) (sym keys) ∙ tied_itself nat_cmp_total (key_of v))
    ∙ ap (λ o. is_lt (ordering_then (ordering_then o (elem_cmp (elem_of v) (elem_of w))) (carried_cmp v w)))
    (ap (nat_cmp (number_of v)) (sym numbers) ∙ tied_itself nat_cmp_total (number_of v))
    ∙ settled (elem_cmp (elem_of v) (elem_of w)) (carried_cmp v w) less
  where
    settled : (o c : Ordering) → is_lt o ≡ true → is_lt (ordering_then o c) ≡ true
    settled Less c h = refl
    settled Equal c h = cc
    settled Greater c h = cc

-- ---- runs of violations

abbrev AllWithin : ℕ → ℕ → List Violation → Type 0
AllWithin low high vs = AllByRecursion (λ v. (low ≤ rank v) × (rank v < high)) vs

-- violations that ascend and whose ranks lie from low up to high
record Run (low high : ℕ) (vs : List Violation) : Type 0 where
  pub ascending : ascends violation_cmp vs ≡ true
  pub within : AllWithin low high vs

widened : (low high lower higher : ℕ) (vs : List Violation) → lower ≤ low → high ≤ higher → AllWithin low high vs → AllWithin lower higher vs
widened low high lower higher [] a b h = tt
widened low high lower higher (v ∷ vs) a b h = let here = h.0 in ((omega arith, omega arith), widened low high lower higher vs a b h.1)

wide : (low high lower higher : ℕ) (vs : List Violation) → lower ≤ low → high ≤ higher → Run low high vs → Run lower higher vs
wide low high lower higher vs a b run = record { ascending = run.ascending; within = widened low high lower higher vs a b run.within }

below_all : (v : Violation) (low high : ℕ) (ws : List Violation) → rank v < low → AllWithin low high ws → list_all (λ w. is_lt (violation_cmp v w)) ws ≡ true
below_all v low high [] below h = refl
below_all v low high (w ∷ ws) below h = let here = h.0 in and_from _ _ (rank_less v w (omega arith)) (below_all v low high ws below h.1)

append : (low mid high : ℕ) (xs ys : List Violation) → low ≤ mid → mid ≤ high → Run low mid xs → Run mid high ys → Run low high (xs ++ ys)
append low mid high [] ys a b first second = wide mid high low high ys a (le_refl high) second
append low mid high (x ∷ xs) ys a b first second =
    let parts = and_parts _ _ first.ascending in
    let here = first.within.0 in
    let rest = append low mid high xs ys a b (record { ascending = parts.1; within = first.within.1 }) second in
    record {
      ascending = and_from _ _
          (list_all-append (λ w. is_lt (violation_cmp x w)) xs ys ∙ and_from _ _ parts.0 (below_all x mid high ys here.1 second.within))
          rest.ascending;
      within = ((here.0, omega arith), rest.within);
    }

asked : (low high : ℕ) (b : Bool) (vs : List Violation) → Run low high vs → Run low high (where_asked b vs)
asked low high true vs run = run
asked low high false vs run = record { ascending = refl; within = tt }

bounded : (low high : ℕ) (o : Option (ℕ × ℕ)) (vs : ℕ × ℕ → List Violation) → ((bounds : ℕ × ℕ) → Run low high (vs bounds)) →
    Run low high (where_bounded o vs)
bounded low high None vs runs = record { ascending = refl; within = tt }
bounded low high (Some bounds) vs runs = runs bounds

-- ---- what is found of elements that ascend

module _ {X : Type 0} (elem : X → Elem) (at : X → Option Violation) (key number : ℕ)
    (says : (x : X) (v : Violation) → at x ≡ Some v → (key_of v ≡ key) × (number_of v ≡ number) × (elem_of v ≡ elem x)) where
  found_within : (xs : List X) → AllWithin (key * 100 + number) (key * 100 + number + 1) (filter_map at xs)
  found_within [] = tt
  found_within (x ∷ xs) = by (at x) refl (found_within xs)
    where
      by : (o : Option Violation) → at x ≡ o → AllWithin (key * 100 + number) (key * 100 + number + 1) (filter_map at xs) →
          AllWithin (key * 100 + number) (key * 100 + number + 1) (cons_option o (filter_map at xs))
      by None e rest = rest
      by (Some v) e rest =
          let facts = says x v e in let keys = facts.0 in let numbers = facts.1 in ((omega arith, omega arith), rest)

  later_all : (x : X) (v : Violation) → at x ≡ Some v → (ys : List X) → list_all (λ later. is_lt (elem_cmp (elem x) later)) (map elem ys) ≡ true →
      list_all (λ w. is_lt (violation_cmp v w)) (filter_map at ys) ≡ true
  later_all x v e [] h = refl
  later_all x v e (y ∷ ys) h = by (at y) refl (later_all x v e ys (and_parts _ _ h).1)
    where
      by : (o : Option Violation) → at y ≡ o → list_all (λ w. is_lt (violation_cmp v w)) (filter_map at ys) ≡ true →
          list_all (λ w. is_lt (violation_cmp v w)) (cons_option o (filter_map at ys)) ≡ true
      by None f rest = rest
      by (Some w) f rest =
          let one = says x v e in
          let other = says y w f in
          and_from _ _
          (elem_less v w (one.0 ∙ sym other.0) (one.1 ∙ sym other.1)
          (ap (λ a. is_lt (elem_cmp a (elem_of w))) one.2 ∙ ap (λ b. is_lt (elem_cmp (elem x) b)) other.2 ∙ (and_parts _ _ h).0))
          rest

  found_ascends : (xs : List X) → ascends elem_cmp (map elem xs) ≡ true → ascends violation_cmp (filter_map at xs) ≡ true
  found_ascends [] h = refl
  found_ascends (x ∷ xs) h = by (at x) refl (found_ascends xs (and_parts _ _ h).1)
    where
      by : (o : Option Violation) → at x ≡ o → ascends violation_cmp (filter_map at xs) ≡ true → ascends violation_cmp (cons_option o (filter_map at xs)) ≡ true
      by None e rest = rest
      by (Some v) e rest = and_from _ _ (later_all x v e xs (and_parts _ _ h).0) rest

  found_run : (xs : List X) → ascends elem_cmp (map elem xs) ≡ true → Run (key * 100 + number) (key * 100 + number + 1) (filter_map at xs)
  found_run xs h = record { ascending = found_ascends xs h; within = found_within xs }

-- ---- what each kind of violation says

abbrev pub Says : Elem → ℕ → ℕ → Violation → Type 0
Says elem key number v = (key_of v ≡ key) × (number_of v ≡ number) × (elem_of v ≡ elem)

unless : (b : Bool) (u v : Violation) → (if b then None else Some u) ≡ Some v → u ≡ v
unless true u v e = cc
unless false u v e = cc

when : (b : Bool) (u v : Violation) → (if b then Some u else None) ≡ Some v → u ≡ v
when true u v e = cc
when false u v e = cc

pub untyped_node_says : (resolved : Resolved) (node : NodeId × NodeRow) (v : Violation) → untyped_node resolved node ≡ Some v → Says (Node node.0) 0 25 v
untyped_node_says resolved node v e = subst (Says (Node node.0) 0 25) (unless (is_typed_node resolved node.1) (UntypedNode node.0) v e) (refl, refl, refl)

pub untyped_edge_says : (resolved : Resolved) (g : Graph) (edge : EdgeId × EdgeRow) (v : Violation) → untyped_edge resolved g edge ≡ Some v → Says (Edge edge.0) 0 26 v
untyped_edge_says resolved g edge v e = subst (Says (Edge edge.0) 0 26) (unless (is_typed_edge resolved g edge.1) (UntypedEdge edge.0) v e) (refl, refl, refl)

module _ (key : ℕ) (values : Elem → List (List Part)) where
  pub mandatory_violation_says : (elem : Elem) (v : Violation) → mandatory_violation key values elem ≡ Some v → Says elem key 27 v
  mandatory_violation_says elem v e = subst (Says elem key 27) (when (is_empty (values elem)) (Mandatory key elem) v e) (refl, refl, refl)

  pub two_least_says : (elem : Elem) (tuples : List (List Part)) (v : Violation) → two_least key elem tuples ≡ Some v → Says elem key 28 v
  two_least_says elem [] v e = cc
  two_least_says elem (first ∷ []) v e = cc
  two_least_says elem (first ∷ second ∷ rest) v e =
      let same : Singleton key elem first second ≡ v = cc in subst (Says elem key 28) same (refl, refl, refl)

  sharing_says : (elem second : Elem) (v : Violation) → sharing key values elem second ≡ Some v → Says elem key 29 v
  sharing_says elem second v e = by (shared_tuple (values elem) (values second)) e
    where
      by : (o : Option (List Part)) → option_map (Exclusive key elem second) o ≡ Some v → Says elem key 29 v
      by None e = cc
      by (Some tuple) e = let same : Exclusive key elem second tuple ≡ v = cc in subst (Says elem key 29) same (refl, refl, refl)

  pub first_says : (elem : Elem) (later : List Elem) (v : Violation) → slice_get (filter_map (sharing key values elem) later) 0 ≡ Some v → Says elem key 29 v
  first_says elem [] v e = cc
  first_says elem (second ∷ later) v e = by (sharing key values elem second) refl e (first_says elem later v)
    where
      by : (o : Option Violation) → sharing key values elem second ≡ o → slice_get (cons_option o (filter_map (sharing key values elem) later)) 0 ≡ Some v →
          (slice_get (filter_map (sharing key values elem) later) 0 ≡ Some v → Says elem key 29 v) → Says elem key 29 v
      by None is e rest = rest e
      by (Some u) is e rest = sharing_says elem second v (is ∙ e)

pub count_outside_says : (key : ℕ) (bounds : ℕ × ℕ) (elem : Elem) (tuples : List (List Part)) (v : Violation) → count_outside key bounds elem tuples ≡ Some v →
    Says elem key 39 v
count_outside_says key bounds elem tuples v e =
    subst (Says elem key 39) (unless (is_within bounds (length tuples)) (CountOutside key elem (length tuples) bounds.0 bounds.1) v e) (refl, refl, refl)

-- ---- the whole list

module _ (g : Graph) (graph : is_graph g ≡ true) (resolved : Resolved) where
  key_run : (number : ℕ) (key : Key) → Run (number * 100 + 27) (number * 100 + 40) (key_violations resolved g number key)
  key_run number key =
      let scope = scope_of resolved g key in
      let values = key_values resolved g key in
      let ordered : ascends elem_cmp (map (λ (elem : Elem). elem) scope) ≡ true =
      subst (λ (xs : List Elem). ascends elem_cmp xs ≡ true) (sym (map-id scope)) (scope_ascends g graph resolved key) in
      let missing = asked _ _ key.qualifiers.mandatory _ (found_run (λ elem. elem) (mandatory_violation number values) number 27 (mandatory_violation_says number values) scope ordered) in
      let several = asked _ _ key.qualifiers.singleton _ (found_run (λ elem. elem) (singleton_violation number values) number 28
      (λ elem v e. two_least_says number values elem (values elem) v e) scope ordered) in
      let shared = asked _ _ key.qualifiers.exclusive _ (found_run (λ elem. elem) (exclusive_violation number scope values) number 29
      (λ elem v e. first_says number values elem (later_than elem scope) v e) scope ordered) in
      let outside = bounded _ _ key.qualifiers.count (λ (bounds : ℕ × ℕ). filter_map (count_violation number values bounds) scope)
      (λ bounds. found_run (λ elem. elem) (count_violation number values bounds) number 39
      (λ elem v e. count_outside_says number bounds elem (values elem) v e) scope ordered) in
      append (number * 100 + 27) (number * 100 + 30) (number * 100 + 40) _ _ (omega arith) (omega arith)
      (append (number * 100 + 27) (number * 100 + 29) (number * 100 + 30) _ _ (omega arith) (omega arith)
      (append (number * 100 + 27) (number * 100 + 28) (number * 100 + 29) _ _ (omega arith) (omega arith)
      (wide _ _ _ _ _ (omega arith) (omega arith) missing) (wide _ _ _ _ _ (omega arith) (omega arith) several))
      (wide _ _ _ _ _ (omega arith) (omega arith) shared))
      (wide _ _ _ _ _ (omega arith) (omega arith) outside)

  keys_run : (number : ℕ) (keys : List Key) → Run (number * 100 + 27) ((number + length keys) * 100 + 27) (keys_violations resolved g number keys)
  keys_run number [] = record { ascending = refl; within = tt }
  keys_run number (key ∷ keys) =
      append (number * 100 + 27) ((number + 1) * 100 + 27) ((number + length (key ∷ keys)) * 100 + 27) _ _ (omega arith) (omega arith)
      (wide _ _ _ _ _ (omega arith) (omega arith) (key_run number key))
      (wide _ _ _ _ _ (omega arith) (omega arith) (keys_run (number + 1) keys))

  pub violations_ascend : ascends violation_cmp (violations resolved g) ≡ true
  violations_ascend =
      let nodes = found_run (λ (node : NodeId × NodeRow). Node node.0) (untyped_node resolved) 0 25 (untyped_node_says resolved) g.nodes (nodes_ascend g graph) in
      let edges = found_run (λ (edge : EdgeId × EdgeRow). Edge edge.0) (untyped_edge resolved g) 0 26 (untyped_edge_says resolved g) g.edges (edges_ascend g graph) in
      let untyped = asked 25 27 resolved.guard.strict _ (append 25 26 27 _ _ (omega arith) (omega arith) nodes edges) in
      (append 25 127 ((1 + length resolved.guard.keys) * 100 + 27) _ _ (omega arith) (omega arith)
      (wide _ _ _ _ _ (omega arith) (omega arith) untyped) (keys_run 1 resolved.guard.keys)).ascending
