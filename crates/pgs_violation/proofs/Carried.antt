-- What each violation in the list says, and that each that is so stands in it.
use Rattle.std.proofs.Common.{◌≡◌, ℕ, Bool, true, false, cond, ⊎_elim, List, [], ◌∷◌, Option, Some, None, is_some, refl, sym, ◌∙◌, ap, subst, true≢false, arith, Ordering, Less, is_lt}
use Rattle.std.specs.Prelude.{Contains, find, option_map, option_and_then, if◌then◌else◌}
use Rattle.std.specs.BTreeMap.{is_at}
use Rattle.std.specs.List.{list_any}
use Rattle.std.proofs.lemmas.Bool.{and_parts}
use Rattle.std.proofs.lemmas.List.Kept.{IsStrictlySortedBy-filter}
use Rattle.pgs_base.specs.declared.element.NodeId.{NodeId}
use Rattle.pgs_base.specs.declared.element.EdgeId.{EdgeId}
use Rattle.pgs_base.specs.declared.element.Elem.{Elem}
use Rattle.pgs_base.specs.declared.part.Part.{Part}
use Rattle.pgs_base.specs.Graph.{Graph, is_graph}
use Rattle.pgs_base.specs.Order.{ascends, elem_cmp, tuple_cmp}
use Rattle.pgs_base.specs.OrderLaws.{elem_cmp_total, tuple_cmp_total}
use Rattle.pgs_base.proofs.Ascending.{ascends_decides}
use Rattle.pgs_syntax.specs.declared.key.Key.{Key}
use Rattle.pgs_syntax.specs.declared.resolved.Resolved.{Resolved}
use Rattle.pgs_syntax.specs.Join.{is_empty}
use Rattle.pgs_syntax.specs.KeyValues.{scope_of, key_values}
use Rattle.pgs_syntax.specs.Least.{IsLeast}
use Rattle.pgs_syntax.specs.Typed.{is_typed_node, is_typed_edge}
use Rattle.pgs_syntax.proofs.InOrder.{scope_ascends, values_ascend}
use Rattle.pgs_syntax.proofs.Members.{contains_first, contains_later, contains_cases, contains_none, kept_found, kept_given, first_given, is_less, never_itself, one_least, first_least, found_least, least_found, among, is_among}
use Rattle.pgs_violation.specs.declared.violation.Violation.{Violation}
use Rattle.pgs_violation.specs.declared.violation.Violation.TheVariants.{UntypedNode, UntypedEdge, Mandatory, Singleton, Exclusive}
use Rattle.pgs_violation.specs.Meaning.{IsUntypedNode, IsUntypedEdge, IsKeyOf, LacksValue, IsLaterValue, HasTwoLeast, IsShared, IsLaterSharer, SharesLeast}
use Rattle.pgs_violation.specs.Violations.{two_least, shared_tuple, later_than, sharing, exclusive_violation, violations}
use Rattle.pgs_violation.proofs.InOrder.{untyped_node_says, untyped_edge_says, mandatory_violation_says, two_least_says, first_says, count_outside_says}
use Rattle.pgs_violation.proofs.Origins.{Origin, of_node, of_edge, missing, several, shared, counted, origin, listed}

-- ---- small steps

unless : (b : Bool) (u v : Violation) → (if b then None else Some u) ≡ Some v → (b ≡ false) × (u ≡ v)
unless true u v e = cc
unless false u v e = (refl, cc)

when : (b : Bool) (u v : Violation) → (if b then Some u else None) ≡ Some v → (b ≡ true) × (u ≡ v)
when true u v e = (refl, cc)
when false u v e = cc

nothing : (tuples : List (List Part)) → is_empty tuples ≡ true → tuples ≡ []
nothing [] e = refl
nothing (tuple ∷ tuples) e = cc

then_found : {X Y : Type 0} (give : X → Option Y) (o : Option X) (y : Y) → option_and_then give o ≡ Some y → (x : X) × (o ≡ Some x) × (give x ≡ Some y)
then_found give None y e = cc
then_found give (Some x) y e = (x, refl, e)

map_found : {X Y : Type 0} (f : X → Y) (o : Option X) (y : Y) → option_map f o ≡ Some y → (x : X) × (o ≡ Some x) × (f x ≡ y)
map_found f None y e = cc
map_found f (Some x) y e = (x, refl, cc)

map_some : {X Y : Type 0} (f : X → Y) (o : Option X) → is_some (option_map f o) ≡ true → (x : X) × (o ≡ Some x)
map_some f None e = cc
map_some f (Some x) e = (x, refl)

find_some : {X : Type 0} (test : X → Bool) (xs : List X) (x : X) → Contains xs x → test x ≡ true → is_some (find test xs) ≡ true
find_some test [] x h passes = absurd (contains_none x h)
find_some {X} test (y ∷ ys) x h passes = by (test y) refl (λ later. find_some test ys x later passes)
  where
    by : (b : Bool) → test y ≡ b → (Contains ys x → is_some (find test ys) ≡ true) → is_some (cond b (Some y) (find test ys)) ≡ true
    by true own rest = refl
    by false own rest = ⊎_elim (λ same. absurd (true≢false (sym passes ∙ ap test (sym same) ∙ own))) rest (contains_cases y ys x h)

least_same : {X : Type 0} {cmp : X → X → Ordering} {P Q : X → Type 0} (x : X) → ((y : X) → P y → Q y) → ((y : X) → Q y → P y) → IsLeast cmp P x → IsLeast cmp Q x
least_same x there back least = record { is = there x least.is; others_after = λ y h. least.others_after y (back y h) }

-- ---- the two least of tuples that ascend

abbrev After : List (List Part) → List Part → List Part → Type 0
After tuples first tuple = Contains tuples tuple × (tuple_cmp first tuple ≡ Less)

second_least : (a b : List Part) (rest : List (List Part)) → ascends tuple_cmp (a ∷ b ∷ rest) ≡ true → IsLeast tuple_cmp (After (a ∷ b ∷ rest) a) b
second_least a b rest order = record {
  is = (contains_later a (b ∷ rest) b (contains_first b rest), is_less _ (and_parts _ _ (and_parts _ _ order).0).0);
  others_after = λ y h.
      ⊎_elim (λ own. absurd (never_itself tuple_cmp_total a (subst (λ z. tuple_cmp a z ≡ Less) (sym own) h.1)))
      (λ later. (first_least tuple_cmp_total b rest (and_parts _ _ order).1).others_after y later) (contains_cases a (b ∷ rest) y h.0);
}

module _ (n : ℕ) (e : Elem) where
  two_found : (tuples : List (List Part)) → ascends tuple_cmp tuples ≡ true → (number : ℕ) (elem : Elem) (first second : List Part) →
      two_least n e tuples ≡ Some (Singleton number elem first second) →
      (n ≡ number) × (e ≡ elem) × IsLeast tuple_cmp (Contains tuples) first × IsLeast tuple_cmp (After tuples first) second
  two_found [] order number elem first second h = cc
  two_found (a ∷ []) order number elem first second h = cc
  two_found (a ∷ b ∷ rest) order number elem first second h =
      let one : a ≡ first = cc in
      let other : b ≡ second = cc in (
        cc,
        cc,
        subst (IsLeast tuple_cmp (Contains (a ∷ b ∷ rest))) one (first_least tuple_cmp_total a (b ∷ rest) order),
        subst (λ x. IsLeast tuple_cmp (After (a ∷ b ∷ rest) x) second) one
            (subst (IsLeast tuple_cmp (After (a ∷ b ∷ rest) a)) other (second_least a b rest order)),
      )

  two_given : (tuples : List (List Part)) → ascends tuple_cmp tuples ≡ true → (first second : List Part) →
      IsLeast tuple_cmp (Contains tuples) first → IsLeast tuple_cmp (After tuples first) second → two_least n e tuples ≡ Some (Singleton n e first second)
  two_given [] order first second least later = absurd (contains_none first least.is)
  two_given (a ∷ []) order first second least later =
      let only : (y : List Part) → Contains (a ∷ []) y → a ≡ y = λ y h. ⊎_elim (λ own. own) (λ none. absurd (contains_none y none)) (contains_cases a [] y h) in
      absurd (never_itself tuple_cmp_total first (subst (λ z. tuple_cmp first z ≡ Less) (sym (only second later.is.0) ∙ only first least.is) later.is.1))
  two_given (a ∷ b ∷ rest) order first second least later =
      let one : a ≡ first = one_least tuple_cmp_total a first (first_least tuple_cmp_total a (b ∷ rest) order) least in
      let other : b ≡ second =
      one_least tuple_cmp_total b second (subst (λ x. IsLeast tuple_cmp (After (a ∷ b ∷ rest) x) b) one (second_least a b rest order)) later in
      λ i. Some (Singleton n e (one i) (other i))

-- ---- what two elements share

module _ (first second : List (List Part)) (order : ascends tuple_cmp first ≡ true) where
  abbrev InBoth : List Part → Type 0
  InBoth tuple = Contains first tuple × Contains second tuple

  abbrev in_second : List Part → Bool
  in_second tuple = list_any (is_at (tuple_cmp tuple)) second

  shared_found : (tuple : List Part) → shared_tuple first second ≡ Some tuple → IsLeast tuple_cmp InBoth tuple
  shared_found tuple h =
      least_same tuple (λ y both. (both.0, among y second both.1)) (λ y both. (both.0, is_among y second both.1))
      (found_least tuple_cmp_total in_second first tuple order h)

  shared_given : (tuple : List Part) → IsLeast tuple_cmp InBoth tuple → shared_tuple first second ≡ Some tuple
  shared_given tuple least =
      least_found tuple_cmp_total in_second first tuple order
      (least_same tuple (λ y both. (both.0, is_among y second both.1)) (λ y both. (both.0, among y second both.1)) least)

-- ---- each violation

module _ (resolved : Resolved) (g : Graph) where
  pub untyped_node_found : (node : NodeId) → Contains (violations resolved g) (UntypedNode node) → IsUntypedNode resolved g node
  untyped_node_found node h = by (origin resolved g (UntypedNode node) h)
    where
      by : Origin resolved g (UntypedNode node) → IsUntypedNode resolved g node
      by (of_node own strict there gives) =
          let facts = unless (is_typed_node resolved own.1) (UntypedNode own.0) (UntypedNode node) gives in
          let both = facts.1 in
          let same : own.0 ≡ node = cc in
          (own.1, strict, subst (λ id. Contains g.nodes (id, own.1)) same there, facts.0)
      by (of_edge own strict there gives) = let n = (untyped_edge_says resolved g own _ gives).1 in absurd (omega arith)
      by (missing number key elem is asked there gives) = let n = (mandatory_violation_says number (key_values resolved g key) elem _ gives).1 in absurd (omega arith)
      by (several number key elem is asked there gives) = let n = (two_least_says number (key_values resolved g key) elem _ _ gives).1 in absurd (omega arith)
      by (shared number key elem is asked there gives) = let n = (first_says number (key_values resolved g key) elem _ _ gives).1 in absurd (omega arith)
      by (counted number key bounds elem is asked there gives) = let n = (count_outside_says number bounds elem _ _ gives).1 in absurd (omega arith)

  pub untyped_node_given : (node : NodeId) → IsUntypedNode resolved g node → Contains (violations resolved g) (UntypedNode node)
  untyped_node_given node (row, strict, there, fails) =
      listed resolved g (UntypedNode node) (of_node (node, row) strict there (ap (λ b. if b then None else Some (UntypedNode node)) fails))

  pub untyped_edge_found : (edge : EdgeId) → Contains (violations resolved g) (UntypedEdge edge) → IsUntypedEdge resolved g edge
  untyped_edge_found edge h = by (origin resolved g (UntypedEdge edge) h)
    where
      by : Origin resolved g (UntypedEdge edge) → IsUntypedEdge resolved g edge
      by (of_edge own strict there gives) =
          let facts = unless (is_typed_edge resolved g own.1) (UntypedEdge own.0) (UntypedEdge edge) gives in
          let both = facts.1 in
          let same : own.0 ≡ edge = cc in
          (own.1, strict, subst (λ id. Contains g.edges (id, own.1)) same there, facts.0)
      by (of_node own strict there gives) = let n = (untyped_node_says resolved own _ gives).1 in absurd (omega arith)
      by (missing number key elem is asked there gives) = let n = (mandatory_violation_says number (key_values resolved g key) elem _ gives).1 in absurd (omega arith)
      by (several number key elem is asked there gives) = let n = (two_least_says number (key_values resolved g key) elem _ _ gives).1 in absurd (omega arith)
      by (shared number key elem is asked there gives) = let n = (first_says number (key_values resolved g key) elem _ _ gives).1 in absurd (omega arith)
      by (counted number key bounds elem is asked there gives) = let n = (count_outside_says number bounds elem _ _ gives).1 in absurd (omega arith)

  pub untyped_edge_given : (edge : EdgeId) → IsUntypedEdge resolved g edge → Contains (violations resolved g) (UntypedEdge edge)
  untyped_edge_given edge (row, strict, there, fails) =
      listed resolved g (UntypedEdge edge) (of_edge (edge, row) strict there (ap (λ b. if b then None else Some (UntypedEdge edge)) fails))

  pub missing_found : (number : ℕ) (elem : Elem) → Contains (violations resolved g) (Mandatory number elem) → LacksValue resolved g number elem
  missing_found number elem h = by (origin resolved g (Mandatory number elem) h)
    where
      by : Origin resolved g (Mandatory number elem) → LacksValue resolved g number elem
      by (missing n key e is asked there gives) =
          let facts = when (is_empty (key_values resolved g key e)) (Mandatory n e) (Mandatory number elem) gives in
          let both = facts.1 in
          let numbers : n ≡ number = cc in
          let elems : e ≡ elem = cc in (
            key,
            subst (λ m. IsKeyOf resolved m key) numbers is,
            asked,
            subst (Contains (scope_of resolved g key)) elems there,
            subst (λ x. key_values resolved g key x ≡ []) elems (nothing (key_values resolved g key e) facts.0),
          )
      by (of_node own strict there gives) = let n = (untyped_node_says resolved own _ gives).1 in absurd (omega arith)
      by (of_edge own strict there gives) = let n = (untyped_edge_says resolved g own _ gives).1 in absurd (omega arith)
      by (several n key e is asked there gives) = let m = (two_least_says n (key_values resolved g key) e _ _ gives).1 in absurd (omega arith)
      by (shared n key e is asked there gives) = let m = (first_says n (key_values resolved g key) e _ _ gives).1 in absurd (omega arith)
      by (counted n key bounds e is asked there gives) = let m = (count_outside_says n bounds e _ _ gives).1 in absurd (omega arith)

  pub missing_given : (number : ℕ) (elem : Elem) → LacksValue resolved g number elem → Contains (violations resolved g) (Mandatory number elem)
  missing_given number elem (key, is, asked, there, none) =
      listed resolved g (Mandatory number elem) (missing number key elem is asked there
      (ap (λ (tuples : List (List Part)). if is_empty tuples then Some (Mandatory number elem) else None) none))

  pub two_least_found : (number : ℕ) (elem : Elem) (first second : List Part) → Contains (violations resolved g) (Singleton number elem first second) →
      HasTwoLeast resolved g number elem first second
  two_least_found number elem first second h = by (origin resolved g (Singleton number elem first second) h)
    where
      by : Origin resolved g (Singleton number elem first second) → HasTwoLeast resolved g number elem first second
      by (several n key e is asked there gives) =
          let facts = two_found n e (key_values resolved g key e) (values_ascend resolved g key e) number elem first second gives in (
            key,
            subst (λ m. IsKeyOf resolved m key) facts.0 is,
            asked,
            subst (Contains (scope_of resolved g key)) facts.1 there,
            subst (λ x. IsLeast tuple_cmp (Contains (key_values resolved g key x)) first) facts.1 facts.2,
            subst (λ x. IsLeast tuple_cmp (IsLaterValue resolved g key x first) second) facts.1 facts.3,
          )
      by (of_node own strict there gives) = let n = (untyped_node_says resolved own _ gives).1 in absurd (omega arith)
      by (of_edge own strict there gives) = let n = (untyped_edge_says resolved g own _ gives).1 in absurd (omega arith)
      by (missing n key e is asked there gives) = let m = (mandatory_violation_says n (key_values resolved g key) e _ gives).1 in absurd (omega arith)
      by (shared n key e is asked there gives) = let m = (first_says n (key_values resolved g key) e _ _ gives).1 in absurd (omega arith)
      by (counted n key bounds e is asked there gives) = let m = (count_outside_says n bounds e _ _ gives).1 in absurd (omega arith)

  pub two_least_given : (number : ℕ) (elem : Elem) (first second : List Part) → HasTwoLeast resolved g number elem first second →
      Contains (violations resolved g) (Singleton number elem first second)
  two_least_given number elem first second (key, is, asked, there, least, later) =
      listed resolved g (Singleton number elem first second) (several number key elem is asked there
      (two_given number elem (key_values resolved g key elem) (values_ascend resolved g key elem) first second least later))

  module _ (graph : is_graph g ≡ true) (key : Key) (n : ℕ) (first : Elem) where
    abbrev values : Elem → List (List Part)
    values = key_values resolved g key

    abbrev later : List Elem
    later = later_than first (scope_of resolved g key)

    abbrev shares : Elem → Bool
    shares other = is_some (sharing n values first other)

    later_ascends : ascends elem_cmp later ≡ true
    later_ascends =
        (ascends_decides elem_cmp later).1 (IsStrictlySortedBy-filter elem_cmp (λ other. is_lt (elem_cmp first other)) (scope_of resolved g key)
        ((ascends_decides elem_cmp (scope_of resolved g key)).0 (scope_ascends g graph resolved key)))

    sharer : (other : Elem) → Contains later other × (shares other ≡ true) → IsLaterSharer resolved g key first other
    sharer other (there, some) =
        let kept = kept_found (λ other. is_lt (elem_cmp first other)) (scope_of resolved g key) other there in
        let tuple = map_some (Exclusive n first other) (shared_tuple (values first) (values other)) some in
        let least = shared_found (values first) (values other) (values_ascend resolved g key first) tuple.0 tuple.1 in
        (kept.0, is_less _ kept.1, (tuple.0, least.is))

    is_sharer : (other : Elem) → IsLaterSharer resolved g key first other → Contains later other × (shares other ≡ true)
    is_sharer other (there, less, (tuple, both)) =
        let some = find_some (λ t. list_any (is_at (tuple_cmp t)) (values other)) (values first) tuple both.0 (is_among tuple (values other) both.1) in
        (kept_given (λ other. is_lt (elem_cmp first other)) (scope_of resolved g key) other there (ap is_lt less), kept (shared_tuple (values first) (values other)) some)
      where
        kept : (o : Option (List Part)) → is_some o ≡ true → is_some (option_map (Exclusive n first other) o) ≡ true
        kept None h = h
        kept (Some tuple) h = refl

    sharing_found : (v : Violation) → exclusive_violation n (scope_of resolved g key) values first ≡ Some v →
        (second : Elem) × (tuple : List Part) × (Exclusive n first second tuple ≡ v)
        × IsLeast elem_cmp (IsLaterSharer resolved g key first) second × IsLeast tuple_cmp (IsShared resolved g key first second) tuple
    sharing_found v gives =
        let found = then_found (sharing n values first) (find shares later) v (sym (first_given (sharing n values first) later) ∙ gives) in
        let tuple = map_found (Exclusive n first found.0) (shared_tuple (values first) (values found.0)) v found.2 in (
          found.0,
          tuple.0,
          tuple.2,
          least_same found.0 sharer is_sharer (found_least elem_cmp_total shares later found.0 later_ascends found.1),
          shared_found (values first) (values found.0) (values_ascend resolved g key first) tuple.0 tuple.1,
        )

    sharing_given : (second : Elem) (tuple : List Part) → IsLeast elem_cmp (IsLaterSharer resolved g key first) second →
        IsLeast tuple_cmp (IsShared resolved g key first second) tuple → exclusive_violation n (scope_of resolved g key) values first ≡ Some (Exclusive n first second tuple)
    sharing_given second tuple least least_shared =
        first_given (sharing n values first) later
        ∙ ap (option_and_then (sharing n values first)) (least_found elem_cmp_total shares later second later_ascends (least_same second is_sharer sharer least))
        ∙ ap (option_map (Exclusive n first second)) (shared_given (values first) (values second) (values_ascend resolved g key first) tuple least_shared)

  module _ (graph : is_graph g ≡ true) (number : ℕ) (first second : Elem) (tuple : List Part) where
    pub sharers_found : Contains (violations resolved g) (Exclusive number first second tuple) → SharesLeast resolved g number first second tuple
    sharers_found h = by (origin resolved g (Exclusive number first second tuple) h)
      where
        by : Origin resolved g (Exclusive number first second tuple) → SharesLeast resolved g number first second tuple
        by (shared n key e is asked there gives) =
            let facts = sharing_found graph key n e (Exclusive number first second tuple) gives in
            let both = facts.2 in
            let numbers : n ≡ number = cc in
            let firsts : e ≡ first = cc in
            let seconds : facts.0 ≡ second = cc in
            let tuples : facts.1 ≡ tuple = cc in (
              key,
              subst (λ m. IsKeyOf resolved m key) numbers is,
              asked,
              subst (Contains (scope_of resolved g key)) firsts there,
              subst (λ x. IsLeast elem_cmp (IsLaterSharer resolved g key x) second) firsts
                  (subst (IsLeast elem_cmp (IsLaterSharer resolved g key e)) seconds facts.3),
              subst (λ x. IsLeast tuple_cmp (IsShared resolved g key x second) tuple) firsts
                  (subst (λ x. IsLeast tuple_cmp (IsShared resolved g key e x) tuple) seconds
                  (subst (IsLeast tuple_cmp (IsShared resolved g key e facts.0)) tuples facts.4)),
            )
        by (of_node own strict there gives) = let n = (untyped_node_says resolved own _ gives).1 in absurd (omega arith)
        by (of_edge own strict there gives) = let n = (untyped_edge_says resolved g own _ gives).1 in absurd (omega arith)
        by (missing n key e is asked there gives) = let m = (mandatory_violation_says n (key_values resolved g key) e _ gives).1 in absurd (omega arith)
        by (several n key e is asked there gives) = let m = (two_least_says n (key_values resolved g key) e _ _ gives).1 in absurd (omega arith)
        by (counted n key bounds e is asked there gives) = let m = (count_outside_says n bounds e _ _ gives).1 in absurd (omega arith)

    pub sharers_given : SharesLeast resolved g number first second tuple → Contains (violations resolved g) (Exclusive number first second tuple)
    sharers_given (key, is, asked, there, least, least_shared) =
        listed resolved g (Exclusive number first second tuple) (shared number key first is asked there
        (sharing_given graph key number first second tuple least least_shared))
