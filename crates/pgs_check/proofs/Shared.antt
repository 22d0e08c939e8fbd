-- The first 29 of a key is that of the least two elements that share a key value, with the least value that they share.
use Rattle.std.proofs.Common.{◌≡◌, ℕ, Bool, true, false, cond, ◌⊎◌, inl, inr, ⊎_elim, List, [], ◌∷◌, Option, Some, None, is_some, slice_get, refl, sym, ◌∙◌, ap, true≢false, Ordering, Less, Equal, Greater, is_lt}
use Rattle.std.specs.Prelude.{Contains, find, filter_map, option_map, option_and_then, if◌then◌else◌}
use Rattle.std.specs.Ordering.{ordering_then, ordering_reverse}
use Rattle.std.specs.Option.{option_map_or}
use Rattle.std.specs.BTreeMap.{is_at}
use Rattle.std.specs.Cmp.{IsTotalOrder, nat_cmp_total, tied_itself}
use Rattle.std.specs.List.{list_any}
use Rattle.std.proofs.lemmas.List.Kept.{IsStrictlySortedBy-filter}
use Rattle.std.proofs.lemmas.Map.Lookups.{CmpEqualImpliesEq}
use Rattle.pgs_base.specs.declared.element.Elem.{Elem}
use Rattle.pgs_base.specs.declared.part.Part.{Part}
use Rattle.pgs_base.specs.Graph.{Graph, is_graph}
use Rattle.pgs_base.specs.Order.{ascends, elem_cmp, tuple_cmp}
use Rattle.pgs_base.specs.OrderLaws.{elem_cmp_total, tuple_cmp_total, exact_elem, exact_tuple}
use Rattle.pgs_base.proofs.Ascending.{ascends_decides}
use Rattle.pgs_syntax.specs.declared.key.Key.{Key}
use Rattle.pgs_syntax.specs.declared.resolved.Resolved.{Resolved}
use Rattle.pgs_syntax.specs.KeyValues.{starts_at, is_in_scope, scope_of, key_values}
use Rattle.pgs_syntax.specs.Least.{IsLeast}
use Rattle.pgs_syntax.proofs.Assigned.{match_found}
use Rattle.pgs_syntax.proofs.InOrder.{scope_ascends, values_ascend}
use Rattle.pgs_syntax.proofs.Members.{contains_none, contains_cases, kept_found, kept_given, first_given, is_less, found_least, least_found, among, is_among, in_scope_given}
use Rattle.pgs_violation.specs.declared.violation.Violation.{Violation}
use Rattle.pgs_violation.specs.declared.violation.Violation.TheVariants.{Exclusive}
use Rattle.pgs_violation.specs.Meaning.{IsShared, IsLaterSharer}
use Rattle.pgs_violation.specs.Standing.{violation_cmp}
use Rattle.pgs_violation.specs.Violations.{shared_tuple, later_than, sharing, exclusive_violation}
use Rattle.pgs_keyindex.specs.Rows.{has_tuple}
use Rattle.pgs_keyindex.specs.Standing.{values_in_scope}
use Rattle.pgs_check.proofs.Firsts.{none_first, none_given, nothing_given, least_is_first}

-- ---- small steps

then_found : {X Y : Type 0} (give : X → Option Y) (o : Option X) (y : Y) → option_and_then give o ≡ Some y → (x : X) × (o ≡ Some x) × (give x ≡ Some y)
then_found give None y e = cc
then_found give (Some x) y e = (x, refl, e)

map_found : {X Y : Type 0} (f : X → Y) (o : Option X) (y : Y) → option_map f o ≡ Some y → (x : X) × (o ≡ Some x) × (f x ≡ y)
map_found f None y e = cc
map_found f (Some x) y e = (x, refl, cc)

map_some : {X Y : Type 0} (f : X → Y) (o : Option X) → is_some (option_map f o) ≡ true → (x : X) × (o ≡ Some x)
map_some f None e = cc
map_some f (Some x) e = (x, refl)

some_is : {X : Type 0} (o : Option X) → is_some o ≡ true → (x : X) × (o ≡ Some x)
some_is None e = cc
some_is (Some x) e = (x, refl)

find_some : {X : Type 0} (test : X → Bool) (xs : List X) (x : X) → Contains xs x → test x ≡ true → is_some (find test xs) ≡ true
find_some test [] x h passes = absurd (contains_none x h)
find_some {X} test (y ∷ ys) x h passes = by (test y) refl (λ later. find_some test ys x later passes)
  where
    by : (b : Bool) → test y ≡ b → (Contains ys x → is_some (find test ys) ≡ true) → is_some (cond b (Some y) (find test ys)) ≡ true
    by true own rest = refl
    by false own rest = ⊎_elim (λ same. absurd (true≢false (sym passes ∙ ap test (sym same) ∙ own))) rest (contains_cases y ys x h)

least_same : {X : Type 0} {cmp : X → X → Ordering} {P Q : X → Type 0} (x : X) → ((y : X) → P y → Q y) → ((y : X) → Q y → P y) → IsLeast cmp P x → IsLeast cmp Q x
least_same x there back least = record { is = there x least.is; others_after = λ y h. least.others_after y (back y h) }

-- of two of which the second isn't less, it is the first or comes after it
pub not_less : {X : Type 0} {cmp : X → X → Ordering} → IsTotalOrder cmp → CmpEqualImpliesEq cmp → (x y : X) → is_lt (cmp y x) ≡ false → (y ≡ x) ⊎ (cmp x y ≡ Less)
not_less {X} {cmp} total exact x y h = by (cmp x y) refl
  where
    by : (o : Ordering) → cmp x y ≡ o → (y ≡ x) ⊎ (cmp x y ≡ Less)
    by Less e = inr e
    by Equal e = inl (sym (exact x y e))
    by Greater e = absurd (true≢false (sym (ap is_lt (total.antisymm y x ∙ ap ordering_reverse e)) ∙ h))

-- 29s of one key go by their elements and their tuple
abbrev pub triple_cmp : Elem → Elem → List Part → Elem → Elem → List Part → Ordering
triple_cmp e f s x y t = ordering_then (elem_cmp e x) (ordering_then (elem_cmp f y) (tuple_cmp s t))

pub triples : (n : ℕ) (e f : Elem) (s : List Part) (x y : Elem) (t : List Part) → violation_cmp (Exclusive n e f s) (Exclusive n x y t) ≡ triple_cmp e f s x y t
triples n e f s x y t =
    ap (λ o. ordering_then (ordering_then (ordering_then o Equal) (elem_cmp e x)) (ordering_then (elem_cmp f y) (tuple_cmp s t))) (tied_itself nat_cmp_total n)

-- ---- elements that hold a tuple

abbrev pub Values : Type 0
Values = Elem → Option (List (List Part))

abbrev pub holds : Values → Elem → List Part → Bool
holds values elem tuple = option_map_or (has_tuple tuple) (values elem) false

-- two elements, the first before the second, that share a tuple
pub record IsSharing (values : Values) (first second : Elem) (tuple : List Part) : Type 0 where
  pub less : elem_cmp first second ≡ Less
  pub one : holds values first tuple ≡ true
  pub other : holds values second tuple ≡ true

-- ---- what two elements share

module _ (first second : List (List Part)) (order : ascends tuple_cmp first ≡ true) where
  abbrev InBoth : List Part → Type 0
  InBoth tuple = Contains first tuple × Contains second tuple

  abbrev in_second : List Part → Bool
  in_second tuple = list_any (is_at (tuple_cmp tuple)) second

  shared_found : (tuple : List Part) → shared_tuple first second ≡ Some tuple → IsLeast tuple_cmp InBoth tuple
  shared_found tuple h =
      least_same tuple (λ y both. (both.0, among y second both.1)) (λ y both. (both.0, is_among y second both.1))
      (found_least tuple_cmp_total in_second first tuple order h)

  shared_given : (tuple : List Part) → IsLeast tuple_cmp InBoth tuple → shared_tuple first second ≡ Some tuple
  shared_given tuple least =
      least_found tuple_cmp_total in_second first tuple order
      (least_same tuple (λ y both. (both.0, is_among y second both.1)) (λ y both. (both.0, among y second both.1)) least)

module _ (resolved : Resolved) (g : Graph) (key : Key) where
  abbrev scope : List Elem
  scope = scope_of resolved g key

  abbrev values : Elem → List (List Part)
  values = key_values resolved g key

  abbrev row : Values
  row = values_in_scope resolved g key

  pub scope_found : (elem : Elem) → is_in_scope resolved g key elem ≡ true → Contains scope elem
  scope_found elem is =
      let it = match_found resolved g key.scope (starts_at elem) is in in_scope_given resolved g key elem it.0 it.1 it.2

  pub scope_given : (elem : Elem) → Contains scope elem → is_in_scope resolved g key elem ≡ true
  scope_given elem h = (kept_found (is_in_scope resolved g key) _ elem h).1

  pub row_found : (elem : Elem) (tuples : List (List Part)) → row elem ≡ Some tuples → Contains scope elem × (values elem ≡ tuples)
  row_found elem tuples is = by (is_in_scope resolved g key elem) refl is
    where
      by : (b : Bool) → is_in_scope resolved g key elem ≡ b → (if b then Some (values elem) else None) ≡ Some tuples → Contains scope elem × (values elem ≡ tuples)
      by true inside e = (scope_found elem inside, cc)
      by false outside e = cc

  pub row_given : (elem : Elem) → Contains scope elem → row elem ≡ Some (values elem)
  row_given elem there = ap (λ b. if b then Some (values elem) else None) (scope_given elem there)

  pub holds_found : (elem : Elem) (tuple : List Part) → holds row elem tuple ≡ true → Contains scope elem × Contains (values elem) tuple
  holds_found elem tuple is = by (row elem) refl is
    where
      by : (o : Option (List (List Part))) → row elem ≡ o → option_map_or (has_tuple tuple) o false ≡ true → Contains scope elem × Contains (values elem) tuple
      by None e h = absurd (true≢false (sym h))
      by (Some tuples) e h =
          let found = row_found elem tuples e in (found.0, among tuple (values elem) (ap (has_tuple tuple) found.1 ∙ h))

  pub holds_given : (elem : Elem) (tuple : List Part) → Contains scope elem → Contains (values elem) tuple → holds row elem tuple ≡ true
  holds_given elem tuple there has =
      ap (λ o. option_map_or (has_tuple tuple) o false) (row_given elem there) ∙ is_among tuple (values elem) has

  module _ (graph : is_graph g ≡ true) (n : ℕ) where
    module _ (first : Elem) where
      abbrev later : List Elem
      later = later_than first scope

      abbrev shares : Elem → Bool
      shares other = is_some (sharing n values first other)

      later_ascends : ascends elem_cmp later ≡ true
      later_ascends =
          (ascends_decides elem_cmp later).1 (IsStrictlySortedBy-filter elem_cmp (λ other. is_lt (elem_cmp first other)) scope
          ((ascends_decides elem_cmp scope).0 (scope_ascends g graph resolved key)))

      sharer : (other : Elem) → Contains later other × (shares other ≡ true) → IsLaterSharer resolved g key first other
      sharer other (there, some) =
          let kept = kept_found (λ other. is_lt (elem_cmp first other)) scope other there in
          let tuple = map_some (Exclusive n first other) (shared_tuple (values first) (values other)) some in
          let least = shared_found (values first) (values other) (values_ascend resolved g key first) tuple.0 tuple.1 in
          (kept.0, is_less _ kept.1, (tuple.0, least.is))

      is_sharer : (other : Elem) → IsLaterSharer resolved g key first other → Contains later other × (shares other ≡ true)
      is_sharer other (there, less, (tuple, both)) =
          let some = find_some (λ t. list_any (is_at (tuple_cmp t)) (values other)) (values first) tuple both.0 (is_among tuple (values other) both.1) in
          (kept_given (λ other. is_lt (elem_cmp first other)) scope other there (ap is_lt less), kept (shared_tuple (values first) (values other)) some)
        where
          kept : (o : Option (List Part)) → is_some o ≡ true → is_some (option_map (Exclusive n first other) o) ≡ true
          kept None h = h
          kept (Some tuple) h = refl

      -- whoever makes a 29 shares a tuple with a later element
      sharing_found : (v : Violation) → Contains scope first → exclusive_violation n scope values first ≡ Some v → (second : Elem) × (tuple : List Part) × IsSharing row first second tuple
      sharing_found v there gives =
          let found = then_found (sharing n values first) (find shares later) v (sym (first_given (sharing n values first) later) ∙ gives) in
          let one = (found_least elem_cmp_total shares later found.0 later_ascends found.1).is in
          let is = sharer found.0 one in
          (found.0, is.2.0, record { less = is.1; one = holds_given first is.2.0 there is.2.1.0; other = holds_given found.0 is.2.0 is.0 is.2.1.1 })

      sharing_given : (second : Elem) (tuple : List Part) → IsLeast elem_cmp (IsLaterSharer resolved g key first) second →
          IsLeast tuple_cmp (IsShared resolved g key first second) tuple → exclusive_violation n scope values first ≡ Some (Exclusive n first second tuple)
      sharing_given second tuple least least_shared =
          first_given (sharing n values first) later
          ∙ ap (option_and_then (sharing n values first)) (least_found elem_cmp_total shares later second later_ascends (least_same second is_sharer sharer least))
          ∙ ap (option_map (Exclusive n first second)) (shared_given (values first) (values second) (values_ascend resolved g key first) tuple least_shared)

    -- ---- the least of all

    -- the first of two triples that isn't less than another isn't less in its first, nor, where these are one, in its second, nor in its tuple
    by_first : (e f : Elem) (s : List Part) (x y : Elem) (t : List Part) → is_lt (triple_cmp e f s x y t) ≡ false → is_lt (elem_cmp e x) ≡ false
    by_first e f s x y t h = by (elem_cmp e x) h
      where
        by : (o : Ordering) → is_lt (ordering_then o (ordering_then (elem_cmp f y) (tuple_cmp s t))) ≡ false → is_lt o ≡ false
        by Less h = h
        by Equal h = refl
        by Greater h = refl

    by_second : (f : Elem) (s : List Part) (x y : Elem) (t : List Part) → is_lt (triple_cmp x f s x y t) ≡ false → is_lt (elem_cmp f y) ≡ false
    by_second f s x y t h =
        by (elem_cmp f y) (ap (λ o. is_lt (ordering_then o (ordering_then (elem_cmp f y) (tuple_cmp s t)))) (sym (tied_itself elem_cmp_total x)) ∙ h)
      where
        by : (o : Ordering) → is_lt (ordering_then o (tuple_cmp s t)) ≡ false → is_lt o ≡ false
        by Less h = h
        by Equal h = refl
        by Greater h = refl

    by_tuple : (s : List Part) (x y : Elem) (t : List Part) → is_lt (triple_cmp x y s x y t) ≡ false → is_lt (tuple_cmp s t) ≡ false
    by_tuple s x y t h =
        ap (λ o. is_lt (ordering_then o (tuple_cmp s t))) (sym (tied_itself elem_cmp_total y))
        ∙ ap (λ o. is_lt (ordering_then o (ordering_then (elem_cmp y y) (tuple_cmp s t)))) (sym (tied_itself elem_cmp_total x)) ∙ h

    module _ (x y : Elem) (t : List Part) (is : IsSharing row x y t)
        (least : (e f : Elem) (s : List Part) → IsSharing row e f s → is_lt (violation_cmp (Exclusive n e f s) (Exclusive n x y t)) ≡ false) where
      not_before : (e f : Elem) (s : List Part) → IsSharing row e f s → is_lt (triple_cmp e f s x y t) ≡ false
      not_before e f s h = ap is_lt (sym (triples n e f s x y t)) ∙ least e f s h

      second_least : IsLeast elem_cmp (IsLaterSharer resolved g key x) y
      second_least =
          let one = holds_found x t is.one in
          let other = holds_found y t is.other in record {
            is = (other.0, is.less, (t, (one.1, other.1)));
            others_after = λ f h.
                not_less elem_cmp_total exact_elem y f (by_second f h.2.0 x y t (not_before x f h.2.0
                (record { less = h.1; one = holds_given x h.2.0 one.0 h.2.1.0; other = holds_given f h.2.0 h.0 h.2.1.1 })));
          }

      tuple_least : IsLeast tuple_cmp (IsShared resolved g key x y) t
      tuple_least =
          let one = holds_found x t is.one in
          let other = holds_found y t is.other in record {
            is = (one.1, other.1);
            others_after = λ s h.
                not_less tuple_cmp_total exact_tuple t s (by_tuple s x y t (not_before x y s
                (record { less = is.less; one = holds_given x s one.0 h.0; other = holds_given y s other.0 h.1 })));
          }

      own : exclusive_violation n scope values x ≡ Some (Exclusive n x y t)
      own = sharing_given x y t second_least tuple_least

      pub shared_first : slice_get (filter_map (exclusive_violation n scope values) scope) 0 ≡ Some (Exclusive n x y t)
      shared_first =
          least_is_first elem_cmp_total (exclusive_violation n scope values) scope x (scope_ascends g graph resolved key) (record {
            is = ((holds_found x t is.one).0, ap is_some own);
            others_after = λ z h.
                let v = some_is (exclusive_violation n scope values z) h.1 in
                let found = sharing_found z v.0 h.0 v.1 in
                not_less elem_cmp_total exact_elem x z (by_first z found.0 found.1 x y t (not_before z found.0 found.1 found.2));
          }) ∙ own

    -- where no two share a tuple, there is no 29, and the other way round
    pub none_shared : ((e f : Elem) (s : List Part) → IsSharing row e f s → ⊥) → filter_map (exclusive_violation n scope values) scope ≡ []
    none_shared none =
        nothing_given (exclusive_violation n scope values) scope
        (λ z v there gives. let found = sharing_found z v there gives in none z found.0 found.1 found.2)

    pub shared_none : filter_map (exclusive_violation n scope values) scope ≡ [] → (e f : Elem) (s : List Part) → IsSharing row e f s → ⊥
    shared_none none e f s is =
        let one = holds_found e s is.one in
        let other = holds_found f s is.other in
        let there = is_sharer e f (other.0, is.less, (s, (one.1, other.1))) in
        let nothing = none_first (filter_map (sharing n values e) (later e)) (none_given (exclusive_violation n scope values) scope none e one.0) in
        true≢false (sym there.1 ∙ ap is_some (none_given (sharing n values e) (later e) nothing f there.0))
