-- What a list contains: after a filter, and the least of a list that ascends. With it, what the scope of a key and the key values
-- of an element contain.
use Rattle.std.proofs.Common.{◌≡◌, zero, suc, Bool, true, false, cond, ⊎_elim, ◌⊎◌, inl, inr, List, [], ◌∷◌, ◌++◌, Option, Some, None, is_some, slice_get, refl, sym, ◌∙◌, ap, subst, true≢false, arith, Ordering, Less, Equal, Greater, is_lt}
use Rattle.std.specs.Prelude.{Contains, filter, filter_map, find, option_and_then}
use Rattle.std.specs.BTreeMap.{is_at}
use Rattle.std.specs.List.{list_any, list_all, cons_option}
use Rattle.std.specs.Cmp.{IsTotalOrder, Equal-is, eq_by_cmp_equiv, tied_itself}
use Rattle.std.proofs.lemmas.Bool.{and_parts}
use Rattle.std.proofs.lemmas.List.Elements.{Contains-append_left, Contains-append_right}
use Rattle.std.proofs.lemmas.Map.Views.{Contains-from_any, list_any-from_Contains}
use Rattle.pgs_base.specs.declared.element.Elem.{Elem}
use Rattle.pgs_base.specs.declared.part.Part.{Part}
use Rattle.pgs_base.specs.Graph.{Graph}
use Rattle.pgs_base.specs.Order.{ascends, elem_cmp, tuple_cmp}
use Rattle.pgs_base.specs.OrderLaws.{tuple_cmp_total, exact_elem, exact_tuple}
use Rattle.pgs_syntax.specs.declared.key.Key.{Key}
use Rattle.pgs_syntax.specs.declared.resolved.Resolved.{Resolved}
use Rattle.pgs_syntax.specs.KeyValues.{starts_at, is_in_scope, scope_of}
use Rattle.pgs_syntax.specs.Least.{IsLeast}
use Rattle.pgs_syntax.specs.Matches.{elements, are_there, is_match, same_elem}
use Rattle.pgs_syntax.proofs.Assigned.{match_found, match_given}

-- ---- members

pub contains_first : {X : Type 0} (x : X) (xs : List X) → Contains (x ∷ xs) x
contains_first x xs = (0, omega arith, refl)

pub contains_later : {X : Type 0} (x : X) (xs : List X) (y : X) → Contains xs y → Contains (x ∷ xs) y
contains_later x xs y (k, below, at) = (suc k, omega arith, at)

pub contains_cases : {X : Type 0} (x : X) (xs : List X) (y : X) → Contains (x ∷ xs) y → (x ≡ y) ⊎ Contains xs y
contains_cases x xs y (zero, below, at) = inl at
contains_cases x xs y (suc k, below, at) = inr (k, omega arith, at)

pub contains_none : {X : Type 0} (x : X) → Contains [] x → ⊥
contains_none x (k, below, at) = omega arith

-- ---- members of what a filter keeps, and of what a function gives of a list

module _ {X : Type 0} (test : X → Bool) where
  pub kept_found : (xs : List X) (x : X) → Contains (filter test xs) x → Contains xs x × (test x ≡ true)
  kept_found [] x h = absurd (contains_none x h)
  kept_found (y ∷ ys) x h = by (test y) refl h (kept_found ys x)
    where
      by : (b : Bool) → test y ≡ b → Contains (cond b (y ∷ filter test ys) (filter test ys)) x →
          (Contains (filter test ys) x → Contains ys x × (test x ≡ true)) → Contains (y ∷ ys) x × (test x ≡ true)
      by true passes there rest =
          ⊎_elim (λ same. (subst (Contains (y ∷ ys)) same (contains_first y ys), ap test (sym same) ∙ passes))
          (λ later. let found = rest later in (contains_later y ys x found.0, found.1)) (contains_cases y (filter test ys) x there)
      by false fails there rest = let found = rest there in (contains_later y ys x found.0, found.1)

  pub kept_given : (xs : List X) (x : X) → Contains xs x → test x ≡ true → Contains (filter test xs) x
  kept_given [] x h passes = h
  kept_given (y ∷ ys) x h passes = by (test y) refl (λ later. kept_given ys x later passes)
    where
      by : (b : Bool) → test y ≡ b → (Contains ys x → Contains (filter test ys) x) → Contains (cond b (y ∷ filter test ys) (filter test ys)) x
      by true own rest =
          ⊎_elim (λ same. subst (Contains (y ∷ filter test ys)) same (contains_first y (filter test ys)))
          (λ later. contains_later y (filter test ys) x (rest later)) (contains_cases y ys x h)
      by false own rest = ⊎_elim (λ same. absurd (true≢false (sym passes ∙ ap test (sym same) ∙ own))) rest (contains_cases y ys x h)

module _ {X Y : Type 0} (give : X → Option Y) where
  pub given_found : (xs : List X) (y : Y) → Contains (filter_map give xs) y → (x : X) × Contains xs x × (give x ≡ Some y)
  given_found [] y h = absurd (contains_none y h)
  given_found (x ∷ xs) y h = by (give x) refl h (given_found xs y)
    where
      by : (o : Option Y) → give x ≡ o → Contains (cons_option o (filter_map give xs)) y →
          (Contains (filter_map give xs) y → (z : X) × Contains xs z × (give z ≡ Some y)) → (z : X) × Contains (x ∷ xs) z × (give z ≡ Some y)
      by None own there rest = let found = rest there in (found.0, contains_later x xs found.0 found.1, found.2)
      by (Some own) is there rest =
          ⊎_elim (λ same. (x, contains_first x xs, is ∙ ap Some same))
          (λ later. let found = rest later in (found.0, contains_later x xs found.0 found.1, found.2))
          (contains_cases own (filter_map give xs) y there)

  pub given_given : (xs : List X) (x : X) (y : Y) → Contains xs x → give x ≡ Some y → Contains (filter_map give xs) y
  given_given [] x y h gives = absurd (contains_none x h)
  given_given (w ∷ ws) x y h gives = by (give w) refl (λ later. given_given ws x y later gives)
    where
      by : (o : Option Y) → give w ≡ o → (Contains ws x → Contains (filter_map give ws) y) → Contains (cons_option o (filter_map give ws)) y
      by None own rest = ⊎_elim (λ same. let e : Some y ≡ None = sym gives ∙ ap give (sym same) ∙ own in cc) rest (contains_cases w ws x h)
      by (Some z) own rest =
          ⊎_elim (λ same. let e : Some z ≡ Some y = sym own ∙ ap give same ∙ gives in
          let one : z ≡ y = cc in subst (Contains (z ∷ filter_map give ws)) one (contains_first z (filter_map give ws)))
          (λ later. contains_later z (filter_map give ws) y (rest later)) (contains_cases w ws x h)

  -- the first that it gives is what it gives of the first of which it gives something
  pub first_given : (xs : List X) → slice_get (filter_map give xs) 0 ≡ option_and_then give (find (λ x. is_some (give x)) xs)
  first_given [] = refl
  first_given (x ∷ xs) = by (give x) refl (first_given xs)
    where
      by : (o : Option Y) → give x ≡ o → slice_get (filter_map give xs) 0 ≡ option_and_then give (find (λ z. is_some (give z)) xs) →
          slice_get (cons_option o (filter_map give xs)) 0 ≡ option_and_then give (cond (is_some o) (Some x) (find (λ z. is_some (give z)) xs))
      by None own rest = rest
      by (Some y) own rest = sym own

-- ---- the first of a list that ascends is its least

pub is_less : (o : Ordering) → is_lt o ≡ true → o ≡ Less
is_less Less h = refl
is_less Equal h = cc
is_less Greater h = cc

module _ {X : Type 0} {cmp : X → X → Ordering} (total : IsTotalOrder cmp) where
  pub all_above : (x : X) (xs : List X) (y : X) → list_all (λ later. is_lt (cmp x later)) xs ≡ true → Contains xs y → cmp x y ≡ Less
  all_above x [] y all h = absurd (contains_none y h)
  all_above x (z ∷ zs) y all h =
      let parts = and_parts _ _ all in
      ⊎_elim (λ same. subst (λ w. cmp x w ≡ Less) same (is_less (cmp x z) parts.0)) (λ later. all_above x zs y parts.1 later) (contains_cases z zs y h)

  -- nothing is less than itself, and of two neither is less than the other
  pub never_itself : (x : X) → cmp x x ≡ Less → ⊥
  never_itself x less = let tied = tied_itself total x in let e : Less ≡ Equal = sym less ∙ tied in cc

  pub never_both : (x y : X) → cmp x y ≡ Less → cmp y x ≡ Less → ⊥
  never_both x y one other = never_itself x (total.trans x y x one other)

  -- there is one least
  pub one_least : {Is : X → Type 0} (x y : X) → IsLeast cmp Is x → IsLeast cmp Is y → x ≡ y
  one_least x y one other =
      ⊎_elim (λ same. sym same)
      (λ less. ⊎_elim (λ same. same) (λ more. absurd (never_both x y less more)) (other.others_after x one.is))
      (one.others_after y other.is)

  -- the first of a list is its least
  pub first_least : (x : X) (xs : List X) → ascends cmp (x ∷ xs) ≡ true → IsLeast cmp (Contains (x ∷ xs)) x
  first_least x xs order = record {
    is = contains_first x xs;
    others_after = λ y h. ⊎_elim (λ own. inl (sym own)) (λ later. inr (all_above x xs y (and_parts _ _ order).0 later)) (contains_cases x xs y h);
  }

  pub least_first : (xs : List X) (x : X) → ascends cmp xs ≡ true → IsLeast cmp (Contains xs) x → slice_get xs 0 ≡ Some x
  least_first [] x order least = absurd (contains_none x least.is)
  least_first (y ∷ ys) x order least = ap Some (one_least y x (first_least y ys order) least)

  -- the first of a list that passes a test is the least of those that do
  module _ (test : X → Bool) where
    pub found_least : (xs : List X) (x : X) → ascends cmp xs ≡ true → find test xs ≡ Some x → IsLeast cmp (λ y. Contains xs y × (test y ≡ true)) x
    found_least [] x order h = cc
    found_least (w ∷ ws) x order h = by (test w) refl h (found_least ws x (and_parts _ _ order).1)
      where
        by : (b : Bool) → test w ≡ b → cond b (Some w) (find test ws) ≡ Some x →
            (find test ws ≡ Some x → IsLeast cmp (λ y. Contains ws y × (test y ≡ true)) x) → IsLeast cmp (λ y. Contains (w ∷ ws) y × (test y ≡ true)) x
        by true passes found rest =
            let same : w ≡ x = cc in
            subst (IsLeast cmp (λ y. Contains (w ∷ ws) y × (test y ≡ true))) same (record {
              is = (contains_first w ws, passes);
              others_after = λ y h. ⊎_elim (λ own. inl (sym own)) (λ later. inr (all_above w ws y (and_parts _ _ order).0 later)) (contains_cases w ws y h.0);
            })
        by false fails found rest =
            let least = rest found in record {
              is = (contains_later w ws x least.is.0, least.is.1);
              others_after = λ y h.
                  ⊎_elim (λ own. absurd (true≢false (sym h.1 ∙ ap test (sym own) ∙ fails))) (λ later. least.others_after y (later, h.1)) (contains_cases w ws y h.0);
            }

    pub least_found : (xs : List X) (x : X) → ascends cmp xs ≡ true → IsLeast cmp (λ y. Contains xs y × (test y ≡ true)) x → find test xs ≡ Some x
    least_found xs x order least = by (find test xs) refl
      where
        none_passes : (ys : List X) → find test ys ≡ None → Contains ys x → ⊥
        none_passes [] none h = contains_none x h
        none_passes (w ∷ ws) none h = at (test w) refl none (none_passes ws)
          where
            at : (b : Bool) → test w ≡ b → cond b (Some w) (find test ws) ≡ None → (find test ws ≡ None → Contains ws x → ⊥) → ⊥
            at true passes found rest = cc
            at false fails found rest =
                ⊎_elim (λ own. true≢false (sym least.is.1 ∙ ap test (sym own) ∙ fails)) (rest found) (contains_cases w ws x h)

        by : (o : Option X) → find test xs ≡ o → o ≡ Some x
        by None found = absurd (none_passes xs found least.is.0)
        by (Some y) found = ap Some (one_least y x (found_least xs y order found) least)

-- ---- the scope of a key, and key values, by their members

same_tuple : (a b : List Part) → is_at (tuple_cmp a) b ≡ true → a ≡ b
same_tuple a b h = exact_tuple a b ((Equal-is (tuple_cmp a b)).0 h)

one_elem : (a b : Elem) → same_elem a b ≡ true → a ≡ b
one_elem a b h = exact_elem a b ((Equal-is (elem_cmp a b)).0 h)

-- a tuple is among the tuples of a list
pub among : (tuple : List Part) (tuples : List (List Part)) → list_any (is_at (tuple_cmp tuple)) tuples ≡ true → Contains tuples tuple
among tuple tuples = Contains-from_any same_tuple tuple tuples

pub is_among : (tuple : List Part) (tuples : List (List Part)) → Contains tuples tuple → list_any (is_at (tuple_cmp tuple)) tuples ≡ true
is_among tuple tuples = list_any-from_Contains (eq_by_cmp_equiv tuple_cmp_total) tuple tuples

-- the element with which elements of a graph begin is an element of the graph
first_there : (g : Graph) (elem : Elem) (kinds : List Bool) (elems : List Elem) → are_there g kinds elems ≡ true → starts_at elem elems ≡ true →
    Contains (elements g false ++ elements g true) elem
first_there g elem [] [] there starts = absurd (true≢false (sym starts))
first_there g elem [] (x ∷ xs) there starts = absurd (true≢false (sym there))
first_there g elem (kind ∷ kinds) [] there starts = absurd (true≢false (sym there))
first_there g elem (kind ∷ kinds) (x ∷ xs) there starts =
    let listed = Contains-from_any one_elem x (elements g kind) (and_parts _ _ there).0 in
    by kind (subst (Contains (elements g kind)) (sym (one_elem elem x starts)) listed)
  where
    by : (kind : Bool) → Contains (elements g kind) elem → Contains (elements g false ++ elements g true) elem
    by true h = Contains-append_right (elements g false) (elements g true) elem h
    by false h = Contains-append_left (elements g false) (elements g true) elem h

module _ (resolved : Resolved) (g : Graph) (key : Key) (elem : Elem) where
  pub in_scope_found : Contains (scope_of resolved g key) elem → (elems : List Elem) × (is_match resolved g key.scope elems ≡ true) × (starts_at elem elems ≡ true)
  in_scope_found h = match_found resolved g key.scope (starts_at elem) (kept_found (is_in_scope resolved g key) (elements g false ++ elements g true) elem h).1

  pub in_scope_given : (elems : List Elem) → is_match resolved g key.scope elems ≡ true → starts_at elem elems ≡ true → Contains (scope_of resolved g key) elem
  in_scope_given elems match starts =
      kept_given (is_in_scope resolved g key) (elements g false ++ elements g true) elem
      (first_there g elem key.scope.edge_vars elems (and_parts _ _ match).0 starts)
      (match_given resolved g key.scope (starts_at elem) elems match starts)
