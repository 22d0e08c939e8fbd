-- The matches of a pattern are exactly the assignments that are a match; so are the scope and the key values of a key.
use Rattle.std.proofs.Common.{◌≡◌, Bool, true, false, ◌&&◌, ◌||◌, ⊎_elim, List, [], ◌∷◌, map, filter, Option, Some, None, refl, sym, ◌∙◌, ap, true≢false}
use Rattle.std.specs.Prelude.{filter_map}
use Rattle.std.specs.Option.{option_map_or}
use Rattle.std.specs.List.{list_any, list_all, cons_option}
use Rattle.std.specs.BTreeMap.{is_at}
use Rattle.std.specs.Cmp.{tied_itself, Equal-is, eq_by_cmp_equiv}
use Rattle.std.proofs.Math.Bool.{or-false}
use Rattle.std.proofs.lemmas.Bool.{or_cases, and_parts, and_from}
use Rattle.std.specs.Ordering.{is_eq}
use Rattle.pgs_base.specs.declared.element.Elem.{Elem}
use Rattle.pgs_base.specs.declared.part.Part.{Part}
use Rattle.pgs_base.specs.Graph.{Graph}
use Rattle.pgs_base.specs.Order.{elem_cmp, tuple_cmp}
use Rattle.pgs_base.specs.OrderLaws.{elem_cmp_total, exact_elem, tuple_cmp_total, exact_tuple}
use Rattle.pgs_base.proofs.Lookups.{any-insert_key}
use Rattle.pgs_syntax.specs.declared.key.Key.{Key}
use Rattle.pgs_syntax.specs.declared.pattern.Pattern.{Pattern}
use Rattle.pgs_syntax.specs.declared.resolved.Resolved.{Resolved}
use Rattle.pgs_syntax.specs.KeyValues.{starts_at, tuple_of, as_set, key_values}
use Rattle.pgs_syntax.specs.Matches.{same_elem, elements, assignments, are_there, holds, is_match, matches}
use Rattle.pgs_syntax.proofs.Halves.{any_map, any_flat_map, any_filter}

or_first : (a b : Bool) → a ≡ true → (a || b) ≡ true
or_first true b h = refl
or_first false b h = absurd (true≢false (sym h))

or_second : (a b : Bool) → b ≡ true → (a || b) ≡ true
or_second true b h = refl
or_second false b h = h

-- ---- elements that are there

-- a test that some element of a list passes, is passed by an element that is there
found : (test : Elem → Bool) (xs : List Elem) → list_any test xs ≡ true → (x : Elem) × (list_any (same_elem x) xs ≡ true) × (test x ≡ true)
found test [] h = absurd (true≢false (sym h))
found test (x ∷ xs) h =
    ⊎_elim (λ here. (x, or_first (same_elem x x) _ (ap is_eq (tied_itself elem_cmp_total x)), here))
    (λ later. let rest = found test xs later in (rest.0, or_second (same_elem rest.0 x) _ rest.1, rest.2))
    (or_cases _ _ h)

given : (test : Elem → Bool) (x : Elem) (xs : List Elem) → list_any (same_elem x) xs ≡ true → test x ≡ true → list_any test xs ≡ true
given test x [] there h = there
given test x (y ∷ ys) there h =
    ⊎_elim (λ here. or_first (test y) _ (ap test (sym (exact_elem x y ((Equal-is (elem_cmp x y)).0 here))) ∙ h))
    (λ later. or_second (test y) _ (given test x ys later h))
    (or_cases _ _ there)

-- ---- assignments

module _ (g : Graph) where
  pub assigned : (test : List Elem → Bool) (kinds : List Bool) → list_any test (assignments g kinds) ≡ true →
      (elems : List Elem) × (are_there g kinds elems ≡ true) × (test elems ≡ true)
  assigned test [] h = ([], refl, sym (or-false (test [])) ∙ h)
  assigned test (kind ∷ kinds) h =
      let first = found (λ elem. list_any test (map (λ elems. elem ∷ elems) (assignments g kinds))) (elements g kind)
      (sym (any_flat_map test (λ elem. map (λ elems. elem ∷ elems) (assignments g kinds)) (elements g kind)) ∙ h) in
      let rest = assigned (λ elems. test (first.0 ∷ elems)) kinds (sym (any_map test (λ elems. first.0 ∷ elems) (assignments g kinds)) ∙ first.2) in
      (first.0 ∷ rest.0, and_from _ _ first.1 rest.1, rest.2)

  pub assigns : (test : List Elem → Bool) (kinds : List Bool) (elems : List Elem) → are_there g kinds elems ≡ true → test elems ≡ true →
      list_any test (assignments g kinds) ≡ true
  assigns test [] [] there h = or_first _ _ h
  assigns test [] (elem ∷ elems) there h = absurd (true≢false (sym there))
  assigns test (kind ∷ kinds) [] there h = absurd (true≢false (sym there))
  assigns test (kind ∷ kinds) (elem ∷ elems) there h =
      let parts = and_parts _ _ there in
      any_flat_map test (λ first. map (λ rest. first ∷ rest) (assignments g kinds)) (elements g kind)
      ∙ given (λ first. list_any test (map (λ rest. first ∷ rest) (assignments g kinds))) elem (elements g kind) parts.0
      (any_map test (λ rest. elem ∷ rest) (assignments g kinds) ∙ assigns (λ rest. test (elem ∷ rest)) kinds elems parts.1 h)

-- ---- matches

pub match_found : (resolved : Resolved) (g : Graph) (pattern : Pattern) (test : List Elem → Bool) → list_any test (matches resolved g pattern) ≡ true →
    (elems : List Elem) × (is_match resolved g pattern elems ≡ true) × (test elems ≡ true)
match_found resolved g pattern test h =
    let any = assigned g (λ elems. list_all (holds resolved g elems) pattern.atoms && test elems) pattern.edge_vars
    (sym (any_filter test (λ elems. list_all (holds resolved g elems) pattern.atoms) (assignments g pattern.edge_vars)) ∙ h) in
    let parts = and_parts _ _ any.2 in
    (any.0, and_from _ _ any.1 parts.0, parts.1)

pub match_given : (resolved : Resolved) (g : Graph) (pattern : Pattern) (test : List Elem → Bool) (elems : List Elem) →
    is_match resolved g pattern elems ≡ true → test elems ≡ true → list_any test (matches resolved g pattern) ≡ true
match_given resolved g pattern test elems match h =
    let parts = and_parts _ _ match in
    any_filter test (λ others. list_all (holds resolved g others) pattern.atoms) (assignments g pattern.edge_vars)
    ∙ assigns g (λ others. list_all (holds resolved g others) pattern.atoms && test others) pattern.edge_vars elems parts.0 (and_from _ _ parts.1 h)

-- ---- key values

any_filter_map : {X Y : Type 0} (test : Y → Bool) (h : X → Option Y) (xs : List X) → list_any test (filter_map h xs) ≡ list_any (λ x. option_map_or test (h x) false) xs
any_filter_map test h [] = refl
any_filter_map {X} {Y} test h (x ∷ xs) = by (h x) (any_filter_map test h xs)
  where
    by : (o : Option Y) → list_any test (filter_map h xs) ≡ list_any (λ y. option_map_or test (h y) false) xs →
        list_any test (cons_option o (filter_map h xs)) ≡ (option_map_or test o false || list_any (λ y. option_map_or test (h y) false) xs)
    by None rest = rest
    by (Some y) rest = ap (λ b. test y || b) rest

set_has : (tuple : List Part) (tuples : List (List Part)) → list_any (is_at (tuple_cmp tuple)) (as_set tuples) ≡ list_any (is_at (tuple_cmp tuple)) tuples
set_has tuple [] = refl
set_has tuple (first ∷ rest) =
    any-insert_key tuple_cmp_total tuple first (as_set rest)
    ∙ ap (λ b. b || list_any (is_at (tuple_cmp tuple)) (as_set rest)) ((eq_by_cmp_equiv tuple_cmp_total).symm first tuple)
    ∙ ap (λ b. is_at (tuple_cmp tuple) first || b) (set_has tuple rest)

gives_it : (tuple : List Part) (o : Option (List Part)) → option_map_or (is_at (tuple_cmp tuple)) o false ≡ true → o ≡ Some tuple
gives_it tuple None h = absurd (true≢false (sym h))
gives_it tuple (Some other) h = ap Some (sym (exact_tuple tuple other ((Equal-is (tuple_cmp tuple other)).0 h)))

given_it : (tuple : List Part) (o : Option (List Part)) → o ≡ Some tuple → option_map_or (is_at (tuple_cmp tuple)) o false ≡ true
given_it tuple o e = ap (λ p. option_map_or (is_at (tuple_cmp tuple)) p false) e ∙ ap is_eq (tied_itself tuple_cmp_total tuple)

module _ (resolved : Resolved) (g : Graph) (key : Key) (elem : Elem) (tuple : List Part) where
  -- a tuple is among the key values where some match gives it
  values_any : list_any (is_at (tuple_cmp tuple)) (key_values resolved g key elem)
      ≡ list_any (λ elems. starts_at elem elems && option_map_or (is_at (tuple_cmp tuple)) (tuple_of g key.exprs elems) false) (matches resolved g key.descriptor)
  values_any =
      set_has tuple (filter_map (tuple_of g key.exprs) (filter (starts_at elem) (matches resolved g key.descriptor)))
      ∙ any_filter_map (is_at (tuple_cmp tuple)) (tuple_of g key.exprs) (filter (starts_at elem) (matches resolved g key.descriptor))
      ∙ any_filter (λ elems. option_map_or (is_at (tuple_cmp tuple)) (tuple_of g key.exprs elems) false) (starts_at elem) (matches resolved g key.descriptor)

  pub value_found : list_any (is_at (tuple_cmp tuple)) (key_values resolved g key elem) ≡ true →
      (elems : List Elem) × (is_match resolved g key.descriptor elems ≡ true) × (starts_at elem elems ≡ true) × (tuple_of g key.exprs elems ≡ Some tuple)
  value_found h =
      let any = match_found resolved g key.descriptor _ (sym values_any ∙ h) in
      let parts = and_parts _ _ any.2 in
      (any.0, any.1, parts.0, gives_it tuple (tuple_of g key.exprs any.0) parts.1)

  pub value_given : (elems : List Elem) → is_match resolved g key.descriptor elems ≡ true → starts_at elem elems ≡ true → tuple_of g key.exprs elems ≡ Some tuple →
      list_any (is_at (tuple_cmp tuple)) (key_values resolved g key elem) ≡ true
  value_given elems match starts gives =
      values_any ∙ match_given resolved g key.descriptor _ elems match (and_from _ _ starts (given_it tuple (tuple_of g key.exprs elems) gives))
