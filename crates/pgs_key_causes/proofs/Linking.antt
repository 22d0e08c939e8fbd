-- The pattern of visits of a walk: it is valid, and names types that are there.
use Rattle.std.proofs.Common.{true≢false, ◌≡◌, ℕ, zero, suc, ◌+◌, ◌-◌, ◌<◌, ◌≤◌, Bool, true, false, not, cond, ◌||◌, ◌&&◌, ◌⊎◌, inl, inr, List, [], ◌∷◌, ◌++◌, length, map, take, get_or, Option, Some, None, refl, sym, ◌∙◌, ap, subst, arith, eqb}
use Rattle.std.specs.List.{list_any, list_all, flat_map, fold, enumerate_from, slice_get}
use Rattle.std.specs.Option.{option_map, option_map_or}
use Rattle.std.proofs.lemmas.Bool.{and_from, and_parts, or_left, or_right, or_cases, eqb-true, eq-eqb, lt-ltb, le-leb}
use Rattle.std.proofs.lemmas.List.{length-map, get_or-map, take_more, take_all}
use Rattle.std.proofs.lemmas.List.Folds.{list_any-append, list_all-append}
use Rattle.std.proofs.lemmas.Option.{slice_get-map, slice_get-get_or}
use Rattle.pgs_base.specs.declared.value.Value.{Value}
use Rattle.pgs_syntax.specs.declared.pattern.Atom.{Atom}
use Rattle.pgs_syntax.specs.declared.pattern.Atom.TheVariants.{Ends, Equals, HasLabel, FitsNode, FitsEdge}
use Rattle.pgs_syntax.specs.declared.resolved.Resolved.{Resolved}
use Rattle.pgs_syntax.specs.Linked.{links, IsLinked, itself, further}
use Rattle.pgs_syntax.specs.Valid.{is_edge_var, is_node_var, speaks_of, names_types, gives_ends, has_all_ends, edge_count, is_valid_pattern}
use Rattle.pgs_syntax.proofs.Connected.{linked_connected}
use Rattle.pgs_resolve_declared.specs.declared.order.Numbering.{Numbering}
use Rattle.pgs_resolve_declared.specs.Order.{number_in}
use Rattle.pgs_resolve_keys.specs.Patterns.{Place, name_atom, place_atoms, ends}
use Rattle.pgs_key_causes.specs.declared.walk.Visit.{Visit}
use Rattle.pgs_key_causes.specs.Fronts.{Descriptor, with_var, vars_of_visit, vars_of, new_number, written_atoms, ends_atoms, visit_atoms, visited_pattern}
use Rattle.pgs_key_causes.specs.Reading.{is_forward}
use Rattle.pgs_key_causes.specs.Walk.{var_at, is_edge_at}
use Rattle.pgs_key_causes.proofs.Sound.{IsEdgeAt, IsSound, place_asks}
use Rattle.pgs_key_causes.proofs.Vars.{is_in, Distinct, from_all, there_all, distinct_all, number_at, own_number, known_at, few}
use Rattle.pgs_key_causes.proofs.Walks.{AreWalked, is_known, vars_push, x_known}

-- ---- lists

any_flat : {X Y : Type 0} (p : Y → Bool) (f : X → List Y) (xs : List X) (i : ℕ) (d : X) → i < length xs → list_any p (f (get_or xs i d)) ≡ true →
    list_any p (flat_map f xs) ≡ true
any_flat p f [] i d lt h = absurd (omega (arith, lt))
any_flat p f (x ∷ xs) zero d lt h = list_any-append p (f x) (flat_map f xs) ∙ or_left (list_any p (f x)) _ h
any_flat p f (x ∷ xs) (suc i) d lt h =
    list_any-append p (f x) (flat_map f xs) ∙ or_right (list_any p (f x)) _ (any_flat p f xs i d (omega (arith, lt)) h)

all_flat : {X Y : Type 0} (p : Y → Bool) (f : X → List Y) (xs : List X) → ((i : ℕ) (d : X) → i < length xs → list_all p (f (get_or xs i d)) ≡ true) →
    list_all p (flat_map f xs) ≡ true
all_flat p f [] h = refl
all_flat p f (x ∷ xs) h =
    list_all-append p (f x) (flat_map f xs)
    ∙ and_from _ _ (h 0 x (omega arith)) (all_flat p f xs (λ i d lt. h (suc i) d (omega (arith, lt))))

all_joined : {X : Type 0} (p : X → Bool) (xs ys : List X) → list_all p xs ≡ true → list_all p ys ≡ true → list_all p (xs ++ ys) ≡ true
all_joined p xs ys a b = list_all-append p xs ys ∙ and_from _ _ a b

all_enumerated : (p : ℕ × Bool → Bool) (n : ℕ) (xs : List Bool) → ((k : ℕ) → k < length xs → p (n + k, get_or xs k false) ≡ true) → list_all p (enumerate_from n xs) ≡ true
all_enumerated p n [] h = refl
all_enumerated p n (x ∷ xs) h =
    let first : n + 0 ≡ n = omega arith in
    and_from _ _ (ap (λ m. p (m, x)) (sym first) ∙ h 0 (omega arith))
    (all_enumerated p (n + 1) xs
    (λ k lt. let shift : n + 1 + k ≡ n + suc k = omega arith in ap (λ m. p (m, get_or xs k false)) shift ∙ h (suc k) (omega (arith, lt))))

-- ---- what is written of a variable, said of another of its kind

module _ (numbering : Numbering) (kinds new_kinds : List Bool) (v w : ℕ) (within : w < length new_kinds)
    (same : slice_get new_kinds w ≡ Some (is_edge_var kinds v)) where
  edge_same : is_edge_var kinds v ≡ true → is_edge_var new_kinds w ≡ true
  edge_same h = ap (λ o. option_map_or (λ is_edge. is_edge) o false) same ∙ h

  node_not_edge : is_node_var kinds v ≡ true → is_edge_var kinds v ≡ false
  node_not_edge h = by (slice_get kinds v) h
    where
      by : (o : Option Bool) → option_map_or not o false ≡ true → option_map_or (λ is_edge. is_edge) o false ≡ false
      by None h = cc
      by (Some true) h = cc
      by (Some false) h = refl

  node_same : is_node_var kinds v ≡ true → is_node_var new_kinds w ≡ true
  node_same h = ap (λ o. option_map_or not o false) same ∙ ap not (node_not_edge h)

  name_same : (is_edge : Bool) (name : List ℕ) → speaks_of kinds (name_atom numbering is_edge v name) ≡ true → speaks_of new_kinds (name_atom numbering is_edge w name) ≡ true
  name_same false name = by (number_in numbering.nodes name)
    where
      by : (o : Option ℕ) → speaks_of kinds (option_map_or (FitsNode v) o (HasLabel v name)) ≡ true → speaks_of new_kinds (option_map_or (FitsNode w) o (HasLabel w name)) ≡ true
      by None h = lt-ltb w (length new_kinds) within
      by (Some n) h = node_same h
  name_same true name = by (number_in numbering.edges name)
    where
      by : (o : Option ℕ) → speaks_of kinds (option_map_or (FitsEdge v) o (HasLabel v name)) ≡ true → speaks_of new_kinds (option_map_or (FitsEdge w) o (HasLabel w name)) ≡ true
      by None h = lt-ltb w (length new_kinds) within
      by (Some n) h = edge_same h

  names_same : (is_edge : Bool) (names : List (List ℕ)) → list_all (speaks_of kinds) (map (name_atom numbering is_edge v) names) ≡ true →
      list_all (speaks_of new_kinds) (map (name_atom numbering is_edge w) names) ≡ true
  names_same is_edge [] h = refl
  names_same is_edge (name ∷ names) h =
      let parts = and_parts _ (list_all (speaks_of kinds) (map (name_atom numbering is_edge v) names)) h in
      and_from _ _ (name_same is_edge name parts.0) (names_same is_edge names parts.1)

  tests_same : (tests : List (List ℕ × Value)) → list_all (speaks_of new_kinds) (map (λ (test : List ℕ × Value). Equals w test.0 test.1) tests) ≡ true
  tests_same [] = refl
  tests_same (test ∷ tests) = and_from _ _ (lt-ltb w (length new_kinds) within) (tests_same tests)

  pub place_same : (place : Place) → list_all (speaks_of kinds) (place_asks numbering v place) ≡ true → list_all (speaks_of new_kinds) (place_asks numbering w place) ≡ true
  place_same place h =
      let parts = and_parts _ _ (sym (list_all-append (speaks_of kinds) (map (name_atom numbering place.is_edge v) place.at.filter.names) _) ∙ h) in
      all_joined (speaks_of new_kinds) (map (name_atom numbering place.is_edge w) place.at.filter.names) _
      (names_same place.is_edge place.at.filter.names parts.0) (tests_same place.at.filter.tests)

-- and the types that it names
module _ (schema : Resolved) (numbering : Numbering) (v w : ℕ) where
  name_types : (is_edge : Bool) (name : List ℕ) → names_types schema (name_atom numbering is_edge v name) ≡ true → names_types schema (name_atom numbering is_edge w name) ≡ true
  name_types false name = by (number_in numbering.nodes name)
    where
      by : (o : Option ℕ) → names_types schema (option_map_or (FitsNode v) o (HasLabel v name)) ≡ true → names_types schema (option_map_or (FitsNode w) o (HasLabel w name)) ≡ true
      by None h = refl
      by (Some n) h = h
  name_types true name = by (number_in numbering.edges name)
    where
      by : (o : Option ℕ) → names_types schema (option_map_or (FitsEdge v) o (HasLabel v name)) ≡ true → names_types schema (option_map_or (FitsEdge w) o (HasLabel w name)) ≡ true
      by None h = refl
      by (Some n) h = h

  names_named : (is_edge : Bool) (names : List (List ℕ)) → list_all (names_types schema) (map (name_atom numbering is_edge v) names) ≡ true →
      list_all (names_types schema) (map (name_atom numbering is_edge w) names) ≡ true
  names_named is_edge [] h = refl
  names_named is_edge (name ∷ names) h =
      let parts = and_parts _ (list_all (names_types schema) (map (name_atom numbering is_edge v) names)) h in
      and_from _ _ (name_types is_edge name parts.0) (names_named is_edge names parts.1)

  tests_named : (tests : List (List ℕ × Value)) → list_all (names_types schema) (map (λ (test : List ℕ × Value). Equals w test.0 test.1) tests) ≡ true
  tests_named [] = refl
  tests_named (test ∷ tests) = tests_named tests

  place_named : (place : Place) → list_all (names_types schema) (place_asks numbering v place) ≡ true → list_all (names_types schema) (place_asks numbering w place) ≡ true
  place_named place h =
      let parts = and_parts _ _ (sym (list_all-append (names_types schema) (map (name_atom numbering place.is_edge v) place.at.filter.names) _) ∙ h) in
      all_joined (names_types schema) (map (name_atom numbering place.is_edge w) place.at.filter.names) _
      (names_named place.is_edge place.at.filter.names parts.0) (tests_named place.at.filter.tests)

-- ---- what the ends of an edge link

record AreLinked (f : Bool) (e l r : ℕ) : Type 0 where
  left : links e l (ends f e l r) ≡ true
  right : links e r (ends f e l r) ≡ true
  from_left : links l e (ends f e l r) ≡ true
  from_right : links r e (ends f e l r) ≡ true
  given : gives_ends e (ends f e l r) ≡ true

first_link : (e s t : ℕ) → links e s (Ends e s t) ≡ true
first_link e s t = or_left _ _ (and_from _ _ (eq-eqb e e refl) (or_left (eqb s s) _ (eq-eqb s s refl)))

last_link : (e s t : ℕ) → links e t (Ends e s t) ≡ true
last_link e s t = or_left _ _ (and_from _ _ (eq-eqb e e refl) (or_right (eqb t s) _ (eq-eqb t t refl)))

first_back : (e s t : ℕ) → links s e (Ends e s t) ≡ true
first_back e s t = or_right (eqb s e && (eqb e s || eqb e t)) _ (and_from _ _ (eq-eqb e e refl) (or_left (eqb s s) _ (eq-eqb s s refl)))

last_back : (e s t : ℕ) → links t e (Ends e s t) ≡ true
last_back e s t = or_right (eqb t e && (eqb e s || eqb e t)) _ (and_from _ _ (eq-eqb e e refl) (or_right (eqb t s) _ (eq-eqb t t refl)))

links_of : (f : Bool) (e l r : ℕ) → AreLinked f e l r
links_of true e l r = record {
  left = first_link e l r;
  right = last_link e l r;
  from_left = first_back e l r;
  from_right = last_back e l r;
  given = eq-eqb e e refl;
}
links_of false e l r = record {
  left = last_link e r l;
  right = first_link e r l;
  from_left = last_back e r l;
  from_right = first_back e r l;
  given = eq-eqb e e refl;
}

-- ---- the pattern of visits

module _ (schema : Resolved) (numbering : Numbering) (descriptor : Descriptor) (sound : IsSound schema numbering descriptor) (visits : List Visit)
    (walked : AreWalked descriptor.occurrences visits) where
  abbrev vars : List ℕ
  vars = vars_of descriptor.occurrences visits

  abbrev kinds : List Bool
  kinds = map (is_edge_var descriptor.edge_vars) (vars_of descriptor.occurrences visits)

  abbrev atoms : List Atom
  atoms = flat_map (visit_atoms numbering descriptor (vars_of descriptor.occurrences visits)) visits

  distinct : Distinct (vars_of descriptor.occurrences visits)
  distinct = distinct_all (0 ∷ []) (flat_map (vars_of_visit descriptor.occurrences) visits) (refl, tt)

  many : length kinds ≡ length vars
  many = length-map (vars_of descriptor.occurrences visits) (is_edge_var descriptor.edge_vars)

  front_stays : (w : ℕ) (xs : List ℕ) → get_or xs 0 0 ≡ 0 → 0 < length xs → get_or (xs ++ w ∷ []) 0 0 ≡ 0
  front_stays w [] f s = absurd (omega (arith, s))
  front_stays w (x ∷ xs) f s = f

  one_longer : (w : ℕ) (xs : List ℕ) → 0 < length (xs ++ w ∷ [])
  one_longer w [] = omega arith
  one_longer w (x ∷ xs) = omega arith

  some_first : (start ws : List ℕ) → get_or start 0 0 ≡ 0 → 0 < length start → (get_or (fold with_var start ws) 0 0 ≡ 0) × (0 < length (fold with_var start ws))
  some_first start [] first some = (first, some)
  some_first start (w ∷ ws) first some =
      by (is_in w start) (some_first start ws first some) (some_first (start ++ w ∷ []) ws (front_stays w start first some) (one_longer w start))
    where
      by : (b : Bool) → (get_or (fold with_var start ws) 0 0 ≡ 0) × (0 < length (fold with_var start ws)) →
          (get_or (fold with_var (start ++ w ∷ []) ws) 0 0 ≡ 0) × (0 < length (fold with_var (start ++ w ∷ []) ws)) →
          (get_or (fold with_var (cond b start (start ++ w ∷ [])) ws) 0 0 ≡ 0) × (0 < length (fold with_var (cond b start (start ++ w ∷ [])) ws))
      by true old new = old
      by false old new = new

  first : (get_or (vars_of descriptor.occurrences visits) 0 0 ≡ 0) × (0 < length (vars_of descriptor.occurrences visits))
  first = some_first (0 ∷ []) (flat_map (vars_of_visit descriptor.occurrences) visits) refl (omega arith)

  abbrev number : ℕ → ℕ
  number v = new_number (vars_of descriptor.occurrences visits) v

  number_zero : new_number (vars_of descriptor.occurrences visits) 0 ≡ 0
  number_zero =
      ap (new_number (vars_of descriptor.occurrences visits)) (sym first.0) ∙ own_number (vars_of descriptor.occurrences visits) 0 distinct first.1

  -- the variables of the first visits
  abbrev upto : ℕ → List ℕ
  upto n = vars_of descriptor.occurrences (take n visits)

  more : (n : ℕ) (d : Visit) → n < length visits →
      vars_of descriptor.occurrences (take (n + 1) visits) ≡ fold with_var (upto n) (vars_of_visit descriptor.occurrences (get_or visits n d))
  more n d lt = ap (vars_of descriptor.occurrences) (take_more visits n d lt) ∙ vars_push descriptor.occurrences (take n visits) (get_or visits n d)

  abbrev var : ℕ → ℕ
  var n = var_at descriptor.occurrences n

  -- an edge's visit gives the edge its ends
  record HasEnds (e : ℕ) : Type 0 where
    left : list_any (links (number (var e)) (number (var (e - 1)))) atoms ≡ true
    right : list_any (links (number (var e)) (number (var (e + 1)))) atoms ≡ true
    from_left : list_any (links (number (var (e - 1))) (number (var e))) atoms ≡ true
    from_right : list_any (links (number (var (e + 1))) (number (var e))) atoms ≡ true
    given : list_any (gives_ends (number (var e))) atoms ≡ true

  abbrev place_at : ℕ → Visit → ℕ
  place_at n d = (get_or visits n d).place

  -- what the ends of an edge's visit meet, some atom does
  ends_among : (n : ℕ) (d : Visit) → n < length visits → is_edge_at descriptor.occurrences (place_at n d) ≡ true → (p : Atom → Bool) →
      p (ends (is_forward descriptor.directions (place_at n d)) (number (var (place_at n d))) (number (var (place_at n d - 1))) (number (var (place_at n d + 1)))) ≡ true →
      list_any p atoms ≡ true
  ends_among n d lt edge p h =
      any_flat p (visit_atoms numbering descriptor (vars_of descriptor.occurrences visits)) visits n d lt
      (list_any-append p (written_atoms numbering descriptor (vars_of descriptor.occurrences visits) (place_at n d)) _
      ∙ or_right (list_any p (written_atoms numbering descriptor (vars_of descriptor.occurrences visits) (place_at n d))) _
      (ap (λ b. list_any p (cond b (ends (is_forward descriptor.directions (place_at n d)) (number (var (place_at n d)))
      (number (var (place_at n d - 1))) (number (var (place_at n d + 1))) ∷ []) [])) edge ∙ or_left _ _ h))

  ends_of : (n : ℕ) (d : Visit) → n < length visits → is_edge_at descriptor.occurrences (place_at n d) ≡ true → HasEnds (place_at n d)
  ends_of n d lt edge =
      let e : ℕ = number (var (place_at n d)) in
      let l : ℕ = number (var (place_at n d - 1)) in
      let r : ℕ = number (var (place_at n d + 1)) in
      let own = links_of (is_forward descriptor.directions (place_at n d)) e l r in
      record {
        left = ends_among n d lt edge (links e l) own.left;
        right = ends_among n d lt edge (links e r) own.right;
        from_left = ends_among n d lt edge (links l e) own.from_left;
        from_right = ends_among n d lt edge (links r e) own.from_right;
        given = ends_among n d lt edge (gives_ends e) own.given;
      }

  -- the variables of a visit are known before it, or those of an edge of which one is
  node_vars : (v n : ℕ) → is_edge_at descriptor.occurrences n ≡ false → (from : ℕ) → is_in v (vars_of_visit descriptor.occurrences (record { place = n; from = from })) ≡ true → v ≡ var n
  node_vars v n node from h = alone (ap (λ b. is_in v (cond b (var n ∷ var (n - 1) ∷ var (n + 1) ∷ []) (var n ∷ []))) (sym node) ∙ h)
    where
      alone : is_in v (var n ∷ []) ≡ true → v ≡ var n
      alone h = elim (or_cases (eqb (var n) v) false h) [ inl e ↦ sym (eqb-true (var n) v e) | inr e ↦ absurd (true≢false (sym e)) ]

  edge_vars_of : (v n : ℕ) → is_edge_at descriptor.occurrences n ≡ true → (from : ℕ) → is_in v (vars_of_visit descriptor.occurrences (record { place = n; from = from })) ≡ true →
      (v ≡ var n) ⊎ ((v ≡ var (n - 1)) ⊎ (v ≡ var (n + 1)))
  edge_vars_of v n edge from h = three (ap (λ b. is_in v (cond b (var n ∷ var (n - 1) ∷ var (n + 1) ∷ []) (var n ∷ []))) (sym edge) ∙ h)
    where
      three : is_in v (var n ∷ var (n - 1) ∷ var (n + 1) ∷ []) ≡ true → (v ≡ var n) ⊎ ((v ≡ var (n - 1)) ⊎ (v ≡ var (n + 1)))
      three h = elim (or_cases (eqb (var n) v) _ h) [
        | inl e ↦ inl (sym (eqb-true (var n) v e))
        | inr rest ↦ elim (or_cases (eqb (var (n - 1)) v) _ rest) [
          | inl e ↦ inr (inl (sym (eqb-true (var (n - 1)) v e)))
          | inr last ↦ elim (or_cases (eqb (var (n + 1)) v) false last) [
            | inl e ↦ inr (inr (sym (eqb-true (var (n + 1)) v e)))
            | inr e ↦ absurd (true≢false (sym e))
          ]
        ]
      ]

  in_zero : (v : ℕ) → is_in v (0 ∷ []) ≡ true → v ≡ 0
  in_zero v h = elim (or_cases (eqb 0 v) false h) [ inl e ↦ sym (eqb-true 0 v e) | inr e ↦ absurd (true≢false (sym e)) ]

  -- ---- all are linked with x

  abbrev Linked : ℕ → Type 0
  Linked v = IsLinked atoms 0 (number v)

  linked_zero : (v : ℕ) → v ≡ 0 → Linked v
  linked_zero v e = subst (IsLinked atoms 0) (sym (ap (new_number (vars_of descriptor.occurrences visits)) e ∙ number_zero)) itself

  linked_edge : (e : ℕ) → HasEnds e → (Linked (var (e - 1)) ⊎ (Linked (var e) ⊎ Linked (var (e + 1)))) → Linked (var e)
  linked_edge e has (inl h) = further h has.from_left
  linked_edge e has (inr (inl h)) = h
  linked_edge e has (inr (inr h)) = further h has.from_right

  -- one more visit
  module _ (n : ℕ) (d : Visit) (lt : n < length visits) where
    one_known : (P : ℕ → Type 0) → ((v : ℕ) → is_in v (upto n) ≡ true → P v) → is_edge_at descriptor.occurrences (place_at n d) ≡ true →
        P (var (place_at n d - 1)) ⊎ (P (var (place_at n d)) ⊎ P (var (place_at n d + 1)))
    one_known P before edge =
        elim (or_cases (is_known descriptor.occurrences (take n visits) (place_at n d - 1) || is_known descriptor.occurrences (take n visits) (place_at n d)) _
        ((walked n d lt).edge edge)) [
          | inl two ↦ elim (or_cases (is_known descriptor.occurrences (take n visits) (place_at n d - 1)) _ two) [
            | inl k ↦ inl (before (var (place_at n d - 1)) k)
            | inr k ↦ inr (inl (before (var (place_at n d)) k))
          ]
          | inr k ↦ inr (inr (before (var (place_at n d + 1)) k))
        ]

    linked_more : ((v : ℕ) → is_in v (upto n) ≡ true → Linked v) → (v : ℕ) → is_in v (vars_of_visit descriptor.occurrences (get_or visits n d)) ≡ true → Linked v
    linked_more before v i = by (is_edge_at descriptor.occurrences (place_at n d)) refl
      where
        by : (b : Bool) → is_edge_at descriptor.occurrences (place_at n d) ≡ b → Linked v
        by false node =
            subst Linked (sym (node_vars v (place_at n d) node (get_or visits n d).from i)) (before (var (place_at n d)) ((walked n d lt).node node))
        by true edge =
            let has = ends_of n d lt edge in
            let own = linked_edge (place_at n d) has (one_known Linked before edge) in
            elim (edge_vars_of v (place_at n d) edge (get_or visits n d).from i) [
              | inl is ↦ subst Linked (sym is) own
              | inr rest ↦ elim rest [
                | inl is ↦ subst Linked (sym is) (further own has.left)
                | inr is ↦ subst Linked (sym is) (further own has.right)
              ]
            ]

  all_linked : (n : ℕ) → n ≤ length visits → (v : ℕ) → is_in v (upto n) ≡ true → Linked v
  all_linked zero le v h = linked_zero v (in_zero v h)
  all_linked (suc n) le v h =
      let d : Visit = record { place = 0; from = 0 } in
      let lt : n < length visits = omega (arith, le) in
      let before = all_linked n (omega (arith, le)) in
      let suc_is : suc n ≡ n + 1 = omega arith in
      elim (from_all v (upto n) (vars_of_visit descriptor.occurrences (get_or visits n d)) (ap (is_in v) (sym (ap upto suc_is ∙ more n d lt)) ∙ h)) [
        | inl old ↦ before v old
        | inr new ↦ linked_more n d lt before v new
      ]

  -- ---- each edge has its ends

  abbrev AreEnded : List ℕ → Type 0
  AreEnded vs =
      (vs ≡ 0 ∷ []) ⊎ ((v : ℕ) → is_edge_var descriptor.edge_vars v ≡ true → is_in v vs ≡ true → list_any (gives_ends (number v)) atoms ≡ true)

  not_both : (v : ℕ) → is_edge_var descriptor.edge_vars v ≡ true → is_edge_var descriptor.edge_vars v ≡ false → ⊥
  not_both v edge node = true≢false (sym edge ∙ node)

  -- where x alone is known, an edge that touches it is x, if x is an edge
  touches_zero : (e : ℕ) → IsEdgeAt descriptor.edge_vars descriptor.occurrences e → (vs : List ℕ) → vs ≡ 0 ∷ [] → is_edge_var descriptor.edge_vars 0 ≡ true →
      (is_in (var (e - 1)) vs || is_in (var e) vs || is_in (var (e + 1)) vs) ≡ true → 0 ≡ var e
  touches_zero e at vs is edge h =
      elim (or_cases (is_in (var (e - 1)) vs || is_in (var e) vs) _ h) [
        | inl two ↦ elim (or_cases (is_in (var (e - 1)) vs) _ two) [
          | inl k ↦ absurd (not_both 0 edge (ap (is_edge_var descriptor.edge_vars) (sym (zero (var (e - 1)) k)) ∙ at.left))
          | inr k ↦ sym (zero (var e) k)
        ]
        | inr k ↦ absurd (not_both 0 edge (ap (is_edge_var descriptor.edge_vars) (sym (zero (var (e + 1)) k)) ∙ at.right))
      ]
    where
      zero : (v : ℕ) → is_in v vs ≡ true → v ≡ 0
      zero v k = in_zero v (ap (is_in v) (sym is) ∙ k)

  -- one more visit
  module _ (n : ℕ) (d : Visit) (lt : n < length visits) (before : AreEnded (upto n)) where
    ended_node : is_edge_at descriptor.occurrences (place_at n d) ≡ false → AreEnded (fold with_var (upto n) (vars_of_visit descriptor.occurrences (get_or visits n d)))
    ended_node node =
        let p : ℕ = place_at n d in
        let vars_here : vars_of_visit descriptor.occurrences (get_or visits n d) ≡ var p ∷ [] =
        ap (λ b. cond b (var p ∷ var (p - 1) ∷ var (p + 1) ∷ []) (var p ∷ [])) node in
        let same : fold with_var (upto n) (vars_of_visit descriptor.occurrences (get_or visits n d)) ≡ upto n =
        ap (fold with_var (upto n)) vars_here ∙ ap (λ b. cond b (upto n) (upto n ++ var p ∷ [])) ((walked n d lt).node node) in
        subst AreEnded (sym same) before

    ended_edge : is_edge_at descriptor.occurrences (place_at n d) ≡ true → AreEnded (fold with_var (upto n) (vars_of_visit descriptor.occurrences (get_or visits n d)))
    ended_edge edge =
        let p : ℕ = place_at n d in
        let at = sound.edges p edge in
        let has = ends_of n d lt edge in
        let given_at : (v : ℕ) → v ≡ var p → list_any (gives_ends (number v)) atoms ≡ true =
        λ v is. ap (λ u. list_any (gives_ends (number u)) atoms) is ∙ has.given in
        inr
        (λ v edge_v h.
        elim (from_all v (upto n) (vars_of_visit descriptor.occurrences (get_or visits n d)) h) [
          | inl old ↦ elim before [
            | inl alone ↦
                let is : v ≡ 0 = in_zero v (ap (is_in v) (sym alone) ∙ old) in
                given_at v (is ∙ touches_zero p at (upto n) alone (ap (is_edge_var descriptor.edge_vars) (sym is) ∙ edge_v) ((walked n d lt).edge edge))
            | inr each ↦ each v edge_v old
          ]
          | inr new ↦ elim (edge_vars_of v p edge (get_or visits n d).from new) [
            | inl is ↦ given_at v is
            | inr rest ↦ elim rest [
              | inl is ↦ absurd (not_both (var (p - 1)) (ap (is_edge_var descriptor.edge_vars) (sym is) ∙ edge_v) at.left)
              | inr is ↦ absurd (not_both (var (p + 1)) (ap (is_edge_var descriptor.edge_vars) (sym is) ∙ edge_v) at.right)
            ]
          ]
        ])

    ended_more : AreEnded (fold with_var (upto n) (vars_of_visit descriptor.occurrences (get_or visits n d)))
    ended_more = by (is_edge_at descriptor.occurrences (place_at n d)) refl
      where
        by : (b : Bool) → is_edge_at descriptor.occurrences (place_at n d) ≡ b → AreEnded (fold with_var (upto n) (vars_of_visit descriptor.occurrences (get_or visits n d)))
        by false e = ended_node e
        by true e = ended_edge e

  ended : (n : ℕ) → n ≤ length visits → AreEnded (upto n)
  ended zero le = inl refl
  ended (suc n) le =
      let d : Visit = record { place = 0; from = 0 } in
      let lt : n < length visits = omega (arith, le) in
      let suc_is : suc n ≡ n + 1 = omega arith in
      subst AreEnded (sym (ap upto suc_is ∙ more n d lt)) (ended_more n d lt (ended n (omega (arith, le))))

  -- ---- what is asked speaks of the variables

  in_vars : (i : ℕ) (d : Visit) → i < length visits → (v : ℕ) → is_in v (vars_of_visit descriptor.occurrences (get_or visits i d)) ≡ true →
      is_in v (vars_of descriptor.occurrences visits) ≡ true
  in_vars i d lt v h =
      there_all v (0 ∷ []) (flat_map (vars_of_visit descriptor.occurrences) visits)
      (any_flat (λ other. eqb other v) (vars_of_visit descriptor.occurrences) visits i d lt h)

  record HasKind (v : ℕ) : Type 0 where
    low : number v < length kinds
    kind : slice_get kinds (number v) ≡ Some (is_edge_var descriptor.edge_vars v)

  kind_at : (v : ℕ) → is_in v (vars_of descriptor.occurrences visits) ≡ true → HasKind v
  kind_at v h =
      let at = number_at (vars_of descriptor.occurrences visits) v h in
      record {
        low = omega (arith, at.0, many);
        kind =
            slice_get-map (is_edge_var descriptor.edge_vars) (vars_of descriptor.occurrences visits) (number v)
            ∙ ap (option_map (is_edge_var descriptor.edge_vars)) (slice_get-get_or (vars_of descriptor.occurrences visits) (number v) 0 at.0)
            ∙ ap (λ u. Some (is_edge_var descriptor.edge_vars u)) at.1;
      }

  edge_here : (v : ℕ) → HasKind v → is_edge_var descriptor.edge_vars v ≡ true → is_edge_var kinds (number v) ≡ true
  edge_here v k h = ap (λ o. option_map_or (λ is_edge. is_edge) o false) k.kind ∙ h

  node_here : (v : ℕ) → HasKind v → is_edge_var descriptor.edge_vars v ≡ false → is_node_var kinds (number v) ≡ true
  node_here v k h = ap (λ o. option_map_or not o false) k.kind ∙ ap not h

  ends_speak : (f : Bool) (e l r : ℕ) → is_edge_var kinds e ≡ true → is_node_var kinds l ≡ true → is_node_var kinds r ≡ true → speaks_of kinds (ends f e l r) ≡ true
  ends_speak true e l r a b c = and_from _ _ (and_from _ _ a b) c
  ends_speak false e l r a b c = and_from _ _ (and_from _ _ a c) b

  ends_named : (f : Bool) (e l r : ℕ) → names_types schema (ends f e l r) ≡ true
  ends_named true e l r = refl
  ends_named false e l r = refl

  -- of the atoms of a visit
  module _ (ok : Atom → Bool) (i : ℕ) (d : Visit) (lt : i < length visits)
      (places_ok : (v : ℕ) → is_in v (vars_of descriptor.occurrences visits) ≡ true → (place : Place) →
      slice_get descriptor.places (get_or visits i d).place ≡ Some place → v ≡ var (get_or visits i d).place → list_all ok (place_asks numbering (number v) place) ≡ true)
      (ends_ok : is_edge_at descriptor.occurrences (get_or visits i d).place ≡ true → (f : Bool) →
      ok (ends f (number (var (get_or visits i d).place)) (number (var ((get_or visits i d).place - 1))) (number (var ((get_or visits i d).place + 1)))) ≡ true) where
    abbrev n : ℕ
    n = (get_or visits i d).place

    own_in : (b : Bool) → is_in (var n) (cond b (var n ∷ var (n - 1) ∷ var (n + 1) ∷ []) (var n ∷ [])) ≡ true
    own_in true = or_left (eqb (var n) (var n)) _ (eq-eqb (var n) (var n) refl)
    own_in false = or_left (eqb (var n) (var n)) _ (eq-eqb (var n) (var n) refl)

    there : is_in (var n) (vars_of descriptor.occurrences visits) ≡ true
    there = in_vars i d lt (var n) (own_in (is_edge_at descriptor.occurrences n))

    written_ok : (o : Option Place) → slice_get descriptor.places n ≡ o →
        list_all ok (option_map_or (λ (place : Place). place_atoms numbering place.is_edge (number (var n)) place.at.filter) o []) ≡ true
    written_ok None e = refl
    written_ok (Some place) e = places_ok (var n) there place e refl

    ended_ok : (b : Bool) → is_edge_at descriptor.occurrences n ≡ b →
        list_all ok (cond b (ends (is_forward descriptor.directions n) (number (var n)) (number (var (n - 1))) (number (var (n + 1))) ∷ []) []) ≡ true
    ended_ok false e = refl
    ended_ok true e = and_from _ _ (ends_ok e (is_forward descriptor.directions n)) refl

    visit_ok : list_all ok (visit_atoms numbering descriptor (vars_of descriptor.occurrences visits) (get_or visits i d)) ≡ true
    visit_ok =
        all_joined ok (written_atoms numbering descriptor (vars_of descriptor.occurrences visits) n) (ends_atoms descriptor (vars_of descriptor.occurrences visits) n)
        (written_ok (slice_get descriptor.places n) refl) (ended_ok (is_edge_at descriptor.occurrences n) refl)

  all_speak : list_all (speaks_of kinds) atoms ≡ true
  all_speak =
      all_flat (speaks_of kinds) (visit_atoms numbering descriptor (vars_of descriptor.occurrences visits)) visits
      (λ i d lt. visit_ok (speaks_of kinds) i d lt
      (λ v there place at is.
      let k = kind_at v there in
      place_same numbering descriptor.edge_vars kinds v (number v) k.low k.kind place
      (ap (λ u. list_all (speaks_of descriptor.edge_vars) (place_asks numbering u place)) is ∙ sound.speaks (get_or visits i d).place place at))
      (λ edge f.
      let n : ℕ = (get_or visits i d).place in
      let own = sound.edges n edge in
      let known : (v : ℕ) → is_in v (var n ∷ var (n - 1) ∷ var (n + 1) ∷ []) ≡ true → HasKind v =
      λ v h. kind_at v (in_vars i d lt v (ap (λ b. is_in v (cond b (var n ∷ var (n - 1) ∷ var (n + 1) ∷ []) (var n ∷ []))) edge ∙ h)) in
      ends_speak f (number (var n)) (number (var (n - 1))) (number (var (n + 1)))
      (edge_here (var n) (known (var n) (or_left (eqb (var n) (var n)) _ (eq-eqb (var n) (var n) refl))) own.edge)
      (node_here (var (n - 1)) (known (var (n - 1)) (or_right (eqb (var n) (var (n - 1))) _ (or_left (eqb (var (n - 1)) (var (n - 1))) _ (eq-eqb (var (n - 1)) (var (n - 1)) refl)))) own.left)
      (node_here (var (n + 1)) (known (var (n + 1)) (or_right (eqb (var n) (var (n + 1))) _ (or_right (eqb (var (n - 1)) (var (n + 1))) _
      (or_left (eqb (var (n + 1)) (var (n + 1))) _ (eq-eqb (var (n + 1)) (var (n + 1)) refl))))) own.right)))

  pub all_named : list_all (names_types schema) (visited_pattern numbering descriptor visits).atoms ≡ true
  all_named =
      all_flat (names_types schema) (visit_atoms numbering descriptor (vars_of descriptor.occurrences visits)) visits
      (λ i d lt. visit_ok (names_types schema) i d lt
      (λ v there place at is.
      place_named schema numbering v (number v) place
      (ap (λ u. list_all (names_types schema) (place_asks numbering u place)) is ∙ sound.types (get_or visits i d).place place at))
      (λ edge f. ends_named f _ _ _))

  -- ---- the pattern is valid

  linked_at : (k : ℕ) → k < length kinds → IsLinked atoms 0 k
  linked_at k lt =
      let low : k < length (vars_of descriptor.occurrences visits) = omega (arith, lt, many) in
      let whole = ap (vars_of descriptor.occurrences) (take_all (length visits) visits (omega arith)) in
      let v : ℕ = get_or (vars_of descriptor.occurrences visits) k 0 in
      let h = all_linked (length visits) (omega arith) v (ap (is_in v) whole ∙ known_at (vars_of descriptor.occurrences visits) k low) in
      subst (IsLinked atoms 0) (own_number (vars_of descriptor.occurrences visits) k distinct low) h

  abbrev var_of : ℕ → ℕ
  var_of k = get_or (vars_of descriptor.occurrences visits) k 0

  has_ends : (k : ℕ) → k < length kinds → ((v : ℕ) → is_edge_var descriptor.edge_vars v ≡ true → is_in v (vars_of descriptor.occurrences visits) ≡ true →
      list_any (gives_ends (number v)) atoms ≡ true) → (not (get_or kinds k false) || list_any (gives_ends k) atoms) ≡ true
  has_ends k lt each = by (is_edge_var descriptor.edge_vars (var_of k)) refl
    where
      low : k < length (vars_of descriptor.occurrences visits)
      low = omega (arith, lt, many)

      read : get_or kinds k false ≡ is_edge_var descriptor.edge_vars (var_of k)
      read = get_or-map (is_edge_var descriptor.edge_vars) (vars_of descriptor.occurrences visits) k 0 false low

      by : (b : Bool) → is_edge_var descriptor.edge_vars (var_of k) ≡ b → (not (get_or kinds k false) || list_any (gives_ends k) atoms) ≡ true
      by false e = or_left (not (get_or kinds k false)) _ (ap not (read ∙ e))
      by true e =
          or_right (not (get_or kinds k false)) _
          (ap (λ n. list_any (gives_ends n) atoms) (sym (own_number (vars_of descriptor.occurrences visits) k distinct low))
          ∙ each (var_of k) e (known_at (vars_of descriptor.occurrences visits) k low))

  all_ends : has_all_ends (visited_pattern numbering descriptor visits) ≡ true
  all_ends = elim (subst (λ vs. AreEnded (vars_of descriptor.occurrences vs)) (take_all (length visits) visits (omega arith)) (ended (length visits) (omega arith))) [
    | inl alone ↦ or_left (eqb (length kinds) 1) _ (eq-eqb (length kinds) 1 (many ∙ ap length alone))
    | inr each ↦
        or_right (eqb (length kinds) 1) _
        (all_enumerated (λ (place : ℕ × Bool). not place.1 || list_any (gives_ends place.0) atoms) 0 kinds
        (λ k lt. let same : 0 + k ≡ k = omega arith in ap (λ n. not (get_or kinds k false) || list_any (gives_ends n) atoms) same ∙ has_ends k lt each))
  ]

  pub pattern_valid : is_valid_pattern (visited_pattern numbering descriptor visits) ≡ true
  pattern_valid =
      let sizes = few descriptor.edge_vars (vars_of descriptor.occurrences visits) distinct within in
      let a = many in
      let b = first.1 in
      let c = sound.few in
      let e = sound.few_edges in
      and_from _ _ (and_from _ _ (and_from _ _ (and_from _ _
      (and_from _ _ (le-leb 1 (length kinds) (omega (arith, a, b))) (le-leb (length kinds) 20 (omega (arith, a, c, sizes.0))))
      (le-leb (edge_count kinds) 8 (omega (arith, e, sizes.1)))) all_speak) all_ends)
      (linked_connected (visited_pattern numbering descriptor visits) all_speak linked_at)
    where
      within : (v : ℕ) → is_in v (vars_of descriptor.occurrences visits) ≡ true → v < length descriptor.edge_vars
      within v h = elim (from_all v (0 ∷ []) (flat_map (vars_of_visit descriptor.occurrences) visits) h) [
        | inl i ↦ let e = in_zero v i in let s = sound.some in omega (arith, e, s)
        | inr i ↦ each visits i
      ]
        where
          each : (some : List Visit) → is_in v (flat_map (vars_of_visit descriptor.occurrences) some) ≡ true → v < length descriptor.edge_vars
          each [] i = absurd (true≢false (sym i))
          each (visit ∷ others) i =
              elim (or_cases (is_in v (vars_of_visit descriptor.occurrences visit)) _
              (sym (list_any-append (λ other. eqb other v) (vars_of_visit descriptor.occurrences visit) (flat_map (vars_of_visit descriptor.occurrences) others)) ∙ i)) [
                | inl own ↦ of_visit visit (is_edge_at descriptor.occurrences visit.place) refl own
                | inr later ↦ each others later
              ]
            where
              low : (n : ℕ) → v ≡ var n → v < length descriptor.edge_vars
              low n is = let w = sound.within n in omega (arith, is, w)

              of_visit : (visit : Visit) (b : Bool) → is_edge_at descriptor.occurrences visit.place ≡ b → is_in v (vars_of_visit descriptor.occurrences visit) ≡ true → v < length descriptor.edge_vars
              of_visit visit false e own = low visit.place (node_vars v visit.place e visit.from own)
              of_visit visit true e own = elim (edge_vars_of v visit.place e visit.from own) [
                | inl is ↦ low visit.place is
                | inr rest ↦ elim rest [ inl is ↦ low (visit.place - 1) is | inr is ↦ low (visit.place + 1) is ]
              ]

  -- the kind of x stays
  pub first_kind : is_edge_var (visited_pattern numbering descriptor visits).edge_vars 0 ≡ is_edge_var descriptor.edge_vars 0
  first_kind =
      ap (λ n. is_edge_var kinds n) (sym number_zero) ∙ ap (λ o. option_map_or (λ is_edge. is_edge) o false) (kind_at 0 (x_known descriptor.occurrences visits 0 refl)).kind
