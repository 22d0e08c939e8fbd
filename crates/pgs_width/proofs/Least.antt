-- The first type that is past a limit, in the order of places, is the first that is too wide.
use Rattle.std.proofs.Common.{◌≡◌, ℕ, zero, suc, ◌+◌, ◌*◌, ◌<◌, ◌≤◌, ◌==◌, Bool, true, false, cond, ◌||◌, nat_lt, nat_le, List, [], ◌∷◌, ◌++◌, map, length, get_or, Option, Some, None, refl, sym, ◌∙◌, ap, subst, arith, true≢false, ◌⊎◌, inl, inr}
use Rattle.std.specs.List.{list_any, list_all, filter, AllByRecursion, Contains}
use Rattle.std.specs.List.Sorted.{IsPermutation, IsNonDecreasingBy}
use Rattle.std.specs.Option.{option_map, option_map_or}
use Rattle.std.proofs.lemmas.Bool.{and_parts, and_from, leb-true, leb-false, le-leb, ltb-true}
use Rattle.std.proofs.lemmas.List.{append_assoc, map-append}
use Rattle.std.proofs.lemmas.List.Elements.{All-from_recursion, recursion_from_All}
use Rattle.std.proofs.lemmas.List.Folds.{list_all-append}
use Rattle.std.proofs.lemmas.List.Sorted.{All-permutation, Contains-permutation, list_any-IsPermutation}
use Rattle.pgs_syntax.specs.declared.element_type.NodeType.{NodeType}
use Rattle.pgs_syntax.specs.declared.element_type.EdgeType.{EdgeType}
use Rattle.pgs_syntax.specs.declared.resolved.Resolved.{Resolved}
use Rattle.pgs_syntax.specs.declared.specification.Leaf.{Leaf}
use Rattle.pgs_syntax.specs.Valid.{are_distinct, places_of, is_valid}
use Rattle.pgs_syntax.specs.Width.{Width, Sized, node_widths, edge_widths, sized_nodes, sized_edges, sized_types, parts_up_to, is_too_wide, first_of, first_too_wide}
use Rattle.pgs_width.specs.declared.sized.SizedType.{SizedType}
use Rattle.pgs_width.specs.Capped.{capped}
use Rattle.pgs_width.specs.First.{capped_type, parts_of, is_past, first_past}
use Rattle.pgs_width.proofs.Caps.{capped_again, product_capped, sum_capped, test_capped}
use Rattle.pgs_width.proofs.Places.{rises, rises_sorted}
use Rattle.pgs_width.proofs.Sizes.{node_widths_length, edge_widths_length}
use Rattle.pgs_width.proofs.Totals.{total, total_map, total_append, total_permutation, sum_filter, total_capped}

-- ---- too wide, by capped widths

abbrev counted : ℕ → SizedType → ℕ
counted place type = cond (nat_le type.place place) (parts_of type) 0

abbrev wide : List SizedType → SizedType → Bool
wide types type = is_past type (capped (total (counted type.place) types))

parts_same : (types : List Sized) (place : ℕ) → capped (parts_up_to types place) ≡ capped (total (counted place) (map capped_type types))
parts_same types place =
    ap capped (sum_filter (λ (type : Sized). type.width.count * type.width.weight) (λ (type : Sized). nat_le type.place place) types)
    ∙ total_capped _ (λ type. counted place (capped_type type)) (λ type. by type (nat_le type.place place)) types
    ∙ ap capped (sym (total_map (counted place) capped_type types))
  where
    by : (type : Sized) (b : Bool) → capped (cond b (type.width.count * type.width.weight) 0) ≡ capped (cond b (parts_of (capped_type type)) 0)
    by type true = sym (product_capped type.width.count type.width.weight) ∙ sym (capped_again (capped type.width.count * capped type.width.weight))
    by type false = refl

too_wide_same : (types : List Sized) (type : Sized) → is_too_wide types type ≡ wide (map capped_type types) (capped_type type)
too_wide_same types type =
    ap (λ b. b || nat_lt 4194304 (parts_up_to types type.place)) (sym (test_capped 4096 type.width.count (omega arith)))
    ∙ ap (λ b. nat_lt 4096 (capped type.width.count) || b)
    (sym (test_capped 4194304 (parts_up_to types type.place) (omega arith)) ∙ ap (nat_lt 4194304) (parts_same types type.place))

wide_sorted : (entries types : List SizedType) → IsPermutation entries types → (type : SizedType) → wide types type ≡ wide entries type
wide_sorted entries types moved type = ap (λ n. is_past type (capped n)) (total_permutation (counted type.place) entries types moved)

-- ---- the walk in the order of places

abbrev found : (SizedType → Bool) → List SizedType → Option (List ℕ)
found test [] = None
found test (type ∷ types) = cond (test type) (Some type.name) (found test types)

all_before : (front back : List SizedType) (type : SizedType) → rises (front ++ type ∷ back) ≡ true → list_all (λ (x : SizedType). nat_le x.place type.place) front ≡ true
all_before [] back type up = refl
all_before (x ∷ xs) back type up =
    let parts = and_parts _ _ up in
    let split : (list_all (λ (y : SizedType). nat_lt x.place y.place) xs ≡ true) × (list_all (λ (y : SizedType). nat_lt x.place y.place) (type ∷ back) ≡ true) =
    and_parts _ _ (sym (list_all-append (λ (y : SizedType). nat_lt x.place y.place) xs (type ∷ back)) ∙ parts.0) in
    let less : x.place < type.place = ltb-true _ _ (and_parts _ _ split.1).0 in
    and_from _ _ (le-leb x.place type.place (omega arith)) (all_before xs back type parts.1)

all_after : (front back : List SizedType) (type : SizedType) → rises (front ++ type ∷ back) ≡ true → list_all (λ (y : SizedType). nat_lt type.place y.place) back ≡ true
all_after [] back type up = (and_parts _ _ up).0
all_after (x ∷ xs) back type up = all_after xs back type (and_parts _ _ up).1

counted_all : (place : ℕ) (types : List SizedType) → list_all (λ (x : SizedType). nat_le x.place place) types ≡ true → total (counted place) types ≡ total parts_of types
counted_all place [] h = refl
counted_all place (x ∷ xs) h =
    let parts = and_parts _ _ h in
    ap (λ b. cond b (parts_of x) 0 + total (counted place) xs) parts.0 ∙ ap (λ n. parts_of x + n) (counted_all place xs parts.1)

counted_none : (place : ℕ) (types : List SizedType) → list_all (λ (x : SizedType). nat_lt place x.place) types ≡ true → total (counted place) types ≡ 0
counted_none place [] h = refl
counted_none place (x ∷ xs) h = by (nat_le x.place place) refl (counted_none place xs parts.1)
  where
    parts : (nat_lt place x.place ≡ true) × (list_all (λ (y : SizedType). nat_lt place y.place) xs ≡ true)
    parts = and_parts _ _ h

    by : (b : Bool) → nat_le x.place place ≡ b → total (counted place) xs ≡ 0 → cond b (parts_of x) 0 + total (counted place) xs ≡ 0
    by true e rest = let le = leb-true x.place place e in let lt = ltb-true place x.place parts.0 in absurd (omega arith)
    by false e rest = omega (arith, rest)

counted_here : (front back : List SizedType) (type : SizedType) → rises (front ++ type ∷ back) ≡ true →
    total (counted type.place) (front ++ type ∷ back) ≡ total parts_of front + parts_of type
counted_here front back type up =
    let split = total_append (counted type.place) front (type ∷ back) in
    let first = counted_all type.place front (all_before front back type up) in
    let own : counted type.place type ≡ parts_of type = ap (λ b. cond b (parts_of type) 0) (le-leb type.place type.place (omega arith)) in
    let last = counted_none type.place back (all_after front back type up) in
    omega (arith, split, first, own, last)

walk : (front back : List SizedType) → rises (front ++ back) ≡ true → first_past (capped (total parts_of front)) back ≡ found (wide (front ++ back)) back
walk front [] up = refl
walk front (type ∷ back) up =
    ap (λ n. cond (is_past type n) (Some type.name) (first_past n back)) sum_is
    ∙ ap (λ o. cond (is_past type sum) (Some type.name) o) (rest (walk (front ++ type ∷ []) back))
    ∙ ap (λ n. cond (is_past type n) (Some type.name) (found (wide (front ++ type ∷ back)) back)) (ap capped (pushed ∙ sym (counted_here front back type up)))
  where
    sum : ℕ
    sum = capped (total parts_of (front ++ type ∷ []))

    pushed : total parts_of (front ++ type ∷ []) ≡ total parts_of front + parts_of type
    pushed = let e = total_append parts_of front (type ∷ []) in omega (arith, e)

    sum_is : capped (capped (total parts_of front) + parts_of type) ≡ capped (total parts_of (front ++ type ∷ []))
    sum_is =
        ap (λ n. capped (capped (total parts_of front) + n)) (sym (capped_again (type.width.count * type.width.weight)))
        ∙ sum_capped (total parts_of front) (parts_of type) ∙ ap capped (sym pushed)

    again : (front ++ type ∷ []) ++ back ≡ front ++ type ∷ back
    again = append_assoc front (type ∷ []) back

    rest : (rises ((front ++ type ∷ []) ++ back) ≡ true → first_past (capped (total parts_of (front ++ type ∷ []))) back ≡ found (wide ((front ++ type ∷ []) ++ back)) back) →
        first_past (capped (total parts_of (front ++ type ∷ []))) back ≡ found (wide (front ++ type ∷ back)) back
    rest h = h (ap rises again ∙ up) ∙ ap (λ types. found (wide types) back) again

-- ---- the least place

abbrev Among : {X : Type 0} → X → List X → Type 0
Among x [] = ⊥
Among x (y ∷ ys) = (x ≡ y) ⊎ Among x ys

among_contains : {X : Type 0} (x : X) (xs : List X) → Among x xs → Contains xs x
among_contains x [] h = absurd h
among_contains x (y ∷ ys) (inl e) = (0, omega arith, sym e)
among_contains x (y ∷ ys) (inr h) = let c = among_contains x ys h in (suc c.0, (let lt : c.0 < length ys = c.1 in omega arith), c.2)

contains_among : {X : Type 0} (x : X) (xs : List X) (k : ℕ) → k < length xs → get_or xs k x ≡ x → Among x xs
contains_among x [] k lt e = absurd (omega arith)
contains_among x (y ∷ ys) zero lt e = inl (sym e)
contains_among x (y ∷ ys) (suc k) lt e = inr (contains_among x ys k (omega arith) e)

among_map : {X Y : Type 0} (f : X → Y) (x : X) (xs : List X) → Among x xs → Among (f x) (map f xs)
among_map f x [] h = absurd h
among_map f x (y ∷ ys) (inl e) = inl (ap f e)
among_map f x (y ∷ ys) (inr h) = inr (among_map f x ys h)

among_all : {X : Type 0} (p : X → Bool) (x : X) (xs : List X) → Among x xs → list_all p xs ≡ true → p x ≡ true
among_all p x [] h all = absurd h
among_all p x (y ∷ ys) (inl e) all = ap p e ∙ (and_parts _ _ all).0
among_all p x (y ∷ ys) (inr h) all = among_all p x ys h (and_parts _ _ all).1

among_filter : {X : Type 0} (p : X → Bool) (x : X) (xs : List X) → Among x (filter p xs) → Among x xs × (p x ≡ true)
among_filter p x [] h = absurd h
among_filter {X} p x (y ∷ ys) h = by (p y) refl h (among_filter p x ys)
  where
    by : (b : Bool) → p y ≡ b → Among x (cond b (y ∷ filter p ys) (filter p ys)) → (Among x (filter p ys) → Among x ys × (p x ≡ true)) → Among x (y ∷ ys) × (p x ≡ true)
    by true e (inl same) rest = (inl same, ap p same ∙ e)
    by true e (inr later) rest = let r = rest later in (inr r.0, r.1)
    by false e later rest = let r = rest later in (inr r.0, r.1)

all_filter : {X : Type 0} (p : X → Bool) (P : X → Type 0) (xs : List X) → AllByRecursion P (filter p xs) → AllByRecursion (λ x. p x ≡ true → P x) xs
all_filter p P [] h = tt
all_filter {X} p P (x ∷ xs) h = by (p x) refl h (all_filter p P xs)
  where
    by : (b : Bool) → p x ≡ b → AllByRecursion P (cond b (x ∷ filter p xs) (filter p xs)) → (AllByRecursion P (filter p xs) → AllByRecursion (λ y. p y ≡ true → P y) xs) →
        AllByRecursion (λ y. p y ≡ true → P y) (x ∷ xs)
    by true e all rest = (λ _. all.0, rest all.1)
    by false e all rest = (λ passes. absurd (true≢false (sym passes ∙ e)), rest all)

all_map : {X Y : Type 0} (f : X → Y) (P : X → Type 0) (Q : Y → Type 0) → ((x : X) → P x → Q (f x)) → (xs : List X) → AllByRecursion P xs → AllByRecursion Q (map f xs)
all_map f P Q to [] h = tt
all_map f P Q to (x ∷ xs) h = (to x h.0, all_map f P Q to xs h.1)

all_weaker : {X : Type 0} (P Q : X → Type 0) → ((x : X) → P x → Q x) → (xs : List X) → AllByRecursion P xs → AllByRecursion Q xs
all_weaker P Q to [] h = tt
all_weaker P Q to (x ∷ xs) h = (to x h.0, all_weaker P Q to xs h.1)

first_none : (types : List Sized) → first_of types ≡ None → types ≡ []
first_none [] h = refl
first_none (type ∷ types) h = cc

first_least : (types : List Sized) (z : Sized) → first_of types ≡ Some z → Among z types × AllByRecursion (λ type. z.place ≤ type.place) types
first_least [] z h = cc
first_least (type ∷ types) z h = by (first_of types) refl h (first_least types)
  where
    by : (o : Option Sized) → first_of types ≡ o → Some (option_map_or (λ (other : Sized). cond (nat_le type.place other.place) type other) o type) ≡ Some z →
        ((w : Sized) → first_of types ≡ Some w → Among w types × AllByRecursion (λ other. w.place ≤ other.place) types) →
        Among z (type ∷ types) × AllByRecursion (λ other. z.place ≤ other.place) (type ∷ types)
    by None e is rest =
        let own : z ≡ type = cc in
        let none : [] ≡ types = sym (first_none types e) in
        let le : z.place ≤ type.place = subst (λ (w : Sized). w.place ≤ type.place) (sym own) (omega arith) in
        (inl own, (le, subst (λ ts. AllByRecursion (λ other. z.place ≤ other.place) ts) none tt))
    by (Some w) e is rest = choose (nat_le type.place w.place) refl is (rest w e)
      where
        choose : (b : Bool) → nat_le type.place w.place ≡ b → Some (cond b type w) ≡ Some z → Among w types × AllByRecursion (λ other. w.place ≤ other.place) types →
            Among z (type ∷ types) × AllByRecursion (λ other. z.place ≤ other.place) (type ∷ types)
        choose true le same all =
            let own : type ≡ z = cc in
            let less : type.place ≤ w.place = leb-true _ _ le in
            let least : AllByRecursion (λ other. type.place ≤ other.place) (type ∷ types) =
            (omega arith, all_weaker (λ other. w.place ≤ other.place) (λ other. type.place ≤ other.place) (λ other h. omega arith) types all.1) in
            (inl (sym own), subst (λ (t : Sized). AllByRecursion (λ other. t.place ≤ other.place) (type ∷ types)) own least)
        choose false le same all =
            let own : w ≡ z = cc in
            let less : w.place < type.place = leb-false _ _ le in
            let least : AllByRecursion (λ other. w.place ≤ other.place) (type ∷ types) = (omega arith, all.1) in
            (inr (subst (λ (t : Sized). Among t types) own all.0), subst (λ (t : Sized). AllByRecursion (λ other. t.place ≤ other.place) (type ∷ types)) own least)

-- ---- the type that is found

found_none : (test : SizedType → Bool) (types : List SizedType) → list_any test types ≡ false → found test types ≡ None
found_none test [] h = refl
found_none test (type ∷ types) h = by (test type) h (found_none test types)
  where
    by : (b : Bool) → (b || list_any test types) ≡ false → (list_any test types ≡ false → found test types ≡ None) → cond b (Some type.name) (found test types) ≡ None
    by true e rest = absurd (true≢false e)
    by false e rest = rest e

found_least : (test : SizedType → Bool) (z : SizedType) (types : List SizedType) → rises types ≡ true → Among z types → test z ≡ true →
    AllByRecursion (λ type. test type ≡ true → z.place ≤ type.place) types → found test types ≡ Some z.name
found_least test z [] up in' passes all = absurd in'
found_least test z (type ∷ types) up (inl own) passes all =
    ap (λ b. cond b (Some type.name) (found test types)) (ap test (sym own) ∙ passes) ∙ ap (λ (t : SizedType). Some t.name) (sym own)
found_least test z (type ∷ types) up (inr later) passes all = by (test type) refl (found_least test z types (and_parts _ _ up).1 later passes all.1)
  where
    less : type.place < z.place
    less = ltb-true _ _ (among_all (λ (t : SizedType). nat_lt type.place t.place) z types later (and_parts _ _ up).0)

    by : (b : Bool) → test type ≡ b → found test types ≡ Some z.name → cond b (Some type.name) (found test types) ≡ Some z.name
    by true e rest = let least : z.place ≤ type.place = all.0 e in let below = less in absurd (omega arith)
    by false e rest = rest

found_same : (p q : SizedType → Bool) → ((type : SizedType) → p type ≡ q type) → (types : List SizedType) → found p types ≡ found q types
found_same p q same [] = refl
found_same p q same (type ∷ types) =
    ap (λ b. cond b (Some type.name) (found p types)) (same type) ∙ ap (λ o. cond (q type) (Some type.name) o) (found_same p q same types)

any_none : {X : Type 0} (p : X → Bool) (xs : List X) → filter p xs ≡ [] → list_any p xs ≡ false
any_none p [] h = refl
any_none {X} p (x ∷ xs) h = by (p x) h (any_none p xs)
  where
    by : (b : Bool) → cond b (x ∷ filter p xs) (filter p xs) ≡ [] → (filter p xs ≡ [] → list_any p xs ≡ false) → (b || list_any p xs) ≡ false
    by true e rest = cc
    by false e rest = rest e

any_map : {X Y : Type 0} (p : X → Bool) (q : Y → Bool) (f : X → Y) → ((x : X) → p x ≡ q (f x)) → (xs : List X) → list_any q (map f xs) ≡ list_any p xs
any_map p q f same [] = refl
any_map p q f same (x ∷ xs) = ap (λ b. b || list_any q (map f xs)) (sym (same x)) ∙ ap (λ b. p x || b) (any_map p q f same xs)

module _ (types : List Sized) (sorted : List SizedType) (moved : IsPermutation (map capped_type types) sorted) (up : rises sorted ≡ true) where
  abbrev entries : List SizedType
  entries = map capped_type types

  abbrev too_wide : List Sized
  too_wide = filter (is_too_wide types) types

  least : first_past 0 sorted ≡ option_map (λ (type : Sized). type.name) (first_of too_wide)
  least = walk [] sorted up ∙ found_same (wide sorted) (wide entries) (wide_sorted entries sorted moved) sorted ∙ by (first_of too_wide) refl
    where
      by : (o : Option Sized) → first_of too_wide ≡ o → found (wide entries) sorted ≡ option_map (λ (type : Sized). type.name) o
      by None e =
          found_none (wide entries) sorted (sym (list_any-IsPermutation (wide entries) entries sorted moved)
          ∙ any_map (is_too_wide types) (wide entries) capped_type (too_wide_same types) types ∙ any_none (is_too_wide types) types (first_none too_wide e))
      by (Some z) e =
          let h = first_least too_wide z e in
          let is = among_filter (is_too_wide types) z types h.0 in
          let there = Contains-permutation entries sorted (capped_type z) moved (among_contains (capped_type z) entries (among_map capped_type z types is.0)) in
          let all = all_map capped_type (λ type. is_too_wide types type ≡ true → z.place ≤ type.place) (λ type. wide entries type ≡ true → z.place ≤ type.place)
          (λ type le passes. le (too_wide_same types type ∙ passes)) types (all_filter (is_too_wide types) (λ type. z.place ≤ type.place) types h.1) in
          let P : SizedType → Type 0 = λ type. wide entries type ≡ true → z.place ≤ type.place in
          found_least (wide entries) (capped_type z) sorted up (contains_among (capped_type z) sorted there.0 there.1 there.2) (sym (too_wide_same types z) ∙ is.1)
          (recursion_from_All P sorted (All-permutation P entries sorted moved (All-from_recursion P entries all)))

-- ---- the places of types are those of the schema

places_nodes : (types : List (NodeType Leaf)) (widths : List Width) → length types ≤ length widths →
    map (λ (type : SizedType). type.place) (map capped_type (sized_nodes types widths)) ≡ map (λ (type : NodeType Leaf). type.place) types
places_nodes [] widths h = refl
places_nodes (type ∷ types) [] h = absurd (omega arith)
places_nodes (type ∷ types) (width ∷ widths) h = ap (λ ns. type.place ∷ ns) (places_nodes types widths (omega arith))

places_edges : (types : List (EdgeType Leaf)) (widths : List Width) → length types ≤ length widths →
    map (λ (type : SizedType). type.place) (map capped_type (sized_edges types widths)) ≡ map (λ (type : EdgeType Leaf). type.place) types
places_edges [] widths h = refl
places_edges (type ∷ types) [] h = absurd (omega arith)
places_edges (type ∷ types) (width ∷ widths) h = ap (λ ns. type.place ∷ ns) (places_edges types widths (omega arith))

places_same : (resolved : Resolved) → map (λ (type : SizedType). type.place) (map capped_type (sized_types resolved)) ≡ places_of resolved
places_same resolved =
    let nodes = node_widths [] resolved.nodes in
    let edges = edge_widths nodes [] resolved.edges in
    let n = node_widths_length [] resolved.nodes in
    let e = edge_widths_length nodes [] resolved.edges in
    ap (map (λ (type : SizedType). type.place)) (map-append capped_type (sized_nodes resolved.nodes nodes) (sized_edges resolved.edges edges))
    ∙ map-append (λ (type : SizedType). type.place) (map capped_type (sized_nodes resolved.nodes nodes)) (map capped_type (sized_edges resolved.edges edges))
    ∙ ap (λ ns. ns ++ map (λ (type : SizedType). type.place) (map capped_type (sized_edges resolved.edges edges))) (places_nodes resolved.nodes nodes (omega (arith, n)))
    ∙ ap (λ ns. map (λ (type : NodeType Leaf). type.place) resolved.nodes ++ ns) (places_edges resolved.edges edges (omega (arith, e)))

pub found_first : (resolved : Resolved) (own_types sorted : List SizedType) → is_valid resolved ≡ true → own_types ≡ map capped_type (sized_types resolved) →
    IsPermutation own_types sorted → IsNonDecreasingBy (λ type. type.place) sorted → first_past 0 sorted ≡ first_too_wide resolved
unfolding first_too_wide
found_first resolved own_types sorted valid are moved up =
    let distinct = (and_parts _ _ (and_parts _ _ (and_parts _ _ (and_parts _ _ valid).0).0).0).1 in
    let own : IsPermutation (map capped_type (sized_types resolved)) sorted = subst (λ es. IsPermutation es sorted) are moved in
    least (sized_types resolved) sorted own
    (rises_sorted (map capped_type (sized_types resolved)) sorted (ap (are_distinct (λ a b. a == b)) (places_same resolved) ∙ distinct) own up)
