-- Places, expressions and paths of a written key, one at a time, and what is made of them.
use Rattle.std.proofs.Common.{◌≡◌, ℕ, zero, suc, ◌+◌, ◌-◌, ◌<◌, ◌≤◌, Bool, true, cond, List, [], ◌∷◌, ◌++◌, length, map, take, get_or, Option, Some, None, sym, ◌∙◌, ap, arith, append_assoc}
use Rattle.std.specs.List.{flat_map, enumerate_from, list_all, slice_get}
use Rattle.std.specs.Option.{option_map, option_map_or, unwrap_or}
use Rattle.std.proofs.lemmas.Bool.{and_parts}
use Rattle.std.proofs.lemmas.List.{length-map, length-take-le, map-append, take_more, take_all}
use Rattle.std.proofs.lemmas.List.FromFn.{length-enumerate_from, get_or-enumerate_from}
use Rattle.std.proofs.lemmas.Option.{slice_get_past, slice_get-map}
use Rattle.pgs_resolve_keys.specs.declared.places.PlaceRef.{PlaceRef}
use Rattle.pgs_syntax.specs.declared.key.Key.{Key}
use Rattle.pgs_syntax.specs.declared.key.Qualifiers.{Qualifiers}
use Rattle.pgs_syntax.specs.declared.pattern.Atom.{Atom}
use Rattle.pgs_syntax.specs.declared.pattern.Expr.{Expr}
use Rattle.pgs_syntax.specs.declared.pattern.Expr.TheVariants.{Element}
use Rattle.pgs_syntax.specs.declared.pattern.Pattern.{Pattern}
use Rattle.pgs_syntax.specs.declared.raw.RawKey.{RawKey}
use Rattle.pgs_syntax.specs.declared.raw.RawPath.{RawPath}
use Rattle.pgs_syntax.specs.declared.raw.RawStep.{RawStep}
use Rattle.pgs_resolve_declared.specs.declared.order.Numbering.{Numbering}
use Rattle.pgs_resolve_keys.specs.KeyFaults.{within_of}
use Rattle.pgs_resolve_keys.specs.Patterns.{Place, Variable, x_of, places_of, variable_at, variables_at, place_atoms, ends, resolved_key}
use Rattle.pgs_resolve_keys.specs.Placed.{placed}
use Rattle.pgs_resolve_declared.proofs.Walks.{one_more, more_of}
use Rattle.pgs_key_causes.specs.declared.walk.Occurrence.{Occurrence}
use Rattle.pgs_key_causes.specs.Walk.{var_at, is_edge_at}
use Rattle.pgs_key_causes.specs.Reading.{is_forward}
use Rattle.pgs_key_causes.specs.declared.walk.Visit.{Visit}
use Rattle.pgs_key_causes.specs.Fronts.{Descriptor, occurrence_of, occurrences_by, occurrences_of, directions_of, descriptor_of, written_atoms, ends_atoms, new_number, vars_of, visited_pattern, visit_key, has_valid_keys, expr_front, expr_fronts}
use Rattle.pgs_key_causes.proofs.Sound.{at-append}

pub one_more_place : (held : List (Variable × Bool)) (xs : List PlaceRef) (i : ℕ) (x : PlaceRef) (old new : List Occurrence) (own : Occurrence) → i < length xs → x ≡ get_or xs i x →
    old ≡ occurrences_by held (map placed (take i xs)) → own ≡ occurrence_of held (variable_at i x.at.now, x.is_edge) → new ≡ old ++ own ∷ [] →
    new ≡ occurrences_by held (map placed (take (i + 1) xs))
one_more_place held xs i x old new own lt is before here after =
    let count = length-take-le i xs (omega (arith, lt)) in
    let size = length-map (take i xs) placed in
    let at : 0 + length (map placed (take i xs)) ≡ i = omega (arith, count, size) in
    let taken : map placed (take (i + 1) xs) ≡ map placed (take i xs) ++ placed x ∷ [] =
    ap (map placed) (one_more xs i x lt is) ∙ map-append placed (take i xs) (x ∷ []) in
    after ∙ ap (λ ys. ys ++ own ∷ []) before ∙ ap (λ o. occurrences_by held (map placed (take i xs)) ++ o ∷ []) here
    ∙ ap (λ n. occurrences_by held (map placed (take i xs)) ++ occurrence_of held (variable_at n x.at.now, x.is_edge) ∷ []) (sym at)
    ∙ sym (map-append (occurrence_of held) (variables_at 0 (map placed (take i xs))) (variables_at (0 + length (map placed (take i xs))) (placed x ∷ [])))
    ∙ ap (map (occurrence_of held)) (sym (at-append 0 (map placed (take i xs)) (placed x ∷ []))) ∙ ap (occurrences_by held) (sym taken)

-- one more of what is made of items with their numbers, and all
module _ {X Y : Type 0} (f : ℕ × X → Y) where
  pub one_more_numbered : (xs : List X) (i : ℕ) (d : X) (old new : List Y) (own : Y) → i < length xs → old ≡ map f (take i (enumerate_from 0 xs)) →
      own ≡ f (i, get_or xs i d) → new ≡ old ++ own ∷ [] → new ≡ map f (take (i + 1) (enumerate_from 0 xs))
  one_more_numbered xs i d old new own lt before here after =
      let size = length-enumerate_from 0 xs in
      let zero_more : 0 + i ≡ i = omega arith in
      after ∙ ap (λ ys. ys ++ own ∷ []) before ∙ ap (λ y. map f (take i (enumerate_from 0 xs)) ++ y ∷ []) here
      ∙ ap (λ n. map f (take i (enumerate_from 0 xs)) ++ f (n, get_or xs i d) ∷ []) (sym zero_more)
      ∙ ap (λ (at : ℕ × X). map f (take i (enumerate_from 0 xs)) ++ f at ∷ []) (sym (get_or-enumerate_from 0 xs i (0, d) lt))
      ∙ sym (map-append f (take i (enumerate_from 0 xs)) (get_or (enumerate_from 0 xs) i (0, d) ∷ []))
      ∙ ap (map f) (sym (take_more (enumerate_from 0 xs) i (0, d) (omega (arith, lt, size))))

  pub all_numbered : (xs : List X) (i : ℕ) (made : List Y) → length xs ≤ i → made ≡ map f (take i (enumerate_from 0 xs)) → made ≡ map f (enumerate_from 0 xs)
  all_numbered xs i made le is =
      let size = length-enumerate_from 0 xs in is ∙ ap (map f) (take_all i (enumerate_from 0 xs) (omega (arith, le, size)))

-- what is so of all that is made of numbered items is so of each
pub numbered_at : {X Y : Type 0} (p : Y → Bool) (f : ℕ × X → Y) (n : ℕ) (xs : List X) (i : ℕ) (d : X) → i < length xs →
    list_all p (map f (enumerate_from n xs)) ≡ true → p (f (n + i, get_or xs i d)) ≡ true
numbered_at p f n [] i d lt h = absurd (omega (arith, lt))
numbered_at p f n (x ∷ xs) zero d lt h =
    let zero_more : n + 0 ≡ n = omega arith in
    ap (λ m. p (f (m, x))) zero_more ∙ (and_parts (p (f (n, x))) (list_all p (map f (enumerate_from (n + 1) xs))) h).0
numbered_at p f n (x ∷ xs) (suc i) d lt h =
    let further : n + suc i ≡ n + 1 + i = omega arith in
    ap (λ m. p (f (m, get_or xs i d))) further
    ∙ numbered_at p f (n + 1) xs i d (omega (arith, lt)) (and_parts (p (f (n, x))) (list_all p (map f (enumerate_from (n + 1) xs))) h).1

pub made_at : {X Y : Type 0} (p : Y → Bool) (f : ℕ × X → Y) (xs : List X) (i : ℕ) (d : X) → i < length xs →
    list_all p (map f (enumerate_from 0 xs)) ≡ true → p (f (i, get_or xs i d)) ≡ true
made_at p f xs i d lt all =
    let zero_more : i ≡ 0 + i = omega arith in
    ap (λ m. p (f (m, get_or xs i d))) zero_more ∙ numbered_at p f 0 xs i d lt all

-- of an expression that is read at its number
pub expr_at : (key resolved : Key) (exprs : List Expr) (i : ℕ) (expr : Expr) → exprs ≡ resolved.exprs → resolved ≡ key → i < length exprs →
    expr ≡ get_or exprs i expr → list_all has_valid_keys (expr_fronts resolved) ≡ true → has_valid_keys (expr_front key (i, expr)) ≡ true
expr_at key resolved exprs i expr are same lt is valid =
    ap (λ (k : Key). has_valid_keys (expr_front k (i, expr))) (sym same)
    ∙ ap (λ e. has_valid_keys (expr_front resolved (i, e))) is
    ∙ made_at has_valid_keys (expr_front resolved) exprs i expr lt
    (ap (λ es. list_all has_valid_keys (map (expr_front resolved) (enumerate_from 0 es))) are ∙ valid)

-- past all there is nothing
pub past : {X Y : Type 0} (f : X → Y) (d : Y) (xs : List X) (n m : ℕ) → length xs ≤ n → n ≤ m → option_map_or f (slice_get xs m) d ≡ d
past f d xs n m le more = ap (λ o. option_map_or f o d) (slice_get_past xs m (omega (arith, le, more)))

pub none_past : {X : Type 0} (d : X) (xs : List X) (n m : ℕ) → length xs ≤ n → n ≤ m → unwrap_or (slice_get xs m) d ≡ d
none_past d xs n m le more = ap (λ o. unwrap_or o d) (slice_get_past xs m (omega (arith, le, more)))

-- ---- a written descriptor

-- whether the edge places of one path more lead on
pub one_more_path : (paths : List RawPath) (i : ℕ) (path : RawPath) (old mid new : List Bool) → i < length paths → path ≡ get_or paths i path →
    old ≡ directions_of (take i paths) → mid ≡ old ++ true ∷ [] → new ≡ mid ++ flat_map (λ (step : RawStep). step.forward ∷ true ∷ []) path.steps →
    new ≡ directions_of (take (i + 1) paths)
one_more_path paths i path old mid new lt is before first after =
    let of_path : RawPath → List Bool = λ (path : RawPath). true ∷ flat_map (λ (step : RawStep). step.forward ∷ true ∷ []) path.steps in
    more_of of_path [] paths i path old new lt is before
    (after ∙ ap (λ ys. ys ++ flat_map (λ (step : RawStep). step.forward ∷ true ∷ []) path.steps) first
    ∙ append_assoc old (true ∷ []) (flat_map (λ (step : RawStep). step.forward ∷ true ∷ []) path.steps))

-- what is written at a place
pub written_at : (numbering : Numbering) (descriptor : Descriptor) (places : List PlaceRef) (vars : List ℕ) (n number : ℕ) (place : PlaceRef) →
    descriptor.places ≡ map placed places → slice_get places n ≡ Some place → number ≡ new_number vars (var_at descriptor.occurrences n) →
    place_atoms numbering place.is_edge number place.at.now.filter ≡ written_atoms numbering descriptor vars n
written_at numbering descriptor places vars n number place are is same =
    let own : ℕ → Place → List Atom = λ m (p : Place). place_atoms numbering p.is_edge m p.at.filter in
    ap (λ m. own m (placed place)) same
    ∙ ap (λ (o : Option Place). option_map_or (own (new_number vars (var_at descriptor.occurrences n))) o [])
    (sym (ap (λ (ps : List Place). slice_get ps n) are ∙ slice_get-map placed places n ∙ ap (option_map placed) is))

pub none_written : (numbering : Numbering) (descriptor : Descriptor) (places : List PlaceRef) (vars : List ℕ) (n : ℕ) →
    descriptor.places ≡ map placed places → slice_get places n ≡ None → written_atoms numbering descriptor vars n ≡ []
none_written numbering descriptor places vars n are none =
    ap (λ (o : Option Place). option_map_or (λ (p : Place). place_atoms numbering p.is_edge (new_number vars (var_at descriptor.occurrences n)) p.at.filter) o [])
    (ap (λ (ps : List Place). slice_get ps n) are ∙ slice_get-map placed places n ∙ ap (option_map placed) none)

abbrev descriptor_by : List Place → List Occurrence → List Bool → List Bool → Descriptor
descriptor_by places occurrences directions edge_vars =
    record { places = places; occurrences = occurrences; directions = directions; edge_vars = edge_vars }

pub descriptor_made : (numbering : Numbering) (key : RawKey) (x : List ℕ) (resolved : Key) (places : List Place) (occurrences : List Occurrence) (directions edge_vars : List Bool) →
    x_of key ≡ Some x → resolved ≡ resolved_key numbering key → places ≡ places_of (within_of key) → occurrences ≡ occurrences_of x (within_of key) →
    directions ≡ directions_of (within_of key) → edge_vars ≡ resolved.descriptor.edge_vars →
    descriptor_by places occurrences directions edge_vars ≡ descriptor_of numbering key
descriptor_made numbering key x resolved places occurrences directions edge_vars x_is same places_are occurrences_are directions_are edge_vars_are =
    let paths = within_of key in
    let x_same : x ≡ unwrap_or (x_of key) [] = ap (λ (o : Option (List ℕ)). unwrap_or o []) (sym x_is) in
    ap (λ ps. descriptor_by ps occurrences directions edge_vars) places_are
    ∙ ap (λ os. descriptor_by (places_of paths) os directions edge_vars) (occurrences_are ∙ ap (λ y. occurrences_of y paths) x_same)
    ∙ ap (λ ds. descriptor_by (places_of paths) (occurrences_of (unwrap_or (x_of key) []) paths) ds edge_vars) directions_are
    ∙ ap (descriptor_by (places_of paths) (occurrences_of (unwrap_or (x_of key) []) paths) (directions_of paths))
    (edge_vars_are ∙ ap (λ (k : Key). k.descriptor.edge_vars) same)

-- the ends of an edge place
pub edge_ends : (descriptor : Descriptor) (vars : List ℕ) (n : ℕ) (forward : Bool) (edge node next : ℕ) → is_edge_at descriptor.occurrences n ≡ true →
    forward ≡ is_forward descriptor.directions n → edge ≡ new_number vars (var_at descriptor.occurrences n) →
    node ≡ new_number vars (var_at descriptor.occurrences (n - 1)) → next ≡ new_number vars (var_at descriptor.occurrences (n + 1)) →
    ends forward edge node next ∷ [] ≡ ends_atoms descriptor vars n
edge_ends descriptor vars n forward edge node next is_edge forward_is edge_is node_is next_is =
    let number : ℕ → ℕ = λ m. new_number vars (var_at descriptor.occurrences m) in
    let leads : Bool = is_forward descriptor.directions n in
    ap (λ f. ends f edge node next ∷ []) forward_is ∙ ap (λ e. ends leads e node next ∷ []) edge_is
    ∙ ap (λ m. ends leads (number n) m next ∷ []) node_is ∙ ap (λ m. ends leads (number n) (number (n - 1)) m ∷ []) next_is
    ∙ ap (λ b. cond b (ends leads (number n) (number (n - 1)) (number (n + 1)) ∷ []) []) (sym is_edge)

-- the key of a visit, of what was made for it
abbrev key_by : Qualifiers → Pattern → Pattern → List Expr → Key
key_by qualifiers scope descriptor exprs = record { qualifiers = qualifiers; scope = scope; descriptor = descriptor; exprs = exprs }

pub key_made : (numbering : Numbering) (descriptor : Descriptor) (qualifiers : Qualifiers) (visits : List Visit) (n : ℕ) (visit : Visit) (upto before : Pattern)
    (exprs : List Expr) → upto ≡ visited_pattern numbering descriptor (take (n + 1) visits) → before ≡ visited_pattern numbering descriptor (take n visits) →
    exprs ≡ Element (new_number (vars_of descriptor.occurrences (take n visits)) (var_at descriptor.occurrences visit.from)) ∷ [] →
    key_by qualifiers upto before exprs ≡ visit_key numbering descriptor qualifiers visits (n, visit)
key_made numbering descriptor qualifiers visits n visit upto before exprs upto_is before_is exprs_are =
    ap (λ p. key_by qualifiers p before exprs) upto_is
    ∙ ap (λ p. key_by qualifiers (visited_pattern numbering descriptor (take (n + 1) visits)) p exprs) before_is
    ∙ ap (key_by qualifiers (visited_pattern numbering descriptor (take (n + 1) visits)) (visited_pattern numbering descriptor (take n visits))) exprs_are
