-- What changes of ascending keys make of what stands at one key, and which entries a filter keeps.
use Rattle.std.proofs.Common.{◌≡◌, Bool, true, false, cond, List, [], ◌∷◌, Option, Some, None, refl, sym, ap, ◌∙◌, Ordering, Less, is_eq, fold, map}
use Rattle.std.specs.Option.{option_map, option_map_or}
use Rattle.std.specs.Cmp.{IsTotalOrder, eq_by_cmp_equiv, tied_itself, Equal-is}
use Rattle.std.specs.Ordering.{ordering_reverse}
use Rattle.std.specs.List.{AllByRecursion, filter, list_all}
use Rattle.std.specs.List.Sorted.{IsStrictlySortedBy}
use Rattle.std.specs.Map.{keys_of, lookup}
use Rattle.std.specs.BTreeMap.{is_at}
use Rattle.std.proofs.lemmas.Map.Lookups.{CmpEqualImpliesEq}
use Rattle.std.proofs.lemmas.Bool.{and_parts}
use Rattle.pgs_graph.proofs.Deltas.{absent_below}

module _ {K V A : Type 0} {cmp : K → K → Ordering} (total : IsTotalOrder cmp) (put : V → A → A) (q : K) where
  -- a change at the key
  abbrev changed_here : A → K × V → A
  changed_here a change = cond (is_at (cmp change.0) q) (put change.1 a) a

  -- of changes whose keys ascend, only that of the key counts
  pub fold-here : (changes : List (K × V)) (a : A) → IsStrictlySortedBy cmp (keys_of changes) →
      fold changed_here a changes ≡ option_map_or (λ w. put w a) (lookup (is_at (cmp q)) changes) a
  unfolding IsStrictlySortedBy
  fold-here [] a sorted = refl
  fold-here (c ∷ cs) a sorted = fold-here cs (changed_here a c) sorted.1 ∙ by (is_at (cmp q) c.0) refl
    where
      by : (b : Bool) → is_at (cmp q) c.0 ≡ b →
          option_map_or (λ w. put w (changed_here a c)) (lookup (is_at (cmp q)) cs) (changed_here a c)
          ≡ option_map_or (λ w. put w a) (cond b (Some c.1) (lookup (is_at (cmp q)) cs)) a
      by b is =
          let turned : is_at (cmp c.0) q ≡ b = (eq_by_cmp_equiv total).symm c.0 q ∙ is in
          rw turned (either b is)
        where
          either : (b : Bool) → is_at (cmp q) c.0 ≡ b →
              option_map_or (λ w. put w (cond b (put c.1 a) a)) (lookup (is_at (cmp q)) cs) (cond b (put c.1 a) a)
              ≡ option_map_or (λ w. put w a) (cond b (Some c.1) (lookup (is_at (cmp q)) cs)) a
          either true same =
              let absent = absent_below {W = V} total q c.0 ((Equal-is (cmp q c.0)).0 same) cs sorted.0 in
              rw absent refl
          either false apart = refl

module _ {K V : Type 0} (cmp : K → K → Ordering) where
  below_filter : (p : K × V → Bool) (k : K) (es : List (K × V)) → AllByRecursion (λ y. cmp k y ≡ Less) (keys_of es) → AllByRecursion (λ y. cmp k y ≡ Less) (keys_of (filter p es))
  below_filter p k [] below = tt
  below_filter p k (e ∷ es) below = by (p e) (below_filter p k es below.1)
    where
      by : (b : Bool) → AllByRecursion (λ y. cmp k y ≡ Less) (keys_of (filter p es)) → AllByRecursion (λ y. cmp k y ≡ Less) (keys_of (cond b (e ∷ filter p es) (filter p es)))
      by true rest = (below.0, rest)
      by false rest = rest

  -- the keys of the entries that a filter keeps ascend
  pub ascending-filter : (p : K × V → Bool) (es : List (K × V)) → IsStrictlySortedBy cmp (keys_of es) → IsStrictlySortedBy cmp (keys_of (filter p es))
  unfolding IsStrictlySortedBy
  ascending-filter p [] sorted = tt
  ascending-filter p (e ∷ es) sorted = by (p e) (ascending-filter p es sorted.1)
    where
      by : (b : Bool) → IsStrictlySortedBy cmp (keys_of (filter p es)) → IsStrictlySortedBy cmp (keys_of (cond b (e ∷ filter p es) (filter p es)))
      by true rest = (below_filter p e.0 es sorted.0, rest)
      by false rest = rest

  -- each entry is found under its key
  pub all_found : IsTotalOrder cmp → (es : List (K × V)) → IsStrictlySortedBy cmp (keys_of es) → AllByRecursion (λ (e : K × V). lookup (is_at (cmp e.0)) es ≡ Some e.1) es
  unfolding IsStrictlySortedBy
  all_found total [] sorted = tt
  all_found total (e ∷ es) sorted = (rw (tied_itself total e.0) refl, later es sorted.0 (all_found total es sorted.1))
    where
      later : (fs : List (K × V)) → AllByRecursion (λ y. cmp e.0 y ≡ Less) (keys_of fs) → AllByRecursion (λ (f : K × V). lookup (is_at (cmp f.0)) es ≡ Some f.1) fs →
          AllByRecursion (λ (f : K × V). lookup (is_at (cmp f.0)) (e ∷ es) ≡ Some f.1) fs
      later [] below found = tt
      later (f ∷ fs) below found =
          let apart : is_at (cmp f.0) e.0 ≡ false = ap is_eq (total.antisymm f.0 e.0 ∙ ap ordering_reverse below.0) in
          (rw apart found.0, later fs below.1 found.1)

-- what is found is among the entries that pass a test
pub passes_found : {K V : Type 0} (test : K → Bool) (p : K × V → Bool) (holds : V → Bool) → ((e : K × V) → p e ≡ holds e.1) → (es : List (K × V)) (v : V) → list_all p es ≡ true →
    lookup test es ≡ Some v → holds v ≡ true
passes_found test p holds same [] v all found = cc
passes_found {V = V} test p holds same (e ∷ es) v all found =
    by (λ h. passes_found test p holds same es v (and_parts _ _ all).1 h) (test e.0) found
  where
    by : (lookup test es ≡ Some v → holds v ≡ true) → (b : Bool) → cond b (Some e.1) (lookup test es) ≡ Some v → holds v ≡ true
    by rest true here =
        let value : e.1 ≡ v = cc in
        ap holds (sym value) ∙ sym (same e) ∙ (and_parts _ _ all).0
    by rest false there = rest there

-- entries of some keys, with values by their keys
module _ {K V W : Type 0} {cmp : K → K → Ordering} (exact : CmpEqualImpliesEq cmp) (p : K → Bool) (f : K → W) (q : K) where
  pub lookup-listed : (es : List (K × V)) →
      lookup (is_at (cmp q)) (map (λ (e : K × V). (e.0, f e.0)) (filter (λ (e : K × V). p e.0) es)) ≡ cond (p q) (option_map (λ (v : V). f q) (lookup (is_at (cmp q)) es)) None
  lookup-listed [] = by (p q)
    where
      by : (b : Bool) → ◌≡◌ {A = Option W} None (cond b None None)
      by true = refl
      by false = refl
  lookup-listed (e ∷ es) = by (lookup-listed es) (is_at (cmp q) e.0) (p e.0) refl refl
    where
      listed : Bool → List (K × W)
      listed b = map (λ (e : K × V). (e.0, f e.0)) (cond b (e ∷ filter (λ (e : K × V). p e.0) es) (filter (λ (e : K × V). p e.0) es))

      by : lookup (is_at (cmp q)) (map (λ (e : K × V). (e.0, f e.0)) (filter (λ (e : K × V). p e.0) es)) ≡ cond (p q) (option_map (λ (v : V). f q) (lookup (is_at (cmp q)) es)) None →
          (t b : Bool) → is_at (cmp q) e.0 ≡ t → p e.0 ≡ b →
          lookup (is_at (cmp q)) (map (λ (e : K × V). (e.0, f e.0)) (cond b (e ∷ filter (λ (e : K × V). p e.0) es) (filter (λ (e : K × V). p e.0) es)))
          ≡ cond (p q) (option_map (λ (v : V). f q) (cond t (Some e.1) (lookup (is_at (cmp q)) es))) None
      by rest true true tie is =
          let same : q ≡ e.0 = exact q e.0 ((Equal-is (cmp q e.0)).0 tie) in
          let passes : p q ≡ true = ap p same ∙ is in
          rw (tie, passes) (ap (λ k. Some (f k)) (sym same))
      by rest true false tie is =
          let same : q ≡ e.0 = exact q e.0 ((Equal-is (cmp q e.0)).0 tie) in
          let fails : p q ≡ false = ap p same ∙ is in
          rest ∙ rw fails refl
      by rest false true tie is = rw tie rest
      by rest false false tie is = rest
