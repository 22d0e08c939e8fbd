-- Groups kept as parents, through a halved way and a union.
use Rattle.std.proofs.Common.{◌≡◌, ℕ, zero, suc, ◌+◌, ◌<◌, ◌≤◌, Bool, true, false, cond, eqb, List, [], ◌∷◌, ◌++◌, length, map, set, get_or, refl, sym, ◌∙◌, ap, ◌⊎◌, inl, inr, arith}
use Rattle.std.specs.List.{enumerate_from, list_all}
use Rattle.std.proofs.lemmas.Bool.{cases_eq, eq-eqb, ne_eqb, and_from}
use Rattle.std.proofs.lemmas.List.{get_or-set_same, get_or-set_other, length-set, length-map}
use Rattle.std.proofs.lemmas.List.Folds.{list_all_at}
use Rattle.std.proofs.lemmas.List.FromFn.{length-enumerate_from}
use Rattle.pgs_syntax.specs.declared.pattern.Atom.{Atom}
use Rattle.pgs_syntax.specs.declared.pattern.Atom.TheVariants.{Ends, HasLabel, FitsNode, FitsEdge, Equals}
use Rattle.pgs_syntax.specs.Valid.{together, groups_after}
use Rattle.pgs_resolve_keys.specs.Groups.{AreParents, Keep}

-- each variable alone
abbrev pub numbers : List Bool → List ℕ
numbers edge_vars = map (λ (place : ℕ × Bool). place.0) (enumerate_from 0 edge_vars)

numbered : (n i : ℕ) (edge_vars : List Bool) → i < length edge_vars →
    get_or (map (λ (place : ℕ × Bool). place.0) (enumerate_from n edge_vars)) i 0 ≡ n + i
numbered n i [] h = absurd (omega (arith, h))
numbered n zero (e ∷ es) h = omega arith
numbered n (suc i) (e ∷ es) h = let k = numbered (n + 1) i es (omega (arith, h)) in k ∙ omega arith

pub numbers_count : (edge_vars : List Bool) → length (numbers edge_vars) ≡ length edge_vars
numbers_count edge_vars =
    length-map (enumerate_from 0 edge_vars) (λ (place : ℕ × Bool). place.0) ∙ length-enumerate_from 0 edge_vars

pub alone_keep : (edge_vars : List Bool) (parents : List ℕ) → length parents ≡ length edge_vars →
    ((k : ℕ) → k < length parents → get_or parents k 0 ≡ k) → Keep (numbers edge_vars) parents
alone_keep edge_vars parents count own = record {
  same = λ i h. ap (λ k. get_or (numbers edge_vars) k 0) (own i h);
  apart = λ i j h k own_i own_j one.
      let a = numbered 0 i edge_vars (omega (arith, h, count)) in
      let b = numbered 0 j edge_vars (omega (arith, k, count)) in
      omega (arith, a, b, one);
  count = numbers_count edge_vars ∙ sym count;
}

-- a parent at a variable replaced
module _ (parents : List ℕ) (at parent : ℕ) (within : at < length parents) where
  pub at_it : (i : ℕ) → i ≡ at → get_or (set parents at parent) i 0 ≡ parent
  at_it i e = ap (λ k. get_or (set parents at parent) k 0) e ∙ get_or-set_same parents at parent 0 within

  pub elsewhere : (i : ℕ) → (i ≡ at → ⊥) → get_or (set parents at parent) i 0 ≡ get_or parents i 0
  elsewhere i ne = get_or-set_other parents at i parent 0 ne

  pub parents_stay : AreParents parents → parent ≤ at → AreParents (set parents at parent)
  parents_stay below low i h = elim (cases_eq i at) [
    | inl e ↦ let x = at_it i e in omega (arith, x, e, low)
    | inr ne ↦ let x = elsewhere i ne in let l = below i (omega (arith, h, length-set parents at parent)) in omega (arith, x, l)
  ]

-- the way of a variable halved
module _ (groups parents : List ℕ) (keep : Keep groups parents) (below : AreParents parents) (at : ℕ) (within : at < length parents) where
  abbrev above : ℕ
  above = get_or parents (get_or parents at 0) 0

  first_below : get_or parents at 0 ≤ at
  first_below = below at within

  above_below : above ≤ get_or parents at 0
  above_below = below (get_or parents at 0) (omega (arith, within, first_below))

  pub same_above : get_or groups above 0 ≡ get_or groups at 0
  same_above = keep.same (get_or parents at 0) (omega (arith, within, first_below)) ∙ keep.same at within

  was_own : (i : ℕ) → i < length parents → get_or (set parents at above) i 0 ≡ i → get_or parents i 0 ≡ i
  was_own i h own = elim (cases_eq i at) [
    | inl e ↦
        let x = at_it parents at above within i e in
        let p : get_or parents i 0 ≡ get_or parents at 0 = ap (λ k. get_or parents k 0) e in
        omega (arith, x, own, e, p, first_below, above_below)
    | inr ne ↦ sym (elsewhere parents at above within i ne) ∙ own
  ]

  pub halved : Keep groups (set parents at above)
  halved = record {
    same = λ i h. elim (cases_eq i at) [
      | inl e ↦ ap (λ k. get_or groups k 0) (at_it parents at above within i e) ∙ same_above ∙ ap (λ k. get_or groups k 0) (sym e)
      | inr ne ↦ ap (λ k. get_or groups k 0) (elsewhere parents at above within i ne) ∙ keep.same i (omega (arith, h, length-set parents at above))
    ];
    apart = λ i j h k own_i own_j one.
        let hi : i < length parents = omega (arith, h, length-set parents at above) in
        let hj : j < length parents = omega (arith, k, length-set parents at above) in
        keep.apart i j hi hj (was_own i hi own_i) (was_own j hj own_j) one;
    count = keep.count ∙ sym (length-set parents at above);
  }

-- the group of a variable after two are put together
get_or-map : (f : ℕ → ℕ) (xs : List ℕ) (i : ℕ) → i < length xs → get_or (map f xs) i 0 ≡ f (get_or xs i 0)
get_or-map f [] i h = absurd (omega (arith, h))
get_or-map f (x ∷ xs) zero h = refl
get_or-map f (x ∷ xs) (suc i) h = get_or-map f xs i (omega (arith, h))

module _ (groups : List ℕ) (a b : ℕ) where
  abbrev regroup : ℕ → ℕ
  regroup group = cond (eqb group (get_or groups a 0)) (get_or groups b 0) group

  regrouped : (i : ℕ) → i < length groups → get_or (together a b groups) i 0 ≡ regroup (get_or groups i 0)
  regrouped i h = get_or-map regroup groups i h

  of_first : (i : ℕ) → i < length groups → get_or groups i 0 ≡ get_or groups a 0 → get_or (together a b groups) i 0 ≡ get_or groups b 0
  of_first i h e = regrouped i h ∙ ap (λ t. cond t (get_or groups b 0) (get_or groups i 0)) (eq-eqb _ _ e)

  of_other : (i : ℕ) → i < length groups → (get_or groups i 0 ≡ get_or groups a 0 → ⊥) → get_or (together a b groups) i 0 ≡ get_or groups i 0
  of_other i h ne = regrouped i h ∙ ap (λ t. cond t (get_or groups b 0) (get_or groups i 0)) (ne_eqb _ _ ne)

  of_second : (i : ℕ) → i < length groups → get_or groups i 0 ≡ get_or groups b 0 → get_or (together a b groups) i 0 ≡ get_or groups b 0
  of_second i h e = elim (cases_eq (get_or groups i 0) (get_or groups a 0)) [
    | inl f ↦ of_first i h f
    | inr ne ↦ of_other i h ne ∙ e
  ]

  pub count_stays : length (together a b groups) ≡ length groups
  count_stays = length-map groups regroup

  -- variables of one group afterwards were of one, or one of each
  abbrev OneOfEach : ℕ → ℕ → Type 0
  OneOfEach i j = (get_or groups i 0 ≡ get_or groups a 0) × (get_or groups j 0 ≡ get_or groups b 0)

  were : (i j : ℕ) → i < length groups → j < length groups → get_or (together a b groups) i 0 ≡ get_or (together a b groups) j 0 →
      (get_or groups i 0 ≡ get_or groups j 0) ⊎ (OneOfEach i j ⊎ OneOfEach j i)
  were i j hi hj one = elim (cases_eq (get_or groups i 0) (get_or groups a 0)) [
    | inl x ↦ elim (cases_eq (get_or groups j 0) (get_or groups a 0)) [
      | inl y ↦ inl (x ∙ sym y)
      | inr y ↦ inr (inl (x, sym (of_other j hj y) ∙ sym one ∙ of_first i hi x))
    ]
    | inr x ↦ elim (cases_eq (get_or groups j 0) (get_or groups a 0)) [
      | inl y ↦ inr (inr (y, sym (of_other i hi x) ∙ one ∙ of_first j hj y))
      | inr y ↦ inl (sym (of_other i hi x) ∙ one ∙ of_other j hj y)
    ]
  ]

-- two groups put together by their own parents, of which `under` gets the other one for its parent
module _ (groups parents : List ℕ) (keep : Keep groups parents) (a b under over : ℕ)
    (under_in : under < length parents) (over_in : over < length parents)
    (under_own : get_or parents under 0 ≡ under) (over_own : get_or parents over 0 ≡ over)
    (each : ((get_or groups under 0 ≡ get_or groups a 0) × (get_or groups over 0 ≡ get_or groups b 0))
    ⊎ ((get_or groups under 0 ≡ get_or groups b 0) × (get_or groups over 0 ≡ get_or groups a 0))) where
  abbrev linked : List ℕ
  linked = set parents under over

  within : (i : ℕ) → i < length parents → i < length groups
  within i h = omega (arith, h, keep.count)

  both : (get_or (together a b groups) under 0 ≡ get_or groups b 0) × (get_or (together a b groups) over 0 ≡ get_or groups b 0)
  both = elim each [
    | inl h ↦ (of_first groups a b under (within under under_in) h.0, of_second groups a b over (within over over_in) h.1)
    | inr h ↦ (of_second groups a b under (within under under_in) h.0, of_first groups a b over (within over over_in) h.1)
  ]

  was : (i : ℕ) → i < length parents → get_or linked i 0 ≡ i → get_or parents i 0 ≡ i
  was i h own = elim (cases_eq i under) [
    | inl e ↦ ap (λ k. get_or parents k 0) e ∙ under_own ∙ sym e
    | inr ne ↦ sym (elsewhere parents under over under_in i ne) ∙ own
  ]

  -- a variable that stands for the group of `under` is the other one
  same_then : (i : ℕ) → i < length parents → get_or linked i 0 ≡ i → get_or groups i 0 ≡ get_or groups under 0 → i ≡ over
  same_then i h own e =
      let is : i ≡ under = keep.apart i under h under_in (was i h own) under_own e in
      sym own ∙ at_it parents under over under_in i is

  over_then : (i : ℕ) → i < length parents → get_or linked i 0 ≡ i → get_or groups i 0 ≡ get_or groups over 0 → i ≡ over
  over_then i h own e = keep.apart i over h over_in (was i h own) over_own e

  of_either : (i : ℕ) → i < length parents → get_or linked i 0 ≡ i → (get_or groups i 0 ≡ get_or groups a 0) ⊎ (get_or groups i 0 ≡ get_or groups b 0) → i ≡ over
  of_either i h own e = elim each [
    | inl w ↦ elim e [ inl x ↦ same_then i h own (x ∙ sym w.0) | inr x ↦ over_then i h own (x ∙ sym w.1) ]
    | inr w ↦ elim e [ inl x ↦ over_then i h own (x ∙ sym w.1) | inr x ↦ same_then i h own (x ∙ sym w.0) ]
  ]

  pub united : AreParents parents → Keep (together a b groups) linked
  united below = record {
    same = λ i h.
        let hi : i < length parents = omega (arith, h, length-set parents under over) in
        elim (cases_eq i under) [
          | inl e ↦
              ap (λ k. get_or (together a b groups) k 0) (at_it parents under over under_in i e) ∙ both.1 ∙ sym both.0
              ∙ ap (λ k. get_or (together a b groups) k 0) (sym e)
          | inr ne ↦
              let low : get_or parents i 0 < length groups = omega (arith, below i hi, hi, keep.count) in
              ap (λ k. get_or (together a b groups) k 0) (elsewhere parents under over under_in i ne)
              ∙ regrouped groups a b (get_or parents i 0) low ∙ ap (regroup groups a b) (keep.same i hi) ∙ sym (regrouped groups a b i (within i hi))
        ];
    apart = λ i j h k own_i own_j one.
        let hi : i < length parents = omega (arith, h, length-set parents under over) in
        let hj : j < length parents = omega (arith, k, length-set parents under over) in
        elim (were groups a b i j (within i hi) (within j hj) one) [
          | inl e ↦ keep.apart i j hi hj (was i hi own_i) (was j hj own_j) e
          | inr w ↦ elim w [
            | inl x ↦ of_either i hi own_i (inl x.0) ∙ sym (of_either j hj own_j (inr x.1))
            | inr x ↦ of_either i hi own_i (inr x.1) ∙ sym (of_either j hj own_j (inl x.0))
          ]
        ];
    count = count_stays groups a b ∙ keep.count ∙ sym (length-set parents under over);
  }

-- ---- one more atom

pub groups_push : (groups : List ℕ) (atoms : List Atom) (atom : Atom) →
    groups_after groups (atoms ++ atom ∷ []) ≡ groups_after (groups_after groups atoms) (atom ∷ [])
groups_push groups [] atom = refl
groups_push groups (Ends edge source target ∷ atoms) atom = groups_push (together edge source (together edge target groups)) atoms atom
groups_push groups (HasLabel var label ∷ atoms) atom = groups_push groups atoms atom
groups_push groups (FitsNode var number ∷ atoms) atom = groups_push groups atoms atom
groups_push groups (FitsEdge var number ∷ atoms) atom = groups_push groups atoms atom
groups_push groups (Equals var key value ∷ atoms) atom = groups_push groups atoms atom

-- ---- one group

all_at : (p : ℕ → Bool) (xs : List ℕ) → ((i : ℕ) → i < length xs → p (get_or xs i 0) ≡ true) → list_all p xs ≡ true
all_at p [] h = refl
all_at p (x ∷ xs) h = and_from (p x) (list_all p xs) (h 0 (omega arith)) (all_at p xs (λ i lt. h (suc i) (omega (arith, lt))))

module _ (groups parents : List ℕ) (keep : Keep groups parents) (below : AreParents parents) where
  down : (others : (i : ℕ) → i < length parents → 0 < i → get_or parents i 0 ≡ i → ⊥) → (most i : ℕ) → i ≤ most → i < length parents →
      get_or groups i 0 ≡ get_or groups 0 0
  down others zero i low h = ap (λ k. get_or groups k 0) (omega (arith, low))
  down others (suc most) i low h = elim (cases_eq i 0) [
    | inl e ↦ ap (λ k. get_or groups k 0) e
    | inr ne ↦
        let le = below i h in
        let apart : get_or parents i 0 ≡ i → ⊥ = others i h (omega (arith, ne)) in
        sym (keep.same i h) ∙ down others most (get_or parents i 0) (omega (arith, low, le, apart)) (omega (arith, le, h))
  ]

  pub one_group : ((i : ℕ) → i < length parents → 0 < i → get_or parents i 0 ≡ i → ⊥) → list_all (λ group. eqb group (get_or groups 0 0)) groups ≡ true
  one_group others = all_at (λ group. eqb group (get_or groups 0 0)) groups
      (λ i h. eq-eqb _ _ (down others i i (omega arith) (omega (arith, h, keep.count))))

  pub two_groups : (i : ℕ) → i < length parents → 0 < i → get_or parents i 0 ≡ i → list_all (λ group. eqb group (get_or groups 0 0)) groups ≡ false
  two_groups i h some own =
      let first : get_or parents 0 0 ≡ 0 = let l = below 0 (omega (arith, h)) in omega (arith, l) in
      list_all_at (λ group. eqb group (get_or groups 0 0)) groups i 0 (omega (arith, h, keep.count))
      (ne_eqb _ _ (λ one. let e = keep.apart i 0 h (omega (arith, h)) own first one in absurd (omega (arith, e, some))))
