-- One turn more of a pass over a list: what is found so far, and what it has taken.
use Rattle.std.proofs.Common.{◌≡◌, ℕ, zero, suc, ◌+◌, ◌*◌, ◌<◌, ◌≤◌, Bool, List, [], ◌∷◌, ◌++◌, map, take, drop, drop-cons, get_or, length, slice_get, append-nil, append_assoc, Option, Some, None, refl, sym, ◌∙◌, ap, arith}
use Rattle.std.specs.Prelude.{Contains, filter_map, flat_map}
use Rattle.std.specs.Map.{keys_of}
use Rattle.std.proofs.Math.Nat.{mul-le-mul_right}
use Rattle.std.specs.List.{cons_option, sum_by}
use Rattle.std.proofs.lemmas.Grind.{common_steps}
use Rattle.std.proofs.lemmas.List.{take_more}
use Rattle.std.proofs.lemmas.List.Sums.{sum_by-append, sum_by-cons}
use Rattle.std.proofs.lemmas.List.Elements.{filter_map-append}
use Rattle.pgs_base.specs.declared.element.Elem.{Elem}
use Rattle.pgs_base.specs.declared.element.EdgeId.{EdgeId}
use Rattle.pgs_base.specs.declared.part.Part.{Part}
use Rattle.pgs_violation.specs.declared.violation.Violation.{Violation}
use Rattle.pgs_keyindex.specs.declared.change.KeyChange.{KeyChange}
use Rattle.pgs_check.specs.Clashes.{with_holder, with_holders, tuples_of, with_owners, entered, with_earlier}
use Rattle.pgs_check.specs.Untyped.{least_edge}

pub take_all : {X : Type 0} (xs : List X) (i : ℕ) → length xs ≤ i → take i xs ≡ xs
take_all xs i end = grind (arith, common_steps)

pub drop_all : {X : Type 0} (xs : List X) (i : ℕ) → length xs ≤ i → drop i xs ≡ []
drop_all xs i end = grind (arith, common_steps)

-- what is left of a list is its next item and what is left after it
pub next_left : {X : Type 0} (xs : List X) (i : ℕ) (x : X) → x ≡ get_or xs i x → i < length xs → drop i xs ≡ x ∷ drop (i + 1) xs
next_left xs i x is below =
    let one : suc i ≡ i + 1 = omega arith in
    drop-cons xs i x below ∙ ap (λ n. get_or xs i x ∷ drop n xs) one ∙ ap (λ y. y ∷ drop (i + 1) xs) (sym is)

-- ---- the first that is given

module _ {X Y : Type 0} (give : X → Option Y) where
  none_taken : (o : Option Y) (ys : List Y) → [] ≡ cons_option o ys → (o ≡ None) × ([] ≡ ys)
  none_taken None ys e = (refl, e)
  none_taken (Some y) ys e = cc

  first_here : (xs : List X) (i : ℕ) (d : X) → i < length xs → [] ≡ filter_map give (take i xs) → (y : Y) → give (get_or xs i d) ≡ Some y →
      Some y ≡ slice_get (filter_map give xs) 0
  first_here [] i d below before y gives = absurd (omega arith)
  first_here (x ∷ xs) zero d below before y gives = ap (λ o. slice_get (cons_option o (filter_map give xs)) 0) (sym gives)
  first_here (x ∷ xs) (suc i) d below before y gives =
      let none = none_taken (give x) (filter_map give (take i xs)) before in
      first_here xs i d (omega arith) none.1 y gives ∙ ap (λ o. slice_get (cons_option o (filter_map give xs)) 0) (sym none.0)

  module _ (xs : List X) (i : ℕ) (before : [] ≡ filter_map give (take i xs)) where
    pub found_here : (x : X) → x ≡ get_or xs i x → i < length xs → (y : Y) → give x ≡ Some y → Some y ≡ slice_get (filter_map give xs) 0
    found_here x is below y gives = first_here xs i x below before y (sym (ap give is) ∙ gives)

    pub passed_more : (x : X) → x ≡ get_or xs i x → i < length xs → give x ≡ None → [] ≡ filter_map give (take (i + 1) xs)
    passed_more x is below gives =
        before ∙ sym (ap (filter_map give) (take_more xs i x below) ∙ filter_map-append give (take i xs) (get_or xs i x ∷ [])
        ∙ ap (λ o. filter_map give (take i xs) ++ cons_option o []) (sym (ap give is) ∙ gives) ∙ append-nil (filter_map give (take i xs)))

    pub passed_all : length xs ≤ i → None ≡ slice_get (filter_map give xs) 0
    passed_all end = ap (λ ys. slice_get ys 0) (before ∙ ap (filter_map give) (take_all xs i end))

-- ---- the passes over tuples and rows

module _ (n : ℕ) (holder : List Part → Option Elem) (elem : Elem) (whole : Option Violation) where
  pub holders_step : (tuples : List (List Part)) (i : ℕ) (tuple : List Part) → tuple ≡ get_or tuples i tuple → i < length tuples →
      (found next : Option Violation) → next ≡ with_holder n elem found tuple (holder tuple) →
      with_holders n holder elem found (drop i tuples) ≡ whole → with_holders n holder elem next (drop (i + 1) tuples) ≡ whole
  holders_step tuples i tuple is below found next step so_far =
      ap (λ f. with_holders n holder elem f (drop (i + 1) tuples)) step
      ∙ sym (ap (with_holders n holder elem found) (next_left tuples i tuple is below)) ∙ so_far

  pub holders_done : (tuples : List (List Part)) (i : ℕ) → length tuples ≤ i → (found : Option Violation) →
      with_holders n holder elem found (drop i tuples) ≡ whole → found ≡ whole
  holders_done tuples i end found so_far = sym (ap (with_holders n holder elem found) (drop_all tuples i end)) ∙ so_far

module _ (n : ℕ) (owner : List Part → Option Elem) (whole : Option Violation) where
  pub owners_step : (rows : List KeyChange) (i : ℕ) (row : KeyChange) → row ≡ get_or rows i row → i < length rows → (found next : Option Violation) →
      next ≡ with_holders n owner row.elem found (tuples_of row) → with_owners n owner found (drop i rows) ≡ whole → with_owners n owner next (drop (i + 1) rows) ≡ whole
  owners_step rows i row is below found next step so_far =
      ap (λ f. with_owners n owner f (drop (i + 1) rows)) step ∙ sym (ap (with_owners n owner found) (next_left rows i row is below)) ∙ so_far

  pub owners_done : (rows : List KeyChange) (i : ℕ) → length rows ≤ i → (found : Option Violation) → with_owners n owner found (drop i rows) ≡ whole → found ≡ whole
  owners_done rows i end found so_far = sym (ap (with_owners n owner found) (drop_all rows i end)) ∙ so_far

pub earlier_step : (n : ℕ) (holder after : List Part → Option Elem) (whole : Option Violation) (rows : List KeyChange) (i : ℕ) (row : KeyChange) →
    row ≡ get_or rows i row → i < length rows → (found next : Option Violation) → next ≡ with_holders n holder row.elem found (tuples_of row) →
    ((tuple : List Part) → after tuple ≡ entered holder row tuple) → with_earlier n holder found (drop i rows) ≡ whole →
    with_earlier n after next (drop (i + 1) rows) ≡ whole
earlier_step n holder after whole rows i row is below found next step enters so_far =
    ap (λ f. with_earlier n f next (drop (i + 1) rows)) (λ j tuple. enters tuple j)
    ∙ ap (λ f. with_earlier n (entered holder row) f (drop (i + 1) rows)) step
    ∙ sym (ap (with_earlier n holder found) (next_left rows i row is below)) ∙ so_far

pub earlier_done : (n : ℕ) (holder : List Part → Option Elem) (whole : Option Violation) (rows : List KeyChange) (i : ℕ) → length rows ≤ i → (found : Option Violation) →
    with_earlier n holder found (drop i rows) ≡ whole → found ≡ whole
earlier_done n holder whole rows i end found so_far = sym (ap (with_earlier n holder found) (drop_all rows i end)) ∙ so_far

-- ---- the least edge

module _ (test : EdgeId → Bool) where
  pub least_append : (found : Option EdgeId) (xs ys : List EdgeId) → least_edge test found (xs ++ ys) ≡ least_edge test (least_edge test found xs) ys
  least_append found [] ys = refl
  least_append found (x ∷ xs) ys = least_append (least_edge test found (x ∷ [])) xs ys

  pub least_step : (ids : List EdgeId) (i : ℕ) (id : EdgeId) → id ≡ get_or ids i id → i < length ids → (start found next : Option EdgeId) →
      next ≡ least_edge test found (id ∷ []) → found ≡ least_edge test start (take i ids) → next ≡ least_edge test start (take (i + 1) ids)
  least_step ids i id is below start found next step so_far =
      step ∙ ap (λ f. least_edge test f (id ∷ [])) so_far ∙ sym (least_append start (take i ids) (id ∷ []))
      ∙ ap (least_edge test start) (ap (λ x. take i ids ++ x ∷ []) is ∙ sym (take_more ids i id below))

  pub least_done : (ids : List EdgeId) (i : ℕ) → length ids ≤ i → (start found : Option EdgeId) → found ≡ least_edge test start (take i ids) → found ≡ least_edge test start ids
  least_done ids i end start found so_far = so_far ∙ ap (least_edge test start) (take_all ids i end)

-- ---- keys of entries, by their places

module _ {K V : Type 0} where
  pub key_at_place : (es : List (K × V)) (i : ℕ) (e : K × V) → i < length es → e ≡ get_or es i e → e.0 ≡ get_or (keys_of es) i e.0
  key_at_place es i e below is = ap (λ (x : K × V). x.0) is ∙ at es i below
    where
      at : (es : List (K × V)) (i : ℕ) → i < length es → (get_or es i e).0 ≡ get_or (keys_of es) i e.0
      at [] i below = refl
      at (x ∷ es) zero below = refl
      at (x ∷ es) (suc i) below = at es i (omega arith)

  pub count_keys : (es : List (K × V)) → length (keys_of es) ≡ length es
  count_keys [] = refl
  count_keys (e ∷ es) = ap suc (count_keys es)

  pub keys_below : (es : List (K × V)) (i : ℕ) → i < length es → i < length (keys_of es)
  keys_below es i below = let same = count_keys es in omega arith

  pub keys_end : (es : List (K × V)) (i : ℕ) → length es ≤ i → length (keys_of es) ≤ i
  keys_end es i end = let same = count_keys es in omega arith

pub key_there : {K : Type 0} (ks : List K) (i : ℕ) (k : K) → k ≡ get_or ks i k → i < length ks → Contains ks k
key_there ks i k is below = (i, below, sym is)

-- ---- what each turn takes

module _ (rate i start now after : ℕ) where
  pub rate_more : now ≤ start + i * rate → after ≤ now + rate → after ≤ start + (i + 1) * rate
  rate_more before step = omega arith

pub rate_all : {X : Type 0} (rate : ℕ) (xs : List X) (i : ℕ) → i ≤ length xs → (start now : ℕ) → now ≤ start + i * rate → now ≤ start + length xs * rate
rate_all rate xs i within start now before = let most = mul-le-mul_right rate within in omega arith

-- the lists of one item more
flat_append : {X Y : Type 0} (f : X → List Y) (xs ys : List X) → flat_map f (xs ++ ys) ≡ flat_map f xs ++ flat_map f ys
flat_append f [] ys = refl
flat_append f (x ∷ xs) ys = ap (λ rest. f x ++ rest) (flat_append f xs ys) ∙ sym (append_assoc (f x) (flat_map f xs) (flat_map f ys))

pub flat_next : {X Y : Type 0} (f : X → List Y) (xs : List X) (i : ℕ) (x : X) → x ≡ get_or xs i x → i < length xs →
    flat_map f (take i xs) ++ f x ≡ flat_map f (take (i + 1) xs)
flat_next f xs i x is below =
    ap (λ ys. flat_map f (take i xs) ++ ys) (sym (append-nil (f x)))
    ∙ sym (ap (flat_map f) (take_more xs i x below ∙ ap (λ y. take i xs ++ y ∷ []) (sym is)) ∙ flat_append f (take i xs) (x ∷ []))

-- ---- sums over rows

pub sum_next : {X : Type 0} (f : X → ℕ) (xs : List X) (i : ℕ) (x : X) → x ≡ get_or xs i x → i < length xs → sum_by f (take (i + 1) xs) ≡ sum_by f (take i xs) + f x
sum_next f xs i x is below =
    ap (sum_by f) (take_more xs i x below ∙ ap (λ y. take i xs ++ y ∷ []) (sym is)) ∙ sum_by-append f (take i xs) (x ∷ [])
    ∙ ap (λ n. sum_by f (take i xs) + n) (one f x)
  where
    one : {X : Type 0} (f : X → ℕ) (x : X) → sum_by f (x ∷ []) ≡ f x
    one f x = let cons = sum_by-cons f x [] in omega (arith, cons)

pub sum_last : {X : Type 0} (f : X → ℕ) (xs : List X) (x : X) → sum_by f (xs ++ x ∷ []) ≡ sum_by f xs + f x
sum_last f xs x = sum_by-append f xs (x ∷ []) ∙ ap (λ n. sum_by f xs + n) (one f x)
  where
    one : {X : Type 0} (f : X → ℕ) (x : X) → sum_by f (x ∷ []) ≡ f x
    one f x = let cons = sum_by-cons f x [] in omega (arith, cons)

-- ---- rows that are put last

pub map_next : {X Y : Type 0} (f : X → Y) (xs : List X) (i : ℕ) (d : X) → i < length xs → (before after : List Y) (y : Y) → after ≡ before ++ y ∷ [] → y ≡ f (get_or xs i d) →
    before ≡ map f (take i xs) → after ≡ map f (take (i + 1) xs)
map_next f xs i d below before after y put is so_far =
    put ∙ ap (λ ys. ys ++ y ∷ []) so_far ∙ ap (λ z. map f (take i xs) ++ z ∷ []) is
    ∙ sym (ap (map f) (take_more xs i d below) ∙ map_append f (take i xs) (get_or xs i d ∷ []))
  where
    map_append : {X Y : Type 0} (f : X → Y) (xs ys : List X) → map f (xs ++ ys) ≡ map f xs ++ map f ys
    map_append f [] ys = refl
    map_append f (x ∷ xs) ys = ap (λ rest. f x ∷ rest) (map_append f xs ys)

pub rate_from : {X : Type 0} (rate i : ℕ) (f : X → ℕ) (before after : List X) (x : X) → after ≡ before ++ x ∷ [] → sum_by f before ≤ i * rate → f x ≤ rate →
    sum_by f after ≤ (i + 1) * rate
rate_from rate i f before after x put most few =
    let last = ap (sum_by f) put ∙ sum_last f before x in omega arith

pub few_all : {X : Type 0} (rate : ℕ) (xs : List X) (i : ℕ) → i ≤ length xs → (now : ℕ) → now ≤ i * rate → now ≤ length xs * rate
few_all rate xs i within now before = let most = mul-le-mul_right rate within in omega arith
