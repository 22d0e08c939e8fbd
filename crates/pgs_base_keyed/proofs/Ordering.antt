-- Whether keys ascend, told by neighbours.
use Rattle.std.proofs.Common.{◌≡◌, ℕ, ◌+◌, ◌-◌, ◌<◌, ◌≤◌, true, false, List, [], ◌∷◌, length, get_or, refl, sym, ap, ◌∙◌, Ordering, Less, Equal, Greater, is_lt, arith, inl, inr}
use Rattle.std.specs.Cmp.{IsTotalOrder}
use Rattle.std.specs.Map.{keys_of}
use Rattle.std.proofs.lemmas.Bool.{false_from_ne_true, cases_lt}
use Rattle.std.proofs.lemmas.List.{length-map, get_or-map}
use Rattle.std.proofs.lemmas.Map.Keys.{sorted_from_all_adjacent, Less-from_sorted}
use Rattle.std.proofs.lemmas.Option.{slice_get_read, get_or_from_slice_get}
use Rattle.pgs_base.specs.Order.{ascends}
use Rattle.pgs_base.proofs.Ascending.{ascends_decides}

-- the neighbours below a place are in order
abbrev pub InOrderBelow : {K : Type 0} → (K → K → Ordering) → List K → ℕ → Type 0
InOrderBelow {K = K} cmp ks n = (k : ℕ) (d : K) → k + 1 < n → cmp (get_or ks k d) (get_or ks (k + 1) d) ≡ Less

-- the item at a place, whatever the default
pub item_at : {A : Type 0} (xs : List A) (i : ℕ) (x d : A) → i < length xs → x ≡ get_or xs i x → get_or xs i d ≡ x
item_at xs i x d lt is = get_or_from_slice_get xs i x d (slice_get_read xs (length xs) i x refl lt is)

pub less_from : (o : Ordering) → is_lt o ≡ true → o ≡ Less
less_from Less e = refl
less_from Equal e = absurd cc
less_from Greater e = absurd cc

module _ {K : Type 0} (cmp : K → K → Ordering) where
  pub in_order_more : (ks : List K) (place : ℕ) (a b : K) → 1 ≤ place → place < length ks → a ≡ get_or ks (place - 1) a → b ≡ get_or ks place b →
      is_lt (cmp a b) ≡ true → InOrderBelow cmp ks place → InOrderBelow cmp ks (place + 1)
  in_order_more ks place a b one lt at_a at_b less below k d k_lt =
      elim (cases_lt (k + 1) place) [
        | inl earlier ↦ below k d earlier
        | inr here ↦
            let k-is : k ≡ place - 1 = omega arith in
            let next-is : k + 1 ≡ place = omega arith in
            let first : get_or ks k d ≡ a = ap (λ i. get_or ks i d) k-is ∙ item_at ks (place - 1) a d (omega arith) at_a in
            let second : get_or ks (k + 1) d ≡ b = ap (λ i. get_or ks i d) next-is ∙ item_at ks place b d lt at_b in
            rw (first, second) (less_from (cmp a b) less)
      ]

  pub not_in_order : (ks : List K) (place : ℕ) (a b : K) → 1 ≤ place → place < length ks → a ≡ get_or ks (place - 1) a → b ≡ get_or ks place b →
      is_lt (cmp a b) ≡ false → ascends cmp ks ≡ false
  not_in_order ks place a b one lt at_a at_b not_less = false_from_ne_true (ascends cmp ks) (λ e.
      let less = Less-from_sorted cmp ks (place - 1) place a ((ascends_decides cmp ks).0 e) (omega arith) lt in
      let first = item_at ks (place - 1) a a (let p : place - 1 < length ks = omega arith in p) at_a in
      let second = item_at ks place b a lt at_b in
      let both : cmp a b ≡ Less = rw (first, second) at less in
      absurd (let clash : true ≡ false = ap is_lt (sym both) ∙ not_less in cc))

  pub all_in_order : IsTotalOrder cmp → (ks : List K) (n : ℕ) → length ks ≤ n → InOrderBelow cmp ks n → ascends cmp ks ≡ true
  all_in_order total [] n le below = refl
  all_in_order total (x ∷ xs) n le below = (ascends_decides cmp (x ∷ xs)).1 (sorted_from_all_adjacent total (x ∷ xs) x (λ k lt. below k x (omega arith)))

-- ---- the keys of rows

pub key_at : {K V : Type 0} (rows : List (K × V)) (i : ℕ) (row : K × V) → i < length rows → (get_or rows i row).0 ≡ get_or (keys_of rows) i (get_or rows i row).0
key_at rows i row lt = sym (get_or-map (λ r. r.0) rows i row (get_or rows i row).0 lt)

pub keys_length : {K V : Type 0} (rows : List (K × V)) → length (keys_of rows) ≡ length rows
keys_length rows = length-map rows (λ r. r.0)
