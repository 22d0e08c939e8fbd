-- What lists contain: tests of it, and names that stand in a list once.
use Rattle.std.proofs.Common.{◌≡◌, ℕ, ◌<◌, ◌≤◌, Bool, true, false, not, cond, ◌||◌, ⊎_elim, List, [], ◌∷◌, length, filter, refl, sym, ◌∙◌, ap, true≢false, arith}
use Rattle.std.specs.Prelude.{Contains}
use Rattle.std.specs.List.{list_any, list_all}
use Rattle.std.proofs.lemmas.Bool.{and_from, and_parts, or_cases, or_left, or_right, or_parts}
use Rattle.std.proofs.lemmas.Map.Views.{Contains-from_any}
use Rattle.pgs_base.specs.Pair.{same_name, has_name}
use Rattle.pgs_syntax.proofs.Members.{contains_first, contains_later, contains_cases, contains_none}
use Rattle.pgs_resolve_declared.proofs.Same.{one_name, itself, in_turn}

module _ {X : Type 0} (p : X → Bool) where
  pub any_given : (xs : List X) (x : X) → Contains xs x → p x ≡ true → list_any p xs ≡ true
  any_given [] x h e = absurd (contains_none x h)
  any_given (y ∷ ys) x h e =
      ⊎_elim (λ same. or_left (p y) _ (ap p same ∙ e)) (λ later. or_right (p y) _ (any_given ys x later e)) (contains_cases y ys x h)

  pub any_found : (xs : List X) → list_any p xs ≡ true → (x : X) × Contains xs x × (p x ≡ true)
  any_found [] h = absurd (true≢false (sym h))
  any_found (y ∷ ys) h =
      ⊎_elim (λ here. (y, contains_first y ys, here))
      (λ later. let found = any_found ys later in (found.0, contains_later y ys found.0 found.1, found.2)) (or_cases (p y) (list_any p ys) h)

  pub none_at : (xs : List X) (x : X) → list_any p xs ≡ false → Contains xs x → p x ≡ false
  none_at [] x e h = absurd (contains_none x h)
  none_at (y ∷ ys) x e h =
      let parts = or_parts (p y) (list_any p ys) e in
      ⊎_elim (λ same. ap p (sym same) ∙ parts.0) (λ later. none_at ys x parts.1 later) (contains_cases y ys x h)

  pub all_at : (xs : List X) (x : X) → list_all p xs ≡ true → Contains xs x → p x ≡ true
  all_at [] x e h = absurd (contains_none x h)
  all_at (y ∷ ys) x e h =
      let parts = and_parts (p y) (list_all p ys) e in
      ⊎_elim (λ same. ap p (sym same) ∙ parts.0) (λ later. all_at ys x parts.1 later) (contains_cases y ys x h)

  pub all_given : (xs : List X) → ((x : X) → Contains xs x → p x ≡ true) → list_all p xs ≡ true
  all_given [] h = refl
  all_given (y ∷ ys) h = and_from (p y) (list_all p ys) (h y (contains_first y ys)) (all_given ys (λ x i. h x (contains_later y ys x i)))

  pub filter_fewer : (xs : List X) → length (filter p xs) ≤ length xs
  filter_fewer [] = omega arith
  filter_fewer (y ∷ ys) = by (p y) (filter_fewer ys)
    where
      by : (b : Bool) → length (filter p ys) ≤ length ys → length (cond b (y ∷ filter p ys) (filter p ys)) ≤ length (y ∷ ys)
      by true h = omega arith
      by false h = omega arith

-- ---- names

pub named : (name : List ℕ) (names : List (List ℕ)) → has_name name names ≡ true → Contains names name
named name names h = Contains-from_any one_name name names h

pub has : (name : List ℕ) (names : List (List ℕ)) → Contains names name → has_name name names ≡ true
has name names h = any_given (same_name name) names name h (itself name)

-- names of which none stands twice
abbrev pub Apart : List (List ℕ) → Type 0
Apart [] = Unit {0}
Apart (name ∷ names) = (has_name name names ≡ false) × Apart names

abbrev others : List ℕ → List (List ℕ) → List (List ℕ)
others name names = filter (λ other. not (same_name name other)) names

fewer : (name : List ℕ) (names : List (List ℕ)) → has_name name names ≡ true → length (others name names) < length names
fewer name [] h = absurd (true≢false (sym h))
fewer name (x ∷ xs) h = by (same_name name x) h (fewer name xs) (filter_fewer (λ other. not (same_name name other)) xs)
  where
    by : (b : Bool) → (b || has_name name xs) ≡ true → (has_name name xs ≡ true → length (others name xs) < length xs) →
        length (others name xs) ≤ length xs → length (cond (not b) (x ∷ others name xs) (others name xs)) < length (x ∷ xs)
    by true h rest most = omega arith
    by false h rest most = let less = rest h in omega arith

others_keep : (name other : List ℕ) → same_name other name ≡ false → (names : List (List ℕ)) → has_name other (others name names) ≡ has_name other names
others_keep name other apart [] = refl
others_keep name other apart (x ∷ xs) = by (same_name name x) refl (others_keep name other apart xs)
  where
    by : (b : Bool) → same_name name x ≡ b → has_name other (others name xs) ≡ has_name other xs →
        has_name other (cond (not b) (x ∷ others name xs) (others name xs)) ≡ (same_name other x || has_name other xs)
    by true e rest = rest ∙ ap (λ c. c || has_name other xs) (sym (ap (same_name other) (sym (one_name name x e)) ∙ apart))
    by false e rest = ap (λ c. same_name other x || c) rest

-- names of which none stands twice are no more than those among which they all are
pub few : (xs names : List (List ℕ)) → Apart xs → ((x : List ℕ) → Contains xs x → has_name x names ≡ true) → length xs ≤ length names
few [] names a h = omega arith
few (x ∷ xs) names a h =
    let less = fewer x names (h x (contains_first x xs)) in
    let rest = few xs (others x names) a.1
    (λ y i. others_keep x y (in_turn y x ∙ none_at (same_name x) xs y a.0 i) names ∙ h y (contains_later x xs y i)) in
    omega arith
