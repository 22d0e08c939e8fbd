-- The one word of a list of words.
use Rattle.std.proofs.Common.{◌≡◌, ℕ, false, List, [], ◌∷◌, length, Some, None, refl, ap, codes, arith}
use Rattle.std.specs.Prelude.{slice_get}
use Rattle.std.specs.Str.{bytes_eq}
use Rattle.pgs_run_sessions.specs.Spec.{asks_run}

pub asked : (words : List (List ℕ)) (word : List ℕ) → length words ≡ 1 → Some word ≡ slice_get words 0 → bytes_eq word (codes "run") ≡ asks_run words
asked [] word one is = absurd (omega (arith, one))
asked (x ∷ []) word one is = let same : word ≡ x = cc in ap (λ (w : List ℕ). bytes_eq w (codes "run")) same
asked (x ∷ y ∷ words) word one is = absurd (omega (arith, one))

pub not_one : (words : List (List ℕ)) → (length words ≡ 1 → ⊥) → false ≡ asks_run words
not_one [] other = refl
not_one (x ∷ []) other = absurd (other refl)
not_one (x ∷ y ∷ words) other = refl

pub none_there : (words : List (List ℕ)) → None ≡ slice_get words 0 → false ≡ asks_run words
none_there [] is = refl
none_there (x ∷ words) is = cc
