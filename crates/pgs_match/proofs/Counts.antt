-- How many variables aren't known, each with its weight: one less after each step. So how long a plan is, and along how many edges it goes.
use Rattle.std.proofs.Common.{◌≡◌, ℕ, zero, suc, ◌+◌, ◌<◌, Bool, true, false, cond, List, [], ◌∷◌, length, slice_get, Some, refl, ap, true≢false, arith}
use Rattle.pgs_match.specs.Plans.{is_known, and_known}

-- the weights of the variables that aren't known
abbrev pub left : (Bool → ℕ) → List Bool → List Bool → ℕ
left weight [] known = 0
left weight (k ∷ ks) [] = weight k + left weight ks []
left weight (k ∷ ks) (b ∷ bs) = cond b 0 (weight k) + left weight ks bs

-- a variable more that is known takes its weight away
pub left_less : (weight : Bool → ℕ) (edge_vars known : List Bool) (var : ℕ) (kind : Bool) → slice_get edge_vars var ≡ Some kind → is_known known var ≡ false → var < length known →
    left weight edge_vars (and_known known var) + weight kind ≡ left weight edge_vars known
left_less weight [] known var kind at unknown below = cc
left_less weight (k ∷ ks) [] var kind at unknown below = absurd (omega arith)
left_less weight (k ∷ ks) (true ∷ bs) zero kind at unknown below = absurd (true≢false unknown)
left_less weight (k ∷ ks) (false ∷ bs) zero kind at unknown below =
    let same : weight k ≡ weight kind = ap weight (let e : k ≡ kind = cc in e) in omega arith
left_less weight (k ∷ ks) (b ∷ bs) (suc var) kind at unknown below =
    let rest = left_less weight ks bs var kind at unknown (omega arith) in omega arith

-- what stands at a place in range
pub some_at : {X : Type 0} (xs : List X) (i : ℕ) → i < length xs → (x : X) × (slice_get xs i ≡ Some x)
some_at [] i below = absurd (omega arith)
some_at (x ∷ xs) zero below = (x, refl)
some_at (x ∷ xs) (suc i) below = some_at xs i (omega arith)

-- with each variable that is found one less is left
pub one_less : (edge_vars known : List Bool) (var : ℕ) → var < length edge_vars → is_known known var ≡ false → var < length known →
    left (λ kind. 1) edge_vars (and_known known var) < left (λ kind. 1) edge_vars known
one_less edge_vars known var inside unknown below =
    let at = some_at edge_vars var inside in
    let less = left_less (λ kind. 1) edge_vars known var at.0 at.1 unknown below in omega arith
