-- The places of a list of which one slot loses its feed.
use Rattle.std.proofs.Common.{arith, ◌≡◌, ◌∙◌, ◌<◌, ◌≤◌, ap, refl, ℕ, zero, suc, List, [], ◌∷◌, length, map, get_or, slice_set}
use Rattle.pgs_feed.specs.Places.{Place, dropped, without}

pub drops_one : {X : Type 0} (seen : X → Place) (slots : List X) (at : ℕ) (slot after : X) → at < length slots → slot ≡ get_or slots at slot
    → seen after ≡ dropped (seen slot) → map seen (slice_set slots at after) ≡ without (map seen slots) at
drops_one seen [] at slot after within here gone = absurd (omega arith)
drops_one seen (first ∷ slots) zero slot after within here gone =
    ap (λ place. place ∷ map seen slots) (gone ∙ ap (λ slot. dropped (seen slot)) here)
drops_one seen (first ∷ slots) (suc at) slot after within here gone =
    ap (λ places. seen first ∷ places) (drops_one seen slots at slot after (omega arith) here gone)

-- past the last place there is nothing to drop
pub drops_none : {X : Type 0} (seen : X → Place) (slots : List X) (at : ℕ) → length slots ≤ at → map seen slots ≡ without (map seen slots) at
drops_none seen [] at past = refl
drops_none seen (first ∷ slots) zero past = absurd (omega arith)
drops_none seen (first ∷ slots) (suc at) past = ap (λ places. seen first ∷ places) (drops_none seen slots at (omega arith))
