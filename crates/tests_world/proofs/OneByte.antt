-- A read of one byte.
use Rattle.std.proofs.Common.{◌≡◌, ℕ, ◌<◌, List, [], ◌∷◌, length, take, drop, get_or, slice_set, sym, ap, ◌∙◌, arith}
use Rattle.std.proofs.lemmas.List.{drop_more}

pub read_one : (buf bytes : List ℕ) (at byte : ℕ) → 0 < length buf → at < length bytes → byte ≡ get_or bytes at byte
    → take 1 (slice_set buf 0 byte) ≡ take (length (take 1 (slice_set buf 0 byte))) (drop at bytes)
read_one [] bytes at byte some inside is = absurd (omega arith)
read_one (x ∷ buf) bytes at byte some inside is = ap (λ b. b ∷ []) is ∙ sym (ap (take 1) (drop_more bytes at byte inside))
