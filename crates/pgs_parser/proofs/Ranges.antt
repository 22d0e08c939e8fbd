-- Parts of lists, from a place up to another.
use Rattle.std.proofs.Common.{◌≡◌, ℕ, ◌+◌, ◌<◌, ◌-◌, List, length, take, drop, sym, ap, ◌∙◌, arith}
use Rattle.std.specs.List.{slice_range}
use Rattle.std.proofs.lemmas.List.{drop-take, drop-drop, length-take}

-- a part without its first item
tail-below : {A : Type 0} (xs : List A) (at end : ℕ) → at < end → slice_range xs (at + 1) end ≡ drop 1 (slice_range xs at end)
tail-below xs at end h =
    let whole : end - at ≡ 1 + (end - (at + 1)) = omega arith in
    ap (take (end - (at + 1))) (sym (drop-drop 1 at xs))
    ∙ sym (drop-take 1 (end - (at + 1)) (drop at xs))
    ∙ ap (λ n. drop 1 (take n (drop at xs))) (sym whole)

pub range-tail : {A : Type 0} (xs : List A) (at end : ℕ) (part : List A) → slice_range xs at end ≡ part → 0 < length part →
    slice_range xs (at + 1) end ≡ drop 1 part
range-tail xs at end part e h =
    let below : at < end = omega (arith, length-take (end - at) (drop at xs), ap length e) in
    tail-below xs at end below ∙ ap (drop 1) e
