-- Fields one after another, as loops read and write them.
use Rattle.std.proofs.Common.{◌≡◌, ℕ, suc, ◌-◌, ◌+◌, ◌≤◌, ◌<◌, List, [], ◌∷◌, ◌++◌, Option, Some, None, refl, sym, ap, ◌∙◌, append_assoc, arith}
use Rattle.std.proofs.lemmas.List.{append-nil}
use Rattle.pgs_base.specs.Options.{◌>>=◌}
use Rattle.pgs_codec.specs.declared.unread.Unread.{Unread}
use Rattle.pgs_codec.specs.declared.unread.Unread.TheVariants as unread
use Rattle.pgs_codec.specs.Unread.{Fails}
use Rattle.pgs_codec.specs.Reading.{Reading, many_at}

-- what was read before, and what is still read
abbrev pub with_front : {A : Type 0} → List A → Option (List A × List ℕ) → Option (List A × List ℕ)
with_front front read = read >>= λ x. Some (front ++ x.0, x.1)

regroup : {A : Type 0} (front : List A) (x : A) (read : Option (List A × List ℕ)) → with_front front (read >>= λ y. Some (x ∷ y.0, y.1)) ≡ with_front (front ++ x ∷ []) read
regroup front x (Some y) = ap (λ (l : List _). Some (l, y.1)) (simp append_assoc)
regroup front x None = refl

module _ {A : Type 0} (field : Reading A) (front : List A) (count i : ℕ) (bytes : List ℕ) (total : Option (List A × List ℕ)) where
  pub goes_on : (x : A) (after : List ℕ) → i < count → field bytes ≡ Some (x, after) → with_front front (many_at field (count - i) bytes) ≡ total →
      with_front (front ++ x ∷ []) (many_at field (count - (i + 1)) after) ≡ total
  unfolding many_at
  goes_on x after lt h so_far =
      let k : count - i ≡ suc (count - (i + 1)) = omega arith in
      let one : with_front front (many_at field (count - i) bytes) ≡ with_front (front ++ x ∷ []) (many_at field (count - (i + 1)) after) =
      rw (k, h) (regroup front x (many_at field (count - (i + 1)) after)) in
      sym one ∙ so_far

  pub ends : (e : Unread) → i < count → Fails e (field bytes) → with_front front (many_at field (count - i) bytes) ≡ total → Fails e total
  unfolding many_at
  ends unread.Memory lt h so_far = tt
  ends unread.Unfit lt h so_far =
      let k : count - i ≡ suc (count - (i + 1)) = omega arith in
      let one : with_front front (many_at field (count - i) bytes) ≡ None = rw (k, h) refl in
      sym so_far ∙ one

  pub is_done : count ≤ i → with_front front (many_at field (count - i) bytes) ≡ total → total ≡ Some (front, bytes)
  unfolding many_at
  is_done le so_far =
      let k : count - i ≡ 0 = omega arith in
      let one : with_front front (many_at field (count - i) bytes) ≡ Some (front, bytes) = rw k (ap (λ (l : List A). Some (l, bytes)) (append-nil front)) in
      sym so_far ∙ one
