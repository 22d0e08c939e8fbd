-- Each key of a valid schema's guard is valid; what keys give, one after another.
use Rattle.std.proofs.Common.{◌≡◌, ℕ, zero, suc, ◌+◌, ◌<◌, Bool, true, List, [], ◌∷◌, ◌++◌, append_assoc, drop, drop-cons, get_or, slice_get, length, Some, subst, ◌∙◌, sym, ap, arith}
use Rattle.std.specs.List.{list_all}
use Rattle.std.proofs.lemmas.Bool.{and_parts}
use Rattle.pgs_syntax.specs.declared.key.Key.{Key}
use Rattle.pgs_syntax.specs.declared.resolved.Resolved.{Resolved}
use Rattle.pgs_syntax.specs.Valid.{is_valid, is_valid_key_of}
use Rattle.pgs_scratch.specs.Confirmed.{key_numbered}

each_passes : {X : Type 0} (test : X → Bool) (xs : List X) (i : ℕ) (d : X) → list_all test xs ≡ true → i < length xs → test (get_or xs i d) ≡ true
each_passes test [] i d all below = absurd (omega arith)
each_passes test (x ∷ xs) zero d all below = (and_parts _ _ all).0
each_passes test (x ∷ xs) (suc i) d all below = each_passes test xs i d (and_parts _ _ all).1 (omega arith)

pub valid_key : (resolved : Resolved) → is_valid resolved ≡ true → (keys : List Key) → keys ≡ resolved.guard.keys → (place : ℕ) → place < length keys →
    (key : Key) → key ≡ get_or keys place key → is_valid_key_of resolved key ≡ true
valid_key resolved valid keys same place below key is =
    ap (is_valid_key_of resolved) is
    ∙ each_passes (is_valid_key_of resolved) keys place key (ap (list_all (is_valid_key_of resolved)) same ∙ (and_parts _ _ valid).1) below

each_got : {X : Type 0} (test : X → Bool) (xs : List X) (place : ℕ) (x : X) → list_all test xs ≡ true → slice_get xs place ≡ Some x → test x ≡ true
each_got test [] place x all at = cc
each_got test (y ∷ xs) zero x all at = let same : y ≡ x = cc in subst (λ z. test z ≡ true) same (and_parts _ _ all).0
each_got test (y ∷ xs) (suc place) x all at = each_got test xs place x (and_parts _ _ all).1 at

pub valid_numbered : (resolved : Resolved) → is_valid resolved ≡ true → (keys : List Key) → keys ≡ resolved.guard.keys → (number : ℕ) (key : Key) →
    Some key ≡ key_numbered keys number → is_valid_key_of resolved key ≡ true
valid_numbered resolved valid keys same zero key at = cc
valid_numbered resolved valid keys same (suc place) key at =
    each_got (is_valid_key_of resolved) keys place key (ap (list_all (is_valid_key_of resolved)) same ∙ (and_parts _ _ valid).1) (sym at)

next_left : {X : Type 0} (xs : List X) (i : ℕ) (x : X) → x ≡ get_or xs i x → i < length xs → drop i xs ≡ x ∷ drop (i + 1) xs
next_left xs i x is below =
    let one : suc i ≡ i + 1 = omega arith in
    drop-cons xs i x below ∙ ap (λ n. get_or xs i x ∷ drop n xs) one ∙ ap (λ y. y ∷ drop (i + 1) xs) (sym is)

-- of keys from a number on, what the first gives is put behind what those before gave
module _ {Y : Type 0} (of_key : ℕ → Key → List Y) (of_keys : ℕ → List Key → List Y)
    (step : (number : ℕ) (key : Key) (keys : List Key) → of_keys number (key ∷ keys) ≡ of_key number key ++ of_keys (number + 1) keys)
    (keys : List Key) (place : ℕ) (key : Key) (below : place < length keys) (is : key ≡ get_or keys place key) where
  pub key_added : (base before after : List Y) → before ++ of_keys (place + 1) (drop place keys) ≡ base ++ of_keys 1 keys → after ≡ before ++ of_key (place + 1) key →
      after ++ of_keys (place + 1 + 1) (drop (place + 1) keys) ≡ base ++ of_keys 1 keys
  key_added base before after so_far added =
      let rest = of_keys (place + 1 + 1) (drop (place + 1) keys) in
      ap (λ ys. ys ++ rest) added ∙ append_assoc before (of_key (place + 1) key) rest
      ∙ ap (λ ys. before ++ ys) (sym (step (place + 1) key (drop (place + 1) keys)) ∙ ap (of_keys (place + 1)) (sym (next_left keys place key is below)))
      ∙ so_far
