-- Lines of keys, one more at a time.
use Rattle.std.proofs.Common.{◌≡◌, ℕ, zero, suc, ◌+◌, ◌<◌, Bool, List, [], ◌∷◌, ◌++◌, take, length, refl, sym, ap, ◌∙◌, append_assoc, arith}
use Rattle.std.proofs.lemmas.List.{append-nil}
use Rattle.pgs_run_check_evolve.specs.declared.lines.KeysOf.{KeysOf}
use Rattle.pgs_run_check_evolve.specs.Lines.{word_of, line_at, key_lines}

keys_more : (keys : KeysOf) (number : ℕ) (xs : List Bool) (x : Bool) → key_lines keys number (xs ++ x ∷ []) ≡ key_lines keys number xs ++ line_at (word_of keys x) (number + length xs)
keys_more keys number [] x =
    let same : number + 0 ≡ number = omega arith in append-nil (line_at (word_of keys x) number) ∙ ap (λ (n : ℕ). line_at (word_of keys x) n) (sym same)
keys_more keys number (y ∷ xs) x =
    let same : (number + 1) + length xs ≡ number + length (y ∷ xs) = omega arith in
    ap (λ (ls : List (List ℕ)). first ++ ls) (keys_more keys (number + 1) xs x ∙ ap (λ (n : ℕ). key_lines keys (number + 1) xs ++ line_at (word_of keys x) n) same)
    ∙ sym (append_assoc first (key_lines keys (number + 1) xs) (line_at (word_of keys x) (number + length (y ∷ xs))))
  where
    first : List (List ℕ)
    first = line_at (word_of keys y) number

length_taken : (xs : List Bool) (i : ℕ) → i < length xs → length (take i xs) ≡ i
length_taken [] i below = absurd (omega arith)
length_taken (x ∷ xs) zero below = refl
length_taken (x ∷ xs) (suc i) below =
    let rest = length_taken xs i (omega arith) in
    let here : length (x ∷ take i xs) ≡ suc i = omega arith in
    here

pub key_pushed : (keys : KeysOf) (flags : List Bool) (i number : ℕ) (x : Bool) → take (i + 1) flags ≡ take i flags ++ x ∷ [] → i < length flags → number ≡ i + 1 → (old now after : List (List ℕ)) → now ≡ old ++ key_lines keys 1 (take i flags)
    → after ≡ now ++ line_at (word_of keys x) number → after ≡ old ++ key_lines keys 1 (take (i + 1) flags)
key_pushed keys flags i number x more below is old now after so pushed =
    pushed ∙ ap (λ (ls : List (List ℕ)). ls ++ line_at (word_of keys x) number) so ∙ append_assoc old (key_lines keys 1 (take i flags)) (line_at (word_of keys x) number)
    ∙ ap (λ (ls : List (List ℕ)). old ++ ls)
    (sym (ap (key_lines keys 1) more ∙ keys_more keys 1 (take i flags) x ∙ ap (λ (n : ℕ). key_lines keys 1 (take i flags) ++ line_at (word_of keys x) n) next))
  where
    next : 1 + length (take i flags) ≡ number
    next = let taken = length_taken flags i below in omega arith
