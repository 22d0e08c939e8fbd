-- Each key of a valid schema's guard is valid.
use Rattle.std.proofs.Common.{◌≡◌, ℕ, zero, suc, ◌<◌, Bool, true, List, [], ◌∷◌, get_or, length, ◌∙◌, ap, arith}
use Rattle.std.specs.List.{list_all}
use Rattle.std.proofs.lemmas.Bool.{and_parts}
use Rattle.pgs_syntax.specs.declared.key.Key.{Key}
use Rattle.pgs_syntax.specs.declared.resolved.Resolved.{Resolved}
use Rattle.pgs_syntax.specs.Valid.{is_valid, is_valid_key, is_valid_key_of}

each_passes : {X : Type 0} (test : X → Bool) (xs : List X) (i : ℕ) (d : X) → list_all test xs ≡ true → i < length xs → test (get_or xs i d) ≡ true
each_passes test [] i d all below = absurd (omega arith)
each_passes test (x ∷ xs) zero d all below = (and_parts _ _ all).0
each_passes test (x ∷ xs) (suc i) d all below = each_passes test xs i d (and_parts _ _ all).1 (omega arith)

pub valid_key : (resolved : Resolved) → is_valid resolved ≡ true → (keys : List Key) → keys ≡ resolved.guard.keys → (place : ℕ) → place < length keys →
    (key : Key) → key ≡ get_or keys place key → is_valid_key_of resolved key ≡ true
valid_key resolved valid keys same place below key is =
    ap (is_valid_key_of resolved) is
    ∙ each_passes (is_valid_key_of resolved) keys place key (ap (list_all (is_valid_key_of resolved)) same ∙ (and_parts _ _ valid).1) below

pub valid_alone : (resolved : Resolved) (key : Key) → is_valid_key_of resolved key ≡ true → is_valid_key key ≡ true
valid_alone resolved key valid = (and_parts _ _ (and_parts _ _ valid).0).0
