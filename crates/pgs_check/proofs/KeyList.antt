-- Each key of a valid schema's guard is valid, and has its number; the violations of keys, one after another.
use Rattle.std.proofs.Common.{◌≡◌, ℕ, zero, suc, ◌+◌, ◌<◌, ◌≤◌, Bool, true, List, [], ◌∷◌, ◌++◌, get_or, slice_get, drop, length, Some, ◌∙◌, sym, ap, arith}
use Rattle.std.specs.List.{list_all}
use Rattle.std.proofs.lemmas.Bool.{and_parts}
use Rattle.pgs_syntax.specs.declared.key.Key.{Key}
use Rattle.pgs_syntax.specs.declared.resolved.Resolved.{Resolved}
use Rattle.pgs_syntax.specs.Valid.{is_valid, is_valid_key_of}
use Rattle.pgs_base.specs.Graph.{Graph}
use Rattle.pgs_violation.specs.declared.violation.Violation.{Violation}
use Rattle.pgs_violation.specs.Violations.{key_violations, keys_violations}
use Rattle.pgs_keyindex.specs.Standing.{key_at}
use Rattle.pgs_check.specs.Rows.{first_or}
use Rattle.pgs_check.proofs.Firsts.{first_append}
use Rattle.pgs_check.proofs.Steps.{next_left, drop_all}

each_passes : {X : Type 0} (test : X → Bool) (xs : List X) (i : ℕ) (d : X) → list_all test xs ≡ true → i < length xs → test (get_or xs i d) ≡ true
each_passes test [] i d all below = absurd (omega arith)
each_passes test (x ∷ xs) zero d all below = (and_parts _ _ all).0
each_passes test (x ∷ xs) (suc i) d all below = each_passes test xs i d (and_parts _ _ all).1 (omega arith)

pub valid_key : (resolved : Resolved) → is_valid resolved ≡ true → (keys : List Key) → keys ≡ resolved.guard.keys → (place : ℕ) → place < length keys →
    (key : Key) → key ≡ get_or keys place key → is_valid_key_of resolved key ≡ true
valid_key resolved valid keys same place below key is =
    ap (is_valid_key_of resolved) is
    ∙ each_passes (is_valid_key_of resolved) keys place key (ap (list_all (is_valid_key_of resolved)) same ∙ (and_parts _ _ valid).1) below

got_at : {X : Type 0} (xs : List X) (place : ℕ) (x : X) → place < length xs → x ≡ get_or xs place x → slice_get xs place ≡ Some x
got_at [] place x below is = absurd (omega arith)
got_at (y ∷ xs) zero x below is = ap Some (sym is)
got_at (y ∷ xs) (suc place) x below is = got_at xs place x (omega arith) is

pub key_number : (keys : List Key) (place : ℕ) (key : Key) → place < length keys → key ≡ get_or keys place key → key_at keys (place + 1) ≡ Some key
key_number keys place key below is =
    let number : place + 1 ≡ suc place = omega arith in ap (key_at keys) number ∙ got_at keys place key below is

module _ (resolved : Resolved) (h : Graph) (keys : List Key) (place : ℕ) (key : Key) (below : place < length keys) (is : key ≡ get_or keys place key) where
  one_more : keys_violations resolved h (place + 1) (drop place keys) ≡ key_violations resolved h (place + 1) key ++ keys_violations resolved h (place + 1 + 1) (drop (place + 1) keys)
  one_more = ap (keys_violations resolved h (place + 1)) (next_left keys place key is below)

  -- a key without violations is passed over
  pub passed_key : keys_violations resolved h (place + 1) (drop place keys) ≡ keys_violations resolved h 1 keys → key_violations resolved h (place + 1) key ≡ [] →
      keys_violations resolved h (place + 1 + 1) (drop (place + 1) keys) ≡ keys_violations resolved h 1 keys
  passed_key so_far none =
      ap (λ vs. vs ++ keys_violations resolved h (place + 1 + 1) (drop (place + 1) keys)) (sym none) ∙ sym one_more ∙ so_far

  -- the first violation of a key is the first of all, where those before have none
  pub first_key : keys_violations resolved h (place + 1) (drop place keys) ≡ keys_violations resolved h 1 keys → (v : Violation) →
      slice_get (key_violations resolved h (place + 1) key) 0 ≡ Some v → slice_get (keys_violations resolved h 1 keys) 0 ≡ Some v
  first_key so_far v first =
      ap (λ vs. slice_get vs 0) (sym so_far ∙ one_more)
      ∙ first_append (key_violations resolved h (place + 1) key) (keys_violations resolved h (place + 1 + 1) (drop (place + 1) keys))
      ∙ ap (λ o. first_or o (slice_get (keys_violations resolved h (place + 1 + 1) (drop (place + 1) keys)) 0)) first

pub no_keys_left : (resolved : Resolved) (h : Graph) (keys : List Key) (place : ℕ) → length keys ≤ place →
    keys_violations resolved h (place + 1) (drop place keys) ≡ keys_violations resolved h 1 keys → keys_violations resolved h 1 keys ≡ []
no_keys_left resolved h keys place end so_far = sym so_far ∙ ap (keys_violations resolved h (place + 1)) (drop_all keys place end)
