-- What holds of each item of a list, and of each that is found in it.
use Rattle.std.proofs.Common.{◌≡◌, ℕ, zero, suc, ◌+◌, ◌<◌, Bool, true, false, cond, List, [], ◌∷◌, ◌++◌, length, take, map, get_or, Option, Some, None, refl, sym, ◌∙◌, ap, arith}
use Rattle.std.specs.List.{list_all, flat_map, filter_map, cons_option, find}
use Rattle.std.specs.Option.{option_map_or}
use Rattle.std.proofs.lemmas.Bool.{and_from, and_parts}
use Rattle.std.proofs.lemmas.List.{append_assoc, map-append}
use Rattle.std.proofs.lemmas.List.Folds.{list_all-append}
use Rattle.pgs_base.specs.Pair.{same_name}
use Rattle.pgs_syntax.specs.declared.raw.RawKey.{RawKey}
use Rattle.pgs_syntax.specs.declared.script.GraphType.{GraphType}
use Rattle.pgs_syntax.specs.declared.script.Script.{Script}
use Rattle.pgs_resolve_declared.specs.Declarations.{graphs_of, keys_of}
use Rattle.pgs_resolve_declared.specs.Imports.{walked, last_of, walked_graphs}
use Rattle.pgs_resolve_declared.proofs.Walks.{one_more}

module _ {X : Type 0} (p : X → Bool) where
  -- both parts, and back
  pub all_parts : (xs ys : List X) → list_all p (xs ++ ys) ≡ true → (list_all p xs ≡ true) × (list_all p ys ≡ true)
  all_parts xs ys h = and_parts (list_all p xs) (list_all p ys) (sym (list_all-append p xs ys) ∙ h)

  pub all_joined : (xs ys : List X) → list_all p xs ≡ true → list_all p ys ≡ true → list_all p (xs ++ ys) ≡ true
  all_joined xs ys h k = list_all-append p xs ys ∙ and_from _ _ h k

  pub each_at : (xs : List X) (i : ℕ) (x : X) → i < length xs → x ≡ get_or xs i x → list_all p xs ≡ true → p x ≡ true
  each_at [] i x lt is h = absurd (omega (arith, lt))
  each_at (y ∷ ys) zero x lt is h = ap p is ∙ (and_parts (p y) (list_all p ys) h).0
  each_at (y ∷ ys) (suc i) x lt is h = each_at ys i x (omega (arith, lt)) is (and_parts (p y) (list_all p ys) h).1

  -- of what a test finds
  pub found_passes : (test : X → Bool) (xs : List X) (x : X) → list_all p xs ≡ true → find test xs ≡ Some x → p x ≡ true
  found_passes test [] x h e = cc
  found_passes test (y ∷ ys) x h e =
      by (test y) (found_passes test ys x (and_parts (p y) (list_all p ys) h).1) e
    where
      by : (b : Bool) → (find test ys ≡ Some x → p x ≡ true) → cond b (Some y) (find test ys) ≡ Some x → p x ≡ true
      by true later f = let same : y ≡ x = cc in ap p (sym same) ∙ (and_parts (p y) (list_all p ys) h).0
      by false later f = later f

  pub kept_pass : {N : Type 0} (test : N → X → Bool) (xs : List X) → list_all p xs ≡ true → (names : List N) →
      list_all p (filter_map (λ name. find (test name) xs) names) ≡ true
  kept_pass test xs h [] = refl
  kept_pass test xs h (name ∷ names) = by (find (test name) xs) refl (kept_pass test xs h names)
    where
      by : (o : Option X) → find (test name) xs ≡ o → list_all p (filter_map (λ n. find (test n) xs) names) ≡ true →
          list_all p (cons_option o (filter_map (λ n. find (test n) xs) names)) ≡ true
      by None e rest = rest
      by (Some x) e rest = and_from _ _ (found_passes (test name) xs x h e) rest

module _ {X Y : Type 0} (p : Y → Bool) (f : X → List Y) where
  pub flat_to : (xs : List X) → list_all (λ x. list_all p (f x)) xs ≡ true → list_all p (flat_map f xs) ≡ true
  flat_to [] h = refl
  flat_to (x ∷ xs) h =
      let parts = and_parts (list_all p (f x)) (list_all (λ y. list_all p (f y)) xs) h in
      all_joined p (f x) (flat_map f xs) parts.0 (flat_to xs parts.1)

  pub flat_from : (xs : List X) → list_all p (flat_map f xs) ≡ true → list_all (λ x. list_all p (f x)) xs ≡ true
  flat_from [] h = refl
  flat_from (x ∷ xs) h =
      let parts = all_parts p (f x) (flat_map f xs) h in
      and_from _ _ parts.0 (flat_from xs parts.1)

-- the keys of the guard are among those of the script
abbrev pub keys_in : GraphType → List RawKey
keys_in type = type.keys

pub of_guard : (p : RawKey → Bool) (script : Script) → list_all p (keys_of script) ≡ true → list_all p (flat_map keys_in (walked_graphs script)) ≡ true
of_guard p script h =
    let each : GraphType → Bool = λ type. list_all p (keys_in type) in
    let names : List (List ℕ) =
    option_map_or (λ (type : GraphType). walked script (length (graphs_of script)) [] type.name) (last_of (graphs_of script)) [] in
    flat_to p keys_in (walked_graphs script)
    (kept_pass each (λ (name : List ℕ) (type : GraphType). same_name name type.name) (graphs_of script) (flat_from p keys_in (graphs_of script) h) names)

-- one more of mapped items
pub more_mapped : {X Y : Type 0} (f : X → Y) (old : List Y) (xs : List X) (i : ℕ) (x : X) (mid new : List Y) → i < length xs → x ≡ get_or xs i x →
    mid ≡ old ++ map f (take i xs) → new ≡ mid ++ f x ∷ [] → new ≡ old ++ map f (take (i + 1) xs)
more_mapped f old xs i x mid new lt is before after =
    after ∙ ap (λ ys. ys ++ f x ∷ []) before ∙ append_assoc old (map f (take i xs)) (f x ∷ [])
    ∙ ap (λ ys. old ++ ys) (sym (map-append f (take i xs) (x ∷ [])) ∙ ap (map f) (sym (one_more xs i x lt is)))
