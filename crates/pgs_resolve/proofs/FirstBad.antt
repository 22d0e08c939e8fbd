-- The first key of a script that has a fault, and keys that have none.
use Rattle.std.proofs.Common.{◌≡◌, ℕ, ◌+◌, ◌<◌, Bool, true, false, not, List, [], ◌∷◌, ◌++◌, length, take, drop, map, get_or, Option, Some, None, refl, sym, ◌∙◌, ap, arith}
use Rattle.std.specs.List.{enumerate_from, filter_map, cons_option, list_all, find, slice_get}
use Rattle.std.specs.Option.{option_map, option_map_or, is_some}
use Rattle.std.proofs.lemmas.Bool.{and_from, both_ways}
use Rattle.std.proofs.lemmas.List.{length-map, length-take-le, map-append, take-append-drop}
use Rattle.std.proofs.lemmas.List.Elements.{filter_map-append}
use Rattle.pgs_base.specs.Pair.{has_name}
use Rattle.pgs_syntax.specs.declared.key_cause.KeyCause.{KeyCause}
use Rattle.pgs_syntax.specs.declared.key_cause.KeyCause.TheVariants.{NoX, TwoKinds, Shared, Disconnected, UnknownVariable, TooLarge}
use Rattle.pgs_syntax.specs.declared.raw.RawKey.{RawKey}
use Rattle.pgs_resolve.specs.declared.fault.ResolveFault.{ResolveFault}
use Rattle.pgs_resolve.specs.declared.fault.ResolveFault.TheVariants as faults
use Rattle.pgs_resolve_keys.specs.KeyFaults.{cause_of, has_no_x, descriptor_names, has_two_kinds, shares_more, is_apart, reads_unknown, is_too_large}
use Rattle.pgs_resolve.specs.Keyed.{names_x}
use Rattle.pgs_resolve_keys.specs.Patterns.{x_of}
use Rattle.pgs_resolve.specs.Resolution.{bad_key}
use Rattle.pgs_resolve_declared.proofs.Firsts.{first_stays}
use Rattle.pgs_resolve_declared.proofs.Walks.{one_more}

enumerate-append : {X : Type 0} (n : ℕ) (xs ys : List X) → enumerate_from n (xs ++ ys) ≡ enumerate_from n xs ++ enumerate_from (n + length xs) ys
enumerate-append n [] ys = ap (λ m. enumerate_from m ys) (omega arith)
enumerate-append {X} n (x ∷ xs) ys =
    ap (λ (rest : List (ℕ × X)). (n, x) ∷ rest)
    (enumerate-append (n + 1) xs ys ∙ ap (λ m. enumerate_from (n + 1) xs ++ enumerate_from m ys) (omega arith))

abbrev pub bad_keys : ℕ → List RawKey → List ResolveFault
bad_keys n keys = filter_map bad_key (enumerate_from n keys)

bad-append : (n : ℕ) (xs ys : List RawKey) → bad_keys n (xs ++ ys) ≡ bad_keys n xs ++ bad_keys (n + length xs) ys
bad-append n xs ys =
    ap (filter_map bad_key) (enumerate-append n xs ys) ∙ filter_map-append bad_key (enumerate_from n xs) (enumerate_from (n + length xs) ys)

module _ {X : Type 0} (key_of : X → RawKey) (xs : List X) (i : ℕ) (x : X) (lt : i < length xs) (is : x ≡ get_or xs i x) where
  one_key : bad_keys 1 (map key_of (take (i + 1) xs)) ≡ bad_keys 1 (map key_of (take i xs)) ++ bad_keys (i + 1) (key_of x ∷ [])
  one_key =
      ap (λ ys. bad_keys 1 (map key_of ys)) (one_more xs i x lt is) ∙ ap (bad_keys 1) (map-append key_of (take i xs) (x ∷ []))
      ∙ bad-append 1 (map key_of (take i xs)) (key_of x ∷ [])
      ∙ ap (λ n. bad_keys 1 (map key_of (take i xs)) ++ bad_keys n (key_of x ∷ []))
      (omega (arith, length-map (take i xs) key_of, length-take-le i xs (omega (arith, lt))))

  pub none_bad : bad_keys 1 (map key_of (take i xs)) ≡ [] → cause_of (i + 1) (key_of x) ≡ None → bad_keys 1 (map key_of (take (i + 1) xs)) ≡ []
  none_bad before here =
      one_key ∙ ap (λ ys. ys ++ bad_keys (i + 1) (key_of x ∷ [])) before ∙ ap (λ o. cons_option (option_map (faults.BadKey (i + 1)) o) []) here

  pub first_bad : (cause : KeyCause) → bad_keys 1 (map key_of (take i xs)) ≡ [] → Some cause ≡ cause_of (i + 1) (key_of x) →
      Some (faults.BadKey (i + 1) cause) ≡ slice_get (bad_keys 1 (map key_of xs)) 0
  first_bad cause before here =
      let rest : List RawKey = map key_of (drop (i + 1) xs) in
      let front : List RawKey = map key_of (take (i + 1) xs) in
      let all : map key_of xs ≡ front ++ rest =
      ap (map key_of) (sym (take-append-drop (i + 1) xs)) ∙ map-append key_of (take (i + 1) xs) (drop (i + 1) xs) in
      let mine : bad_keys 1 front ≡ faults.BadKey (i + 1) cause ∷ [] =
      one_key ∙ ap (λ ys. ys ++ bad_keys (i + 1) (key_of x ∷ [])) before ∙ ap (λ o. cons_option (option_map (faults.BadKey (i + 1)) o) []) (sym here) in
      let first : Some (faults.BadKey (i + 1) cause) ≡ slice_get (bad_keys 1 front) 0 = sym (ap (λ ys. slice_get ys 0) mine) in
      first_stays (bad_keys 1 front) (bad_keys (1 + length front) rest) (faults.BadKey (i + 1) cause) first
      ∙ ap (λ ys. slice_get ys 0) (sym (bad-append 1 front rest) ∙ ap (bad_keys 1) (sym all))

-- ---- keys without a fault

-- whether no key has a fault, the first of which has this number
abbrev pub AllSound : ℕ → List RawKey → Type 0
AllSound n [] = Unit {0}
AllSound n (key ∷ keys) = (cause_of n key ≡ None) × AllSound (n + 1) keys

pub all_sound : (n : ℕ) (keys : List RawKey) → bad_keys n keys ≡ [] → AllSound n keys
all_sound n [] h = tt
all_sound n (key ∷ keys) h = by (cause_of n key) refl h (all_sound (n + 1) keys)
  where
    by : (o : Option KeyCause) → cause_of n key ≡ o → cons_option (option_map (faults.BadKey n) o) (bad_keys (n + 1) keys) ≡ [] →
        (bad_keys (n + 1) keys ≡ [] → AllSound (n + 1) keys) → (cause_of n key ≡ None) × AllSound (n + 1) keys
    by None e h rest = (e, rest h)
    by (Some cause) e h rest = cc

-- a key without a fault passes each of the six tests
pub record IsSound (n : ℕ) (key : RawKey) : Type 0 where
  pub has_x : has_no_x key ≡ false
  pub kinds : has_two_kinds key ≡ false
  pub shares : shares_more key ≡ false
  pub linked : is_apart key ≡ false
  pub reads : reads_unknown key ≡ false
  pub small : is_too_large n key ≡ false

abbrev first_of_six : Bool → Bool → Bool → Bool → Bool → Bool → Option KeyCause
first_of_six a b c d e f =
    option_map (λ (cause : Bool × KeyCause). cause.1)
    (find (λ (cause : Bool × KeyCause). cause.0)
    ((a, NoX) ∷ (b, TwoKinds) ∷ (c, Shared) ∷ (d, Disconnected) ∷ (e, UnknownVariable) ∷ (f, TooLarge) ∷ []))

abbrev NoneOf : Bool → Bool → Bool → Bool → Bool → Bool → Type 0
NoneOf a b c d e f = (a ≡ false) × (b ≡ false) × (c ≡ false) × (d ≡ false) × (e ≡ false) × (f ≡ false)

none_of_six : (a b c d e f : Bool) → first_of_six a b c d e f ≡ None → NoneOf a b c d e f
none_of_six true b c d e f h = cc
none_of_six false true c d e f h = cc
none_of_six false false true d e f h = cc
none_of_six false false false true e f h = cc
none_of_six false false false false true f h = cc
none_of_six false false false false false true h = cc
none_of_six false false false false false false h = (refl, refl, refl, refl, refl, refl)

pub is_sound : (n : ℕ) (key : RawKey) → cause_of n key ≡ None → IsSound n key
is_sound n key h =
    let tests = none_of_six (has_no_x key) (has_two_kinds key) (shares_more key) (is_apart key) (reads_unknown key) (is_too_large n key) h in
    record { has_x = tests.0; kinds = tests.1; shares = tests.2; linked = tests.3; reads = tests.4; small = tests.5 }

names_one : (key : RawKey) → has_no_x key ≡ false → names_x key ≡ true
names_one key h = by (x_of key) refl
  where
    by : (o : Option (List ℕ)) → x_of key ≡ o → is_some o ≡ true
    by (Some x) e = refl
    by None e = absurd (both_ways (has_no_x key) h (ap (λ o. not (option_map_or (λ x. has_name x (descriptor_names key x)) o false)) e))

pub each_names_x : (n : ℕ) (keys : List RawKey) → AllSound n keys → list_all names_x keys ≡ true
each_names_x n [] sound = refl
each_names_x n (key ∷ keys) sound = and_from _ _ (names_one key (is_sound n key sound.0).has_x) (each_names_x (n + 1) keys sound.1)
