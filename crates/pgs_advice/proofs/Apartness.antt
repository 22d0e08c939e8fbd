-- Subtypes that are apart, one more at a time, and keys one after another.
use Rattle.std.proofs.Common.{◌≡◌, ℕ, ◌+◌, ◌<◌, ◌≤◌, Bool, true, List, [], ◌∷◌, ◌++◌, ◌-◌, length, take, drop, get_or, sym, ap, ◌∙◌, subst, append_assoc, arith}
use Rattle.std.specs.List.{list_all}
use Rattle.std.proofs.lemmas.Bool.{and_parts}
use Rattle.std.proofs.lemmas.List.{append-nil, take_all}
use Rattle.pgs_syntax.specs.declared.key.Key.{Key}
use Rattle.pgs_syntax.specs.declared.resolved.Resolved.{Resolved}
use Rattle.pgs_standing.specs.Apart.{IsApart, IsNotApart}
use Rattle.pgs_advice.specs.declared.subtypes.Subtype.{Subtype}
use Rattle.pgs_advice.specs.Apart.{AreThoseApart, none, found_apart, left_out, AreApartOf}
use Rattle.pgs_advice.specs.Subtypes.{key_subtypes}
use Rattle.pgs_advice.proofs.Subtyping.{one_passes}

pub first_passes : {X : Type 0} (test : X → Bool) (xs : List X) (x : X) → 1 ≤ length xs → x ≡ get_or xs 0 x → list_all test xs ≡ true → test x ≡ true
first_passes test xs x some is all = ap test is ∙ one_passes test xs 0 x some all

-- what is left behind the first
whole_rest : {X : Type 0} (x : X) (xs : List X) → take (length (x ∷ xs) - 1) (drop 1 (x ∷ xs)) ≡ xs
whole_rest x xs = take_all (length (x ∷ xs) - 1) xs (omega arith)

pub rest_passes : {X : Type 0} (test : X → Bool) (xs : List X) → 1 ≤ length xs → list_all test xs ≡ true → list_all test (take (length xs - 1) (drop 1 xs)) ≡ true
rest_passes test [] some all = absurd (omega arith)
rest_passes test (x ∷ xs) some all = ap (list_all test) (whole_rest x xs) ∙ (and_parts (test x) (list_all test xs) all).1

module _ (resolved : Resolved) where
  last_apart : (all found : List Subtype) (type : Subtype) → IsApart resolved type.base type.own → AreThoseApart resolved all found → AreThoseApart resolved (all ++ type ∷ []) (found ++ type ∷ [])
  last_apart _ _ type apart none = found_apart type [] [] apart none
  last_apart _ _ type apart (found_apart first all found own rest) = found_apart first (all ++ type ∷ []) (found ++ type ∷ []) own (last_apart all found type apart rest)
  last_apart _ _ type apart (left_out first all found own rest) = left_out first (all ++ type ∷ []) (found ++ type ∷ []) own (last_apart all found type apart rest)

  last_not : (all found : List Subtype) (type : Subtype) → IsNotApart resolved type.base type.own → AreThoseApart resolved all found → AreThoseApart resolved (all ++ type ∷ []) found
  last_not _ _ type joint none = left_out type [] [] joint none
  last_not _ _ type joint (found_apart first all found own rest) = found_apart first (all ++ type ∷ []) found own (last_not all found type joint rest)
  last_not _ _ type joint (left_out first all found own rest) = left_out first (all ++ type ∷ []) found own (last_not all found type joint rest)

  pub apart_more : (all : List Subtype) (i : ℕ) (type : Subtype) (found : List Subtype) → take (i + 1) all ≡ take i all ++ type ∷ [] → IsApart resolved type.base type.own →
      AreThoseApart resolved (take i all) found → AreThoseApart resolved (take (i + 1) all) (found ++ type ∷ [])
  apart_more all i type found more apart before =
      subst (λ (types : List Subtype). AreThoseApart resolved types (found ++ type ∷ [])) (sym more) (last_apart (take i all) found type apart before)

  pub not_apart_more : (all : List Subtype) (i : ℕ) (type : Subtype) (found : List Subtype) → take (i + 1) all ≡ take i all ++ type ∷ [] → IsNotApart resolved type.base type.own →
      AreThoseApart resolved (take i all) found → AreThoseApart resolved (take (i + 1) all) found
  not_apart_more all i type found more joint before =
      subst (λ (types : List Subtype). AreThoseApart resolved types found) (sym more) (last_not (take i all) found type joint before)

  pub keys_more : (keys left : List Key) (key : Key) (all new : List (List Subtype)) (found : List Subtype) → 1 ≤ length left → key ≡ get_or left 0 key →
      AreThoseApart resolved (key_subtypes resolved key) found → new ≡ all ++ found ∷ [] →
      ((rest : List (List Subtype)) → AreApartOf resolved left rest → AreApartOf resolved keys (all ++ rest)) →
      (rest : List (List Subtype)) → AreApartOf resolved (take (length left - 1) (drop 1 left)) rest → AreApartOf resolved keys (new ++ rest)
  keys_more keys [] key all new found some is own pushed before rest behind = absurd (omega arith)
  keys_more keys (first ∷ later) key all new found some is own pushed before rest behind =
      subst (λ (every : List (List Subtype)). AreApartOf resolved keys every)
      (sym (ap (λ (every : List (List Subtype)). every ++ rest) pushed ∙ append_assoc all (found ∷ []) rest))
      (before (found ∷ rest) (
        subst (λ (k : Key). AreThoseApart resolved (key_subtypes resolved k) found) is own,
        subst (λ (ks : List Key). AreApartOf resolved ks rest) (whole_rest first later) behind,
      ))

  pub keys_at_end : (keys left : List Key) (all : List (List Subtype)) → length left < 1 →
      ((rest : List (List Subtype)) → AreApartOf resolved left rest → AreApartOf resolved keys (all ++ rest)) → AreApartOf resolved keys all
  keys_at_end keys [] all end apart = subst (λ (found : List (List Subtype)). AreApartOf resolved keys found) (append-nil all) (apart [] tt)
  keys_at_end keys (key ∷ left) all end apart = absurd (omega arith)
