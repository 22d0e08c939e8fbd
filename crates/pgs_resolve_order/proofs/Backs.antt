-- The least name that leads back to itself, from flags of numbers.
use Rattle.std.proofs.Common.{◌≡◌, ℕ, ◌<◌, ◌==◌, Bool, true, false, ◌&&◌, List, [], length, get_or, Option, Some, None, is_some, unwrap_or, refl, sym, ◌∙◌, ap, subst, arith}
use Rattle.std.specs.List.{slice_get}
use Rattle.std.specs.Option.{option_map}
use Rattle.std.specs.Ordering.{nat_cmp, is_lt}
use Rattle.std.specs.Cmp.Lexicographic.{slice_cmp}
use Rattle.std.proofs.lemmas.Bool.Decides.{nat_tests}
use Rattle.std.proofs.lemmas.List.Folds.{list_any_at}
use Rattle.std.proofs.lemmas.List.Quantifiers.{position-Some}
use Rattle.std.proofs.lemmas.Option.{slice_get_within, get_or_from_slice_get}
use Rattle.pgs_base.specs.Pair.{same_name, has_name}
use Rattle.pgs_resolve_declared.specs.Order.{number_in}
use Rattle.pgs_resolve_declared.specs.Refused.{leads, cyclic, least}
use Rattle.pgs_resolve_order.specs.Links.{AreLinks, leads_back, IsFirst, IsLeastSet, IsLeastBack, first_of, is_set, never_falls, stays}
use Rattle.pgs_resolve_order.proofs.Leading.{back_stays, same_back}
use Rattle.pgs_resolve_order.proofs.Leasts.{least_kept, none_kept}
use Rattle.pgs_resolve_declared.proofs.Same.{itself, some_place, one_name}

-- a name at a number has a first place
pub has_first : (names : List (List ℕ)) (number : ℕ) → number < length names → number_in names (get_or names number []) ≡ Some (first_of names number)
has_first names number within = by (number_in names (get_or names number [])) refl
  where
    by : (o : Option ℕ) → number_in names (get_or names number []) ≡ o → o ≡ Some (first_of names number)
    by (Some first) e = ap Some (sym (ap (λ (o : Option ℕ). unwrap_or o number) e))
    by None e =
        let there : has_name (get_or names number []) names ≡ true =
        list_any_at (same_name (get_or names number [])) names number [] within (itself (get_or names number [])) in
        let away : has_name (get_or names number []) names ≡ false = sym (some_place (same_name (get_or names number [])) names) ∙ ap is_some e in
        absurd (cc)

same_one : (names : List (List ℕ)) (name : List ℕ) (number : ℕ) → number_in names name ≡ Some number → name ≡ get_or names number []
same_one names name number e = one_name name (get_or names number []) (position-Some (same_name name) names number [] e).1

first_one : (names : List (List ℕ)) (name : List ℕ) (number : ℕ) → number_in names name ≡ Some number → IsFirst names number
first_one names name number e = ap (number_in names) (sym (same_one names name number e)) ∙ e

pub first_within : (names : List (List ℕ)) (number : ℕ) → IsFirst names number → number < length names
first_within names number first = (position-Some (same_name (get_or names number [])) names number [] first).0

-- the same of lists that are the same
pub least_of_these : (all names : List (List ℕ)) (set flags : List Bool) (found : Option ℕ) → all ≡ names → set ≡ flags → IsLeastSet all set (length set) found →
    IsLeastSet names flags (length flags) found
least_of_these all names set flags found e f h =
    subst (λ (n : List (List ℕ)). IsLeastSet n flags (length flags) found) e (subst (λ (s : List Bool). IsLeastSet all s (length s) found) f h)

-- ---- by ranks

module _ (names rows : List (List ℕ)) (ranks : List ℕ) (flags : List Bool) (rise : (number : ℕ) → never_falls rows ranks number ≡ true)
    (len : length flags ≡ length names) (flagged : (number : ℕ) → number < length names → is_set flags number ≡ stays rows ranks number) where
  set_back : (number : ℕ) → IsFirst names number → leads_back rows number ≡ true → is_set flags number ≡ true
  set_back number first back = flagged number (first_within names number first) ∙ back_stays rows ranks rise number back

  pub none_by_ranks : IsLeastSet names flags (length flags) None → IsLeastBack names rows None
  none_by_ranks h number first = by (leads_back rows number) refl
    where
      by : (b : Bool) → leads_back rows number ≡ b → b ≡ false
      by false e = refl
      by true e =
          let set = set_back number first e in
          let l = first_within names number first in
          let off = h number (omega (arith, l, len)) in
          cc

  pub some_by_ranks : (least : ℕ) → IsLeastSet names flags (length flags) (Some least) → leads_back rows (first_of names least) ≡ true →
      IsLeastBack names rows (Some (first_of names least))
  some_by_ranks least h back =
      let first = has_first names least (omega (arith, h.0, len)) in
      let same : get_or names least [] ≡ get_or names (first_of names least) [] = same_one names (get_or names least []) (first_of names least) first in (
        first_one names (get_or names least []) (first_of names least) first,
        back,
        λ number one leads.
            let l = first_within names number one in
            sym (ap (λ (n : List ℕ). is_lt (slice_cmp nat_cmp (get_or names number []) n)) same) ∙ h.2 number (omega (arith, l, len)) (set_back number one leads),
      )

-- ---- by steps

both_so : (a b : Bool) → (a && b) ≡ true → (a ≡ true) × (b ≡ true)
both_so true b e = (refl, e)
both_so false b e = absurd (cc)

module _ (names rows : List (List ℕ)) (flags : List Bool) (len : length flags ≡ length names)
    (flagged : (number : ℕ) → number < length names → is_set flags number ≡ (first_of names number == number && leads_back rows number)) where
  first_is : (number : ℕ) → IsFirst names number → (first_of names number == number) ≡ true
  first_is number first = let e : first_of names number ≡ number = ap (λ (o : Option ℕ). unwrap_or o number) first in grind (arith, nat_tests)

  set_steps : (number : ℕ) → IsFirst names number → is_set flags number ≡ leads_back rows number
  set_steps number first = flagged number (first_within names number first) ∙ ap (λ b. b && leads_back rows number) (first_is number first)

  pub by_steps : (found : Option ℕ) → IsLeastSet names flags (length flags) found → IsLeastBack names rows found
  by_steps None h = λ number first. let l = first_within names number first in sym (set_steps number first) ∙ h number (omega (arith, l, len))
  by_steps (Some least) h =
      let both = both_so (first_of names least == least) (leads_back rows least) (sym (flagged least (omega (arith, h.0, len))) ∙ h.1) in
      let e : first_of names least ≡ least = let f = both.0 in grind (arith, nat_tests) in (
        has_first names least (omega (arith, h.0, len)) ∙ ap Some e,
        both.1,
        λ number first leads.
            let l = first_within names number first in
            h.2 number (omega (arith, l, len)) (set_steps number first ∙ leads),
      )

-- ---- by names

module _ (next : List ℕ → List (List ℕ)) (names rows : List (List ℕ)) (links : AreLinks next names rows) where
  test : List ℕ → Bool
  test name = leads next (length names) name name

  -- what a name that is listed leads to
  by_name : (name : List ℕ) (k : ℕ) → slice_get names k ≡ Some name →
      (number : ℕ) × IsFirst names number × (name ≡ get_or names number []) × (leads_back rows number ≡ leads next (length names) name name)
  by_name name k at =
      let within = slice_get_within names k name at in
      let here : get_or names k [] ≡ name = get_or_from_slice_get names k name [] at in
      let first : number_in names name ≡ Some (first_of names k) = ap (number_in names) (sym here) ∙ has_first names k within in
      let one = first_one names name (first_of names k) first in
      let same = same_one names name (first_of names k) first in
      (first_of names k, one, same, same_back next names rows links (first_of names k) one ∙ ap (λ n. leads next (length names) n n) (sym same))

  pub least_named : (found : Option ℕ) → IsLeastBack names rows found → least (cyclic next names) ≡ option_map (λ number. get_or names number []) found
  least_named None h =
      ap least (none_kept (λ name. leads next (length names) name name) names (λ name k at. let b = by_name name k at in sym b.3 ∙ h b.0 b.1))
  least_named (Some number) h =
      least_kept (λ name. leads next (length names) name name) names (get_or names number [])
      (sym (some_place (same_name (get_or names number [])) names) ∙ ap is_some h.0)
      (sym (same_back next names rows links number h.0) ∙ h.1)
      (λ name k at leads. let b = by_name name k at in
      ap (λ n. is_lt (slice_cmp nat_cmp n (get_or names number []))) b.2 ∙ h.2 b.0 b.1 (b.3 ∙ leads))
