-- The entry at a place whose key is the one that is looked for.
use Rattle.std.proofs.Common.{◌≡◌, ◌∙◌, ℕ, zero, suc, ◌+◌, ◌≤◌, Bool, true, false, cond, ◌||◌, List, [], ◌∷◌, ◌++◌, length, length-append, slice_get, Option, Some, None, Ordering, is_some, unwrap_or, refl, sym, ap, subst, arith, true≢false, MatchOption}
use Rattle.std.specs.Cmp.{IsEquivalence, IsTotalOrder, eq_by_cmp_equiv}
use Rattle.std.specs.Ordering.{is_eq}
use Rattle.std.specs.List.{AllByRecursion, list_any, IsDistinct}
use Rattle.std.specs.Option.{option_map}
use Rattle.std.specs.Map.{keys_of, values_of, lookup}
use Rattle.std.proofs.lemmas.Option.{slice_get-map, slice_get-get_or}
use Rattle.std.proofs.lemmas.Map.Keys.{IsDistinct-head, IsDistinct-tail}
use Rattle.indexmap.specs.IndexMap.{IndexMap, get, insert_entry}
use Rattle.indexmap.proofs.CallerLemmas.{insert_entry-new}
use Rattle.std.specs.BTreeMap.{is_at}
use Rattle.pgs_tables.specs.Slots.{present, with_number, AreKept, IsFoundAt}
use Rattle.pgs_tables.proofs.Rows.{eq_is, present-push, keys-push, any-push, slot-found}

module _ {K W : Type 0} {eq : K → K → Bool} (laws : IsEquivalence eq) (id : K) where
  -- a key that is apart from all others isn't among them
  apart_from : (k : K) (es : List (K × W)) (i : ℕ) (e : K × W) → AllByRecursion (λ y. eq k y ≡ false) (keys_of es) → slice_get es i ≡ Some e → eq k e.0 ≡ false
  apart_from k [] i e apart at = absurd (true≢false (sym (ap is_some at)))
  apart_from k (x ∷ xs) zero e apart at =
      let same : x ≡ e = ap (λ o. unwrap_or o x) at in
      subst (λ y. eq k y.0 ≡ false) same apart.0
  apart_from k (x ∷ xs) (suc i) e apart at = apart_from k xs i e apart.1 at

  not_before : (k : K) (es : List (K × W)) (i : ℕ) (e : K × W) → AllByRecursion (λ y. eq k y ≡ false) (keys_of es) → slice_get es i ≡ Some e → eq id e.0 ≡ true → eq id k ≡ false
  not_before k es i e apart at here = by (eq id k) refl
    where
      by : (b : Bool) → eq id k ≡ b → b ≡ false
      by false is = refl
      by true is = absurd (true≢false (sym here ∙ laws.congr id k e.0 is ∙ apart_from k es i e apart at))

  -- the entry at a place, whose key is equal to the one that is looked for
  pub found_at : (es : List (K × W)) (i : ℕ) (e : K × W) → IsDistinct eq (keys_of es) → slice_get es i ≡ Some e → eq id e.0 ≡ true → IsFoundAt (eq id) es i
  found_at [] i e distinct at here = absurd (true≢false (sym (ap is_some at)))
  found_at (x ∷ xs) zero e distinct at here =
      let same : x ≡ e = ap (λ o. unwrap_or o x) at in
      let first : eq id x.0 ≡ true = ap (λ y. eq id y.0) same ∙ here in
      record { in_range = omega arith; found = λ d. rw first refl; sets = λ new. rw first refl }
  found_at (x ∷ xs) (suc i) e distinct at here =
      let rest = found_at xs i e (IsDistinct-tail eq x.0 (keys_of xs) distinct) at here in
      let other : eq id x.0 ≡ false = not_before x.0 xs i e (IsDistinct-head eq x.0 (keys_of xs) distinct) at here in
      record {
        in_range = omega (arith, rest.in_range);
        found = λ d. rw other (rest.found d);
        sets = λ new. rw other (ap (λ l. x ∷ l) (rest.sets new));
      }

-- the same where keys are equal where they tie
pub laws_of : {K : Type 0} {eq : K → K → Bool} {cmp : K → K → Ordering} → IsTotalOrder cmp → ((x y : K) → eq x y ≡ is_eq (cmp x y)) → IsEquivalence eq
laws_of {cmp = cmp} total ties = subst IsEquivalence (sym (eq_is cmp ties)) (eq_by_cmp_equiv total)

module _ {K W : Type 0} (test : K → Bool) (es : List (K × W)) where
  -- a key that stands at a place is found
  pub some_at : (l : List (K × W)) (i : ℕ) → IsFoundAt test l i → is_some (lookup test l) ≡ true
  some_at [] i found = absurd (omega (arith, found.in_range))
  some_at (e ∷ l) i found = ap is_some (found.found e)

  -- what a search for a place says of the look-up
  pub none_found : (o : Option ℕ) → o ≡ None → MatchOption o (lookup test es ≡ None) (IsFoundAt test es) → lookup test es ≡ None
  none_found None none found = found
  none_found (Some i) none found = absurd (true≢false (ap is_some none))

-- an empty slot that is put in for a number without one
pub kept_with_one : {K V S : Type 0} (eq : K → K → Bool) (slots : IndexMap K (Option V) S) (k : K) → get eq slots k ≡ None → (entries : List (K × Option V))
    → entries ≡ insert_entry eq slots.entries k None → AreKept slots.entries entries
kept_with_one eq slots k absent entries made =
    let pushed : entries ≡ slots.entries ++ (k, None) ∷ [] = made ∙ insert_entry-new eq slots k None absent in
    record {
      rows = ap present pushed ∙ present-push slots.entries k;
      numbers = λ test there. ap (λ l. list_any test (keys_of l)) pushed ∙ ap (list_any test) (keys-push slots.entries k None)
          ∙ any-push test (keys_of slots.entries) k ∙ ap (λ b. b || test k) there;
    }

module _ {K V : Type 0} {eq : K → K → Bool} {cmp : K → K → Ordering} (total : IsTotalOrder cmp) (ties : (x y : K) → eq x y ≡ is_eq (cmp x y)) where
  -- its number stands last
  pub numbers_with_one : {S : Type 0} (slots : IndexMap K (Option V) S) (k : K) → get eq slots k ≡ None → (entries : List (K × Option V))
      → entries ≡ insert_entry eq slots.entries k None → keys_of entries ≡ with_number cmp (keys_of slots.entries) k
  numbers_with_one slots k absent entries made =
      let apart : list_any (is_at (cmp k)) (keys_of slots.entries) ≡ false = slot-found total ties k slots.entries ∙ ap is_some absent in
      rw apart (ap keys_of (made ∙ insert_entry-new eq slots k None absent) ∙ keys-push slots.entries k None)

  -- the numbers stay where the number has a slot
  pub numbers_there : (old entries : List (K × Option V)) (k : K) → entries ≡ old → is_some (lookup (eq k) entries) ≡ true → keys_of entries ≡ with_number cmp (keys_of old) k
  numbers_there old entries k same there =
      let has : list_any (is_at (cmp k)) (keys_of old) ≡ true = ap (λ l. list_any (is_at (cmp k)) (keys_of l)) (sym same) ∙ slot-found total ties k entries ∙ there in
      rw has (ap keys_of same)

-- at most one more
pub length-with_number : {K : Type 0} (cmp : K → K → Ordering) (numbers : List K) (id : K) → length (with_number cmp numbers id) ≤ length numbers + 1
length-with_number {K} cmp numbers id = by (list_any (is_at (cmp id)) numbers)
  where
    by : (b : Bool) → length (cond b numbers (numbers ++ id ∷ [])) ≤ length numbers + 1
    by true = omega arith
    by false = omega (arith, length-append numbers (id ∷ []))

-- what the look-up finds is the value at the place
pub value_found : {K W : Type 0} (test : K → Bool) (es : List (K × W)) (i : ℕ) → IsFoundAt test es i → lookup test es ≡ slice_get (values_of es) i
value_found test [] i found = absurd (omega (arith, found.in_range))
value_found {K} {W} test (e ∷ es) i found =
    found.found e ∙ sym (slice_get-map (λ (x : K × W). x.1) (e ∷ es) i ∙ ap (option_map (λ (x : K × W). x.1)) (slice_get-get_or (e ∷ es) i e found.in_range))
