-- Entries by ascending number, of which one takes another value.
use Rattle.std.proofs.Common.{◌≡◌, ℕ, true, false, true≢false, cond, List, [], ◌∷◌, Option, Some, None, is_some, refl, sym, ap, ◌∙◌, Ordering, Less, Equal, Greater, is_eq, Bool}
use Rattle.std.specs.Cmp.{nat_cmp_total}
use Rattle.std.specs.List.{AllByRecursion}
use Rattle.std.specs.List.Sorted.{IsStrictlySortedBy}
use Rattle.std.specs.Map.{keys_of, lookup, set_value}
use Rattle.std.specs.Ordering.{nat_cmp, match_ordering}
use Rattle.std.specs.BTreeMap.{is_at, insert_entry}
use Rattle.std.specs.Option.{option_map_or}
use Rattle.std.specs.Prelude.{Result, Ok, Err, OnErr}
use Rattle.pgs_sessions.specs.Open.{at_number, changed_at}
use Rattle.pgs_sessions_machine.specs.Machine.{Session}

module _ {V : Type 0} (k : ℕ) where
  none_above : (least : ℕ) (es : List (ℕ × V)) → nat_cmp k least ≡ Less → AllByRecursion (λ y. nat_cmp least y ≡ Less) (keys_of es) → lookup (is_at (nat_cmp k)) es ≡ None
  none_above least [] below above = refl
  none_above least (e ∷ es) below above = rw (nat_cmp_total.trans k least e.0 below above.0) (none_above least es below above.1)

  -- a key that is there takes another value
  pub set_entry : (v : V) (es : List (ℕ × V)) → IsStrictlySortedBy nat_cmp (keys_of es) → is_some (lookup (is_at (nat_cmp k)) es) ≡ true →
      set_value (is_at (nat_cmp k)) es v ≡ insert_entry nat_cmp es k v
  unfolding IsStrictlySortedBy
  set_entry v [] sorted there = absurd (true≢false (sym there))
  set_entry v (e ∷ es) sorted there = by (set_entry v es sorted.1) (nat_cmp k e.0) refl there
    where
      by : (is_some (lookup (is_at (nat_cmp k)) es) ≡ true → set_value (is_at (nat_cmp k)) es v ≡ insert_entry nat_cmp es k v) →
          (o : Ordering) → nat_cmp k e.0 ≡ o → is_some (cond (is_eq o) (Some e.1) (lookup (is_at (nat_cmp k)) es)) ≡ true →
          cond (is_eq o) ((e.0, v) ∷ es) (e ∷ set_value (is_at (nat_cmp k)) es v) ≡ match_ordering o ((k, v) ∷ e ∷ es) ((e.0, v) ∷ es) (e ∷ insert_entry nat_cmp es k v)
      by rest Less below here = absurd (true≢false (sym here ∙ ap is_some (none_above e.0 es below sorted.0)))
      by rest Equal equal here = refl
      by rest Greater above here = ap (λ (l : List (ℕ × V)). e ∷ l) (rest here)

  -- the same value changes nothing
  pub set_same : (v : V) (es : List (ℕ × V)) → lookup (is_at (nat_cmp k)) es ≡ Some v → set_value (is_at (nat_cmp k)) es v ≡ es
  set_same v [] there = refl
  set_same v (e ∷ es) there = by (set_same v es) (is_at (nat_cmp k) e.0) there
    where
      by : (lookup (is_at (nat_cmp k)) es ≡ Some v → set_value (is_at (nat_cmp k)) es v ≡ es) → (b : Bool) →
          cond b (Some e.1) (lookup (is_at (nat_cmp k)) es) ≡ Some v → cond b ((e.0, v) ∷ es) (e ∷ set_value (is_at (nat_cmp k)) es v) ≡ e ∷ es
      by rest true here = let same : v ≡ e.1 = cc in ap (λ (w : V). (e.0, w) ∷ es) same
      by rest false later = ap (λ (l : List (ℕ × V)). e ∷ l) (rest later)

-- ---- the session of a number

-- a session takes another value
pub changed : (change : Session → Session) (es : List (ℕ × Session)) (number : ℕ) (session w : Session) (new : List (ℕ × Session)) → IsStrictlySortedBy nat_cmp (keys_of es) →
    Some session ≡ at_number es number → w ≡ change session → new ≡ set_value (is_at (nat_cmp number)) es w → new ≡ changed_at change es number
changed change es number session w new sorted found is made =
    made ∙ set_entry number w es sorted (ap is_some (sym found)) ∙ ap (insert_entry nat_cmp es number) is
    ∙ ap (λ (o : Option Session). option_map_or (λ (s : Session). insert_entry nat_cmp es number (change s)) o es) found

-- a session has the value that it had
pub unchanged : (es : List (ℕ × Session)) (number : ℕ) (session w : Session) (new : List (ℕ × Session)) → Some session ≡ at_number es number → w ≡ session →
    new ≡ set_value (is_at (nat_cmp number)) es w → new ≡ es
unchanged es number session w new found is made =
    made ∙ ap (set_value (is_at (nat_cmp number)) es) is ∙ set_same number session es (sym found)

pub on_err : {A E : Type 0} (result : Result A E) (P : Type 0) → P → OnErr result P
on_err (Ok a) P holds = tt
on_err (Err e) P holds = holds
