-- What is above the greatest number that had a slot has none.
use Rattle.std.proofs.Common.{◌≡◌, ◌∙◌, Bool, true, false, cond, ◌||◌, List, [], ◌∷◌, ◌++◌, Option, Some, None, is_some, refl, sym, ap, true≢false, Ordering, Less, Equal, Greater, is_lt, is_eq}
use Rattle.std.specs.Ordering.{ordering_reverse}
use Rattle.std.specs.Option.{option_flatten}
use Rattle.std.specs.Cmp.{IsTotalOrder, Equal-is}
use Rattle.std.specs.List.{list_any, filter}
use Rattle.std.specs.Map.{keys_of}
use Rattle.std.specs.BTreeMap.{is_at}
use Rattle.pgs_tables.specs.Slots.{with_number, is_above, raised, AreBelow}
use Rattle.pgs_tables.proofs.Rows.{any-push}

less_is : (o : Ordering) → is_lt o ≡ true → o ≡ Less
less_is Less e = refl
less_is Equal e = absurd (true≢false (sym e))
less_is Greater e = absurd (true≢false (sym e))

module _ {K : Type 0} {cmp : K → K → Ordering} (total : IsTotalOrder cmp) where
  apart : (k q : K) → is_lt (cmp k q) ≡ true → is_at (cmp q) k ≡ false
  apart k q less = ap is_eq (total.antisymm q k ∙ ap ordering_reverse (less_is (cmp k q) less))

  above_both : (greatest : Option K) (k q : K) → is_above cmp greatest k ≡ true → is_lt (cmp k q) ≡ true → is_above cmp greatest q ≡ true
  above_both None k q first less = refl
  above_both (Some top) k q first less = ap is_lt (total.trans top k q (less_is (cmp top k) first) (less_is (cmp k q) less))

  apart_below : (greatest : Option K) (k q : K) → is_above cmp greatest k ≡ false → is_above cmp greatest q ≡ true → is_at (cmp q) k ≡ false
  apart_below None k q low above = absurd (true≢false low)
  apart_below (Some top) k q low above = by (is_at (cmp q) k) refl
    where
      by : (b : Bool) → is_at (cmp q) k ≡ b → b ≡ false
      by false e = refl
      by true e =
          let same : cmp q top ≡ cmp k top = total.congr q k top ((Equal-is (cmp q k)).0 e) in
          let high : is_lt (cmp top k) ≡ true = ap is_lt (total.antisymm top k ∙ ap ordering_reverse (sym same) ∙ sym (total.antisymm top q)) ∙ above in
          absurd (true≢false (sym high ∙ low))

  with_one : (keys : List K) (k q : K) → list_any (is_at (cmp q)) keys ≡ false → is_at (cmp q) k ≡ false → list_any (is_at (cmp q)) (with_number cmp keys k) ≡ false
  with_one keys k q none other = by (list_any (is_at (cmp k)) keys)
    where
      by : (b : Bool) → list_any (is_at (cmp q)) (cond b keys (keys ++ k ∷ [])) ≡ false
      by true = none
      by false = any-push (is_at (cmp q)) keys k ∙ ap (λ b. b || is_at (cmp q) k) none ∙ other

  -- with one more number, and the greatest of all
  pub below_raised : (greatest : Option K) (keys : List K) (k : K) → AreBelow cmp greatest keys → AreBelow cmp (raised cmp greatest k) (with_number cmp keys k)
  below_raised greatest keys k below q = by (is_above cmp greatest k) refl
    where
      by : (b : Bool) → is_above cmp greatest k ≡ b → is_above cmp (cond b (Some k) greatest) q ≡ true → list_any (is_at (cmp q)) (with_number cmp keys k) ≡ false
      by true first above = with_one keys k q (below q (above_both greatest k q first above)) (apart k q above)
      by false low above = with_one keys k q (below q above) (apart_below greatest k q low above)

-- entries left of others have no key that those had not
pub none_kept : {K V : Type 0} (test : K → Bool) (p : K × V → Bool) (es : List (K × V)) → list_any test (keys_of es) ≡ false → list_any test (keys_of (filter p es)) ≡ false
none_kept test p [] none = refl
none_kept {K} {V} test p (e ∷ es) none = by (none_kept test p es) (test e.0) (p e) refl none
  where
    by : (list_any test (keys_of es) ≡ false → list_any test (keys_of (filter p es)) ≡ false) → (t b : Bool) → test e.0 ≡ t → (t || list_any test (keys_of es)) ≡ false →
        list_any test (keys_of (cond b (e ∷ filter p es) (filter p es))) ≡ false
    by rest true b is h = absurd (true≢false h)
    by rest false true is h = ap (λ t. t || list_any test (keys_of (filter p es))) is ∙ rest h
    by rest false false is h = rest h

pub no_row : {V : Type 0} (o : Option (Option V)) → is_some o ≡ false → option_flatten o ≡ None
no_row None none = refl
no_row (Some o) none = absurd (true≢false none)
