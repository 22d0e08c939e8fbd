-- Walking over fields: where they end, and whether their keys ascend.
use Rattle.std.proofs.Common.{◌≡◌, ℕ, zero, suc, ◌-◌, ◌+◌, ◌≤◌, ◌<◌, Bool, true, false, cond, ◌&&◌, List, [], ◌∷◌, Option, Some, None, refl, sym, ap, ◌∙◌, map, Ordering, is_lt, arith}
use Rattle.std.specs.Cmp.{IsTotalOrder}
use Rattle.std.proofs.lemmas.Cmp.{nat_cmp_total}
use Rattle.std.specs.List.{list_all}
use Rattle.std.proofs.lemmas.Bool.{and_parts, and_from}
use Rattle.pgs_base.specs.Graph.{edge_cmp}
use Rattle.pgs_base.specs.Options.{◌>>=◌}
use Rattle.pgs_base.specs.Order.{ascends}
use Rattle.pgs_codec.specs.Reading.{Reading, pair_at, named_at, tested_at, many_at}
use Rattle.pgs_codec.specs.Unread.{end_of}
use Rattle.pgs_codec.specs.Walking.{is_after}
use Rattle.pgs_codec.proofs.Exact.{same_given}
use Rattle.pgs_base_keyed.proofs.Ordering.{less_from}

-- ---- what is made of a field that is there

abbrev pub seen : {A B : Type 0} → (A → B) → Option (A × List ℕ) → Option (B × List ℕ)
seen name field = field >>= λ a. Some (name a.0, a.1)

abbrev pub put_first : {A : Type 0} → A → Option (List A × List ℕ) → Option (List A × List ℕ)
put_first a fields = fields >>= λ x. Some (a ∷ x.0, x.1)

abbrev pub only_if : {A : Type 0} → (A → Bool) → Option (A × List ℕ) → Option (A × List ℕ)
only_if test field = field >>= λ a. cond (test a.0) (Some a) None

-- ---- one field and another

pub pair_end : {A B : Type 0} (r : Reading A) (s : Reading B) (bytes : List ℕ) → end_of (pair_at r s bytes) ≡ (end_of (r bytes) >>= λ rest. end_of (s rest))
unfolding pair_at
pair_end {A = A} {B = B} r s bytes = by (r bytes)
  where
    second : (a : A) (o : Option (B × List ℕ)) → end_of {A = A × B} (o >>= λ b. Some ((a, b.0), b.1)) ≡ end_of o
    second a None = refl
    second a (Some b) = refl

    by : (o : Option (A × List ℕ)) → end_of {A = A × B} (o >>= λ a. s a.1 >>= λ b. Some ((a.0, b.0), b.1)) ≡ (end_of o >>= λ rest. end_of (s rest))
    by None = refl
    by (Some a) = second a.0 (s a.1)

pub named_end : {A B : Type 0} (name : A → B) (r : Reading A) (bytes : List ℕ) → end_of (named_at name r bytes) ≡ end_of (r bytes)
unfolding named_at
named_end {A = A} name r bytes = by (r bytes)
  where
    by : (o : Option (A × List ℕ)) → end_of (o >>= λ a. Some (name a.0, a.1)) ≡ end_of o
    by None = refl
    by (Some a) = refl

-- where fields end alike, so do pairs of them
pub pair_alike : {A B C D : Type 0} (r : Reading A) (s : Reading B) (r' : Reading C) (s' : Reading D) (bytes : List ℕ) → end_of (r bytes) ≡ end_of (r' bytes) →
    ((rest : List ℕ) → end_of (s rest) ≡ end_of (s' rest)) → end_of (pair_at r s bytes) ≡ end_of (pair_at r' s' bytes)
pair_alike r s r' s' bytes first second =
    pair_end r s bytes ∙ ap (λ (o : Option (List ℕ)). o >>= λ rest. end_of (s rest)) first ∙ by (end_of (r' bytes)) ∙ sym (pair_end r' s' bytes)
  where
    by : (o : Option (List ℕ)) → (o >>= λ rest. end_of (s rest)) ≡ (o >>= λ rest. end_of (s' rest))
    by None = refl
    by (Some rest) = second rest

-- ---- keys one after another

module _ {K : Type 0} (cmp : K → K → Ordering) where
  -- keys that ascend strictly, all after the one before them
  abbrev ascends_after : Option K → List K → Bool
  ascends_after None ks = ascends cmp ks
  ascends_after (Some k) ks = ascends cmp (k ∷ ks)

  all_after : IsTotalOrder cmp → (k x : K) (ks : List K) → is_lt (cmp k x) ≡ true → list_all (λ later. is_lt (cmp x later)) ks ≡ true → list_all (λ later. is_lt (cmp k later)) ks ≡ true
  all_after total k x [] less all = refl
  all_after total k x (y ∷ ks) less all =
      let parts = and_parts (is_lt (cmp x y)) _ all in
      and_from (is_lt (cmp k y)) _ (ap is_lt (total.trans k x y (less_from (cmp k x) less) (less_from (cmp x y) parts.0))) (all_after total k x ks less parts.1)

  one_after : IsTotalOrder cmp → (before : Option K) (k : K) (ks : List K) → ascends_after before (k ∷ ks) ≡ (is_after cmp before k && ascends_after (Some k) ks)
  one_after total None k ks = refl
  one_after total (Some b) k ks = by (is_lt (cmp b k)) refl (list_all (λ later. is_lt (cmp k later)) ks) refl (list_all (λ later. is_lt (cmp b later)) ks) refl
    where
      by : (less : Bool) → is_lt (cmp b k) ≡ less → (all : Bool) → list_all (λ later. is_lt (cmp k later)) ks ≡ all → (far : Bool) → list_all (λ later. is_lt (cmp b later)) ks ≡ far →
          (less && far && (all && ascends cmp ks)) ≡ (less && (all && ascends cmp ks))
      by false l all a far f = refl
      by true l true a true f = refl
      by true l true a false f = absurd (let clash : true ≡ false = sym (all_after total b k ks l a) ∙ f in cc)
      by true l false a true f = refl
      by true l false a false f = refl

  module _ (keys : Reading K) where
    -- where so many keys end that ascend strictly, all after the one before them
    pub ascent : Option K → ℕ → List ℕ → Option (List ℕ)
    ascent before zero bytes = Some bytes
    ascent before (suc n) bytes = keys bytes >>= λ k. cond (is_after cmp before k.0) (ascent (Some k.0) n k.1) None

    ascent_after : IsTotalOrder cmp → (before : Option K) (n : ℕ) (bytes : List ℕ) →
        end_of (many_at keys n bytes >>= λ ks. cond (ascends_after before ks.0) (Some ks) None) ≡ ascent before n bytes
    unfolding many_at ascent
    ascent_after total None zero bytes = refl
    ascent_after total (Some b) zero bytes = refl
    ascent_after total before (suc n) bytes = first (λ k after. ascent_after total (Some k) n after) (keys bytes)
      where
        tested : (k : K) (is : Bool) (o : Option (List K × List ℕ)) → is_after cmp before k ≡ is →
            end_of ((o >>= λ ks. Some (k ∷ ks.0, ks.1)) >>= λ ks. cond (ascends_after before ks.0) (Some ks) None)
            ≡ cond is (end_of (o >>= λ ks. cond (ascends_after (Some k) ks.0) (Some ks) None)) None
        tested k true None e = refl
        tested k false None e = refl
        tested k is (Some ks) e = rw (one_after total before k ks.0, e) (by is (ascends_after (Some k) ks.0))
          where
            by : (is all : Bool) → end_of (cond (is && all) (Some (k ∷ ks.0, ks.1)) None) ≡ cond is (end_of (cond all (Some ks) None)) None
            by true true = refl
            by true false = refl
            by false true = refl
            by false false = refl

        first : ((k : K) (after : List ℕ) → end_of (many_at keys n after >>= λ ks. cond (ascends_after (Some k) ks.0) (Some ks) None) ≡ ascent (Some k) n after) → (o : Option (K × List ℕ)) →
            end_of ((o >>= λ k. many_at keys n k.1 >>= λ ks. Some (k.0 ∷ ks.0, ks.1)) >>= λ ks. cond (ascends_after before ks.0) (Some ks) None)
            ≡ (o >>= λ k. cond (is_after cmp before k.0) (ascent (Some k.0) n k.1) None)
        first later None = refl
        first later (Some k) = tested k.0 (is_after cmp before k.0) (many_at keys n k.1) refl ∙ ap (λ o. cond (is_after cmp before k.0) o None) (later k.0 k.1)

    -- so many keys that pass the test of ascending end where the ascent does
    pub ascent_end : IsTotalOrder cmp → (n : ℕ) (bytes : List ℕ) → end_of (tested_at (ascends cmp) (many_at keys n) bytes) ≡ ascent None n bytes
    unfolding tested_at
    ascent_end total n bytes = ascent_after total None n bytes

    pub ascent_start : IsTotalOrder cmp → (count i : ℕ) (bytes : List ℕ) → i ≡ 0 → ascent None (count - i) bytes ≡ end_of (tested_at (ascends cmp) (many_at keys count) bytes)
    ascent_start total count i bytes zero-is =
        let n : count - i ≡ count = omega arith in
        ap (λ k. ascent None k bytes) n ∙ sym (ascent_end total count bytes)

    module _ (before : Option K) (count i : ℕ) (bytes : List ℕ) (total : Option (List ℕ)) where
      pub ascent_on : (k : K) (after : List ℕ) → i < count → keys bytes ≡ Some (k, after) → is_after cmp before k ≡ true → ascent before (count - i) bytes ≡ total →
          ascent (Some k) (count - (i + 1)) after ≡ total
      unfolding ascent
      ascent_on k after lt h is so_far =
          let n : count - i ≡ suc (count - (i + 1)) = omega arith in
          let one : ascent before (count - i) bytes ≡ ascent (Some k) (count - (i + 1)) after = rw (n, h, is) refl in
          sym one ∙ so_far

      pub ascent_unread : i < count → keys bytes ≡ None → ascent before (count - i) bytes ≡ total → total ≡ None
      unfolding ascent
      ascent_unread lt h so_far =
          let n : count - i ≡ suc (count - (i + 1)) = omega arith in
          let one : ascent before (count - i) bytes ≡ None = rw (n, h) refl in
          sym so_far ∙ one

      pub ascent_falls : (k : K) (after : List ℕ) → i < count → keys bytes ≡ Some (k, after) → is_after cmp before k ≡ false → ascent before (count - i) bytes ≡ total → total ≡ None
      unfolding ascent
      ascent_falls k after lt h is so_far =
          let n : count - i ≡ suc (count - (i + 1)) = omega arith in
          let one : ascent before (count - i) bytes ≡ None = rw (n, h, is) refl in
          sym so_far ∙ one

      pub ascent_done : count ≤ i → ascent before (count - i) bytes ≡ total → total ≡ Some bytes
      unfolding ascent
      ascent_done le so_far =
          let n : count - i ≡ 0 = omega arith in
          let one : ascent before (count - i) bytes ≡ Some bytes = rw n refl in
          sym so_far ∙ one

-- ---- the keys of rows

module _ {A K : Type 0} (key : A → K) (field : Reading A) where
  pub many_keys : (n : ℕ) (bytes : List ℕ) → many_at (named_at key field) n bytes ≡ named_at (map key) (many_at field n) bytes
  unfolding many_at named_at
  many_keys zero bytes = refl
  many_keys (suc n) bytes = by (λ after. many_keys n after) (field bytes)
    where
      others : (a : A) (o : Option (List A × List ℕ)) → put_first (key a) (seen (map key) o) ≡ seen (map key) (put_first a o)
      others a None = refl
      others a (Some x) = refl

      by : ((after : List ℕ) → many_at (named_at key field) n after ≡ seen (map key) (many_at field n after)) → (o : Option (A × List ℕ)) →
          (seen key o >>= λ k. put_first k.0 (many_at (named_at key field) n k.1)) ≡ seen (map key) (o >>= λ a. put_first a.0 (many_at field n a.1))
      by later None = refl
      by later (Some a) = ap (put_first (key a.0)) (later a.1) ∙ others a.0 (many_at field n a.1)

  many_keys_seen : (n : ℕ) (bytes : List ℕ) → many_at (named_at key field) n bytes ≡ seen (map key) (many_at field n bytes)
  unfolding named_at
  many_keys_seen n bytes = many_keys n bytes

  -- a test of the keys, told of the keys alone
  pub keys_tested : (test : List K → Bool) (n : ℕ) (bytes : List ℕ) → end_of (tested_at (λ rows. test (map key rows)) (many_at field n) bytes) ≡ end_of (tested_at test (many_at (named_at key field) n) bytes)
  unfolding tested_at
  keys_tested test n bytes = by (many_at field n bytes) ∙ ap (λ o. end_of (only_if test o)) (sym (many_keys_seen n bytes))
    where
      each : (is : Bool) (x : List A × List ℕ) → end_of {A = List A} (cond is (Some x) None) ≡ end_of {A = List K} (cond is (Some (map key x.0, x.1)) None)
      each true x = refl
      each false x = refl

      by : (o : Option (List A × List ℕ)) → end_of (only_if (λ rows. test (map key rows)) o) ≡ end_of (only_if test (seen (map key) o))
      by None = refl
      by (Some x) = each (test (map key x.0)) x

-- what stands where a field ends
pub end_some : {A : Type 0} (o : Option (A × List ℕ)) (rest : List ℕ) → end_of o ≡ Some rest → (a : A) × (o ≡ Some (a, rest))
end_some None rest e = absurd cc
end_some (Some a) rest e = (a.0, ap (λ r. Some (a.0, r)) (same_given a.1 rest e))

pub end_none : {A : Type 0} (o : Option (A × List ℕ)) → end_of o ≡ None → o ≡ None
end_none None e = refl
end_none (Some a) e = absurd cc

-- ---- so many fields

module _ {A : Type 0} (field : Reading A) where
  many_end : (n : ℕ) (bytes : List ℕ) → end_of (many_at field (suc n) bytes) ≡ (end_of (field bytes) >>= λ rest. end_of (many_at field n rest))
  unfolding many_at
  many_end n bytes = by (field bytes)
    where
      others : (a : A) (o : Option (List A × List ℕ)) → end_of {A = List A} (o >>= λ x. Some (a ∷ x.0, x.1)) ≡ end_of o
      others a None = refl
      others a (Some x) = refl

      by : (o : Option (A × List ℕ)) → end_of {A = List A} (o >>= λ a. many_at field n a.1 >>= λ x. Some (a.0 ∷ x.0, x.1)) ≡ (end_of o >>= λ rest. end_of (many_at field n rest))
      by None = refl
      by (Some a) = others a.0 (many_at field n a.1)

  module _ (count i : ℕ) (bytes : List ℕ) (total : Option (List ℕ)) where
    pub passed_on : (after : List ℕ) → i < count → end_of (field bytes) ≡ Some after → end_of (many_at field (count - i) bytes) ≡ total → end_of (many_at field (count - (i + 1)) after) ≡ total
    passed_on after lt h so_far =
        let n : count - i ≡ suc (count - (i + 1)) = omega arith in
        let one : end_of (many_at field (count - i) bytes) ≡ end_of (many_at field (count - (i + 1)) after) = ap (λ k. end_of (many_at field k bytes)) n ∙ many_end (count - (i + 1)) bytes ∙ ap (λ o. o >>= λ rest. end_of (many_at field (count - (i + 1)) rest)) h in
        sym one ∙ so_far

    pub not_passed : i < count → end_of (field bytes) ≡ None → end_of (many_at field (count - i) bytes) ≡ total → total ≡ None
    not_passed lt h so_far =
        let n : count - i ≡ suc (count - (i + 1)) = omega arith in
        let one : end_of (many_at field (count - i) bytes) ≡ None = ap (λ k. end_of (many_at field k bytes)) n ∙ many_end (count - (i + 1)) bytes ∙ ap (λ o. o >>= λ rest. end_of (many_at field (count - (i + 1)) rest)) h in
        sym so_far ∙ one

    pub all_passed : count ≤ i → end_of (many_at field (count - i) bytes) ≡ total → total ≡ Some bytes
    unfolding many_at
    all_passed le so_far =
        let n : count - i ≡ 0 = omega arith in
        let one : end_of (many_at field (count - i) bytes) ≡ Some bytes = rw n refl in
        sym so_far ∙ one

-- a test of each field is one of all
pub many_tested : {A : Type 0} (test : A → Bool) (field : Reading A) (n : ℕ) (bytes : List ℕ) → many_at (tested_at test field) n bytes ≡ tested_at (list_all test) (many_at field n) bytes
unfolding many_at tested_at
many_tested test field zero bytes = refl
many_tested {A = A} test field (suc n) bytes = by (λ after. many_tested test field n after) (field bytes)
  where
    passing : (a : A) (o : Option (List A × List ℕ)) → test a ≡ true → put_first a (only_if (list_all test) o) ≡ only_if (list_all test) (put_first a o)
    passing a None e = refl
    passing a (Some x) e = rw e (each a x (list_all test x.0))
      where
        each : (a : A) (x : List A × List ℕ) (all : Bool) → put_first a (cond all (Some x) None) ≡ cond all (Some (a ∷ x.0, x.1)) None
        each a x true = refl
        each a x false = refl

    failing : (a : A) (o : Option (List A × List ℕ)) → test a ≡ false → only_if (list_all test) (put_first a o) ≡ None
    failing a None e = refl
    failing a (Some x) e = rw e refl

    chosen : (a : A × List ℕ) (is : Bool) → test a.0 ≡ is → many_at (tested_at test field) n a.1 ≡ only_if (list_all test) (many_at field n a.1) →
        (cond {A = Option (A × List ℕ)} is (Some a) None >>= λ a. put_first a.0 (many_at (tested_at test field) n a.1)) ≡ only_if (list_all test) (put_first a.0 (many_at field n a.1))
    chosen a true e later = ap (put_first a.0) later ∙ passing a.0 (many_at field n a.1) e
    chosen a false e later = sym (failing a.0 (many_at field n a.1) e)

    by : ((after : List ℕ) → many_at (tested_at test field) n after ≡ only_if (list_all test) (many_at field n after)) → (o : Option (A × List ℕ)) →
        (only_if test o >>= λ a. put_first a.0 (many_at (tested_at test field) n a.1)) ≡ only_if (list_all test) (o >>= λ a. put_first a.0 (many_at field n a.1))
    by later None = refl
    by later (Some a) = chosen a (test a.0) refl (later a.1)

pub edges_total : IsTotalOrder edge_cmp
edges_total = record {
  antisymm = λ x y. nat_cmp_total.antisymm x.0 y.0;
  trans = λ x y z. nat_cmp_total.trans x.0 y.0 z.0;
  congr = λ x y z. nat_cmp_total.congr x.0 y.0 z.0;
}
