-- The least of names.
use Rattle.std.proofs.Common.{◌≡◌, ℕ, suc, ◌+◌, ◌<◌, ◌==◌, Bool, true, false, cond, ◌||◌, List, [], ◌∷◌, ◌++◌, filter, get_or, Option, Some, None, refl, sym, ◌∙◌, ap, arith, MatchOption}
use Rattle.std.specs.List.{slice_get}
use Rattle.std.specs.Option.{option_map_or}
use Rattle.std.specs.declared.cmp.Ordering.{Ordering}
use Rattle.std.specs.declared.cmp.Ordering.TheVariants.{Less, Equal, Greater}
use Rattle.std.specs.Ordering.{nat_cmp, is_lt, ordering_reverse}
use Rattle.std.specs.Cmp.Lexicographic.{slice_cmp, nat_list_cmp_total}
use Rattle.std.proofs.lemmas.Bool.Decides.{nat_tests}
use Rattle.std.proofs.lemmas.Map.Lookups.{exact_bytes}
use Rattle.pgs_base.specs.Pair.{same_name, has_name}
use Rattle.pgs_resolve_order.specs.Links.{IsLeastSet, is_before, is_set, lesser_of}
use Rattle.pgs_resolve_declared.specs.Refused.{lesser, least}
use Rattle.pgs_resolve_declared.proofs.Same.{one_name, itself}

abbrev before : List ℕ → List ℕ → Bool
before a b = is_lt (slice_cmp nat_cmp a b)

is_less : (o : Ordering) → is_lt o ≡ true → o ≡ Less
is_less Less e = refl
is_less Equal e = cc
is_less Greater e = cc

less_is : (a b : List ℕ) → before a b ≡ true → slice_cmp nat_cmp a b ≡ Less
less_is a b e = is_less (slice_cmp nat_cmp a b) e

pub before_then : (a b c : List ℕ) → before a b ≡ true → before b c ≡ true → before a c ≡ true
before_then a b c e f = ap is_lt (nat_list_cmp_total.trans a b c (less_is a b e) (less_is b c f))

-- two names neither of which is before the other are one
pub neither_before : (a b : List ℕ) → before a b ≡ false → before b a ≡ false → a ≡ b
neither_before a b e f = by (slice_cmp nat_cmp a b) (slice_cmp nat_cmp b a) refl (nat_list_cmp_total.antisymm b a) e f
  where
    by : (o p : Ordering) → slice_cmp nat_cmp a b ≡ o → p ≡ ordering_reverse (slice_cmp nat_cmp a b) → is_lt o ≡ false → is_lt p ≡ false → a ≡ b
    by Less p g h e f = cc
    by Equal p g h e f = exact_bytes a b g
    by Greater p g h e f = let k : p ≡ Less = h ∙ ap ordering_reverse g in let l : is_lt p ≡ true = ap is_lt k in cc

pub not_itself : (a : List ℕ) → before a a ≡ false
not_itself a = by (before a a) refl
  where
    by : (b : Bool) → before a a ≡ b → b ≡ false
    by false e = refl
    by true e =
        let l = less_is a a e in
        let r : slice_cmp nat_cmp a a ≡ ordering_reverse Less = nat_list_cmp_total.antisymm a a ∙ ap ordering_reverse l in
        cc

-- ---- the least of those that pass a test

module _ (test : List ℕ → Bool) where
  first_of_both : (name x : List ℕ) (s : Option (List ℕ)) → before x name ≡ false → option_map_or (lesser name) s name ≡ name →
      option_map_or (lesser name) (Some (option_map_or (lesser x) s x)) name ≡ name
  first_of_both name x None e rest = ap (λ b. cond b x name) e
  first_of_both name x (Some z) e rest = by (before z x)
    where
      by : (b : Bool) → lesser name (cond b z x) ≡ name
      by true = rest
      by false = ap (λ b. cond b x name) e

  pub first_of_all : (names : List (List ℕ)) (name : List ℕ) → ((other : List ℕ) (k : ℕ) → slice_get names k ≡ Some other → test other ≡ true → before other name ≡ false) →
      option_map_or (lesser name) (least (filter test names)) name ≡ name
  first_of_all [] name h = refl
  first_of_all (x ∷ xs) name h = by (test x) refl (first_of_all xs name (λ other k at. h other (suc k) at))
    where
      by : (b : Bool) → test x ≡ b → option_map_or (lesser name) (least (filter test xs)) name ≡ name →
          option_map_or (lesser name) (least (cond b (x ∷ filter test xs) (filter test xs))) name ≡ name
      by true f rest = first_of_both name x (least (filter test xs)) (h x 0 refl f) rest
      by false f rest = rest

  pub least_kept : (names : List (List ℕ)) (name : List ℕ) → has_name name names ≡ true → test name ≡ true →
      ((other : List ℕ) (k : ℕ) → slice_get names k ≡ Some other → test other ≡ true → before other name ≡ false) → least (filter test names) ≡ Some name
  least_kept [] name there pass h = cc
  least_kept (x ∷ xs) name there pass h =
      by (test x) (same_name name x) refl refl there (λ at. least_kept xs name at pass (λ other k at. h other (suc k) at))
    where
      by : (b c : Bool) → test x ≡ b → same_name name x ≡ c → (c || has_name name xs) ≡ true → (has_name name xs ≡ true → least (filter test xs) ≡ Some name) →
          least (cond b (x ∷ filter test xs) (filter test xs)) ≡ Some name
      by true true f g at rest =
          let e : name ≡ x = one_name name x g in
          ap (λ y. Some (option_map_or (lesser y) (least (filter test xs)) y)) (sym e) ∙ ap Some (first_of_all xs name (λ other k at. h other (suc k) at))
      by true false f g at rest =
          let first : before x name ≡ false = h x 0 refl f in
          let second : before name x ≡ true = second_is (before name x) refl first g in
          ap (λ s. Some (option_map_or (lesser x) s x)) (rest at) ∙ ap (λ b. Some (cond b name x)) second
        where
          second_is : (b : Bool) → before name x ≡ b → before x name ≡ false → same_name name x ≡ false → b ≡ true
          second_is true k l m = refl
          second_is false k l m =
              let e : name ≡ x = neither_before name x k l in
              let yes : same_name name x ≡ true = ap (same_name name) (sym e) ∙ itself name in
              cc
      by false true f g at rest = let e : test name ≡ false = ap test (one_name name x g) ∙ f in cc
      by false false f g at rest = rest at

  pub none_kept : (names : List (List ℕ)) → ((other : List ℕ) (k : ℕ) → slice_get names k ≡ Some other → test other ≡ false) → filter test names ≡ []
  none_kept [] h = refl
  none_kept (x ∷ xs) h = ap (λ b. cond b (x ∷ filter test xs) (filter test xs)) (h x 0 refl) ∙ none_kept xs (λ other k at. h other (suc k) at)

-- ---- the least of two lists

lesser_in_turn : (x a b : List ℕ) → lesser x (lesser a b) ≡ lesser (lesser x a) b
lesser_in_turn x a b = by (before b a) (before a x) refl refl
  where
    by : (c d : Bool) → before b a ≡ c → before a x ≡ d → lesser x (cond c b a) ≡ lesser (cond d a x) b
    by true true e f = ap (λ g. cond g b x) (before_then b a x e f) ∙ sym (ap (λ g. cond g b a) e)
    by true false e f = refl
    by false true e f = ap (λ g. cond g a x) f ∙ sym (ap (λ g. cond g b a) e)
    by false false e f = ap (λ g. cond g a x) f ∙ sym (ap (λ g. cond g b x) (later (before b x) (before x a) refl refl))
      where
        later : (g h : Bool) → before b x ≡ g → before x a ≡ h → g ≡ false
        later false h k l = refl
        later true true k l = let m = before_then b x a k l in cc
        later true false k l = let same : x ≡ a = neither_before x a l f in let m : before b a ≡ true = ap (before b) (sym same) ∙ k in cc

lesser_of_both : (x : List ℕ) (o p : Option (List ℕ)) → Some (option_map_or (lesser x) (lesser_of o p) x) ≡ lesser_of (Some (option_map_or (lesser x) o x)) p
lesser_of_both x None p = refl
lesser_of_both x (Some a) None = refl
lesser_of_both x (Some a) (Some b) = ap Some (lesser_in_turn x a b)

pub least_of_two : (xs ys : List (List ℕ)) → least (xs ++ ys) ≡ lesser_of (least xs) (least ys)
least_of_two [] ys = refl
least_of_two (x ∷ xs) ys = ap (λ o. Some (option_map_or (lesser x) o x)) (least_of_two xs ys) ∙ lesser_of_both x (least xs) (least ys)

-- ---- the least whose flag is set, with one flag more

pub no_flag_more : (names : List (List ℕ)) (flags : List Bool) (bound : ℕ) (found : Option ℕ) → is_set flags bound ≡ false → IsLeastSet names flags bound found →
    IsLeastSet names flags (bound + 1) found
no_flag_more names flags bound None off h = λ number within. by number (number == bound) refl within
  where
    by : (number : ℕ) (b : Bool) → (number == bound) ≡ b → number < bound + 1 → is_set flags number ≡ false
    by number true e within = let same : number ≡ bound = grind (arith, nat_tests) in ap (is_set flags) same ∙ off
    by number false e within = h number (grind (arith, nat_tests))
no_flag_more names flags bound (Some least) off h = (omega (arith, h.0), h.1, λ number within on. by number (number == bound) refl within on)
  where
    by : (number : ℕ) (b : Bool) → (number == bound) ≡ b → number < bound + 1 → is_set flags number ≡ true → is_before names number least ≡ false
    by number true e within on = let same : number ≡ bound = grind (arith, nat_tests) in let away = ap (is_set flags) same ∙ off in absurd (cc)
    by number false e within on = h.2 number (grind (arith, nat_tests)) on

pub flag_more : (names : List (List ℕ)) (flags : List Bool) (bound : ℕ) (found : Option ℕ) (chosen : ℕ) → is_set flags bound ≡ true → IsLeastSet names flags bound found →
    MatchOption found (chosen ≡ bound) (λ other. chosen ≡ cond (is_before names bound other) bound other) → IsLeastSet names flags (bound + 1) (Some chosen)
flag_more names flags bound None chosen on h e =
    (omega (arith, e), ap (is_set flags) e ∙ on, λ number within set. by number (number == bound) refl within set)
  where
    by : (number : ℕ) (b : Bool) → (number == bound) ≡ b → number < bound + 1 → is_set flags number ≡ true → is_before names number chosen ≡ false
    by number true f within set =
        let same : number ≡ bound = grind (arith, nat_tests) in
        ap (is_before names number) (e ∙ sym same) ∙ not_itself (get_or names number [])
    by number false f within set = let off = h number (grind (arith, nat_tests)) in absurd (cc)
flag_more names flags bound (Some other) chosen on h e = by (is_before names bound other) refl e
  where
    by : (b : Bool) → is_before names bound other ≡ b → chosen ≡ cond b bound other → IsLeastSet names flags (bound + 1) (Some chosen)
    by true f g = (omega (arith, g), ap (is_set flags) g ∙ on, λ number within set. each number (number == bound) refl within set)
      where
        each : (number : ℕ) (b : Bool) → (number == bound) ≡ b → number < bound + 1 → is_set flags number ≡ true → is_before names number chosen ≡ false
        each number true k within set =
            let same : number ≡ bound = grind (arith, nat_tests) in
            ap (is_before names number) (g ∙ sym same) ∙ not_itself (get_or names number [])
        each number false k within set =
            ap (is_before names number) g ∙ later (is_before names number bound) refl (h.2 number (grind (arith, nat_tests)) set)
          where
            later : (c : Bool) → is_before names number bound ≡ c → is_before names number other ≡ false → c ≡ false
            later false l m = refl
            later true l m = let n = before_then (get_or names number []) (get_or names bound []) (get_or names other []) l f in cc
    by false f g = (omega (arith, g, h.0), ap (is_set flags) g ∙ h.1, λ number within set. each number (number == bound) refl within set)
      where
        each : (number : ℕ) (b : Bool) → (number == bound) ≡ b → number < bound + 1 → is_set flags number ≡ true → is_before names number chosen ≡ false
        each number true k within set =
            let same : number ≡ bound = grind (arith, nat_tests) in
            ap (is_before names number) g ∙ ap (λ n. is_before names n other) same ∙ f
        each number false k within set = ap (is_before names number) g ∙ h.2 number (grind (arith, nat_tests)) set
