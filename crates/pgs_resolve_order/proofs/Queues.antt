-- Types on the way into their order, a step at a time.
use Rattle.std.proofs.Common.{◌≡◌, ℕ, zero, suc, ◌-◌, ◌<◌, ◌≤◌, Bool, true, false, not, cond, ◌||◌, ◌&&◌, List, [], ◌∷◌, ◌++◌, ◌⊎◌, inl, inr, length, filter, Option, Some, None, refl, sym, ◌∙◌, ap, arith, leb, length-append}
use Rattle.std.specs.List.{list_all, slice_get}
use Rattle.std.specs.Option.{option_map_or}
use Rattle.std.proofs.lemmas.List.{append_assoc, append-nil}
use Rattle.std.proofs.lemmas.List.Folds.{list_any-append}
use Rattle.std.proofs.lemmas.Bool.Decides.{nat_tests}
use Rattle.pgs_base.specs.Pair.{same_name, has_name}
use Rattle.pgs_resolve_declared.specs.Order.{Entry, sooner, soonest, listing}
use Rattle.pgs_resolve_order.specs.Listing.{AreAlike, Awaits, unlisted, next_of}
use Rattle.pgs_resolve_declared.proofs.Same.{itself, in_turn}

-- ---- names that are listed

pub still_listed : (name : List ℕ) (listed more : List (List ℕ)) → has_name name listed ≡ true → has_name name (listed ++ more) ≡ true
still_listed name listed more h = list_any-append (same_name name) listed more ∙ ap (λ b. b || has_name name more) h

pub now_listed : (name : List ℕ) (listed : List (List ℕ)) → has_name name (listed ++ name ∷ []) ≡ true
now_listed name listed = list_any-append (same_name name) listed (name ∷ []) ∙ by (has_name name listed) (same_name name name) (itself name)
  where
    by : (a b : Bool) → b ≡ true → (a || (b || false)) ≡ true
    by true b e = refl
    by false true e = refl
    by false false e = e

-- a name that isn't listed, and isn't the next one
pub not_yet : (name next : List ℕ) (listed : List (List ℕ)) → has_name name listed ≡ false → same_name name next ≡ false → has_name name (listed ++ next ∷ []) ≡ false
not_yet name next listed a b = list_any-append (same_name name) listed (next ∷ []) ∙ ap (λ c. c || (same_name name next || false)) a ∙ ap (λ c. c || false) b

-- ---- names that are alike

pub alike_itself : (listed names : List (List ℕ)) → AreAlike listed names names
alike_itself listed names more = refl

pub alike_more : (listed names others : List (List ℕ)) (next : List ℕ) → AreAlike listed names others → AreAlike (listed ++ next ∷ []) names others
alike_more listed names others next h more =
    let e : (listed ++ next ∷ []) ++ more ≡ listed ++ next ∷ more = append_assoc listed (next ∷ []) more in
    ap (λ all. list_all (λ name. has_name name all) names) e ∙ h (next ∷ more) ∙ sym (ap (λ all. list_all (λ name. has_name name all) others) e)

-- one that is listed is no longer needed
pub alike_without : (listed names others : List (List ℕ)) (first : List ℕ) → AreAlike listed names (first ∷ others) → has_name first listed ≡ true → AreAlike listed names others
alike_without listed names others first h there more =
    h more ∙ ap (λ b. b && list_all (λ name. has_name name (listed ++ more)) others) (still_listed first listed more there)

pub alike_then : (listed names others last : List (List ℕ)) → AreAlike listed names others → AreAlike listed others last → AreAlike listed names last
alike_then listed names others last a b more = a more ∙ b more

pub alike_ready : (listed names : List (List ℕ)) → AreAlike listed names [] → list_all (λ name. has_name name listed) names ≡ true
alike_ready listed names h = ap (λ all. list_all (λ name. has_name name all) names) (sym (append-nil listed)) ∙ h []

pub alike_unready : (listed names others : List (List ℕ)) (first : List ℕ) → AreAlike listed names (first ∷ others) → has_name first listed ≡ false →
    list_all (λ name. has_name name listed) names ≡ false
alike_unready listed names others first h away =
    let e = append-nil listed in
    ap (λ all. list_all (λ name. has_name name all) names) (sym e) ∙ h []
    ∙ ap (λ all. list_all (λ name. has_name name all) (first ∷ others)) e ∙ ap (λ b. b && list_all (λ name. has_name name listed) others) away

pub awaits_more : (entries : List Entry) (listed : List (List ℕ)) (place number : ℕ) (names : List (List ℕ)) (next : List ℕ) →
    Awaits entries listed place number names → Awaits entries (listed ++ next ∷ []) place number names
awaits_more entries listed place number names next a =
    record { entry = a.entry; is = a.is; placed = a.placed; alike = alike_more listed a.entry.names names next a.alike }

pub awaits_less : (entries : List Entry) (listed : List (List ℕ)) (place number : ℕ) (names : List (List ℕ)) (next : List ℕ) →
    Awaits entries listed place number (next ∷ names) → Awaits entries (listed ++ next ∷ []) place number names
awaits_less entries listed place number names next a =
    record {
      entry = a.entry;
      is = a.is;
      placed = a.placed;
      alike = alike_without (listed ++ next ∷ []) a.entry.names names next (alike_more listed a.entry.names (next ∷ names) next a.alike) (now_listed next listed);
    }

pub awaits_others : (entries : List Entry) (listed : List (List ℕ)) (place number : ℕ) (names others : List (List ℕ)) →
    Awaits entries listed place number names → AreAlike listed names others → Awaits entries listed place number others
awaits_others entries listed place number names others a h =
    record { entry = a.entry; is = a.is; placed = a.placed; alike = alike_then listed a.entry.names names others a.alike h }

-- ---- lists with one more

module _ {X : Type 0} where
  pub pushed_from : (xs : List X) (y : X) (k : ℕ) (p : X) → slice_get (xs ++ y ∷ []) k ≡ Some p → (slice_get xs k ≡ Some p) ⊎ (p ≡ y)
  pushed_from [] y zero p e = inr (cc)
  pushed_from [] y (suc k) p e = absurd (cc)
  pushed_from (x ∷ xs) y zero p e = inl e
  pushed_from (x ∷ xs) y (suc k) p e = pushed_from xs y k p e

  pub pushed_stays : (xs : List X) (y : X) (k : ℕ) (p : X) → slice_get xs k ≡ Some p → slice_get (xs ++ y ∷ []) k ≡ Some p
  pushed_stays [] y k p e = absurd (cc)
  pushed_stays (x ∷ xs) y zero p e = e
  pushed_stays (x ∷ xs) y (suc k) p e = pushed_stays xs y k p e

  pub pushed_last : (xs : List X) (y : X) → slice_get (xs ++ y ∷ []) (length xs) ≡ Some y
  pushed_last [] y = refl
  pushed_last (x ∷ xs) y = pushed_last xs y

-- ---- the next one

module _ (p : Entry → Bool) where
  pub none_left : (entries : List Entry) → ((entry : Entry) (number : ℕ) → slice_get entries number ≡ Some entry → p entry ≡ false) → filter p entries ≡ []
  none_left [] h = refl
  none_left (x ∷ xs) h =
      ap (λ b. cond b (x ∷ filter p xs) (filter p xs)) (h x 0 refl) ∙ none_left xs (λ entry number is. h entry (suc number) is)

  -- an entry is sooner than others that aren't before it
  before_both : (entry x : Entry) (s : Option Entry) → leb entry.place x.place ≡ true → option_map_or (sooner entry) s entry ≡ entry →
      option_map_or (sooner entry) (Some (option_map_or (sooner x) s x)) entry ≡ entry
  before_both entry x None first rest = ap (λ b. cond b entry x) first
  before_both entry x (Some z) first rest = by (leb x.place z.place)
    where
      by : (b : Bool) → sooner entry (cond b x z) ≡ entry
      by true = ap (λ c. cond c entry x) first
      by false = rest

  pub before_others : (entries : List Entry) (entry : Entry) →
      ((other : Entry) (number : ℕ) → slice_get entries number ≡ Some other → p other ≡ true → entry.place ≤ other.place) →
      option_map_or (sooner entry) (soonest (filter p entries)) entry ≡ entry
  before_others [] entry h = refl
  before_others (x ∷ xs) entry h = by (p x) refl (before_others xs entry (λ other number is. h other (suc number) is))
    where
      by : (b : Bool) → p x ≡ b → option_map_or (sooner entry) (soonest (filter p xs)) entry ≡ entry →
          option_map_or (sooner entry) (soonest (cond b (x ∷ filter p xs) (filter p xs))) entry ≡ entry
      by false f rest = rest
      by true f rest = let l = h x 0 refl f in before_both entry x (soonest (filter p xs)) (grind (arith, nat_tests)) rest

  pub soonest_is : (entries : List Entry) (entry : Entry) (number : ℕ) → slice_get entries number ≡ Some entry → p entry ≡ true →
      ((other : Entry) (n : ℕ) → slice_get entries n ≡ Some other → p other ≡ true → entry.place ≤ other.place) →
      ((other : Entry) (n : ℕ) → slice_get entries n ≡ Some other → p other ≡ true → entry.place ≡ other.place → number ≤ n) →
      soonest (filter p entries) ≡ Some entry
  soonest_is [] entry number is passes h t = absurd (cc)
  soonest_is (x ∷ xs) entry zero is passes h t =
      let e : x ≡ entry = cc in
      let first : p x ≡ true = ap p e ∙ passes in
      ap (λ b. soonest (cond b (x ∷ filter p xs) (filter p xs))) first
      ∙ ap (λ (y : Entry). Some (option_map_or (sooner y) (soonest (filter p xs)) y)) e
      ∙ ap Some (before_others xs entry (λ other number is. h other (suc number) is))
  soonest_is (x ∷ xs) entry (suc m) is passes h t =
      by (p x) refl
      (soonest_is xs entry m is passes (λ other n is. h other (suc n) is) (λ other n is pass same. let l = t other (suc n) is pass same in omega arith))
    where
      by : (b : Bool) → p x ≡ b → soonest (filter p xs) ≡ Some entry → soonest (cond b (x ∷ filter p xs) (filter p xs)) ≡ Some entry
      by false f rest = rest
      by true f rest =
          let l : entry.place ≤ x.place = h x 0 refl f in
          let apart : entry.place ≡ x.place → suc m ≤ 0 = t x 0 refl f in
          let after : leb x.place entry.place ≡ false = grind (arith, nat_tests) in
          ap (λ s. Some (option_map_or (sooner x) s x)) rest ∙ ap (λ b. Some (cond b x entry)) after

-- one test after another
pub both_tests : {X : Type 0} (p q : X → Bool) (xs : List X) → filter p (filter q xs) ≡ filter (λ x. q x && p x) xs
both_tests p q [] = refl
both_tests {X} p q (x ∷ xs) = by (q x) (p x) refl (both_tests p q xs)
  where
    by : (b c : Bool) → p x ≡ c → filter p (filter q xs) ≡ filter (λ x. q x && p x) xs →
        filter p (cond b (x ∷ filter q xs) (filter q xs)) ≡ cond (b && c) (x ∷ filter (λ x. q x && p x) xs) (filter (λ x. q x && p x) xs)
    by false c e rest = rest
    by true true e rest = ap (λ d. cond d (x ∷ filter p (filter q xs)) (filter p (filter q xs))) e ∙ ap (λ ys. x ∷ ys) rest
    by true false e rest = ap (λ d. cond d (x ∷ filter p (filter q xs)) (filter p (filter q xs))) e ∙ rest

-- ---- the listing, a step at a time

pub all_unlisted : (entries : List Entry) → unlisted [] entries ≡ entries
all_unlisted [] = refl
all_unlisted (x ∷ xs) = ap (λ ys. x ∷ ys) (all_unlisted xs)

pub unlisted_without : (listed : List (List ℕ)) (name : List ℕ) (entries : List Entry) →
    filter (λ (other : Entry). not (same_name name other.name)) (unlisted listed entries) ≡ unlisted (listed ++ name ∷ []) entries
unlisted_without listed name [] = refl
unlisted_without listed name (x ∷ xs) =
    by (has_name x.name listed) (same_name name x.name) refl (unlisted_without listed name xs)
    ∙ ap (λ b. cond (not b) (x ∷ unlisted (listed ++ name ∷ []) xs) (unlisted (listed ++ name ∷ []) xs))
    (sym (list_any-append (same_name x.name) listed (name ∷ []) ∙ ap (λ b. has_name x.name listed || (b || false)) (in_turn x.name name)))
  where
    others : List Entry → List Entry
    others = filter (λ (other : Entry). not (same_name name other.name))

    by : (b c : Bool) → same_name name x.name ≡ c → others (unlisted listed xs) ≡ unlisted (listed ++ name ∷ []) xs →
        others (cond (not b) (x ∷ unlisted listed xs) (unlisted listed xs))
        ≡ cond (not (b || (c || false))) (x ∷ unlisted (listed ++ name ∷ []) xs) (unlisted (listed ++ name ∷ []) xs)
    by true c e rest = rest
    by false true e rest = ap (λ d. cond (not d) (x ∷ others (unlisted listed xs)) (others (unlisted listed xs))) e ∙ rest
    by false false e rest = ap (λ d. cond (not d) (x ∷ others (unlisted listed xs)) (others (unlisted listed xs))) e ∙ ap (λ ys. x ∷ ys) rest

pub listing_step : (fuel next : ℕ) (listed : List (List ℕ)) (entries : List Entry) (entry : Entry) → fuel ≡ suc next → next_of listed entries ≡ Some entry →
    listing fuel listed (unlisted listed entries) ≡ listing next (listed ++ entry.name ∷ []) (unlisted (listed ++ entry.name ∷ []) entries)
listing_step fuel next listed entries entry e found =
    let left = unlisted listed entries in
    ap (λ n. listing n listed left) e
    ∙ ap (λ (s : Option Entry). elim s as (λ _. List (List ℕ)) [
      | None ↦ listed
      | Some first ↦ listing next (listed ++ first.name ∷ []) (filter (λ (other : Entry). not (same_name first.name other.name)) left)
    ]) found
    ∙ ap (listing next (listed ++ entry.name ∷ [])) (unlisted_without listed entry.name entries)

pub listing_end : (fuel : ℕ) (listed : List (List ℕ)) (entries : List Entry) → next_of listed entries ≡ None → listing fuel listed (unlisted listed entries) ≡ listed
listing_end zero listed entries none = refl
listing_end (suc next) listed entries none =
    ap (λ (s : Option Entry). elim s as (λ _. List (List ℕ)) [
      | None ↦ listed
      | Some first ↦ listing next (listed ++ first.name ∷ []) (filter (λ (other : Entry). not (same_name first.name other.name)) (unlisted listed entries))
    ]) none

pub listing_begin : (n : ℕ) (listed : List (List ℕ)) (entries : List Entry) → listed ≡ [] →
    listing (n - length listed) listed (unlisted listed entries) ≡ listing n [] entries
listing_begin n listed entries none =
    let e : n - length listed ≡ n = let l = ap length none in omega (arith, l) in
    ap (λ k. listing k listed (unlisted listed entries)) e ∙ ap (λ names. listing n names (unlisted names entries)) none ∙ ap (listing n []) (all_unlisted entries)

pub listing_more : (n : ℕ) (listed new : List (List ℕ)) (entries : List Entry) (entry : Entry) (whole : List (List ℕ)) → length listed < n →
    new ≡ listed ++ entry.name ∷ [] → next_of listed entries ≡ Some entry → listing (n - length listed) listed (unlisted listed entries) ≡ whole →
    listing (n - length new) new (unlisted new entries) ≡ whole
listing_more n listed new entries entry whole within more next before =
    let l = ap length more in
    let m = length-append listed (entry.name ∷ []) in
    ap (λ names. listing (n - length new) names (unlisted names entries)) more
    ∙ sym (listing_step (n - length listed) (n - length new) listed entries entry (omega (arith, l, m)) next) ∙ before

pub listing_whole : (n : ℕ) (listed : List (List ℕ)) (entries : List Entry) (whole : List (List ℕ)) → n ≤ length listed →
    listing (n - length listed) listed (unlisted listed entries) ≡ whole → listed ≡ whole
listing_whole n listed entries whole past before =
    let e : n - length listed ≡ 0 = omega arith in
    sym (ap (λ k. listing k listed (unlisted listed entries)) e) ∙ before
