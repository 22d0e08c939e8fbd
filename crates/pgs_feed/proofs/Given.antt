-- Lines that are given to a list of feeds, one after another.
use Rattle.std.proofs.Common.{◌≡◌, ◌∙◌, ◌+◌, ℕ, cond, arith, List, [], ◌∷◌, ◌++◌, Option, Some, None, refl, sym, ap, subst, append_assoc}
use Rattle.std.specs.List.{AllZip, concat}
use Rattle.std.specs.Option.{option_map}
use Rattle.std.proofs.lemmas.List.{append-nil}
use Rattle.std.proofs.lemmas.List.Sums.{sum_by-cons}
use Rattle.std.proofs.lemmas.List.Folds.{concat-append}
use Rattle.pgs_world.specs.Count.{RoseByOne}
use Rattle.pgs_world.specs.World.{Adds}
use Rattle.pgs_feed.specs.Places.{FeedState, Place, Fed, Lost, Dropped, TookLine, Failed, Delivers, is_fed, fed_count}
use Rattle.pgs_feed.specs.Given.{TookAll, FailedIn, TakesLines, IsGiven, AreGiven}

adds_none : (taken : Option (List ℕ)) → Adds taken taken []
adds_none None = refl
adds_none (Some out) = ap Some (sym (append-nil out))

adds_same : (before after : Option (List ℕ)) (xs ys : List ℕ) → xs ≡ ys → Adds before after xs → Adds before after ys
adds_same before after xs ys same adds = subst (λ (bytes : List ℕ). Adds before after bytes) same adds

more_of : (before : Option (List ℕ)) (xs ys : List ℕ)
    → option_map (λ (out : List ℕ). out ++ ys) (option_map (λ (out : List ℕ). out ++ xs) before) ≡ option_map (λ (out : List ℕ). out ++ (xs ++ ys)) before
more_of None xs ys = refl
more_of (Some out) xs ys = ap Some (append_assoc out xs ys)

adds_on : (before mid after : Option (List ℕ)) (xs ys : List ℕ) → Adds before mid xs → Adds mid after ys → Adds before after (xs ++ ys)
adds_on before mid after xs ys p q =
    q ∙ (ap (λ (taken : Option (List ℕ)). option_map (λ (out : List ℕ). out ++ ys) taken) p ∙ more_of before xs ys)

took_none : (feed : FeedState) → TookAll [] feed feed
took_none feed = record { whole = adds_none feed.taken; no_fault = refl }

-- before the first line
place_none : (place : Place) → IsGiven [] place place
place_none (Fed feed) = took_none feed
place_none (Lost feed) = refl
place_none (Dropped failed) = refl

pub given_none : (places : List Place) → AreGiven [] places places
given_none [] = tt
given_none (place ∷ places) = (place_none place, given_none places)

-- where no feed is fed nothing is given
place_unfed : (lines : List (List ℕ)) (place : Place) (others : ℕ) → cond (is_fed place) 1 0 + others ≡ 0 → IsGiven lines place place × (others ≡ 0)
place_unfed lines (Fed feed) others none = absurd (omega arith)
place_unfed lines (Lost feed) others none = (refl, omega arith)
place_unfed lines (Dropped failed) others none = (refl, omega arith)

pub given_unfed : (lines : List (List ℕ)) (places : List Place) → fed_count places ≡ 0 → AreGiven lines places places
given_unfed lines [] none = tt
given_unfed lines (place ∷ places) none =
    let here = place_unfed lines place (fed_count places) (sym (sum_by-cons (λ (p : Place). cond (is_fed p) 1 0) place places) ∙ none) in
    (here.0, given_unfed lines places here.1)

took_line : (line : List ℕ) (before after : FeedState) → TookLine line before after → TookAll (line ∷ []) before after
took_line line before after took = record {
  whole = adds_same before.taken after.taken line (concat (line ∷ [])) (sym (append-nil line)) took.whole;
  no_fault = took.no_fault;
}

failed_line : (line : List ℕ) (before after : FeedState) → Failed line before after → FailedIn (line ∷ []) before after
failed_line line before after failed = record {
  first = [];
  front = failed.front.front;
  back = failed.front.back;
  later = [];
  parts = ap (λ l. l ∷ []) failed.front.parts;
  added = failed.front.added;
  fault = failed.fault;
}

-- one line
place_line : (line : List ℕ) (before after : Place) → Delivers line before after → IsGiven (line ∷ []) before after
place_line line (Fed before) (Fed after) took = took_line line before after took
place_line line (Fed before) (Lost after) failed = failed_line line before after failed
place_line line (Fed before) (Dropped failed) delivered = absurd delivered
place_line line (Lost feed) after same = same
place_line line (Dropped failed) after same = same

pub given_line : (line : List ℕ) (before after : List Place) → AllZip (Delivers line) before after → AreGiven (line ∷ []) before after
given_line line [] [] all = tt
given_line line [] (q ∷ after) all = absurd all
given_line line (p ∷ before) [] all = absurd all
given_line line (p ∷ before) (q ∷ after) all = (place_line line p q all.0, given_line line before after all.1)

took_on : (xs ys : List (List ℕ)) (before mid after : FeedState) → TookAll xs before mid → TookAll ys mid after → TookAll (xs ++ ys) before after
took_on xs ys before mid after p q = record {
  whole = adds_same before.taken after.taken (concat xs ++ concat ys) (concat (xs ++ ys)) (sym (concat-append xs ys)) (adds_on before.taken mid.taken after.taken (concat xs) (concat ys) p.whole q.whole);
  no_fault = q.no_fault ∙ p.no_fault;
}

failed_on : (xs ys : List (List ℕ)) (before mid after : FeedState) → TookAll xs before mid → FailedIn ys mid after → FailedIn (xs ++ ys) before after
failed_on xs ys before mid after p q = record {
  first = xs ++ q.first;
  front = q.front;
  back = q.back;
  later = q.later;
  parts = ap (λ more. xs ++ more) q.parts ∙ sym (append_assoc xs q.first ((q.front ++ q.back) ∷ q.later));
  added = adds_same before.taken after.taken (concat xs ++ (concat q.first ++ q.front)) (concat (xs ++ q.first) ++ q.front) (sym (append_assoc (concat xs) (concat q.first) q.front) ∙ ap (λ bytes. bytes ++ q.front) (sym (concat-append xs q.first))) (adds_on before.taken mid.taken after.taken (concat xs) (concat q.first ++ q.front) p.whole q.added);
  fault = subst (λ (count : ℕ). RoseByOne count after.faults) p.no_fault q.fault;
}

failed_more : (xs ys : List (List ℕ)) (before after : FeedState) → FailedIn xs before after → FailedIn (xs ++ ys) before after
failed_more xs ys before after p = record {
  first = p.first;
  front = p.front;
  back = p.back;
  later = p.later ++ ys;
  parts = ap (λ more. more ++ ys) p.parts ∙ append_assoc p.first ((p.front ++ p.back) ∷ p.later) ys;
  added = p.added;
  fault = p.fault;
}

after_lost : (xs ys : List (List ℕ)) (before mid : FeedState) (after : Place) → FailedIn xs before mid → after ≡ Lost mid → TakesLines (xs ++ ys) before after
after_lost xs ys before mid after p same = subst (λ (place : Place). TakesLines (xs ++ ys) before place) (sym same) (failed_more xs ys before mid p)

-- some lines, and then others
place_on : (xs ys : List (List ℕ)) (before mid after : Place) → IsGiven xs before mid → IsGiven ys mid after → IsGiven (xs ++ ys) before after
place_on xs ys (Fed before) (Fed mid) (Fed after) p q = took_on xs ys before mid after p q
place_on xs ys (Fed before) (Fed mid) (Lost after) p q = failed_on xs ys before mid after p q
place_on xs ys (Fed before) (Fed mid) (Dropped failed) p q = absurd q
place_on xs ys (Fed before) (Lost mid) after p q = after_lost xs ys before mid after p q
place_on xs ys (Fed before) (Dropped failed) after p q = absurd p
place_on xs ys (Lost feed) mid after p q = subst (λ (place : Place). IsGiven ys place after → after ≡ Lost feed) (sym p) (λ same. same) q
place_on xs ys (Dropped failed) mid after p q = subst (λ (place : Place). IsGiven ys place after → after ≡ Dropped failed) (sym p) (λ same. same) q

pub given_on : (xs ys : List (List ℕ)) (before mid after : List Place) → AreGiven xs before mid → AreGiven ys mid after → AreGiven (xs ++ ys) before after
given_on xs ys [] [] [] p q = tt
given_on xs ys [] [] (c ∷ after) p q = absurd q
given_on xs ys [] (b ∷ mid) after p q = absurd p
given_on xs ys (a ∷ before) [] after p q = absurd p
given_on xs ys (a ∷ before) (b ∷ mid) [] p q = absurd q
given_on xs ys (a ∷ before) (b ∷ mid) (c ∷ after) p q = (place_on xs ys a b c p.0 q.0, given_on xs ys before mid after p.1 q.1)
