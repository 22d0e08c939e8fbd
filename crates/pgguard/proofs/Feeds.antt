-- The feeds of names, one more after another.
use Rattle.std.proofs.Common.{◌≡◌, ◌∙◌, ◌+◌, ◌<◌, ℕ, Bool, true, false, inr, Result, Ok, Err, IfOk, List, [], ◌∷◌, ◌++◌, length, take, get_or, Option, Some, None, refl, sym, ap, subst, map, append_assoc, append-nil, arith}
use Rattle.std.proofs.lemmas.List.{take_more}
use Rattle.std.specs.Option.{option_map}
use Rattle.pgs_feed.specs.declared.feed_list.FeedList.{FeedList}
use Rattle.pgs_feed.specs.declared.slot.Slot.{Slot}
use Rattle.pgs_feed.specs.Places.{FeedState, Place, Fed, Lost, Dropped, fed, place_of}
use Rattle.pgs_feed.specs.Seen.{feeds_in, place_seen, places}
use Rattle.pgs_world_files.specs.Counted.{untold_bytes}
use Rattle.pgs_world_files.specs.declared.file_feed.FileFeed.{FileFeed}
use Rattle.pgguard.specs.Opened.{IsFeedOf, AreFeedsOf, is_among}

map_push : {X Y : Type 0} (h : X → Y) (xs : List X) (x : X) → map h (xs ++ x ∷ []) ≡ map h xs ++ h x ∷ []
map_push h [] x = refl
map_push h (y ∷ xs) x = ap (λ ys. h y ∷ ys) (map_push h xs x)

next : {X Y : Type 0} (h : X → Y) (xs : List X) (i : ℕ) (d : X) → i < length xs → map h (take (i + 1) xs) ≡ map h (take i xs) ++ h (get_or xs i d) ∷ []
next h xs i d lt = ap (map h) (take_more xs i d lt) ∙ map_push h (take i xs) (get_or xs i d)

-- one more name behind the others
pub earlier_more : {X Y : Type 0} (h : X → Y) (files : List Y) (xs : List X) (i : ℕ) (d : X) (earlier pushed : List X) → i < length xs → pushed ≡ earlier ++ get_or xs i d ∷ []
    → map h earlier ≡ files ++ map h (take i xs) → map h pushed ≡ files ++ map h (take (i + 1) xs)
earlier_more h files xs i d earlier pushed lt is are =
    ap (map h) is ∙ map_push h earlier (get_or xs i d) ∙ ap (λ ys. ys ++ h (get_or xs i d) ∷ []) are ∙ append_assoc files (map h (take i xs)) (h (get_or xs i d) ∷ [])
    ∙ ap (λ ys. files ++ ys) (sym (next h xs i d lt))

-- one more place of a feed that hasn't failed
pub unfailed_more : {X Y P : Type 0} (h : X → Y) (p : P) (xs : List X) (i : ℕ) (old new : List P) → i < length xs → new ≡ old ++ p ∷ [] → old ≡ map (λ y. p) (map h (take i xs))
    → new ≡ map (λ y. p) (map h (take (i + 1) xs))
unfailed_more h p [] i old new lt is are = absurd (omega (arith, lt))
unfailed_more h p (x ∷ xs) i old new lt is are =
    is ∙ ap (λ ps. ps ++ p ∷ []) are ∙ sym (map_push (λ y. p) (map h (take i (x ∷ xs))) (h (get_or (x ∷ xs) i x))) ∙ ap (map (λ y. p)) (sym (next h (x ∷ xs) i x lt))

map_none : {A B : Type 0} (f : A → B) (xs : List A) → map f xs ≡ [] → xs ≡ []
map_none f [] none = refl
map_none f (x ∷ xs) none = let e : length (f x ∷ map f xs) ≡ 0 = ap length none in absurd (omega (arith, e))

-- the same place, without what its feed tells
abbrev untold : Place → Place
untold (Fed feed) = fed untold_bytes feed.faults
untold (Lost feed) = Lost (record { taken = untold_bytes; faults = feed.faults })
untold (Dropped failed) = Dropped failed

module _ {F : Type 0} (taken : F → Option (List ℕ)) (faults : F → ℕ) where
  place_untold : (feed : Option F) (lost : Bool) → untold (place_of (option_map (λ feed. record { taken = taken feed; faults = faults feed }) feed) lost)
      ≡ place_of (option_map (λ feed. record { taken = untold_bytes; faults = faults feed }) feed) lost
  place_untold None lost = refl
  place_untold (Some feed) true = refl
  place_untold (Some feed) false = refl

  all_untold : (slots : List (Slot F)) → map untold (map (place_seen taken faults) slots) ≡ map (place_seen (λ feed. untold_bytes) faults) slots
  all_untold [] = refl
  all_untold (slot ∷ slots) =
      ap (λ place. place ∷ map untold (map (place_seen taken faults) slots)) (place_untold slot.feed slot.is_lost)
      ∙ ap (λ rest. place_seen (λ feed. untold_bytes) faults slot ∷ rest) (all_untold slots)

  pub untold_none : (list : FeedList F) → places taken faults list ≡ [] → places (λ feed. untold_bytes) faults list ≡ []
  untold_none list none = sym (all_untold list.slots.items) ∙ ap (map untold) none

  pub no_feeds : (list : FeedList F) → places taken faults list ≡ [] → feeds_in list ≡ []
  no_feeds list none = ap (map (λ slot. slot.feed)) (map_none (place_seen taken faults) list.slots.items none)

  -- one more feed that hasn't failed
  pub untold_more : (old new : FeedList F) (feed : F) → faults feed ≡ 0 → places taken faults new ≡ places taken faults old ++ fed (taken feed) (faults feed) ∷ []
      → places (λ feed. untold_bytes) faults new ≡ places (λ feed. untold_bytes) faults old ++ fed untold_bytes 0 ∷ []
  untold_more old new feed unfailed added =
      sym (all_untold new.slots.items) ∙ ap (map untold) added ∙ map_push untold (places taken faults old) (fed (taken feed) (faults feed))
      ∙ ap (λ ps. ps ++ fed untold_bytes (faults feed) ∷ []) (all_untold old.slots.items)
      ∙ ap (λ n. places (λ other. untold_bytes) faults old ++ fed untold_bytes n ∷ []) unfailed

module _ {L : Type 0} (gives : List ℕ → FileFeed L → Type 0) where
  pub one_more : (earlier names : List (List ℕ)) (feeds : List (Option (FileFeed L))) (name : List ℕ) (feed : FileFeed L) → AreFeedsOf gives earlier names feeds
      → IsFeedOf gives (earlier ++ names) name feed → AreFeedsOf gives earlier (names ++ name ∷ []) (feeds ++ Some feed ∷ [])
  one_more earlier [] [] name feed are is = (subst (λ (l : List (List ℕ)). IsFeedOf gives l name feed) (append-nil earlier) is, tt)
  one_more earlier [] (first ∷ feeds) name feed are is = absurd are
  one_more earlier (other ∷ names) [] name feed are is = absurd are
  one_more earlier (other ∷ names) (None ∷ feeds) name feed are is = absurd are
  one_more earlier (other ∷ names) (Some first ∷ feeds) name feed are is =
      (are.0, one_more (earlier ++ other ∷ []) names feeds name feed are.1 (subst (λ (l : List (List ℕ)). IsFeedOf gives l name feed) (sym (append_assoc earlier (other ∷ []) names)) is))

  -- one more name, and its feed
  pub opened_more : {X : Type 0} (h : X → List ℕ) (files : List (List ℕ)) (xs : List X) (i : ℕ) (d : X) (earlier slice : List X) (old new : List (Option (FileFeed L))) → i < length xs → slice ≡ earlier
      → map h earlier ≡ files ++ map h (take i xs) → AreFeedsOf gives files (map h (take i xs)) old
      → (feed : FileFeed L) × (new ≡ old ++ Some feed ∷ []) × IsFeedOf gives (map h slice) (h (get_or xs i d)) feed → AreFeedsOf gives files (map h (take (i + 1) xs)) new
  opened_more h files xs i d earlier slice old new lt same are opened added =
      let name = h (get_or xs i d) in
      let is : IsFeedOf gives (files ++ map h (take i xs)) name added.0 = subst (λ (l : List (List ℕ)). IsFeedOf gives l name added.0) (ap (map h) same ∙ are) added.2 in
      subst (λ (l : List (List ℕ)). AreFeedsOf gives files l new) (sym (next h xs i d lt))
      (subst (AreFeedsOf gives files (map h (take i xs) ++ name ∷ [])) (sym added.1) (one_more files (map h (take i xs)) old name added.0 opened is))

-- what a name gave is its feed, where the name isn't among the others
pub feed_opened : {L E : Type 0} (gives : List ℕ → FileFeed L → Type 0) (earlier : List (List ℕ)) (name : List ℕ) → is_among earlier name ≡ false → (opened : Result (FileFeed L) E) → IfOk opened (gives name) → IfOk opened (IsFeedOf gives earlier name)
feed_opened gives earlier name apart (Ok feed) gave = inr (apart, gave)
feed_opened gives earlier name apart (Err fault) gave = tt
