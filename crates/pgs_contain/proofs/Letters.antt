-- A name that is made letter by letter, so that ever fewer of some names begin with it.
use Rattle.std.proofs.Common.{◌≡◌, ℕ, zero, suc, ◌+◌, ◌*◌, ◌/◌, ◌<◌, ◌≤◌, ◌==◌, Bool, true, false, ◌&&◌, ◌||◌, cond, List, [], ◌∷◌, ◌++◌, length, refl, sym, ◌∙◌, ap, true≢false, arith, subst, length-append, Option, Some, None, if◌then◌else◌}
use Rattle.std.specs.List.{list_all}
use Rattle.std.proofs.lemmas.Bool.{and_parts, and_from, or_left, le-leb, eqb-true}
use Rattle.std.proofs.lemmas.Option.{same_Some, none-some}
use Rattle.std.proofs.lemmas.List.Sums.{sum_by-cons}
use Rattle.pgs_base.specs.Name.{is_name_start, is_name_byte, is_name, is_between}
use Rattle.pgs_base.specs.Pair.{same_name, has_name}
use Rattle.pgs_syntax.proofs.Parts.{one_name}
use Rattle.pgs_contain.specs.Known.{begins_with, count_beginning, doubled}

-- ---- how many go on

two_letters : (c : ℕ) (x y : Bool) → (97 == c) ≡ x → (98 == c) ≡ y → cond (x && true) 1 0 + cond (y && true) 1 0 ≤ 1
two_letters c true true e f = let a = eqb-true 97 c e in let b = eqb-true 98 c f in absurd (omega (arith, a, b))
two_letters c true false e f = omega arith
two_letters c false true e f = omega arith
two_letters c false false e f = omega arith

two_after : (s a b d : Bool) → cond a 1 0 + cond b 1 0 ≤ cond d 1 0 → cond (s && a) 1 0 + cond (s && b) 1 0 ≤ cond (s && d) 1 0
two_after true a b d h = h
two_after false a b d h = omega arith

goes_on : (bs name : List ℕ) → cond (begins_with (bs ++ 97 ∷ []) name) 1 0 + cond (begins_with (bs ++ 98 ∷ []) name) 1 0 ≤ cond (begins_with bs name) 1 0
goes_on [] [] = omega arith
goes_on [] (c ∷ cs) = two_letters c (97 == c) (98 == c) refl refl
goes_on (b ∷ bs) [] = omega arith
goes_on (b ∷ bs) (c ∷ cs) = two_after (b == c) (begins_with (bs ++ 97 ∷ []) cs) (begins_with (bs ++ 98 ∷ []) cs) (begins_with bs cs) (goes_on bs cs)

count_cons : (bs n : List ℕ) (ns : List (List ℕ)) → count_beginning bs (n ∷ ns) ≡ cond (begins_with bs n) 1 0 + count_beginning bs ns
count_cons bs n ns = sum_by-cons (λ (name : List ℕ). cond (begins_with bs name) 1 0) n ns

pub go_on_counts : (bs : List ℕ) (names : List (List ℕ)) → count_beginning (bs ++ 97 ∷ []) names + count_beginning (bs ++ 98 ∷ []) names ≤ count_beginning bs names
go_on_counts bs [] = omega arith
go_on_counts bs (n ∷ ns) =
    omega (arith, goes_on bs n, go_on_counts bs ns, count_cons bs n ns, count_cons (bs ++ 97 ∷ []) n ns, count_cons (bs ++ 98 ∷ []) n ns)

pub other_half : (bs : List ℕ) (names : List (List ℕ)) (most : ℕ) → count_beginning bs names ≤ most → most / 2 < count_beginning (bs ++ 97 ∷ []) names →
    count_beginning (bs ++ 98 ∷ []) names ≤ most / 2
other_half bs names most low many = let both = go_on_counts bs names in omega (arith, both)

-- ---- how long it may grow

-- with so many letters there are still so many halves
pub record IsRoom (letters most : ℕ) : Type 0 where
  pub room : ℕ
  pub sum : room + letters ≡ 64
  pub below : most < doubled room

half_below : (most n : ℕ) → most < 2 * n → most / 2 < n
half_below most n h = omega arith

room_from : (r letters most : ℕ) → r + letters ≡ 64 → most < doubled r → 0 < most → IsRoom (letters + 1) (most / 2)
room_from zero letters most e below some = absurd (omega arith)
room_from (suc r) letters most e below some = record { room = r; sum = omega arith; below = half_below most (doubled r) below }

pub room_more : (letters most : ℕ) → IsRoom letters most → 0 < most → IsRoom (letters + 1) (most / 2)
room_more letters most h some = room_from h.room letters most h.sum h.below some

pub first_room : (n : ℕ) → n < 18446744073709551616 → IsRoom 1 (n / 2)
first_room n h = record { room = 63; sum = refl; below = half_below n (doubled 63) h }

-- ---- it is a name, and none of them

pub letters_name : (bs : List ℕ) → list_all is_name_start bs ≡ true → 1 ≤ length bs → length bs ≤ 64 → is_name bs ≡ true
letters_name [] letters some short = absurd (omega arith)
letters_name (b ∷ bs) letters some short =
    let parts = and_parts _ _ letters in
    and_from _ _ (and_from _ _ parts.0 (each bs parts.1)) (le-leb (length bs) 63 (omega arith))
  where
    each : (cs : List ℕ) → list_all is_name_start cs ≡ true → list_all is_name_byte cs ≡ true
    each [] h = refl
    each (c ∷ cs) h = let own = and_parts _ _ h in and_from _ _ (or_left (is_name_start c) (is_between 48 57 c) own.0) (each cs own.1)

eqb_own : (b : ℕ) → (b == b) ≡ true
eqb_own b = grind arith

begins_itself : (bs : List ℕ) → begins_with bs bs ≡ true
begins_itself [] = refl
begins_itself (b ∷ bs) = and_from (b == b) (begins_with bs bs) (eqb_own b) (begins_itself bs)

pub none_begins : (bs : List ℕ) (names : List (List ℕ)) → count_beginning bs names ≤ 0 → has_name bs names ≡ false
none_begins bs [] h = refl
none_begins bs (n ∷ ns) h = by (same_name bs n) refl (begins_with bs n) refl (none_begins bs ns) (let low : cond (begins_with bs n) 1 0 + count_beginning bs ns ≤ 0 = omega (arith, count_cons bs n ns, h) in low)
  where
    by : (s : Bool) → same_name bs n ≡ s → (b : Bool) → begins_with bs n ≡ b → (count_beginning bs ns ≤ 0 → has_name bs ns ≡ false) → cond b 1 0 + count_beginning bs ns ≤ 0 →
        (s || has_name bs ns) ≡ false
    by true same true begins rest low = absurd (omega arith)
    by true same false begins rest low = absurd (true≢false (sym (ap (begins_with bs) (sym (one_name bs n same)) ∙ begins_itself bs) ∙ begins))
    by false same true begins rest low = absurd (omega arith)
    by false same false begins rest low = rest (omega arith)

-- ---- the steps of the making

-- one letter more
pub gone_on : (bs new : List ℕ) (names : List (List ℕ)) (c half : ℕ) → new ≡ bs ++ c ∷ [] → count_beginning (bs ++ c ∷ []) names ≤ half → is_name_start c ≡ true →
    list_all is_name_start bs ≡ true → (count_beginning new names ≤ half) × (list_all is_name_start new ≡ true) × (length new ≡ length bs + 1)
gone_on bs new names c half made few start letters =
    (subst (λ ns. count_beginning ns names ≤ half) (sym made) few, ap (list_all is_name_start) made ∙ all_push bs letters, ap length made ∙ length-append bs (c ∷ []))
  where
    all_push : (cs : List ℕ) → list_all is_name_start cs ≡ true → list_all is_name_start (cs ++ c ∷ []) ≡ true
    all_push [] h = and_from _ _ start refl
    all_push (x ∷ xs) h = let parts = and_parts _ _ h in and_from _ _ parts.0 (all_push xs parts.1)

-- what the loop keeps
abbrev pub IsMaking : List ℕ → List (List ℕ) → ℕ → Type 0
IsMaking bytes names most = (count_beginning bytes names ≤ most) × (list_all is_name_start bytes ≡ true) × IsRoom (length bytes) most × (1 ≤ length bytes)

pub making_begun : (new : List ℕ) (names : List (List ℕ)) (n : ℕ) →
    (count_beginning new names ≤ n / 2) × (list_all is_name_start new ≡ true) × (length new ≡ 1) × (n < 18446744073709551616) → IsMaking new names (n / 2)
making_begun new names n h =
    (h.0, h.1, subst (λ k. IsRoom k (n / 2)) (sym h.2) (first_room n h.3), omega (arith, h.2))

pub making_on : (bytes new : List ℕ) (names : List (List ℕ)) (most : ℕ) → 0 < most → IsMaking bytes names most →
    (count_beginning new names ≤ most / 2) × (list_all is_name_start new ≡ true) × (length new ≡ length bytes + 1) → IsMaking new names (most / 2)
making_on bytes new names most some before h =
    (h.0, h.1, subst (λ k. IsRoom k (most / 2)) (sym h.2) (room_more (length bytes) most before.2 some), omega (arith, h.2))

-- with as many names as begin with it
pub making_counted : (bytes slice : List ℕ) (names : List (List ℕ)) (most count : ℕ) → slice ≡ bytes → count ≡ count_beginning slice names → IsMaking bytes names most → IsMaking bytes names count
making_counted bytes slice names most count same is h =
    let counted : count ≡ count_beginning bytes names = is ∙ ap (λ bs. count_beginning bs names) same in
    let few = h.0 in
    let below = h.2.below in
    (omega (arith, counted), h.1, record { room = h.2.room; sum = h.2.sum; below = omega (arith, counted, few, below) }, h.3)

-- it is at most half of those before
pub counted_less : (bytes slice : List ℕ) (names : List (List ℕ)) (most count : ℕ) → slice ≡ bytes → count ≡ count_beginning slice names → 0 < most → count_beginning bytes names ≤ most / 2 → count < most
counted_less bytes slice names most count same is some few =
    let counted : count ≡ count_beginning bytes names = is ∙ ap (λ bs. count_beginning bs names) same in omega (arith, counted, few, some)

made_name : (bytes : List ℕ) (names : List (List ℕ)) (most : ℕ) → IsMaking bytes names most → is_name bytes ≡ true
made_name bytes names most h = letters_name bytes h.1 h.3 (let sum = h.2.sum in omega (arith, sum))

-- it is a name
pub never_none : (bytes given : List ℕ) (names : List (List ℕ)) (most : ℕ) (o : Option (List ℕ)) → IsMaking bytes names most → given ≡ bytes →
    o ≡ (if is_name given then Some given else None) → o ≡ None → ⊥
never_none bytes given names most o h same answer none =
    none-some given (sym none ∙ answer ∙ ap (λ (b : Bool). if b then Some given else None) (ap is_name same ∙ made_name bytes names most h))

-- and none of them
pub never_there : (bytes given name : List ℕ) (names : List (List ℕ)) (most : ℕ) (o : Option (List ℕ)) → IsMaking bytes names most → most ≤ 0 → given ≡ bytes →
    o ≡ (if is_name given then Some given else None) → o ≡ Some name → has_name name names ≡ false
never_there bytes given name names most o h low same answer some =
    ap (λ n. has_name n names) (same_Some name given (sym some ∙ answer ∙ ap (λ (b : Bool). if b then Some given else None) (ap is_name same ∙ made_name bytes names most h)) ∙ same)
    ∙ none_begins bytes names (let few = h.0 in omega (arith, few))
