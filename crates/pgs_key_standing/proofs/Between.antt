-- Pairs in the shapes of places: where one place has one shape more, and where shapes are copied.
use Rattle.std.proofs.Common.{◌≡◌, ℕ, suc, zero, ◌+◌, ◌-◌, ◌<◌, ◌≤◌, Bool, true, false, ◌&&◌, List, [], ◌∷◌, ◌++◌, length, take, drop, get_or, append_assoc, Option, Some, None, is_some, refl, sym, ◌∙◌, ap, subst, arith}
use Rattle.std.proofs.lemmas.Bool.{true≢false, and_parts, and_from, and_right, false_from_ne_true}
use Rattle.std.proofs.lemmas.List.{take_more}
use Rattle.pgs_base.specs.declared.row.NodeRow.{NodeRow}
use Rattle.pgs_base.specs.Pair.{is_pair}
use Rattle.pgs_conform.specs.declared.shape.Shape.{Shape}
use Rattle.pgs_conform.specs.Shapes.{in_shape}
use Rattle.pgs_contain.specs.declared.outside.OwnedPair.{OwnedPair}
use Rattle.pgs_contain.specs.Contained.{pair_in}
use Rattle.pgs_standing.specs.Example.{IsFoundPair}
use Rattle.pgs_standing.specs.Standing.{is_small}
use Rattle.pgs_key_standing.specs.Demands.{are_small, are_in, is_in, AreSame, HaveSmall, LackSmall}

abbrev Pairs : Type 0
Pairs = List NodeRow

-- ---- the same shapes

same_itself : (as' : List Shape) → AreSame as' as'
same_itself [] = tt
same_itself (a ∷ as') = (λ p. refl, same_itself as')

same_trans : (as' bs cs : List Shape) → AreSame as' bs → AreSame bs cs → AreSame as' cs
same_trans [] [] [] f g = tt
same_trans [] [] (c ∷ cs) f g = absurd g
same_trans [] (b ∷ bs) cs f g = absurd f
same_trans (a ∷ as') [] cs f g = absurd f
same_trans (a ∷ as') (b ∷ bs) [] f g = absurd g
same_trans (a ∷ as') (b ∷ bs) (c ∷ cs) f g = (λ p. f.0 p ∙ g.0 p, same_trans as' bs cs f.1 g.1)

same_append : (as' bs cs ds : List Shape) → AreSame as' bs → AreSame cs ds → AreSame (as' ++ cs) (bs ++ ds)
same_append [] [] cs ds f g = g
same_append [] (b ∷ bs) cs ds f g = absurd f
same_append (a ∷ as') [] cs ds f g = absurd f
same_append (a ∷ as') (b ∷ bs) cs ds f g = (f.0, same_append as' bs cs ds f.1 g)

pub same_in : (as' bs : List Shape) → AreSame as' bs → (ps : Pairs) → are_in as' ps ≡ are_in bs ps
same_in [] [] f ps = refl
same_in [] (b ∷ bs) f ps = absurd f
same_in (a ∷ as') [] f ps = absurd f
same_in (a ∷ as') (b ∷ bs) f [] = refl
same_in (a ∷ as') (b ∷ bs) f (p ∷ ps) = ap (λ t. t && are_in as' ps) (f.0 p) ∙ ap (λ t. in_shape b p && t) (same_in as' bs f.1 ps)

pub same_start : (xs shapes : List Shape) → AreSame xs (xs ++ take 0 shapes)
same_start [] shapes = tt
same_start (x ∷ xs) shapes = (λ p. refl, same_start xs shapes)

pub same_more : (shapes start old new : List Shape) (i : ℕ) (shape copy : Shape) → i < length shapes → shape ≡ get_or shapes i shape →
    ((p : NodeRow) → in_shape copy p ≡ in_shape shape p) → new ≡ old ++ copy ∷ [] → AreSame old (start ++ take i shapes) → AreSame new (start ++ take (i + 1) shapes)
same_more shapes start old new i shape copy lt is copied pushed before =
    subst (λ (xs : List Shape). AreSame xs (start ++ take (i + 1) shapes)) (sym pushed)
    (subst (λ (ys : List Shape). AreSame (old ++ copy ∷ []) ys)
    (append_assoc start (take i shapes) (shape ∷ []) ∙ ap (λ ys. start ++ ys) (sym (take_more shapes i shape lt ∙ ap (λ y. take i shapes ++ y ∷ []) (sym is))))
    (same_append old (start ++ take i shapes) (copy ∷ []) (shape ∷ []) before (copied, tt)))

pub between_same : (before after first second made : List Shape) (own : Shape) → AreSame first before → second ≡ first ++ own ∷ [] → AreSame made (second ++ after) →
    AreSame made (before ++ own ∷ after)
between_same before after first second made own begun pushed all =
    same_trans made (second ++ after) (before ++ own ∷ after) all
    (subst (λ (xs : List Shape). AreSame (xs ++ after) (before ++ own ∷ after)) (sym pushed)
    (subst (λ (xs : List Shape). AreSame xs (before ++ own ∷ after)) (sym (append_assoc first (own ∷ []) after))
    (same_append first before (own ∷ after) (own ∷ after) begun (same_itself (own ∷ after)))))

-- ---- one shape more at a place

abbrev pub are_between : List Shape → (NodeRow → Bool) → List Shape → Pairs → Bool
are_between [] own after [] = false
are_between [] own after (p ∷ ps) = own p && are_in after ps
are_between (s ∷ ss) own after [] = false
are_between (s ∷ ss) own after (p ∷ ps) = in_shape s p && are_between ss own after ps

pub between_is : (before : List Shape) (own : Shape) (after : List Shape) (ps : Pairs) → are_between before (in_shape own) after ps ≡ are_in (before ++ own ∷ after) ps
between_is [] own after [] = refl
between_is [] own after (p ∷ ps) = refl
between_is (s ∷ ss) own after [] = refl
between_is (s ∷ ss) own after (p ∷ ps) = ap (λ t. in_shape s p && t) (between_is ss own after ps)

never_between : (before after : List Shape) (ps : Pairs) → are_between before (λ p. false) after ps ≡ false
never_between [] after [] = refl
never_between [] after (p ∷ ps) = refl
never_between (s ∷ ss) after [] = refl
never_between (s ∷ ss) after (p ∷ ps) = and_right (in_shape s p) _ (never_between ss after ps)

last_two : (a b c : Bool) → ((a && b) && c) ≡ ((a && c) && b)
last_two true true true = refl
last_two true true false = refl
last_two true false true = refl
last_two true false false = refl
last_two false b c = refl

and_assoc : (a b c : Bool) → (a && (b && c)) ≡ ((a && b) && c)
and_assoc true b c = refl
and_assoc false b c = refl

-- what is in two shapes of one place
abbrev pub IsBothAt : Shape → Shape → (NodeRow → Bool) → Type 0
IsBothAt old shape own = (p : NodeRow) → (is_pair p && is_small p) ≡ true → own p ≡ (in_shape old p && in_shape shape p)

placed : (before : List Shape) (old shape : Shape) (after : List Shape) (own : NodeRow → Bool) → IsBothAt old shape own → (ps : Pairs) → are_small ps ≡ true →
    are_between before own after ps ≡ (are_in (before ++ old ∷ after) ps && is_in ps (length before) shape)
placed [] old shape after own both [] small = refl
placed [] old shape after own both (p ∷ ps) small =
    ap (λ t. t && are_in after ps) (both p (and_parts _ _ small).0) ∙ last_two (in_shape old p) (in_shape shape p) (are_in after ps)
placed (s ∷ ss) old shape after own both [] small = refl
placed (s ∷ ss) old shape after own both (p ∷ ps) small =
    ap (λ t. in_shape s p && t) (placed ss old shape after own both ps (and_parts _ _ small).1)
    ∙ and_assoc (in_shape s p) (are_in (ss ++ old ∷ after) ps) (is_in ps (length ss) shape)

-- by the places that are cut
abbrev pub IsCut : List Shape → ℕ → List Shape → Shape → List Shape → Type 0
IsCut places place before old after = (places ≡ before ++ old ∷ after) × (length before ≡ place)

take_whole : (xs : List Shape) (n : ℕ) → length xs ≤ n → take n xs ≡ xs
take_whole [] zero le = refl
take_whole [] (suc n) le = refl
take_whole (x ∷ xs) zero le = absurd (omega arith)
take_whole (x ∷ xs) (suc n) le = ap (λ ys. x ∷ ys) (take_whole xs n (omega arith))

pub rest_whole : (xs : List Shape) → take (length xs - 1) (drop 1 xs) ≡ drop 1 xs
rest_whole [] = take_whole [] (length {A = Shape} [] - 1) (omega arith)
rest_whole (x ∷ xs) = take_whole xs (length (x ∷ xs) - 1) (omega arith)

pub is_cut : (places front back : List Shape) (place : ℕ) (old : Shape) → places ≡ front ++ back → length front ≡ place → 1 ≤ length back → old ≡ get_or back 0 old →
    IsCut places place front old (drop 1 back)
is_cut places front [] place old whole count some is = absurd (omega arith)
is_cut places front (b ∷ back) place old whole count some is = (whole ∙ ap (λ x. front ++ x ∷ back) (sym is), count)

pub narrowed_to : (places before after made : List Shape) (place : ℕ) (old shape own : Shape) → IsCut places place before old after → AreSame made (before ++ own ∷ after) →
    IsBothAt old shape (in_shape own) → (ps : Pairs) → are_small ps ≡ true → are_in made ps ≡ (are_in places ps && is_in ps place shape)
narrowed_to places before after made place old shape own cut same both ps small =
    same_in made (before ++ own ∷ after) same ps ∙ sym (between_is before own after ps) ∙ placed before old shape after (in_shape own) both ps small
    ∙ ap (λ ss. are_in ss ps && is_in ps (length before) shape) (sym cut.0) ∙ ap (λ n. are_in places ps && is_in ps n shape) cut.1

pub narrowed_away : (places before after : List Shape) (place : ℕ) (old shape : Shape) → IsCut places place before old after →
    IsBothAt old shape (λ p. false) → (ps : Pairs) → are_small ps ≡ true → false ≡ (are_in places ps && is_in ps place shape)
narrowed_away places before after place old shape cut both ps small =
    sym (never_between before after ps) ∙ placed before old shape after (λ p. false) both ps small
    ∙ ap (λ ss. are_in ss ps && is_in ps (length before) shape) (sym cut.0) ∙ ap (λ n. are_in places ps && is_in ps n shape) cut.1

-- no pair stands past the last place
pub past_places : (places : List Shape) (place : ℕ) (shape : Shape) → length places ≤ place → (ps : Pairs) → false ≡ (are_in places ps && is_in ps place shape)
past_places [] place shape le [] = refl
past_places [] place shape le (p ∷ ps) = refl
past_places (s ∷ ss) place shape le [] = refl
past_places (s ∷ ss) zero shape le (p ∷ ps) = absurd (omega arith)
past_places (s ∷ ss) (suc n) shape le (p ∷ ps) =
    sym (and_right (in_shape s p) false refl) ∙ ap (λ t. in_shape s p && t) (past_places ss n shape (omega arith) ps)
    ∙ and_assoc (in_shape s p) (are_in ss ps) (is_in ps n shape)

-- ---- a small pair in each

small_append : (ps qs : Pairs) → are_small ps ≡ true → are_small qs ≡ true → are_small (ps ++ qs) ≡ true
small_append [] qs f g = g
small_append (p ∷ ps) qs f g = let parts = and_parts (is_pair p && is_small p) (are_small ps) f in and_from _ _ parts.0 (small_append ps qs parts.1 g)

in_append : (xs ys : List Shape) (ps qs : Pairs) → are_in xs ps ≡ true → are_in ys qs ≡ true → are_in (xs ++ ys) (ps ++ qs) ≡ true
in_append [] ys [] qs f g = g
in_append [] ys (p ∷ ps) qs f g = absurd (true≢false (sym f))
in_append (x ∷ xs) ys [] qs f g = absurd (true≢false (sym f))
in_append (x ∷ xs) ys (p ∷ ps) qs f g = let parts = and_parts (in_shape x p) (are_in xs ps) f in and_from _ _ parts.0 (in_append xs ys ps qs parts.1 g)

pub small_more : (places : List Shape) (i : ℕ) (shape : Shape) (found : Option OwnedPair) → i < length places → shape ≡ get_or places i shape →
    IsFoundPair (λ p. is_small p && in_shape shape p) found → is_some found ≡ true → HaveSmall (take i places) → HaveSmall (take (i + 1) places)
small_more places i shape None lt is h some before = absurd (true≢false (sym some))
small_more places i shape (Some own) lt is h some before =
    let parts = and_parts (is_small (pair_in own)) (in_shape shape (pair_in own)) h.passes in (
      before.0 ++ pair_in own ∷ [],
      small_append before.0 (pair_in own ∷ []) before.1 (and_from _ _ (and_from _ _ h.is_one parts.0) refl),
      ap (λ ss. are_in ss (before.0 ++ pair_in own ∷ [])) (take_more places i shape lt ∙ ap (λ y. take i places ++ y ∷ []) (sym is))
          ∙ in_append (take i places) (shape ∷ []) before.0 (pair_in own ∷ []) before.2 (and_from _ _ parts.1 refl),
    )

in_at : (places : List Shape) (i : ℕ) (d : Shape) (ps : Pairs) → i < length places → are_small ps ≡ true → are_in places ps ≡ true →
    (p : NodeRow) × ((is_pair p && is_small p) ≡ true) × (in_shape (get_or places i d) p ≡ true)
in_at [] i d ps lt small h = absurd (omega arith)
in_at (s ∷ ss) i d [] lt small h = absurd (true≢false (sym h))
in_at (s ∷ ss) zero d (p ∷ ps) lt small h = (p, (and_parts _ _ small).0, (and_parts _ _ h).0)
in_at (s ∷ ss) (suc n) d (p ∷ ps) lt small h = in_at ss n d ps (omega arith) (and_parts _ _ small).1 (and_parts _ _ h).1

pub small_lacks : (places : List Shape) (i : ℕ) (shape : Shape) (found : Option OwnedPair) → i < length places → shape ≡ get_or places i shape →
    IsFoundPair (λ p. is_small p && in_shape shape p) found → is_some found ≡ false → LackSmall places
small_lacks places i shape (Some own) lt is h none ps small = absurd (true≢false none)
small_lacks places i shape None lt is h none ps small = false_from_ne_true (are_in places ps) (λ all.
    let one = in_at places i shape ps lt small all in
    let parts = and_parts (is_pair one.0) (is_small one.0) one.1 in
    true≢false (sym (and_from (is_small one.0) (in_shape shape one.0) parts.1 (ap (λ s. in_shape s one.0) is ∙ one.2)) ∙ h one.0 parts.0))

-- ---- what is in common, where a small pair is

pub common_kept : (first second shape : Shape) (found : Option OwnedPair) → ((p : NodeRow) → is_pair p ≡ true → in_shape shape p ≡ (in_shape first p && in_shape second p)) →
    IsBothAt first second (in_shape shape)
common_kept first second shape found common p small = common p (and_parts _ _ small).0

pub common_lost : (first second shape : Shape) (found : Option OwnedPair) → ((p : NodeRow) → is_pair p ≡ true → in_shape shape p ≡ (in_shape first p && in_shape second p)) →
    IsFoundPair (λ p. is_small p && in_shape shape p) found → is_some found ≡ false → IsBothAt first second (λ p. false)
common_lost first second shape (Some own) common h none p small = absurd (true≢false none)
common_lost first second shape None common h none p small =
    let parts = and_parts (is_pair p) (is_small p) small in
    sym (h p parts.0) ∙ ap (λ t. t && in_shape shape p) parts.1 ∙ common p parts.0
