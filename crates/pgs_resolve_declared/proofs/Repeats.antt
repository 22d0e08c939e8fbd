-- Names that stand before, an item at a time.
use Rattle.std.proofs.Common.{◌≡◌, ℕ, ◌+◌, ◌<◌, Bool, true, false, cond, List, [], ◌∷◌, ◌++◌, ◌||◌, length, take, drop, map, get_or, Some, refl, sym, ◌∙◌, ap}
use denote.Bor.{Bor}
use Rattle.std.specs.List.{list_any, slice_get, filter_map, flat_map}
use Rattle.std.proofs.lemmas.List.{append-nil, append_assoc, take-append-drop, map-append}
use Rattle.std.proofs.lemmas.List.Concat.{flat_map-append}
use Rattle.pgs_syntax.specs.declared.specification.Property.{Property}
use Rattle.pgs_syntax.specs.declared.specification.Spec.{Spec}
use Rattle.pgs_base.specs.Pair.{same_name, has_name}
use Rattle.pgs_resolve_declared.specs.declared.duplicates.Mark.{Mark}
use Rattle.pgs_resolve_declared.specs.declared.duplicates.Mark.TheVariants.{Element, Graph, Again}
use Rattle.pgs_resolve_declared.specs.Declarations.{keys_in}
use Rattle.pgs_resolve_declared.specs.Refused.{repeated_after, element_in, graph_in, marked, is_after, is_second, seconds_after}
use Rattle.pgs_resolve_declared.proofs.Walks.{one_more}

in_any_order : (a b c : Bool) → (a || (b || c)) ≡ ((b || a) || c)
in_any_order true true c = refl
in_any_order true false c = refl
in_any_order false true c = refl
in_any_order false false c = refl

pub repeated_push : (earlier xs : List (List ℕ)) (y : List ℕ) →
    repeated_after earlier (xs ++ y ∷ []) ≡ repeated_after earlier xs ++ cond (has_name y xs || has_name y earlier) (y ∷ []) []
repeated_push earlier [] y = append-nil _
repeated_push earlier (x ∷ xs) y =
    let here : List (List ℕ) = cond (has_name x earlier) (x ∷ []) [] in
    ap (λ ys. here ++ ys) (repeated_push (x ∷ earlier) xs y) ∙ sym (append_assoc here _ _)
    ∙ ap (λ b. (here ++ repeated_after (x ∷ earlier) xs) ++ cond b (y ∷ []) [])
    (in_any_order (has_name y xs) (same_name y x) (has_name y earlier))

or_nothing : (b : Bool) → (b || false) ≡ b
or_nothing true = refl
or_nothing false = refl

pub repeated_next : (xs : List (List ℕ)) (y : List ℕ) →
    repeated_after [] (xs ++ y ∷ []) ≡ repeated_after [] xs ++ cond (has_name y xs) (y ∷ []) []
repeated_next xs y = repeated_push [] xs y ∙ ap (λ b. repeated_after [] xs ++ cond b (y ∷ []) []) (or_nothing (has_name y xs))

marked_again : (b : Bool) (y : List ℕ) → map Again (cond b (y ∷ []) []) ≡ cond b (Again y ∷ []) []
marked_again true y = refl
marked_again false y = refl

abbrev key_of : Property → List ℕ
key_of property = property.key

-- a walk over properties
pub more_repeated : (old mid new : List Mark) (properties : List Property) (i : ℕ) (x : Property) (keys : List (List ℕ)) →
    i < length properties → x ≡ get_or properties i x → keys ≡ map key_of (take i properties) →
    mid ≡ old ++ map Again (repeated_after [] (map key_of (take i properties))) → new ≡ mid ++ cond (has_name x.key keys) (Again x.key ∷ []) [] →
    new ≡ old ++ map Again (repeated_after [] (map key_of (take (i + 1) properties)))
more_repeated old mid new properties i x keys lt is these before after =
    let known : List (List ℕ) = map key_of (take i properties) in
    let next : map key_of (take (i + 1) properties) ≡ known ++ x.key ∷ [] =
    ap (map key_of) (one_more properties i x lt is) ∙ map-append key_of (take i properties) (x ∷ []) in
    after ∙ ap (λ ks. mid ++ cond (has_name x.key ks) (Again x.key ∷ []) []) these
    ∙ ap (λ ms. ms ++ cond (has_name x.key known) (Again x.key ∷ []) []) before ∙ append_assoc old _ _
    ∙ ap (λ ms. old ++ ms)
    (ap (λ ms. map Again (repeated_after [] known) ++ ms) (sym (marked_again (has_name x.key known) x.key))
    ∙ sym (map-append Again (repeated_after [] known) (cond (has_name x.key known) (x.key ∷ []) []))
    ∙ ap (map Again) (sym (repeated_next known x.key) ∙ ap (repeated_after []) (sym next)))

-- ---- marks

second_in_any_order : (y x : Mark) (xs earlier : List Mark) → (is_second xs y || is_second (x ∷ earlier) y) ≡ (is_second (x ∷ xs) y || is_second earlier y)
second_in_any_order (Element name) x xs earlier = in_any_order (list_any (is_after (Element name)) xs) (is_after (Element name) x) _
second_in_any_order (Graph name) x xs earlier = in_any_order (list_any (is_after (Graph name)) xs) (is_after (Graph name) x) _
second_in_any_order (Again name) x xs earlier = refl

second_of_none : (y : Mark) (earlier : List Mark) → is_second earlier y ≡ (is_second [] y || is_second earlier y)
second_of_none (Element name) earlier = refl
second_of_none (Graph name) earlier = refl
second_of_none (Again name) earlier = refl

seconds_push : (earlier xs : List Mark) (y : Mark) →
    seconds_after earlier (xs ++ y ∷ []) ≡ seconds_after earlier xs ++ cond (is_second xs y || is_second earlier y) (marked y ∷ []) []
seconds_push earlier [] y = append-nil _ ∙ ap (λ b. cond b (marked y ∷ []) []) (second_of_none y earlier)
seconds_push earlier (x ∷ xs) y =
    let here : List (List ℕ) = cond (is_second earlier x) (marked x ∷ []) [] in
    ap (λ ys. here ++ ys) (seconds_push (x ∷ earlier) xs y) ∙ sym (append_assoc here _ _)
    ∙ ap (λ b. (here ++ seconds_after (x ∷ earlier) xs) ++ cond b (marked y ∷ []) []) (second_in_any_order y x xs earlier)

pub seconds_next : (xs : List Mark) (y : Mark) → seconds_after [] (xs ++ y ∷ []) ≡ seconds_after [] xs ++ cond (is_second xs y) (marked y ∷ []) []
seconds_next xs y = seconds_push [] xs y ∙ ap (λ b. seconds_after [] xs ++ cond b (marked y ∷ []) []) (by y)
  where
    by : (y : Mark) → (is_second xs y || is_second [] y) ≡ is_second xs y
    by (Element name) = or_nothing _
    by (Graph name) = or_nothing _
    by (Again name) = refl

front_stays : (earlier xs ys : List Mark) (n : List ℕ) → Some n ≡ slice_get (seconds_after earlier xs) 0 → Some n ≡ slice_get (seconds_after earlier (xs ++ ys)) 0
front_stays earlier [] ys n e = cc
front_stays earlier (x ∷ xs) ys n e = by (is_second earlier x) (front_stays (x ∷ earlier) xs ys n) e
  where
    by : (b : Bool) → (Some n ≡ slice_get (seconds_after (x ∷ earlier) xs) 0 → Some n ≡ slice_get (seconds_after (x ∷ earlier) (xs ++ ys)) 0) →
        Some n ≡ slice_get (cond b (marked x ∷ []) [] ++ seconds_after (x ∷ earlier) xs) 0 →
        Some n ≡ slice_get (cond b (marked x ∷ []) [] ++ seconds_after (x ∷ earlier) (xs ++ ys)) 0
    by true rest h = h
    by false rest h = rest h

-- a walk over marks
pub no_second : (xs : List Mark) (i : ℕ) (x : Mark) → i < length xs → x ≡ get_or xs i x → seconds_after [] (take i xs) ≡ [] →
    is_second (take i xs) x ≡ false → seconds_after [] (take (i + 1) xs) ≡ []
no_second xs i x lt is none first =
    ap (seconds_after []) (one_more xs i x lt is) ∙ seconds_next (take i xs) x
    ∙ ap (λ ys. ys ++ cond (is_second (take i xs) x) (marked x ∷ []) []) none ∙ ap (λ b. cond b (marked x ∷ []) []) first

pub second_at : (xs : List Mark) (i : ℕ) (x : Mark) → i < length xs → x ≡ get_or xs i x → seconds_after [] (take i xs) ≡ [] →
    is_second (take i xs) x ≡ true → Some (marked x) ≡ slice_get (seconds_after [] xs) 0
second_at xs i x lt is none second =
    let here : seconds_after [] (take (i + 1) xs) ≡ marked x ∷ [] =
    ap (seconds_after []) (one_more xs i x lt is) ∙ seconds_next (take i xs) x
    ∙ ap (λ ys. ys ++ cond (is_second (take i xs) x) (marked x ∷ []) []) none ∙ ap (λ b. cond b (marked x ∷ []) []) second in
    front_stays [] (take (i + 1) xs) (drop (i + 1) xs) (marked x) (sym (ap (λ ys. slice_get ys 0) here))
    ∙ ap (λ ys. slice_get (seconds_after [] ys) 0) (take-append-drop (i + 1) xs)

-- what is among the element types, and the graph types, that are marked
pub elements_marked : (name : List ℕ) (xs : List Mark) → has_name name (filter_map element_in xs) ≡ is_second xs (Element name)
elements_marked name [] = refl
elements_marked name (Element other ∷ xs) = ap (λ b. same_name name other || b) (elements_marked name xs)
elements_marked name (Graph other ∷ xs) = elements_marked name xs
elements_marked name (Again other ∷ xs) = elements_marked name xs

pub graphs_marked : (name : List ℕ) (xs : List Mark) → has_name name (filter_map graph_in xs) ≡ is_second xs (Graph name)
graphs_marked name [] = refl
graphs_marked name (Element other ∷ xs) = graphs_marked name xs
graphs_marked name (Graph other ∷ xs) = ap (λ b. same_name name other || b) (graphs_marked name xs)
graphs_marked name (Again other ∷ xs) = graphs_marked name xs

-- the marks of the pieces of a specification
abbrev pub marks_of_piece : Bor (Spec (List ℕ)) → List Mark
marks_of_piece piece = map Again (flat_map (repeated_after []) (keys_in piece.now))

pub marks_of_pieces : (pieces : List (Bor (Spec (List ℕ)))) →
    flat_map marks_of_piece pieces ≡ map Again (flat_map (repeated_after []) (flat_map keys_in (map (λ piece. piece.now) pieces)))
marks_of_pieces [] = refl
marks_of_pieces (piece ∷ pieces) =
    let keys : List (List (List ℕ)) = flat_map keys_in (map (λ piece. piece.now) pieces) in
    ap (λ ms. marks_of_piece piece ++ ms) (marks_of_pieces pieces)
    ∙ sym (ap (map Again) (flat_map-append (repeated_after []) (keys_in piece.now) keys)
    ∙ map-append Again (flat_map (repeated_after []) (keys_in piece.now)) (flat_map (repeated_after []) keys))
