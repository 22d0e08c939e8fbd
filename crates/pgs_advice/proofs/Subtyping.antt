-- Subtypes of what a key names, one more at a time; and that all types among them are there.
use Rattle.std.proofs.Common.{◌≡◌, ℕ, ◌+◌, ◌<◌, Bool, true, false, ◌&&◌, List, [], ◌∷◌, ◌++◌, length, map, take, get_or, slice_get, Option, Some, None, refl, sym, ap, ap₂, ◌∙◌, true≢false, append_assoc, subst}
use Rattle.std.specs.Prelude.{filter, not, if◌then◌else◌}
use Rattle.std.specs.List.{list_all, flat_map, fold}
use Rattle.std.specs.Option.{option_map_or}
use Rattle.std.proofs.lemmas.Bool.{and_parts, and_from, cond-true, cond-false, or_left, or_right, lt-ltb, true_from_ne_false}
use Rattle.std.proofs.lemmas.List.{append-nil, map-append, flat_map_more}
use Rattle.std.proofs.lemmas.List.Elements.{filter-append, All-nil, All-push, All-get_or}
use Rattle.std.proofs.lemmas.List.Folds.{list_all-append, list_all_at}
use Rattle.std.proofs.lemmas.List.Sums.{fold-append}
use Rattle.std.proofs.lemmas.Option.{slice_get_within}
use Rattle.pgs_syntax.specs.declared.element_type.NodeType.{NodeType}
use Rattle.pgs_syntax.specs.declared.element_type.EdgeType.{EdgeType}
use Rattle.pgs_syntax.specs.declared.key.Key.{Key}
use Rattle.pgs_syntax.specs.declared.resolved.Resolved.{Resolved}
use Rattle.pgs_syntax.specs.declared.resolved.TypeNo.{TypeNo}
use Rattle.pgs_syntax.specs.declared.resolved.TypeNo.TheVariants.{Node, Edge}
use Rattle.pgs_syntax.specs.declared.specification.Leaf.{Leaf}
use Rattle.pgs_syntax.specs.Valid.{is_type, is_valid_key_of}
use Rattle.pgs_resolve_declared.proofs.Walks.{one_more}
use Rattle.pgs_advice.specs.declared.subtypes.Naming.{Naming}
use Rattle.pgs_advice.specs.declared.subtypes.Subtype.{Subtype}
use Rattle.pgs_advice.specs.Subtypes.{is_one_kind, is_shown, is_subtype, shown_types, of_base, subtypes_among, subtypes_of, with_type, bases_of, key_subtypes, own_type, IsNaming, AreNamings}
use Rattle.pgs_advice.specs.Used.{is_among, is_marked, named_by_key}
use Rattle.pgs_advice.proofs.Using.{same_self}
use Rattle.pgs_advice.proofs.ValidTypes.{in_key}

-- ---- one more that may be kept

-- the first so many of a list, and one more
abbrev IsMore : {X : Type 0} → List X → ℕ → X → Type 0
IsMore xs i x = take (i + 1) xs ≡ take i xs ++ x ∷ []

module _ {X : Type 0} (test : X → Bool) where
  one_last : (xs : List X) (i : ℕ) (x : X) → IsMore xs i x → filter test (take (i + 1) xs) ≡ filter test (take i xs) ++ filter test (x ∷ [])
  one_last xs i x more = ap (filter test) more ∙ filter-append test (take i xs) (x ∷ [])

  one_kept : (xs : List X) (i : ℕ) (x : X) → IsMore xs i x → test x ≡ true → filter test (take (i + 1) xs) ≡ filter test (take i xs) ++ x ∷ []
  one_kept xs i x more h = one_last xs i x more ∙ ap (λ ys. filter test (take i xs) ++ ys) (cond-true (test x) (x ∷ []) [] h)

  one_left_out : (xs : List X) (i : ℕ) (x : X) → IsMore xs i x → test x ≡ false → filter test (take (i + 1) xs) ≡ filter test (take i xs)
  one_left_out xs i x more h =
      one_last xs i x more ∙ ap (λ ys. filter test (take i xs) ++ ys) (cond-false (test x) (x ∷ []) [] h) ∙ append-nil (filter test (take i xs))

-- one that is among those that pass a test, and what each gives
pub one_passes : {X : Type 0} (test : X → Bool) (xs : List X) (i : ℕ) (d : X) → i < length xs → list_all test xs ≡ true → test (get_or xs i d) ≡ true
one_passes test xs i d lt all = true_from_ne_false (test (get_or xs i d)) (λ fails. true≢false (sym all ∙ list_all_at test xs i d lt fails))

pub flat_more : {X A : Type 0} (f : X → List A) (xs : List X) (i : ℕ) (x : X) (mid new : List A) → take (i + 1) xs ≡ take i xs ++ x ∷ [] → mid ≡ flat_map f (take i xs) → new ≡ mid ++ f x →
    new ≡ flat_map f (take (i + 1) xs)
flat_more f xs i x mid new more before after = after ∙ ap (λ ys. ys ++ f x) before ∙ flat_map_more f [] (take i xs) x ∙ ap (flat_map f) (sym more)

-- ---- types, each once

module _ (types bases : List TypeNo) (i : ℕ) (type : TypeNo) (more : IsMore types i type) (before : bases ≡ fold with_type [] (take i types)) where
  with_more : with_type bases type ≡ fold with_type [] (take (i + 1) types)
  with_more = ap (λ ts. with_type ts type) before ∙ sym (fold-append with_type [] (take i types) (type ∷ [])) ∙ ap (fold with_type []) (sym more)

  pub base_more : is_among type bases ≡ false → bases ++ type ∷ [] ≡ fold with_type [] (take (i + 1) types)
  base_more new = sym (cond-false (is_among type bases) bases (bases ++ type ∷ []) new) ∙ with_more

  pub no_base_more : is_among type bases ≡ true → bases ≡ fold with_type [] (take (i + 1) types)
  no_base_more old = sym (cond-true (is_among type bases) bases (bases ++ type ∷ []) old) ∙ with_more

module _ (resolved : Resolved) where
  -- ---- types with marks

  pub no_namings : AreNamings resolved [] []
  no_namings = record { numbers = refl; marks = All-nil (IsNaming resolved) }

  pub naming_more : (types : List TypeNo) (i : ℕ) (type : TypeNo) (namings : List Naming) (naming : Naming) → IsMore types i type →
      is_shown resolved type ≡ true → AreNamings resolved (filter (is_shown resolved) (take i types)) namings → naming.number ≡ type → IsNaming resolved naming →
      AreNamings resolved (filter (is_shown resolved) (take (i + 1) types)) (namings ++ naming ∷ [])
  naming_more types i type namings naming more shown before same marks = record {
    numbers = map-append own_type namings (naming ∷ []) ∙ ap₂ (λ (xs : List TypeNo) (t : TypeNo). xs ++ t ∷ []) before.numbers same
        ∙ sym (one_kept (is_shown resolved) types i type more shown);
    marks = All-push (IsNaming resolved) namings naming before.marks marks;
  }

  pub naming_left_out : (types : List TypeNo) (i : ℕ) (type : TypeNo) (namings : List Naming) → IsMore types i type →
      is_shown resolved type ≡ false → AreNamings resolved (filter (is_shown resolved) (take i types)) namings → AreNamings resolved (filter (is_shown resolved) (take (i + 1) types)) namings
  naming_left_out types i type namings more hidden before = record {
    numbers = before.numbers ∙ sym (one_left_out (is_shown resolved) types i type more hidden);
    marks = before.marks;
  }

  -- ---- the subtypes of a base

  module _ (base : TypeNo) (namings : List Naming) (are : AreNamings resolved (shown_types resolved) namings) (i : ℕ) (naming : Naming)
      (lt : i < length namings) (is : naming ≡ get_or namings i naming) where
    -- what it names is marked
    pub marked : IsNaming resolved naming
    marked = subst (IsNaming resolved) (sym is) (All-get_or (IsNaming resolved) namings i naming lt are.marks)

    -- the numbers of one more
    numbers_more : map own_type (take (i + 1) namings) ≡ map own_type (take i namings) ++ naming.number ∷ []
    numbers_more = ap (map own_type) (one_more namings i naming lt is) ∙ map-append own_type (take i namings) (naming ∷ [])

    among_more : subtypes_among resolved base (map own_type (take (i + 1) namings))
        ≡ subtypes_among resolved base (map own_type (take i namings)) ++ subtypes_among resolved base (naming.number ∷ [])
    among_more =
        ap (subtypes_among resolved base) numbers_more
        ∙ ap (map (of_base base)) (filter-append (is_subtype resolved base) (map own_type (take i namings)) (naming.number ∷ []))
        ∙ map-append (of_base base) (filter (is_subtype resolved base) (map own_type (take i namings))) (filter (is_subtype resolved base) (naming.number ∷ []))

    pub subtype_more : (old mid new : List Subtype) → is_subtype resolved base naming.number ≡ true → mid ≡ old ++ subtypes_among resolved base (map own_type (take i namings)) →
        new ≡ mid ++ of_base base naming.number ∷ [] → new ≡ old ++ subtypes_among resolved base (map own_type (take (i + 1) namings))
    subtype_more old mid new is_one before after =
        after ∙ ap (λ ts. ts ++ of_base base naming.number ∷ []) before ∙ append_assoc old (subtypes_among resolved base (map own_type (take i namings))) (of_base base naming.number ∷ [])
        ∙ ap (λ ts. old ++ (subtypes_among resolved base (map own_type (take i namings)) ++ ts)) (sym (ap (map (of_base base)) (cond-true (is_subtype resolved base naming.number) (naming.number ∷ []) [] is_one)))
        ∙ ap (λ ts. old ++ ts) (sym among_more)

    pub no_subtype_more : (old mid : List Subtype) → is_subtype resolved base naming.number ≡ false → mid ≡ old ++ subtypes_among resolved base (map own_type (take i namings)) →
        mid ≡ old ++ subtypes_among resolved base (map own_type (take (i + 1) namings))
    no_subtype_more old mid is_none before =
        before
        ∙ ap (λ ts. old ++ ts) (sym (append-nil (subtypes_among resolved base (map own_type (take i namings))))
        ∙ ap (λ ts. subtypes_among resolved base (map own_type (take i namings)) ++ ts) (sym (ap (map (of_base base)) (cond-false (is_subtype resolved base naming.number) (naming.number ∷ []) [] is_none)))
        ∙ sym among_more)

  -- ---- all types are there

  all_from : (types : List TypeNo) → ((t : TypeNo) → is_among t types ≡ true → is_type resolved t ≡ true) → list_all (is_type resolved) types ≡ true
  all_from [] h = refl
  all_from (type ∷ types) h = and_from _ _ (h type (or_left _ _ (same_self type))) (all_from types (λ t there. h t (or_right _ _ there)))

  all_with : (types bases : List TypeNo) → list_all (is_type resolved) bases ≡ true → list_all (is_type resolved) types ≡ true → list_all (is_type resolved) (fold with_type bases types) ≡ true
  all_with [] bases all more = all
  all_with (type ∷ types) bases all more = all_with types (with_type bases type) (by (is_among type bases)) (and_parts _ _ more).1
    where
      by : (b : Bool) → list_all (is_type resolved) (if b then bases else bases ++ type ∷ []) ≡ true
      by true = all
      by false = list_all-append (is_type resolved) bases (type ∷ []) ∙ and_from _ _ all (and_from _ _ (and_parts _ _ more).0 refl)

  pub bases_there : (key : Key) → is_valid_key_of resolved key ≡ true → list_all (is_type resolved) (bases_of key) ≡ true
  bases_there key valid = all_with (named_by_key key) [] refl (all_from (named_by_key key) (in_key resolved key valid))

  abbrev pub both_there : Subtype → Bool
  both_there type = is_type resolved type.base && is_type resolved type.own

  shown_there : (type : TypeNo) → is_shown resolved type ≡ true → is_type resolved type ≡ true
  shown_there (Node number) h = by (slice_get resolved.nodes number) refl h
    where
      by : (o : Option (NodeType Leaf)) → slice_get resolved.nodes number ≡ o → option_map_or (λ (type : NodeType Leaf). not type.hidden) o false ≡ true → is_type resolved (Node number) ≡ true
      by None at h = absurd (true≢false (sym h))
      by (Some type) at h = lt-ltb number (length resolved.nodes) (slice_get_within resolved.nodes number type at)
  shown_there (Edge number) h = by (slice_get resolved.edges number) refl h
    where
      by : (o : Option (EdgeType Leaf)) → slice_get resolved.edges number ≡ o → option_map_or (λ (type : EdgeType Leaf). not type.hidden) o false ≡ true → is_type resolved (Edge number) ≡ true
      by None at h = absurd (true≢false (sym h))
      by (Some type) at h = lt-ltb number (length resolved.edges) (slice_get_within resolved.edges number type at)

  of_base_there : (base : TypeNo) (types : List TypeNo) → is_type resolved base ≡ true → list_all (is_type resolved) types ≡ true → list_all both_there (subtypes_among resolved base types) ≡ true
  of_base_there base [] there all = refl
  of_base_there base (type ∷ types) there all = by (is_subtype resolved base type) (of_base_there base types there (and_parts _ _ all).1)
    where
      by : (b : Bool) → list_all both_there (subtypes_among resolved base types) ≡ true →
          list_all both_there (map (of_base base) (if b then type ∷ filter (is_subtype resolved base) types else filter (is_subtype resolved base) types)) ≡ true
      by true later = and_from _ _ (and_from _ _ there (and_parts _ _ all).0) later
      by false later = later

  all_shown : (types : List TypeNo) → list_all (is_type resolved) (filter (is_shown resolved) types) ≡ true
  all_shown [] = refl
  all_shown (type ∷ types) = by (is_shown resolved type) refl (all_shown types)
    where
      by : (b : Bool) → is_shown resolved type ≡ b → list_all (is_type resolved) (filter (is_shown resolved) types) ≡ true →
          list_all (is_type resolved) (if b then type ∷ filter (is_shown resolved) types else filter (is_shown resolved) types) ≡ true
      by true shown later = and_from _ _ (shown_there type shown) later
      by false hidden later = later

  all_subtypes : (bases : List TypeNo) → list_all (is_type resolved) bases ≡ true → list_all both_there (flat_map (subtypes_of resolved) bases) ≡ true
  all_subtypes [] all = refl
  all_subtypes (base ∷ bases) all =
      list_all-append both_there (subtypes_of resolved base) (flat_map (subtypes_of resolved) bases)
      ∙ and_from _ _ (of_base_there base (shown_types resolved) (and_parts _ _ all).0 (all_shown resolved.guard.types)) (all_subtypes bases (and_parts _ _ all).1)

  pub subtypes_there : (key : Key) → is_valid_key_of resolved key ≡ true → list_all both_there (key_subtypes resolved key) ≡ true
  subtypes_there key valid = all_subtypes (bases_of key) (bases_there key valid)
