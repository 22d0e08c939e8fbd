-- Specifications resolved: valid where what they name is listed early enough and no braces name a key twice.
use Rattle.std.proofs.Common.{◌≡◌, ℕ, suc, ◌+◌, ◌<◌, Bool, true, false, not, cond, ◌||◌, inl, List, [], ◌∷◌, ◌++◌, length, map, filter, Option, Some, None, refl, ◌∙◌, ap, arith, ltb, length-append}
use Rattle.std.specs.List.{list_all, list_any, flat_map, position_or_len}
use Rattle.std.specs.Option.{option_map_or, is_some}
use Rattle.std.proofs.lemmas.Bool.{and_from, and_parts, both_ways, lt-ltb}
use Rattle.std.proofs.lemmas.List.Quantifiers.{position-Some}
use Rattle.pgs_base.specs.Pair.{same_name, has_name}
use Rattle.pgs_syntax.specs.declared.specification.Leaf.TheVariants.{Label, Named}
use Rattle.pgs_syntax.specs.declared.specification.Property.{Property}
use Rattle.pgs_syntax.specs.declared.specification.Spec as specs
use Rattle.pgs_syntax.specs.declared.specification.Spec.{Spec, Empty, Word, OpenLabels, And', Or', Opt', Row_of-Spec, end_of-Spec, more_of-Spec}
use Rattle.pgs_syntax.specs.Valid.{are_distinct, is_valid_spec, are_valid_specs}
use Rattle.pgs_resolve_declared.specs.declared.duplicates.Mark.TheVariants as marks
use Rattle.pgs_resolve_declared.specs.Declarations.{pieces_of, pieces_of_each, words_of, word_in, braces_of, keys_in}
use Rattle.pgs_resolve_declared.specs.Order.{number_in, resolved_spec, resolved_specs}
use Rattle.pgs_resolve_declared.specs.Refused.{repeated_after, marks_in}
use Rattle.pgs_resolve.proofs.Each.{all_parts}
use Rattle.pgs_resolve.proofs.Fresh.{Fresh, fresh_none, is_single}
use Rattle.pgs_resolve_declared.proofs.Same.{some_place}

abbrev same_key : Property → Property → Bool
same_key a b = same_name a.key b.key

-- names resolved among names, below a bound
module _ (names : List (List ℕ)) (bound : ℕ) where
  -- whether a name in a label position is that of a type below the bound, or a label
  abbrev pub is_below : List ℕ → Bool
  is_below name = option_map_or (λ number. ltb number bound) (number_in names name) true

  abbrev pub is_fine : Spec (List ℕ) → Bool
  is_fine (Word name) = is_below name
  is_fine (specs.Braces braces) = are_distinct same_key braces.properties
  is_fine _ = true

  mutual
    valid_spec : (spec : Spec (List ℕ)) → list_all is_fine (pieces_of spec) ≡ true → is_valid_spec bound (resolved_spec names spec) ≡ true
    valid_spec Empty h = refl
    valid_spec OpenLabels h = refl
    valid_spec (Word name) h = by (number_in names name) (and_parts (is_below name) true h).0
      where
        by : (o : Option ℕ) → option_map_or (λ number. ltb number bound) o true ≡ true → is_valid_spec bound (Word (option_map_or Named o (Label name))) ≡ true
        by None e = refl
        by (Some n) e = e
    valid_spec (specs.Braces braces) h = (and_parts (are_distinct same_key braces.properties) true h).0
    valid_spec (And' n parts) h = valid_specs parts h
    valid_spec (Or' n parts) h = valid_specs parts h
    valid_spec (Opt' n part) h = valid_specs part h

    valid_specs : {n : _} (row : Row_of-Spec (List ℕ) n) → list_all is_fine (pieces_of_each row) ≡ true → are_valid_specs bound (resolved_specs names row) ≡ true
    valid_specs end_of-Spec h = refl
    valid_specs (more_of-Spec part parts) h =
        let both = all_parts is_fine (pieces_of part) (pieces_of_each parts) h in and_from _ _ (valid_spec part both.0) (valid_specs parts both.1)

  -- from the words and the braces
  distinct_from : (before : List (List ℕ)) (properties : List Property) → repeated_after before (map (λ (p : Property). p.key) properties) ≡ [] →
      Fresh before (map (λ (p : Property). p.key) properties)
  distinct_from before [] h = tt
  distinct_from before (p ∷ ps) h = by (has_name p.key before) refl h (λ e. distinct_from (p.key ∷ before) ps e)
    where
      by : (b : Bool) → has_name p.key before ≡ b → cond b (p.key ∷ []) [] ++ repeated_after (p.key ∷ before) (map (λ (q : Property). q.key) ps) ≡ [] →
          (repeated_after (p.key ∷ before) (map (λ (q : Property). q.key) ps) ≡ [] → Fresh (p.key ∷ before) (map (λ (q : Property). q.key) ps)) →
          (has_name p.key before ≡ false) × Fresh (p.key ∷ before) (map (λ (q : Property). q.key) ps)
      by true e h rest = cc
      by false e h rest = (e, rest h)

  any_key : (name : List ℕ) (ps : List Property) → list_any (λ (q : Property). same_name name q.key) ps ≡ has_name name (map (λ (q : Property). q.key) ps)
  any_key name [] = refl
  any_key name (p ∷ ps) = ap (λ b. same_name name p.key || b) (any_key name ps)

  all_distinct : (before : List (List ℕ)) (ps : List Property) → Fresh before (map (λ (q : Property). q.key) ps) → are_distinct same_key ps ≡ true
  all_distinct before [] f = refl
  all_distinct before (p ∷ ps) f =
      and_from _ _ (ap not (any_key p.key ps ∙ fresh_none (p.key ∷ before) (map (λ (q : Property). q.key) ps) p.key (inl refl) f.1))
      (all_distinct (p.key ∷ before) ps f.1)

  none_of_both : {X : Type 0} (xs ys : List X) → xs ++ ys ≡ [] → (xs ≡ []) × (ys ≡ [])
  none_of_both [] ys h = (refl, h)
  none_of_both (x ∷ xs) ys h = cc

  pieces_fine : (pieces : List (Spec (List ℕ))) → list_all is_below (flat_map word_in pieces) ≡ true →
      flat_map (repeated_after []) (flat_map keys_in pieces) ≡ [] → list_all is_fine pieces ≡ true
  pieces_fine [] w k = refl
  pieces_fine (Empty ∷ rest) w k = pieces_fine rest w k
  pieces_fine (OpenLabels ∷ rest) w k = pieces_fine rest w k
  pieces_fine (And' n parts ∷ rest) w k = pieces_fine rest w k
  pieces_fine (Or' n parts ∷ rest) w k = pieces_fine rest w k
  pieces_fine (Opt' n part ∷ rest) w k = pieces_fine rest w k
  pieces_fine (Word name ∷ rest) w k =
      let both = and_parts (is_below name) (list_all is_below (flat_map word_in rest)) w in and_from _ _ both.0 (pieces_fine rest both.1 k)
  pieces_fine (specs.Braces braces ∷ rest) w k =
      let both = none_of_both (repeated_after [] (map (λ (q : Property). q.key) braces.properties)) (flat_map (repeated_after []) (flat_map keys_in rest)) k in
      and_from _ _ (all_distinct [] braces.properties (distinct_from [] braces.properties both.0)) (pieces_fine rest w both.1)

  none_again : (xs : List (List ℕ)) → list_all is_single (map marks.Again xs) ≡ true → xs ≡ []
  none_again [] h = refl
  none_again (x ∷ xs) h = cc

  pub spec_valid : (spec : Spec (List ℕ)) → list_all is_below (words_of spec) ≡ true → list_all is_single (marks_in spec) ≡ true →
      is_valid_spec bound (resolved_spec names spec) ≡ true
  spec_valid spec w single =
      valid_spec spec (pieces_fine (pieces_of spec) w (none_again (flat_map (repeated_after []) (braces_of spec)) single))

-- ---- numbers of names

pub number_within : (names : List (List ℕ)) (name : List ℕ) (n : ℕ) → number_in names name ≡ Some n → n < length names
number_within names name n e = (position-Some (same_name name) names n [] e).0

-- every name is below the number of all
pub all_below : (names : List (List ℕ)) (name : List ℕ) → is_below names (length names) name ≡ true
all_below names name = by (number_in names name) refl
  where
    by : (o : Option ℕ) → number_in names name ≡ o → option_map_or (λ number. ltb number (length names)) o true ≡ true
    by None e = refl
    by (Some n) e = lt-ltb n (length names) (number_within names name n e)

pub each_below : (names : List (List ℕ)) (words : List (List ℕ)) → list_all (is_below names (length names)) words ≡ true
each_below names [] = refl
each_below names (word ∷ words) = and_from _ _ (all_below names word) (each_below names words)

-- a name among the front ones has its number there
front_place : (p : List ℕ → Bool) (front rest : List (List ℕ)) → list_any p front ≡ true → position_or_len p (front ++ rest) < length front
front_place p [] rest h = cc
front_place p (name ∷ front) rest h = by (p name) refl h (λ e. front_place p front rest e)
  where
    by : (b : Bool) → p name ≡ b → (b || list_any p front) ≡ true → (list_any p front ≡ true → position_or_len p (front ++ rest) < length front) →
        cond (not b) (1 + position_or_len p (front ++ rest)) 0 < suc (length front)
    by true e h later = omega arith
    by false e h later = let l = later h in omega (arith, l)

pub front_below : (front rest : List (List ℕ)) (name : List ℕ) → has_name name front ≡ true → is_below (front ++ rest) (length front) name ≡ true
front_below front rest name h =
    let n : ℕ = position_or_len (same_name name) (front ++ rest) in
    let low : n < length front = front_place (same_name name) front rest h in
    let all : ltb n (length (front ++ rest)) ≡ true = lt-ltb n (length (front ++ rest)) (omega (arith, low, length-append front rest)) in
    ap (λ b. option_map_or (λ number. ltb number (length front)) (cond b (Some n) None) true) all ∙ lt-ltb n (length front) low

-- a name that isn't there is a label
label_below : (names : List (List ℕ)) (bound : ℕ) (name : List ℕ) → has_name name names ≡ false → is_below names bound name ≡ true
label_below names bound name h = by (number_in names name) (some_place (same_name name) names ∙ h)
  where
    by : (o : Option ℕ) → is_some o ≡ false → option_map_or (λ number. ltb number bound) o true ≡ true
    by None e = refl
    by (Some n) e = cc

-- words whose types all stand in front
pub words_below : (front rest : List (List ℕ)) (is_type : List ℕ → Bool) → ((name : List ℕ) → has_name name (front ++ rest) ≡ true → is_type name ≡ true) →
    (words : List (List ℕ)) → list_all (λ name. has_name name front) (filter is_type words) ≡ true → list_all (is_below (front ++ rest) (length front)) words ≡ true
words_below front rest is_type known [] h = refl
words_below front rest is_type known (word ∷ words) h =
    by (is_type word) refl h (λ e. words_below front rest is_type known words e)
  where
    Rest : Type 0
    Rest = list_all (λ name. has_name name front) (filter is_type words) ≡ true → list_all (is_below (front ++ rest) (length front)) words ≡ true

    label : (c : Bool) → is_type word ≡ false → has_name word (front ++ rest) ≡ c → is_below (front ++ rest) (length front) word ≡ true
    label true e there = absurd (both_ways (is_type word) e (known word there))
    label false e there = label_below (front ++ rest) (length front) word there

    by : (b : Bool) → is_type word ≡ b → list_all (λ name. has_name name front) (cond b (word ∷ filter is_type words) (filter is_type words)) ≡ true →
        Rest → list_all (is_below (front ++ rest) (length front)) (word ∷ words) ≡ true
    by true e h later =
        let both = and_parts (has_name word front) (list_all (λ name. has_name name front) (filter is_type words)) h in
        and_from _ _ (front_below front rest word both.0) (later both.1)
    by false e h later = and_from _ _ (label (has_name word (front ++ rest)) e refl) (later h)
