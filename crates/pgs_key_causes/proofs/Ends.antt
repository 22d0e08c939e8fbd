-- Causes at the places of the code where they come to be known.
use Rattle.std.proofs.Common.{◌≡◌, ℕ, zero, suc, Bool, true, List, [], ◌∷◌, map, Option, Some, None, refl, sym, ◌∙◌, ap, subst}
use Rattle.std.specs.List.{list_all, slice_get}
use Rattle.std.specs.Option.{option_map, option_and_then, option_map_or}
use Rattle.std.proofs.lemmas.Bool.{and_parts}
use Rattle.std.proofs.lemmas.Option.{slice_get-map}
use denote.Bor.{Bor}
use Rattle.pgs_base.specs.declared.element.Elem.{Elem}
use Rattle.pgs_base.specs.Graph.{Graph}
use Rattle.pgs_syntax.specs.declared.key.Key.{Key}
use Rattle.pgs_syntax.specs.declared.key.Qualifiers.{Qualifiers}
use Rattle.pgs_syntax.specs.declared.raw.RawKey.{RawKey}
use Rattle.pgs_syntax.specs.declared.resolved.Resolved.{Resolved}
use Rattle.pgs_syntax.specs.Valid.{is_valid, is_valid_key_of}
use Rattle.pgs_resolve_declared.specs.declared.order.Numbering.{Numbering}
use Rattle.pgs_resolve_keys.specs.Patterns.{x_of, places_of, named_in, resolved_key}
use Rattle.pgs_schema_places.specs.declared.parts.PartTexts.{PartTexts}
use Rattle.pgs_pattern_end.specs.declared.front.Front.{Front}
use Rattle.pgs_pattern_end.specs.declared.front.PatternEnd.{PatternEnd}
use Rattle.pgs_pattern_end.specs.End.{is_front_of, is_placed, is_defined, least_before, IsEnd}
use Rattle.pgs_key_causes.specs.declared.guide.KeyGuide.{KeyGuide}
use Rattle.pgs_key_causes.specs.declared.walk.Visit.{Visit}
use Rattle.pgs_key_causes.specs.Causes.{written_keys, GuidesTo, place_end_texts, expr_end_texts, AreExprTexts, AreEndTexts, AreEndsFrom, key_place, AreEndsOf, AreEnds}
use Rattle.pgs_key_causes.specs.Fronts.{Descriptor, descriptor_of, fronts_of, place_fronts, expr_fronts, has_valid_keys}
use Rattle.pgs_key_causes.specs.Walk.{walk}
use Rattle.pgs_key_causes.proofs.ValidFronts.{places_valid, have_valid_keys}

-- what was made of a written key: its descriptor, its qualifiers and the visits of the walk
pub record AreMade (numbering : Numbering) (key : RawKey) (descriptor : Descriptor) (qualifiers : Qualifiers) (visits : List Visit) : Type 0 where
  pub descriptor_is : descriptor ≡ descriptor_of numbering key
  pub qualifiers_is : qualifiers ≡ key.qualifiers
  pub visits_is : visits ≡ walk descriptor.occurrences

module _ (numbering : Numbering) (key : RawKey) (descriptor : Descriptor) (qualifiers : Qualifiers) (visits : List Visit)
    (made : AreMade numbering key descriptor qualifiers visits) where
  pub same_parts : fronts_of numbering descriptor qualifiers visits ≡ place_fronts numbering (descriptor_of numbering key) key.qualifiers
  same_parts =
      ap (fronts_of numbering descriptor qualifiers) made.visits_is
      ∙ ap (λ (d : Descriptor). place_fronts numbering d qualifiers) made.descriptor_is
      ∙ ap (place_fronts numbering (descriptor_of numbering key)) made.qualifiers_is

  pub parts_of_schema : (schema : Resolved) (lent fronts : List Front) → lent ≡ fronts → fronts ≡ fronts_of numbering descriptor qualifiers visits →
      is_valid_key_of schema (resolved_key numbering key) ≡ true → list_all (is_front_of schema) lent ≡ true
  parts_of_schema schema lent fronts same is valid = ap (list_all (is_front_of schema)) (same ∙ is ∙ same_parts) ∙ places_valid schema numbering key valid

  pub parts_valid : (schema : Resolved) → is_valid_key_of schema (resolved_key numbering key) ≡ true →
      list_all has_valid_keys (fronts_of numbering descriptor qualifiers visits) ≡ true
  parts_valid schema valid = have_valid_keys schema (fronts_of numbering descriptor qualifiers visits) (parts_of_schema schema _ _ refl refl valid)

  -- where the places end, and where they don't
  module _ (schema : Resolved) (g : Graph) (elem : Elem) (parts : PartTexts) (lent fronts : List Front) (same : lent ≡ fronts)
      (is : fronts ≡ fronts_of numbering descriptor qualifiers visits) (texts : List (List ℕ)) where
    pub at_place : (end : PatternEnd) → IsEnd (is_placed schema g elem) (least_before schema g elem) lent (Some end) →
        texts ≡ place_end_texts parts.places descriptor end → AreEndTexts schema g elem numbering key parts texts
    at_place end ended told = (
      Some end,
      subst (λ (fronts : List Front). IsEnd (is_placed schema g elem) (least_before schema g elem) fronts (Some end)) (same ∙ is ∙ same_parts) ended,
      told ∙ ap (λ (d : Descriptor). place_end_texts parts.places d end) made.descriptor_is,
    )

    pub behind_places : (resolved : Key) (exprs : List (List ℕ)) → resolved ≡ resolved_key numbering key → exprs ≡ parts.exprs →
        IsEnd (is_placed schema g elem) (least_before schema g elem) lent None → AreExprTexts schema g elem resolved exprs texts →
        AreEndTexts schema g elem numbering key parts texts
    behind_places resolved exprs resolved_is exprs_are ended told = (
      None,
      subst (λ (fronts : List Front). IsEnd (is_placed schema g elem) (least_before schema g elem) fronts None) (same ∙ is ∙ same_parts) ended,
      subst (λ (k : Key). AreExprTexts schema g elem k parts.exprs texts) resolved_is
          (subst (λ (es : List (List ℕ)). AreExprTexts schema g elem resolved es texts) exprs_are told),
    )

-- where the expressions end, and where they don't
pub at_expr : (schema : Resolved) (g : Graph) (elem : Elem) (key : Key) (exprs : List (List ℕ)) (fronts : List Front) → fronts ≡ expr_fronts key →
    (found end : Option PatternEnd) → found ≡ end → IsEnd (is_defined schema g elem) (least_before schema g elem) fronts found →
    (texts : List (List ℕ)) → texts ≡ option_map_or (expr_end_texts exprs) end [] → AreExprTexts schema g elem key exprs texts
at_expr schema g elem key exprs fronts is found end same ended texts told = (
  end,
  subst (λ (o : Option PatternEnd). IsEnd (is_defined schema g elem) (least_before schema g elem) (expr_fronts key) o) same
      (subst (λ (fs : List Front). IsEnd (is_defined schema g elem) (least_before schema g elem) fs found) is ended),
  told,
)

-- ---- the key of a number

all_read : {X Y : Type 0} (p : Y → Bool) (f : X → Y) (xs : List X) (n : ℕ) (x : X) → slice_get xs n ≡ Some x → list_all p (map f xs) ≡ true → p (f x) ≡ true
all_read p f [] n x is h = cc
all_read p f (y ∷ ys) zero x is h =
    let same : y ≡ x = cc in ap (λ z. p (f z)) (sym same) ∙ (and_parts (p (f y)) (list_all p (map f ys)) h).0
all_read p f (y ∷ ys) (suc n) x is h = all_read p f ys n x is (and_parts (p (f y)) (list_all p (map f ys)) h).1

pub guided_valid : (schema : Resolved) (guide : KeyGuide) (place : ℕ) (key : RawKey) → is_valid schema ≡ true → GuidesTo guide schema →
    slice_get (written_keys guide) place ≡ Some key → is_valid_key_of schema (resolved_key guide.numbering key) ≡ true
guided_valid schema guide place key valid guides is =
    all_read (is_valid_key_of schema) (resolved_key guide.numbering) (written_keys guide) place key is
    (ap (list_all (is_valid_key_of schema)) guides ∙ (and_parts _ _ valid).1)

-- what is lent of a guide's keys at a place
pub guided_key : (guide : KeyGuide) (lent : List (Bor RawKey)) (place : ℕ) (found : Option (Bor RawKey)) → lent ≡ guide.keys.items →
    slice_get lent place ≡ found → slice_get (written_keys guide) place ≡ option_map (λ (key : Bor RawKey). key.now) found
guided_key guide lent place found are is =
    slice_get-map (λ (key : Bor RawKey). key.now) guide.keys.items place
    ∙ ap (option_map (λ (key : Bor RawKey). key.now)) (ap (λ (keys : List (Bor RawKey)). slice_get keys place) (sym are) ∙ is)

-- x, as it is found
pub x_found : (key : RawKey) (names : List (List ℕ)) (first : Option (List ℕ)) → names ≡ named_in (places_of key.scope) → first ≡ slice_get names 0 →
    x_of key ≡ first
x_found key names first names_are first_is = sym (first_is ∙ ap (λ (ns : List (List ℕ)). slice_get ns 0) names_are)

module _ (schema : Resolved) (g : Graph) (elem : Elem) (texts : List (List ℕ)) where
  pub from_x : (numbering : Numbering) (key : RawKey) (parts : PartTexts) (x : List ℕ) → x_of key ≡ Some x → AreEndTexts schema g elem numbering key parts texts →
      AreEndsFrom schema g numbering elem (x_of key) key parts texts
  from_x numbering key parts x is told = subst (λ (o : Option (List ℕ)). AreEndsFrom schema g numbering elem o key parts texts) (sym is) told

  pub without_x : (numbering : Numbering) (key : RawKey) (parts : PartTexts) → x_of key ≡ None → texts ≡ [] →
      AreEndsFrom schema g numbering elem (x_of key) key parts texts
  without_x numbering key parts is told = subst (λ (o : Option (List ℕ)). AreEndsFrom schema g numbering elem o key parts texts) (sym is) told

  module _ (guide : KeyGuide) (n : ℕ) where
    -- the ends, by what the guide has of the number
    ends_by : (key : Option RawKey) (parts : Option PartTexts) → option_and_then (slice_get (written_keys guide)) (key_place n) ≡ key →
        option_and_then (slice_get guide.parts) (key_place n) ≡ parts → AreEndsOf schema g guide elem key parts texts → AreEnds schema g guide n elem texts
    ends_by key parts key_is parts_is told =
        subst (λ (o : Option RawKey). AreEndsOf schema g guide elem o (option_and_then (slice_get guide.parts) (key_place n)) texts) (sym key_is)
        (subst (λ (o : Option PartTexts). AreEndsOf schema g guide elem key o texts) (sym parts_is) told)

    pub of_number : (place : ℕ) (key : RawKey) (parts : PartTexts) → key_place n ≡ Some place → slice_get (written_keys guide) place ≡ Some key →
        slice_get guide.parts place ≡ Some parts → AreEndsFrom schema g guide.numbering elem (x_of key) key parts texts → AreEnds schema g guide n elem texts
    of_number place key parts number key_is parts_is told =
        ends_by (Some key) (Some parts) (ap (option_and_then (slice_get (written_keys guide))) number ∙ key_is)
        (ap (option_and_then (slice_get guide.parts)) number ∙ parts_is) told

    pub no_number : key_place n ≡ None → texts ≡ [] → AreEnds schema g guide n elem texts
    no_number number told =
        ends_by None None (ap (option_and_then (slice_get (written_keys guide))) number) (ap (option_and_then (slice_get guide.parts)) number) told

    pub no_key : (place : ℕ) → key_place n ≡ Some place → slice_get (written_keys guide) place ≡ None → texts ≡ [] → AreEnds schema g guide n elem texts
    no_key place number none told =
        ends_by None (option_and_then (slice_get guide.parts) (key_place n)) (ap (option_and_then (slice_get (written_keys guide))) number ∙ none) refl told

    pub no_parts : (place : ℕ) (key : RawKey) → key_place n ≡ Some place → slice_get (written_keys guide) place ≡ Some key →
        slice_get guide.parts place ≡ None → texts ≡ [] → AreEnds schema g guide n elem texts
    no_parts place key number key_is none told =
        ends_by (Some key) None (ap (option_and_then (slice_get (written_keys guide))) number ∙ key_is)
        (ap (option_and_then (slice_get guide.parts)) number ∙ none) told
