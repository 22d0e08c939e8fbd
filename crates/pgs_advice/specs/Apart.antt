-- Of the subtypes of what a key names those that are apart from it: something fits such a subtype, and nothing that does fits the type
-- that the key names. So the key doesn't speak of it.
use Rattle.std.specs.Prelude.{List, [], ◌∷◌}
use Rattle.pgs_syntax.specs.declared.key.Key.{Key}
use Rattle.pgs_syntax.specs.declared.resolved.Resolved.{Resolved}
use Rattle.pgs_standing.specs.Apart.{IsApart, IsNotApart}
use Rattle.pgs_advice.specs.declared.subtypes.Subtype.{Subtype}
use Rattle.pgs_advice.specs.Subtypes.{key_subtypes}

-- of subtypes those that are apart, in their order
pub data AreThoseApart (resolved : Resolved) : (all found : List Subtype) → Type 0 where
  none : AreThoseApart resolved [] []
  found_apart : (type : Subtype) (all found : List Subtype) → IsApart resolved type.base type.own → AreThoseApart resolved all found
      → AreThoseApart resolved (type ∷ all) (type ∷ found)
  left_out : (type : Subtype) (all found : List Subtype) → IsNotApart resolved type.base type.own → AreThoseApart resolved all found
      → AreThoseApart resolved (type ∷ all) found

-- of each of some keys the subtypes that are apart
abbrev pub AreApartOf : Resolved → List Key → List (List Subtype) → Type 0
AreApartOf resolved [] [] = Unit {0}
AreApartOf resolved [] (found ∷ all) = ⊥
AreApartOf resolved (key ∷ keys) [] = ⊥
AreApartOf resolved (key ∷ keys) (found ∷ all) = AreThoseApart resolved (key_subtypes resolved key) found × AreApartOf resolved keys all
