-- A small shape, and its differences from small pairs.
use Rattle.std.specs.Prelude.{false, List, [], ◌∷◌, codes, refl}
use Rattle.pgs_base.specs.declared.value.Kind.TheVariants as kinds
use Rattle.pgs_conform.specs.declared.shape.Shape.{Shape}
use Rattle.pgs_conform.specs.Samples.{a_number, at_k}
use Rattle.pgs_differences.specs.declared.difference.Difference.{Difference}
use Rattle.pgs_differences.specs.declared.difference.Difference.TheVariants.{LacksLabel, FurtherLabel, LacksKey, OtherKind, FurtherKey}

-- `Person & {k INT}`
abbrev pub person : Shape
person = record { labels = codes "Person" ∷ []; more_labels = false; keys = at_k a_number; more_keys = false; ascending = refl }

-- a mistyped label, and a text in place of the number
abbrev pub mistyped : List Difference
mistyped = LacksLabel (codes "Person") ∷ FurtherLabel (codes "Persno") ∷ OtherKind (codes "k") kinds.Text a_number ∷ []

-- the number at another key
abbrev pub at_other_key : List Difference
at_other_key = LacksKey (codes "k") a_number ∷ FurtherKey (codes "j") ∷ []
