-- The parts of a specification that have no parts themselves, in order, and what stands in them.
use Rattle.std.specs.Prelude.{ℕ, Bool, true, false, List, [], ◌∷◌, ◌++◌, Option, Some, None, map}
use Rattle.pgs_syntax.specs.declared.specification.Leaf.{Leaf}
use Rattle.pgs_syntax.specs.declared.specification.Leaf.TheVariants.{Label, Named}
use Rattle.pgs_syntax.specs.declared.specification.Property.{Property}
use Rattle.pgs_syntax.specs.declared.specification.Spec as specs
use Rattle.pgs_syntax.specs.declared.specification.Spec.{Spec, Word, OpenLabels, And', Or', Opt', Row_of-Spec, end_of-Spec, more_of-Spec}

abbrev mutual
  pub parts_of : Spec Leaf → List (Spec Leaf)
  parts_of (And' _ parts) = parts_of_each parts
  parts_of (Or' _ parts) = parts_of_each parts
  parts_of (Opt' _ part) = parts_of_each part
  parts_of spec = spec ∷ []

  pub parts_of_each : {n : _} → Row_of-Spec Leaf n → List (Spec Leaf)
  parts_of_each end_of-Spec = []
  parts_of_each (more_of-Spec part parts) = parts_of part ++ parts_of_each parts

-- the label of a part, and the number of the type that it names
abbrev pub label_in : Spec Leaf → Option (List ℕ)
label_in (Word (Label label)) = Some label
label_in _ = None

abbrev pub number_in : Spec Leaf → Option ℕ
number_in (Word (Named number)) = Some number
number_in _ = None

-- the keys of its braces
abbrev pub keys_in : Spec Leaf → List (List ℕ)
keys_in (specs.Braces braces) = map (λ (property : Property). property.key) braces.properties
keys_in _ = []

-- whether it is OPEN beside labels, and whether it is braces with OPEN
abbrev pub has_any_label : Spec Leaf → Bool
has_any_label OpenLabels = true
has_any_label _ = false

abbrev pub has_any_key : Spec Leaf → Bool
has_any_key (specs.Braces braces) = braces.more
has_any_key _ = false
