-- The names of labels, which keep one of them in themselves or any number in a list.
use Rattle.std.specs.Prelude.{ℕ, List, [], ◌∷◌}
use Rattle.pgs_base.specs.declared.labels.LabelNames.{LabelNames}
use Rattle.pgs_base.specs.declared.labels.LabelNames.TheVariants.{One, Many}

abbrev pub names_of : LabelNames → List (List ℕ)
names_of (One name) = name ∷ []
names_of (Many names) = names
