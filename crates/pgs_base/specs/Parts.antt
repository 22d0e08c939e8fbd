-- The parts of a tuple, which keeps one of them in itself or any number in a list.
use Rattle.std.specs.Prelude.{List, [], ◌∷◌}
use Rattle.pgs_base.specs.declared.part.Part.{Part}
use Rattle.pgs_base.specs.declared.tuple.Parts.{Parts}
use Rattle.pgs_base.specs.declared.tuple.Parts.TheVariants.{One, Many}

abbrev pub parts_of : Parts → List Part
parts_of (One part) = part ∷ []
parts_of (Many parts) = parts
