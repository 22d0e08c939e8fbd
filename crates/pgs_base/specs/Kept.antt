-- The tuples of a set, which keeps one of them in itself or any number in a list.
use Rattle.std.specs.Prelude.{List, [], ◌∷◌}
use Rattle.pgs_base.specs.declared.part.Part.{Part}
use Rattle.pgs_base.specs.declared.tuple_set.Kept.{Kept}
use Rattle.pgs_base.specs.declared.tuple_set.Kept.TheVariants.{One, Many}

abbrev pub tuples_of : Kept → List (List Part)
tuples_of (One tuple) = tuple ∷ []
tuples_of (Many tuples) = tuples
