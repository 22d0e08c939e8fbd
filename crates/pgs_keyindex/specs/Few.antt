-- The elements of which none or one is kept in place, or any number in a list; and those that are lent.
use Rattle.std.specs.Prelude.{List, [], ◌∷◌}
use Rattle.pgs_base.specs.declared.element.Elem.{Elem}
use Rattle.pgs_base.specs.declared.element.Elem.TheVariants as elems
use Rattle.pgs_keyindex.specs.declared.few.Kept.{Kept}
use Rattle.pgs_keyindex.specs.declared.few.Kept.TheVariants as kept
use Rattle.pgs_keyindex.specs.declared.few.Lent.{Lent}
use Rattle.pgs_keyindex.specs.declared.few.Lent.TheVariants as lent

abbrev pub elems_of : Kept → List Elem
elems_of kept.Nothing = []
elems_of (kept.Node id) = elems.Node id ∷ []
elems_of (kept.Edge id) = elems.Edge id ∷ []
elems_of (kept.Many elems) = elems

abbrev pub elems_lent : Lent → List Elem
elems_lent (lent.One elem) = elem ∷ []
elems_lent (lent.Many elems) = elems.now
