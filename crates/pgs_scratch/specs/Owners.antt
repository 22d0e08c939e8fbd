-- Which row has a tuple first, and the nearest of the rows that have some of several tuples.
use Rattle.std.specs.Prelude.{List, [], ◌∷◌, Option, Some, None, if◌then◌else◌}
use Rattle.std.specs.Borrow.{Bor}
use Rattle.std.specs.Ordering.{is_lt}
use Rattle.std.specs.List.{list_any}
use Rattle.std.specs.BTreeMap.{is_at}
use Rattle.pgs_base.specs.declared.element.Elem.{Elem}
use Rattle.pgs_base.specs.declared.part.Part.{Part}
use Rattle.pgs_base.specs.Order.{elem_cmp, tuple_cmp}
use Rattle.pgs_scratch.specs.declared.key_row.KeyRow.{KeyRow}

-- the element of the first row that has a tuple
abbrev pub owner : List KeyRow → List Part → Option Elem
owner [] tuple = None
owner (row ∷ rows) tuple = if list_any (is_at (tuple_cmp tuple)) row.tuples then Some row.elem else owner rows tuple

-- of what was found, an element with a tuple, and the owner of a further tuple, the one with the lesser element; what was found stays
-- where they are one
abbrev pub nearer : Option (Elem × List Part) → Option Elem → List Part → Option (Elem × List Part)
nearer found None tuple = found
nearer None (Some elem) tuple = Some (elem, tuple)
nearer (Some found) (Some elem) tuple = if is_lt (elem_cmp elem found.0) then Some (elem, tuple) else Some found

-- the nearest owner of some of the tuples, with the first tuple that it has
abbrev pub nearest : (List Part → Option Elem) → Option (Elem × List Part) → List (List Part) → Option (Elem × List Part)
nearest owner found [] = found
nearest owner found (tuple ∷ tuples) = nearest owner (nearer found (owner tuple) tuple) tuples

-- an element and a tuple that a reference points to
abbrev pub with_tuple : Elem × Bor (List Part) → Elem × List Part
with_tuple sharer = (sharer.0, sharer.1.now)
