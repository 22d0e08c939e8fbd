-- The list that each form of a list means, and how many ids each form has.
use Rattle.std.specs.Prelude.{List, ◌<◌, ◌≤◌, length, take}
use Rattle.pgs_base.specs.declared.element.EdgeId.{EdgeId}
use Rattle.pgs_tables_edges.specs.declared.ids.Form.{Form}
use Rattle.pgs_tables_edges.specs.declared.ids.Form.TheVariants.{Short, Few, Many}

abbrev pub form_ids : Form → List EdgeId
form_ids (Short len ids) = take len ids
form_ids (Few ids) = ids.items
form_ids (Many long) = long

-- a short list has up to three ids, a block more and up to 64, a long list more
abbrev pub IsFitting : Form → Type 0
IsFitting (Short len ids) = len ≤ 3
IsFitting (Few ids) = (3 < length ids.items) × (length ids.items ≤ 64)
IsFitting (Many long) = 64 < length long
