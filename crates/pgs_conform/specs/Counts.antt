-- Lists of shapes against the widths of what they stand for: no list is longer than the width counts forms.
use Rattle.std.specs.Prelude.{ℕ, ◌≤◌, List, [], length, slice_get}
use Rattle.std.specs.List.{AllZip}
use Rattle.std.specs.Option.{option_map_or}
use Rattle.pgs_syntax.specs.declared.resolved.Resolved.{Resolved}
use Rattle.pgs_syntax.specs.Width.{Width, node_widths, edge_widths}

-- as many lists as widths, each within its width
abbrev pub AreWithin : {S : Type 0} → List Width → List (List S) → Type 0
AreWithin = AllZip (λ width list. length list ≤ width.count)

-- the widths of the node types of a schema, and of its edge types, in order
abbrev pub widths_of_nodes : Resolved → List Width
widths_of_nodes resolved = node_widths [] resolved.nodes

abbrev pub widths_of_edges : Resolved → List Width
widths_of_edges resolved = edge_widths (widths_of_nodes resolved) [] resolved.edges

-- how many forms the width of a number counts: none where there is no such number
abbrev pub forms_at : List Width → ℕ → ℕ
forms_at widths number = option_map_or (λ (width : Width). width.count) (slice_get widths number) 0
