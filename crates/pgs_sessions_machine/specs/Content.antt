-- What a graph holds of an element, and which commit changed an element last.
use Rattle.std.specs.Prelude.{ℕ, ◌+◌, ◌==◌, Bool, true, false, ◌&&◌, List, [], ◌∷◌, length, nat_eq, Option, Some, None, if◌then◌else◌}
use Rattle.std.specs.Cmp.Lexicographic.{pointwise}
use Rattle.std.specs.Option.{option_map_or}
use Rattle.std.specs.Ordering.{eq_by_cmp}
use Rattle.pgs_base.specs.declared.element.Elem.{Elem}
use Rattle.pgs_base.specs.declared.element.Elem.TheVariants as elems
use Rattle.pgs_base.specs.declared.value.Value.{Value}
use Rattle.pgs_base.specs.Graph.{Graph, node_at, edge_at}
use Rattle.pgs_base.specs.Order.{props_cmp}
use Rattle.pgs_sessions_machine.specs.declared.event.Content.{Content}
use Rattle.pgs_sessions_machine.specs.declared.event.Content.TheVariants.{Absent, Node, Edge}

-- what an element is in a graph
abbrev pub content_of : Graph → Elem → Content
content_of g (elems.Node id) = option_map_or Node (node_at g id) Absent
content_of g (elems.Edge id) = option_map_or Edge (edge_at g id) Absent

-- whether labels and properties are the same
abbrev pub carries_same : List (List ℕ) → List (List ℕ × Value) → List (List ℕ) → List (List ℕ × Value) → Bool
carries_same labels props other_labels other_props =
    pointwise (pointwise nat_eq) labels other_labels && eq_by_cmp props_cmp props other_props

abbrev pub is_same_content : Content → Content → Bool
is_same_content Absent Absent = true
is_same_content (Node a) (Node b) = carries_same a.labels a.props b.labels b.props
is_same_content (Edge a) (Edge b) =
    a.source.0 == b.source.0 && a.target.0 == b.target.0 && carries_same a.labels a.props b.labels b.props
is_same_content a b = false

-- whether an element is the same in two graphs
abbrev pub is_kept : Graph → Graph → Elem → Bool
is_kept before after elem = is_same_content (content_of before elem) (content_of after elem)

-- The number of the last commit that changed an element, in a graph that came of these, the latest first: a commit has the number of
-- the graphs before it, and it changed an element whose content before and after it differ.
abbrev pub last_change : Elem → Graph → List Graph → Option ℕ
last_change elem graph [] = None
last_change elem graph (before ∷ earlier) =
    if is_kept before graph elem then last_change elem before earlier else Some (length earlier + 1)
