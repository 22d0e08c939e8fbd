-- The member that names the kind of an operation, and an operation of a known kind.
use Rattle.std.specs.Prelude.{ℕ, List, [], ◌∷◌, Option, Some, None, option_map, if◌then◌else◌, codes, bytes_eq}
use Rattle.std.specs.Option.{option_or}
use Rattle.pgs_base.specs.Options.{◌>>=◌}
use Rattle.pgs_graph.specs.declared.operation.Op.{Op}
use Rattle.pgs_graph.specs.declared.operation.Op.TheVariants as ops
use Rattle.pgs_json.specs.declared.kind.Kind.{Kind}
use Rattle.pgs_json.specs.declared.kind.Kind.TheVariants.{AddNode, AddEdge, RemoveNode, DetachNode, RemoveEdge, SetNode, UnsetNode, LabelNode, UnlabelNode, SetEdge, UnsetEdge, LabelEdge, UnlabelEdge}
use Rattle.pgs_json.specs.Form.{node, edge, add_node, add_edge, with_id, with_name, with_value}
use Rattle.serde_json.specs.Data.{Data, object, Members, no_members, member}
use Rattle.serde_json.specs.Find.{as_object}

-- the first kind in a table at a name
abbrev pub kind_at : List (List ℕ × Kind) → List ℕ → Option Kind
kind_at [] name = None
kind_at (row ∷ rows) name = if bytes_eq name row.0 then Some row.1 else kind_at rows name

-- the kind that a member of this name tells
unfoldable pub kind_named : List ℕ → Option Kind
kind_named =
    kind_at
    ((codes "add_node", AddNode) ∷ (codes "add_edge", AddEdge) ∷ (codes "set_node", SetNode) ∷ (codes "set_edge", SetEdge)
    ∷ (codes "unset_node", UnsetNode) ∷ (codes "unset_edge", UnsetEdge) ∷ (codes "label_node", LabelNode)
    ∷ (codes "label_edge", LabelEdge) ∷ (codes "unlabel_node", UnlabelNode) ∷ (codes "unlabel_edge", UnlabelEdge)
    ∷ (codes "remove_node", RemoveNode) ∷ (codes "remove_edge", RemoveEdge) ∷ (codes "detach_node", DetachNode) ∷ [])

-- the first kind that a member tells
abbrev pub kind_in : Members → Option Kind
kind_in no_members = None
kind_in (member name d ms) = option_or (kind_named name) (kind_in ms)

-- an operation of a kind, by the members that this kind has
abbrev pub op_as : Kind → Data → Option Op
op_as AddNode d = add_node d
op_as AddEdge d = add_edge d
op_as RemoveNode d = option_map (λ id. ops.RemoveNode (node id)) (with_id (codes "remove_node") d)
op_as DetachNode d = option_map (λ id. ops.DetachNode (node id)) (with_id (codes "detach_node") d)
op_as RemoveEdge d = option_map (λ id. ops.RemoveEdge (edge id)) (with_id (codes "remove_edge") d)
op_as SetNode d = option_map (λ p. ops.SetNode (node p.0) p.1 p.2) (with_value (codes "set_node") d)
op_as UnsetNode d = option_map (λ p. ops.UnsetNode (node p.0) p.1) (with_name (codes "unset_node") (codes "key") d)
op_as LabelNode d = option_map (λ p. ops.LabelNode (node p.0) p.1) (with_name (codes "label_node") (codes "label") d)
op_as UnlabelNode d = option_map (λ p. ops.UnlabelNode (node p.0) p.1) (with_name (codes "unlabel_node") (codes "label") d)
op_as SetEdge d = option_map (λ p. ops.SetEdge (edge p.0) p.1 p.2) (with_value (codes "set_edge") d)
op_as UnsetEdge d = option_map (λ p. ops.UnsetEdge (edge p.0) p.1) (with_name (codes "unset_edge") (codes "key") d)
op_as LabelEdge d = option_map (λ p. ops.LabelEdge (edge p.0) p.1) (with_name (codes "label_edge") (codes "label") d)
op_as UnlabelEdge d = option_map (λ p. ops.UnlabelEdge (edge p.0) p.1) (with_name (codes "unlabel_edge") (codes "label") d)

-- what an object tells to be, by its kind
abbrev pub op_told : Data → Option Op
op_told d = as_object d >>= λ ms. kind_in ms >>= λ kind. op_as kind (object ms)
