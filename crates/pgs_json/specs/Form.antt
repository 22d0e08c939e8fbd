-- The form of a transaction: which JSON values are one, part by part, and the operations that they name.
use Rattle.std.specs.Prelude.{ℕ, Bool, false, List, [], ◌∷◌, length, Option, Some, None, option_map, nat_le, if◌then◌else◌, codes, bytes_eq}
use Rattle.std.specs.Option.{option_or}
use Rattle.std.specs.List.{list_all, list_any}
use Rattle.pgs_base.specs.declared.element.NodeId.{NodeId}
use Rattle.pgs_base.specs.declared.element.EdgeId.{EdgeId}
use Rattle.pgs_base.specs.declared.value.Value.{Value}
use Rattle.pgs_base.specs.declared.value.Value.TheVariants as values
use Rattle.pgs_base.specs.DayForm.{day_in}
use Rattle.pgs_base.specs.Name.{is_name}
use Rattle.pgs_base.specs.Options.{◌>>=◌}
use Rattle.pgs_graph.specs.declared.operation.Op.{Op}
use Rattle.pgs_graph.specs.declared.operation.Op.TheVariants.{AddNode, AddEdge, RemoveNode, DetachNode, RemoveEdge, SetNode, UnsetNode, LabelNode, UnlabelNode, SetEdge, UnsetEdge, LabelEdge, UnlabelEdge}
use Rattle.pgs_graph.specs.declared.operation.Txn.{Txn}
use Rattle.pgs_json.specs.Sets.{label_set, pair_map}
use Rattle.serde_json.specs.Data.{Data, null, boolean, number, string, array, object, Items, no_items, item, Members, no_members, member}
use Rattle.serde_json.specs.Find.{as_number, as_u64, as_i64, as_str, as_array, as_object, get}

-- ---- objects and lists

abbrev pub names_in : Members → List (List ℕ)
names_in no_members = []
names_in (member name d ms) = name ∷ names_in ms

-- whether each of the names is one of these
abbrev pub are_among : List (List ℕ) → List (List ℕ) → Bool
are_among these names = list_all (λ name. list_any (bytes_eq name) these) names

abbrev pub are_members_among : List (List ℕ) → Option Members → Bool
are_members_among these None = false
are_members_among these (Some ms) = are_among these (names_in ms)

-- whether this is an object none of whose members has another name than these
abbrev pub has_only : List (List ℕ) → Data → Bool
has_only these d = are_members_among these (as_object d)

-- what a member is, which has to be there
abbrev pub part : {A : Type 0} → (Data → Option A) → List ℕ → Data → Option A
part form_of name d = get name d >>= form_of

abbrev pub form_or_empty : {A : Type 0} → (Data → Option (List A)) → Option Data → Option (List A)
form_or_empty form_of None = Some []
form_or_empty form_of (Some d) = form_of d

-- what a member is, or the empty list where it is absent
abbrev pub part_or_empty : {A : Type 0} → (Data → Option (List A)) → List ℕ → Data → Option (List A)
part_or_empty form_of name d = form_or_empty form_of (get name d)

-- what the items are, where each has the form
abbrev pub each_item : {A : Type 0} → (Data → Option A) → Items → Option (List A)
each_item form_of no_items = Some []
each_item form_of (item d ds) = form_of d >>= λ x. each_item form_of ds >>= λ xs. Some (x ∷ xs)

-- the same for members, each by its name and its value
abbrev pub each_member : {A : Type 0} → (List ℕ → Data → Option A) → Members → Option (List A)
each_member form_of no_members = Some []
each_member form_of (member name d ms) = form_of name d >>= λ x. each_member form_of ms >>= λ xs. Some (x ∷ xs)

-- ---- ids, names, days, values

-- a whole number from 0 to 2 ^ 64 - 1
abbrev pub id_of : Data → Option ℕ
id_of d = as_number d >>= as_u64

abbrev pub name_in : List ℕ → Option (List ℕ)
name_in text = if is_name text then Some text else None

abbrev pub name_of : Data → Option (List ℕ)
name_of d = as_str d >>= name_in

abbrev pub day_of : Data → Option (ℕ × ℕ × ℕ)
day_of d = as_str d >>= day_in

-- an object with the one member `date`
abbrev pub date_of : Data → Option (ℕ × ℕ × ℕ)
date_of d = if has_only (codes "date" ∷ []) d then part day_of (codes "date") d else None

abbrev pub text_in : List ℕ → Option (List ℕ)
text_in text = if nat_le (length text) 65535 then Some text else None

-- a text, a whole number from -2 ^ 63 to 2 ^ 63 - 1, a truth value or a date
abbrev pub value_of : Data → Option Value
value_of null = None
value_of (boolean truth) = Some (values.Bool truth)
value_of (number n) = option_map values.Int (as_i64 n)
value_of (string text) = option_map values.Text (text_in text)
value_of (array ds) = None
value_of (object ms) = option_map values.Date (date_of (object ms))

-- ---- labels and properties

-- the set of the names in a list
unfoldable pub labels_of : Data → Option (List (List ℕ))
labels_of d = as_array d >>= each_item name_of >>= λ names. Some (label_set names)

abbrev pub pair_of : List ℕ → Data → Option (List ℕ × Value)
pair_of name d = name_in name >>= λ key. value_of d >>= λ value. Some (key, value)

-- the map of an object's members
unfoldable pub props_of : Data → Option (List (List ℕ × Value))
props_of d = as_object d >>= each_member pair_of >>= λ pairs. Some (pair_map pairs)

-- ---- operations, each by its members, which stand here in the order of their names

abbrev pub node : ℕ → NodeId
node n = record { 0 = n }

abbrev pub edge : ℕ → EdgeId
edge n = record { 0 = n }

-- `add_node`, and maybe `labels` and `props`
unfoldable pub add_node : Data → Option Op
add_node d =
    if has_only (codes "add_node" ∷ codes "labels" ∷ codes "props" ∷ []) d
    then (part id_of (codes "add_node") d >>= λ id.
    part_or_empty labels_of (codes "labels") d >>= λ labels.
    part_or_empty props_of (codes "props") d >>= λ props.
    Some (AddNode (node id) labels props))
    else None

-- `add_edge`, `from` and `to`, and maybe `labels` and `props`
unfoldable pub add_edge : Data → Option Op
add_edge d =
    if has_only (codes "add_edge" ∷ codes "from" ∷ codes "labels" ∷ codes "props" ∷ codes "to" ∷ []) d
    then (part id_of (codes "add_edge") d >>= λ id.
    part id_of (codes "from") d >>= λ source.
    part id_of (codes "to") d >>= λ target.
    part_or_empty labels_of (codes "labels") d >>= λ labels.
    part_or_empty props_of (codes "props") d >>= λ props.
    Some (AddEdge (edge id) (node source) (node target) labels props))
    else None

-- an object whose one member has this kind as its name: the id that it names
unfoldable pub with_id : List ℕ → Data → Option ℕ
with_id kind d = if has_only (kind ∷ []) d then part id_of kind d else None

-- an object with this kind and one more member, a name
unfoldable pub with_name : List ℕ → List ℕ → Data → Option (ℕ × List ℕ)
with_name kind second d =
    if has_only (second ∷ kind ∷ []) d
    then (part id_of kind d >>= λ id. part name_of second d >>= λ name. Some (id, name))
    else None

-- an object with this kind, a key and a value
unfoldable pub with_value : List ℕ → Data → Option (ℕ × List ℕ × Value)
with_value kind d =
    if has_only (codes "key" ∷ kind ∷ codes "value" ∷ []) d
    then (part id_of kind d >>= λ id. part name_of (codes "key") d >>= λ key.
    part value_of (codes "value") d >>= λ value. Some (id, key, value))
    else None

-- the first that is there
abbrev pub first_of : {A : Type 0} → List (Option A) → Option A
first_of [] = None
first_of (o ∷ os) = option_or o (first_of os)

-- an operation on a node
unfoldable pub node_op : Data → Option Op
node_op d =
    first_of
    (add_node d
    ∷ option_map (λ id. RemoveNode (node id)) (with_id (codes "remove_node") d)
    ∷ option_map (λ id. DetachNode (node id)) (with_id (codes "detach_node") d)
    ∷ option_map (λ p. SetNode (node p.0) p.1 p.2) (with_value (codes "set_node") d)
    ∷ option_map (λ p. UnsetNode (node p.0) p.1) (with_name (codes "unset_node") (codes "key") d)
    ∷ option_map (λ p. LabelNode (node p.0) p.1) (with_name (codes "label_node") (codes "label") d)
    ∷ option_map (λ p. UnlabelNode (node p.0) p.1) (with_name (codes "unlabel_node") (codes "label") d) ∷ [])

-- an operation on an edge
unfoldable pub edge_op : Data → Option Op
edge_op d =
    first_of
    (add_edge d
    ∷ option_map (λ id. RemoveEdge (edge id)) (with_id (codes "remove_edge") d)
    ∷ option_map (λ p. SetEdge (edge p.0) p.1 p.2) (with_value (codes "set_edge") d)
    ∷ option_map (λ p. UnsetEdge (edge p.0) p.1) (with_name (codes "unset_edge") (codes "key") d)
    ∷ option_map (λ p. LabelEdge (edge p.0) p.1) (with_name (codes "label_edge") (codes "label") d)
    ∷ option_map (λ p. UnlabelEdge (edge p.0) p.1) (with_name (codes "unlabel_edge") (codes "label") d) ∷ [])

-- no two kinds have the same members, so at most one fits
abbrev pub op_of : Data → Option Op
op_of d = option_or (node_op d) (edge_op d)

-- ---- transactions

unfoldable pub ops_of : Data → Option (List Op)
ops_of d = as_array d >>= each_item op_of

-- an object with the one member `ops`, a list of operations
unfoldable pub form : Data → Option Txn
form d =
    if has_only (codes "ops" ∷ []) d
    then (part ops_of (codes "ops") d >>= λ ops. Some (record { ops = ops }))
    else None
