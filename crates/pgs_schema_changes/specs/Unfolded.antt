-- Declarations of types with their names unfolded: in place of a name stands what the type of that name declares, so that labels and
-- braces alone are left. Two types are declared alike where these are the same.
use Rattle.std.specs.Prelude.{ℕ, zero, suc, Bool, true, false, ◌&&◌, ◌==◌, List, length, slice_get}
use Rattle.std.specs.Option.{option_map_or}
use Rattle.std.specs.Cmp.Lexicographic.{pointwise}
use Rattle.pgs_base.specs.Pair.{same_name}
use Rattle.pgs_base.specs.Value.{kind_rank}
use Rattle.pgs_syntax.specs.declared.element_type.NodeType.{NodeType}
use Rattle.pgs_syntax.specs.declared.element_type.EdgeType.{EdgeType}
use Rattle.pgs_syntax.specs.declared.resolved.Resolved.{Resolved}
use Rattle.pgs_syntax.specs.declared.specification.Braces.{Braces}
use Rattle.pgs_syntax.specs.declared.specification.Leaf.{Leaf}
use Rattle.pgs_syntax.specs.declared.specification.Leaf.TheVariants.{Label, Named}
use Rattle.pgs_syntax.specs.declared.specification.Property.{Property}
use Rattle.pgs_syntax.specs.declared.specification.Spec as specs
use Rattle.pgs_syntax.specs.declared.specification.Spec.{Spec, Empty, Word, OpenLabels, And', Or', Opt', Row_of-Spec, end_of-Spec, more_of-Spec}
use Rattle.pgs_syntax.specs.Valid.{are_one_kind}
use Rattle.pgs_schema_changes.specs.declared.form.Form.{Form}
use Rattle.pgs_schema_changes.specs.declared.form.Form.TheVariants as forms

-- an unfolded declaration: nothing, or a form over two others
pub data Tree : Type 0 where
  nothing : Tree
  tree : Form → Tree → Tree → Tree

abbrev pub leaf : Form → Tree
leaf form = tree form nothing nothing

-- A specification unfolded. What stands in place of a type's number is given.
module _ (named : ℕ → Tree) where
  abbrev mutual
    pub unfolded : Spec Leaf → Tree
    unfolded Empty = leaf forms.Empty
    unfolded (Word (Label label)) = leaf (forms.Label label)
    unfolded (Word (Named number)) = named number
    unfolded OpenLabels = leaf forms.OpenLabels
    unfolded (specs.Braces braces) = leaf (forms.Braces braces)
    unfolded (And' _ parts) = tree forms.And (unfolded_parts parts) nothing
    unfolded (Or' _ parts) = tree forms.Or (unfolded_parts parts) nothing
    unfolded (Opt' _ part) = tree forms.Opt (unfolded_parts part) nothing

    pub unfolded_parts : {n : _} → Row_of-Spec Leaf n → Tree
    unfolded_parts end_of-Spec = nothing
    unfolded_parts (more_of-Spec part parts) = tree forms.Parts (unfolded part) (unfolded_parts parts)

-- What stands in place of a number below a bound: the type of the number unfolded, and nothing where there is none. How a type is
-- unfolded, where the numbers before it are, is given.
abbrev pub tree_below : {T : Type 0} → ((ℕ → Tree) → T → Tree) → List T → ℕ → ℕ → Tree
tree_below tree_of types zero number = nothing
tree_below {T} tree_of types (suc bound) number =
    elim (number == bound) [
      | true ↦ option_map_or (λ (type : T). tree_of (tree_below tree_of types bound) type) (slice_get types bound) nothing
      | false ↦ tree_below tree_of types bound number
    ]

-- a node type unfolded
abbrev pub node_tree_of : (ℕ → Tree) → NodeType Leaf → Tree
node_tree_of named type = unfolded named type.spec

abbrev pub node_tree : Resolved → ℕ → Tree
node_tree resolved number = tree_below node_tree_of resolved.nodes (length resolved.nodes) number

-- an edge type unfolded: both ends, and the middle
abbrev pub edge_tree_of : Resolved → (ℕ → Tree) → EdgeType Leaf → Tree
edge_tree_of resolved named type =
    tree forms.Edge (tree forms.Ends (unfolded (node_tree resolved) type.source) (unfolded (node_tree resolved) type.target)) (unfolded named type.middle)

abbrev pub edge_tree : Resolved → ℕ → Tree
edge_tree resolved number = tree_below (edge_tree_of resolved) resolved.edges (length resolved.edges) number

-- whether two properties, and two braces, are written alike
abbrev pub same_property : Property → Property → Bool
same_property a b = same_name a.key b.key && kind_rank a.kind == kind_rank b.kind && are_one_kind a.optional b.optional

abbrev pub same_braces : Braces → Braces → Bool
same_braces a b = pointwise same_property a.properties b.properties && are_one_kind a.more b.more

-- whether two forms are one
abbrev pub same_form : Form → Form → Bool
same_form forms.Empty forms.Empty = true
same_form (forms.Label a) (forms.Label b) = same_name a b
same_form forms.OpenLabels forms.OpenLabels = true
same_form (forms.Braces a) (forms.Braces b) = same_braces a b
same_form forms.And forms.And = true
same_form forms.Or forms.Or = true
same_form forms.Opt forms.Opt = true
same_form forms.Parts forms.Parts = true
same_form forms.Edge forms.Edge = true
same_form forms.Ends forms.Ends = true
same_form a b = false

-- whether two unfolded declarations are one
abbrev pub same_tree : Tree → Tree → Bool
same_tree nothing nothing = true
same_tree nothing (tree form first second) = false
same_tree (tree form first second) nothing = false
same_tree (tree a first second) (tree b third fourth) = same_form a b && same_tree first third && same_tree second fourth
