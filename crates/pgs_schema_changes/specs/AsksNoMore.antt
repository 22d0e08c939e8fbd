-- When a schema asks no more than another does, told by the two alone: no graph is looked at.
use Rattle.std.specs.Prelude.{◌≡◌, ◌⊎◌, ℕ, Bool, true, false, ◌&&◌, ◌||◌, not, ◌==◌, Option, Some, None, slice_get, nat_le, Contains}
use Rattle.std.specs.List.{list_any, list_all}
use Rattle.std.specs.Cmp.Lexicographic.{pointwise}
use Rattle.pgs_base.specs.Pair.{same_name}
use Rattle.pgs_syntax.specs.declared.element_type.NodeType.{NodeType}
use Rattle.pgs_syntax.specs.declared.element_type.EdgeType.{EdgeType}
use Rattle.pgs_syntax.specs.declared.key.Key.{Key}
use Rattle.pgs_syntax.specs.declared.key.Qualifiers.{Qualifiers}
use Rattle.pgs_syntax.specs.declared.pattern.Atom.{Atom}
use Rattle.pgs_syntax.specs.declared.pattern.Atom.TheVariants.{Ends, HasLabel, FitsNode, FitsEdge, Equals}
use Rattle.pgs_syntax.specs.declared.pattern.Expr.{Expr}
use Rattle.pgs_syntax.specs.declared.pattern.Expr.TheVariants.{Element, Property}
use Rattle.pgs_syntax.specs.declared.pattern.Pattern.{Pattern}
use Rattle.pgs_syntax.specs.declared.resolved.Resolved.{Resolved}
use Rattle.pgs_syntax.specs.declared.resolved.TypeNo.{TypeNo}
use Rattle.pgs_syntax.specs.declared.resolved.TypeNo.TheVariants as types
use Rattle.pgs_syntax.specs.declared.specification.Leaf.{Leaf}
use Rattle.pgs_syntax.specs.Matches.{same_value}
use Rattle.pgs_syntax.specs.Typed.{is_concrete_node_type, is_concrete_edge_type}
use Rattle.pgs_syntax.specs.Valid.{are_one_kind}
use Rattle.pgs_contain.specs.Contained.{IsContained}
use Rattle.pgs_schema_changes.specs.Unfolded.{node_tree, edge_tree, same_tree}

-- ---- types

-- whether a type is there and isn't abstract
abbrev pub is_concrete : Resolved → TypeNo → Bool
is_concrete resolved (types.Node number) = is_concrete_node_type resolved number
is_concrete resolved (types.Edge number) = is_concrete_edge_type resolved number

-- each type of the old guard that isn't abstract is contained in the new schema
abbrev pub AreTypesContained : Resolved → Resolved → Type 0
AreTypesContained old new =
    (type : TypeNo) → Contains old.guard.types type → is_concrete old type ≡ true → IsContained old type new

-- whether both are there and pass a test together
abbrev pub pass_both : {X Y : Type 0} → (X → Y → Bool) → Option X → Option Y → Bool
pass_both test (Some x) (Some y) = test x y
pass_both test x y = false

-- whether a type of the old schema and one of the new schema have one name
abbrev pub same_node_name : Resolved → Resolved → ℕ → ℕ → Bool
same_node_name old new own number =
    pass_both (λ (a : NodeType Leaf) (b : NodeType Leaf). same_name a.name b.name) (slice_get old.nodes own) (slice_get new.nodes number)

abbrev pub same_edge_name : Resolved → Resolved → ℕ → ℕ → Bool
same_edge_name old new own number =
    pass_both (λ (a : EdgeType Leaf) (b : EdgeType Leaf). same_name a.name b.name) (slice_get old.edges own) (slice_get new.edges number)

-- ---- keys: one of the old schema, then one of the new schema

-- whether two demands are one, types compared by name
abbrev pub same_atom : Resolved → Resolved → Atom → Atom → Bool
same_atom old new (Ends edge source target) (Ends other from to) = edge == other && source == from && target == to
same_atom old new (HasLabel var label) (HasLabel other name) = var == other && same_name label name
same_atom old new (FitsNode var own) (FitsNode other number) = var == other && same_node_name old new own number
same_atom old new (FitsEdge var own) (FitsEdge other number) = var == other && same_edge_name old new own number
same_atom old new (Equals var key value) (Equals other name wanted) = var == other && same_name key name && same_value value wanted
same_atom old new own atom = false

-- whether the types that two demands name are declared alike
abbrev pub names_alike : Resolved → Resolved → Atom → Atom → Bool
names_alike old new (FitsNode var own) (FitsNode other number) = same_tree (node_tree old own) (node_tree new number)
names_alike old new (FitsEdge var own) (FitsEdge other number) = same_tree (edge_tree old own) (edge_tree new number)
names_alike old new own atom = true

-- whether two patterns are one, and whether the types that they name are declared alike
abbrev pub same_pattern : Resolved → Resolved → Pattern → Pattern → Bool
same_pattern old new own pattern =
    pointwise are_one_kind own.edge_vars pattern.edge_vars && pointwise (same_atom old new) own.atoms pattern.atoms

abbrev pub patterns_alike : Resolved → Resolved → Pattern → Pattern → Bool
patterns_alike old new own pattern = pointwise (names_alike old new) own.atoms pattern.atoms

abbrev pub same_expr : Expr → Expr → Bool
same_expr (Element var) (Element other) = var == other
same_expr (Property var key) (Property other name) = var == other && same_name key name
same_expr own expr = false

-- whether two keys have one scope, one descriptor and the same expressions as resolved, types compared by name
abbrev pub same_key : Resolved → Resolved → Key → Key → Bool
same_key old new own key =
    same_pattern old new own.scope key.scope && same_pattern old new own.descriptor key.descriptor
    && pointwise same_expr own.exprs key.exprs

-- whether the types that both keys name are declared alike
abbrev pub keys_alike : Resolved → Resolved → Key → Key → Bool
keys_alike old new own key = patterns_alike old new own.scope key.scope && patterns_alike old new own.descriptor key.descriptor

-- whether a new count asks no more than an old one: there is none, or the old range lies within the new one
abbrev pub counts_no_more : Option (ℕ × ℕ) → Option (ℕ × ℕ) → Bool
counts_no_more own None = true
counts_no_more None (Some range) = false
counts_no_more (Some own) (Some range) = nat_le range.0 own.0 && nat_le own.1 range.1

-- whether new qualifiers ask of each element what the old ones ask, or less
abbrev pub ask_no_more : Qualifiers → Qualifiers → Bool
ask_no_more own new =
    (own.mandatory || not new.mandatory) && (own.singleton || not new.singleton) && (own.exclusive || not new.exclusive)
    && counts_no_more own.count new.count

-- whether a key of the old guard keeps one of the new guard: they are one, the types that they name are declared alike, and it asks as
-- much
abbrev pub keeps : Resolved → Resolved → Key → Key → Bool
keeps old new own key = same_key old new own key && keys_alike old new own key && ask_no_more own.qualifiers key.qualifiers

-- whether some key of the old guard keeps a key of the new guard
abbrev pub is_kept : Resolved → Resolved → Key → Bool
is_kept old new key = list_any (λ own. keeps old new own key) old.guard.keys

-- whether no key of the new guard is a key of the old guard, whatever it asks
abbrev pub is_dropped : Resolved → Resolved → Key → Bool
is_dropped old new own = not (list_any (same_key old new own) new.guard.keys)

-- whether each key of the new guard is kept
abbrev pub are_keys_kept : Resolved → Resolved → Bool
are_keys_kept old new = list_all (is_kept old new) new.guard.keys

-- ---- schemas

-- The new schema asks no more than the old one: its guard is loose, or the old guard is strict and its types are contained; and each
-- key of the new guard is kept.
pub record AsksNoMore (old new : Resolved) : Type 0 where
  pub types : (new.guard.strict ≡ false) ⊎ ((old.guard.strict ≡ true) × AreTypesContained old new)
  pub keys : are_keys_kept old new ≡ true
