-- What is outside is strange to names: it has none of them, but for those that shapes name.
use Rattle.std.specs.Prelude.{◌≡◌, ℕ, ◌≤◌, Bool, true, ◌&&◌, ◌||◌, not, List, [], ◌∷◌, ◌++◌, length, sum_by}
use Rattle.std.specs.List.{list_any}
use Rattle.std.specs.Map.{keys_of}
use Rattle.pgs_base.specs.declared.row.NodeRow.{NodeRow}
use Rattle.pgs_base.specs.Pair.{has_name}
use Rattle.pgs_syntax.specs.declared.resolved.Resolved.{Resolved}
use Rattle.pgs_syntax.specs.declared.resolved.TypeNo.{TypeNo}
use Rattle.pgs_syntax.specs.declared.resolved.TypeNo.TheVariants as types
use Rattle.pgs_syntax.specs.Fitting.{fits_node, fits_edge}
use Rattle.pgs_syntax.specs.Join.{PairTriple}
use Rattle.pgs_syntax.specs.Typed.{is_typed_node, is_typed_triple}
use Rattle.pgs_conform.specs.Counts.{forms_at, widths_of_nodes, widths_of_edges}
use Rattle.pgs_conform.specs.declared.shape.Shape.{Shape}
use Rattle.pgs_conform.specs.declared.shape.Triple.{Triple as ShapeTriple}
use Rattle.pgs_conform.specs.Shapes.{Denotes, DenotesTriples}
use Rattle.pgs_contain.specs.declared.outside.Outside.{Outside}
use Rattle.pgs_contain.specs.declared.outside.Outside.TheVariants as outsides
use Rattle.pgs_contain.specs.Contained.{pair_in, triple_in}

abbrev pub Names : Type 0
Names = List (List ℕ)

-- whether one of some shapes names a label, and whether one names a key
abbrev pub names_label : List Shape → List ℕ → Bool
names_label shapes label = list_any (λ (shape : Shape). has_name label shape.labels) shapes

abbrev pub names_key : List Shape → List ℕ → Bool
names_key shapes key = list_any (λ (shape : Shape). has_name key (keys_of shape.keys)) shapes

-- A pair is strange to names: each of its labels is named by one of its own shapes, or is none of the names; each of its keys is named by one
-- of these or of other shapes, or is none of the names.
pub record IsStrangeBut (avoid : Names) (own others : List Shape) (p : NodeRow) : Type 0 where
  pub labels : (l : List ℕ) → has_name l p.labels ≡ true → has_name l avoid ≡ true → names_label own l ≡ true
  pub keys : (k : List ℕ) → has_name k (keys_of p.props) ≡ true → has_name k avoid ≡ true → (names_key own k || names_key others k) ≡ true

-- the shapes of triples of shapes
abbrev pub shapes_in : List ShapeTriple → List Shape
shapes_in [] = []
shapes_in (triple ∷ more) = triple.source ∷ triple.middle ∷ triple.target ∷ shapes_in more

-- Shapes of a type: they denote it, and are no more than its width counts, so there is no room for one that names more than it has to.
pub record AreShapesOf (resolved : Resolved) (number : ℕ) (shapes : List Shape) : Type 0 where
  pub denote : Denotes shapes (fits_node resolved number)
  pub within : length shapes ≤ forms_at (widths_of_nodes resolved) number

pub record AreTriplesOf (resolved : Resolved) (number : ℕ) (triples : List ShapeTriple) : Type 0 where
  pub denote : DenotesTriples triples (fits_edge resolved number)
  pub within : length triples ≤ forms_at (widths_of_edges resolved) number

-- how many forms the width of a node type counts, and that of an edge type
abbrev pub node_forms : Resolved → TypeNo → ℕ
node_forms resolved (types.Node number) = forms_at (widths_of_nodes resolved) number
node_forms resolved (types.Edge number) = 0

abbrev pub edge_forms : Resolved → TypeNo → ℕ
edge_forms resolved (types.Node number) = 0
edge_forms resolved (types.Edge number) = forms_at (widths_of_edges resolved) number

-- shapes of the types of a guard that aren't abstract: they denote what is typed, and are no more than the types' widths count
pub record AreTypedShapes (resolved : Resolved) (shapes : List Shape) : Type 0 where
  pub denote : Denotes shapes (is_typed_node resolved)
  pub within : length shapes ≤ sum_by (node_forms resolved) resolved.guard.types

pub record AreTypedTriples (resolved : Resolved) (triples : List ShapeTriple) : Type 0 where
  pub denote : DenotesTriples triples (is_typed_triple resolved)
  pub within : length triples ≤ sum_by (edge_forms resolved) resolved.guard.types

-- a pair outside of a node type is strange to names, but for those that the type's shapes name, and, as keys, those of the second schema's types
pub record IsNodeStrange (avoid : Names) (first : Resolved) (number : ℕ) (second : Resolved) (p : NodeRow) : Type 0 where
  pub own : List Shape
  pub own_are : AreShapesOf first number own
  pub others : List Shape
  pub others_are : AreTypedShapes second others
  pub strange : IsStrangeBut avoid own others p

-- so are the three pairs outside of an edge type
pub record IsEdgeStrange (avoid : Names) (first : Resolved) (number : ℕ) (second : Resolved) (t : PairTriple) : Type 0 where
  pub own : List ShapeTriple
  pub own_are : AreTriplesOf first number own
  pub others : List ShapeTriple
  pub others_are : AreTypedTriples second others
  pub source : IsStrangeBut avoid (shapes_in own) (shapes_in others) t.source
  pub middle : IsStrangeBut avoid (shapes_in own) (shapes_in others) t.own
  pub target : IsStrangeBut avoid (shapes_in own) (shapes_in others) t.target

-- what is outside is strange to names
abbrev pub IsStrange : Names → Resolved → TypeNo → Resolved → Outside → Type 0
IsStrange avoid first (types.Node number) second (outsides.Node own) = IsNodeStrange avoid first number second (pair_in own)
IsStrange avoid first (types.Node number) second (outsides.Edge source middle target) = ⊥
IsStrange avoid first (types.Edge number) second (outsides.Node own) = ⊥
IsStrange avoid first (types.Edge number) second (outsides.Edge source middle target) =
    IsEdgeStrange avoid first number second (triple_in source middle target)
