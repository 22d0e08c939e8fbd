-- Keys resolved: their paths as patterns over numbered variables. The variable x, the first that the scope names, has number
-- 0 in both patterns, and the others go by their first places. A place without a name is a variable of its own.
use Rattle.std.specs.Prelude.{ℕ, ◌+◌, ◌*◌, ◌==◌, Bool, true, false, List, [], ◌∷◌, ◌++◌, length, take, Option, if◌then◌else◌, map, filter_map, flat_map, unwrap_or, slice_get}
use Rattle.std.specs.List.{position, find, fold, list_any}
use Rattle.std.specs.Option.{option_map_or, option_to_list}
use Rattle.pgs_base.specs.declared.value.Value.{Value}
use Rattle.pgs_syntax.specs.declared.key.Key.{Key}
use Rattle.pgs_syntax.specs.declared.pattern.Atom.{Atom}
use Rattle.pgs_syntax.specs.declared.pattern.Atom.TheVariants.{Ends, HasLabel, FitsNode, FitsEdge, Equals}
use Rattle.pgs_syntax.specs.declared.pattern.Expr.{Expr}
use Rattle.pgs_syntax.specs.declared.pattern.Expr.TheVariants.{Element, Property}
use Rattle.pgs_syntax.specs.declared.pattern.Pattern.{Pattern}
use Rattle.pgs_syntax.specs.declared.raw.RawExpr.{RawExpr}
use Rattle.pgs_syntax.specs.declared.raw.RawFilter.{RawFilter}
use Rattle.pgs_syntax.specs.declared.raw.RawKey.{RawKey}
use Rattle.pgs_syntax.specs.declared.raw.RawPath.{RawPath}
use Rattle.pgs_syntax.specs.declared.raw.RawPlace.{RawPlace}
use Rattle.pgs_syntax.specs.declared.raw.RawStep.{RawStep}
use Rattle.pgs_base.specs.Pair.{same_name}
use Rattle.pgs_resolve_declared.specs.declared.order.Numbering.{Numbering}
use Rattle.pgs_resolve_declared.specs.Order.{number_in}

-- a place of paths, and whether it is an edge place
pub record Place : Type 0 where
  pub is_edge : Bool
  pub at : RawPlace

abbrev pub places_of_step : RawStep → List Place
places_of_step step = record { is_edge = true; at = step.edge } ∷ record { is_edge = false; at = step.node } ∷ []

abbrev pub places_of_path : RawPath → List Place
places_of_path path = record { is_edge = false; at = path.start } ∷ flat_map places_of_step path.steps

-- the places of paths, in the order of the text
abbrev pub places_of : List RawPath → List Place
places_of paths = flat_map places_of_path paths

-- the names of variables in places, in order
abbrev pub named_in : List Place → List (List ℕ)
named_in places = filter_map (λ (place : Place). place.at.var) places

-- the variable x of a key: the first that its scope names
abbrev pub x_of : RawKey → Option (List ℕ)
x_of key = slice_get (named_in (places_of key.scope)) 0

-- ---- variables

-- a variable: of a name, or that of the place of a number
pub data Variable : Type 0 where
  called : List ℕ → Variable
  nameless : ℕ → Variable

abbrev pub same_variable : Variable → Variable → Bool
same_variable (called a) (called b) = same_name a b
same_variable (nameless a) (nameless b) = a == b
same_variable _ _ = false

-- the variable of the place of a number
abbrev pub variable_at : ℕ → RawPlace → Variable
variable_at number place = option_map_or called place.var (nameless number)

-- the variables of places in order, the first of which has this number, each with whether it is an edge
abbrev pub variables_at : ℕ → List Place → List (Variable × Bool)
variables_at number [] = []
variables_at number (place ∷ places) = (variable_at number place.at, place.is_edge) ∷ variables_at (number + 1) places

-- whether a variable is among variables, and these with it
abbrev pub is_same : Variable → Variable × Bool → Bool
is_same variable other = same_variable variable other.0

abbrev pub with_variable : List (Variable × Bool) → Variable × Bool → List (Variable × Bool)
with_variable variables variable = if list_any (is_same variable.0) variables then variables else variables ++ variable ∷ []

-- the variables of paths: x, where it is named, and then the others by their first places
abbrev pub variables_of : List ℕ → List RawPath → List (Variable × Bool)
variables_of x paths =
    let all = variables_at 0 (places_of paths) in
    fold with_variable (option_to_list (find (is_same (called x)) all)) all

-- the number of a variable among them
abbrev pub number_of : List (Variable × Bool) → Variable → ℕ
number_of variables variable = unwrap_or (position (is_same variable) variables) 0

-- ---- atoms

-- what a name in a place asks: to fit the type of that name, or to carry the label
abbrev pub name_atom : Numbering → Bool → ℕ → List ℕ → Atom
name_atom numbering false var name = option_map_or (FitsNode var) (number_in numbering.nodes name) (HasLabel var name)
name_atom numbering true var name = option_map_or (FitsEdge var) (number_in numbering.edges name) (HasLabel var name)

-- the atoms of a place: its names, and then its tests
abbrev pub place_atoms : Numbering → Bool → ℕ → RawFilter → List Atom
place_atoms numbering is_edge var filter =
    map (name_atom numbering is_edge var) filter.names ++ map (λ (test : List ℕ × Value). Equals var test.0 test.1) filter.tests

-- the ends of an edge between a node and the next one
abbrev pub ends : Bool → ℕ → ℕ → ℕ → Atom
ends true edge node next = Ends edge node next
ends false edge node next = Ends edge next node

-- Patterns, given the numbers of types and of variables.
module _ (numbering : Numbering) (var : Variable → ℕ) where
  -- the atoms of steps, the first of which leaves this node and whose edge is at the place of this number
  abbrev pub step_atoms : ℕ → ℕ → List RawStep → List Atom
  step_atoms node place [] = []
  step_atoms node place (step ∷ steps) =
      let edge = var (variable_at place step.edge) in
      let next = var (variable_at (place + 1) step.node) in
      place_atoms numbering true edge step.edge.filter ++ place_atoms numbering false next step.node.filter
      ++ ends step.forward edge node next ∷ step_atoms next (place + 2) steps

  -- the atoms of paths, the first of which begins at the place of this number
  abbrev pub path_atoms : ℕ → List RawPath → List Atom
  path_atoms place [] = []
  path_atoms place (path ∷ paths) =
      let node = var (variable_at place path.start) in
      place_atoms numbering false node path.start.filter ++ step_atoms node (place + 1) path.steps
      ++ path_atoms (place + 1 + 2 * length path.steps) paths

-- the pattern of paths
abbrev pub pattern_of : Numbering → List ℕ → List RawPath → Pattern
pattern_of numbering x paths =
    let variables = variables_of x paths in
    record {
      edge_vars = map (λ (v : Variable × Bool). v.1) variables;
      atoms = path_atoms numbering (number_of variables) 0 paths;
    }

-- the pattern of x alone, of the kind that it has in the scope
abbrev pub x_alone : Pattern → Pattern
x_alone scope = record { edge_vars = take 1 scope.edge_vars; atoms = [] }

-- the variables of the descriptor: without WITHIN it is x alone
abbrev pub descriptor_variables : List ℕ → RawKey → List (Variable × Bool)
descriptor_variables x key = option_map_or (variables_of x) key.within ((called x, false) ∷ [])

-- an expression with its variable by number
abbrev pub resolved_expr : List (Variable × Bool) → RawExpr → Expr
resolved_expr variables expr =
    let var = number_of variables (called expr.var) in
    option_map_or (Property var) expr.key (Element var)

-- a key with its names resolved
abbrev pub resolved_key : Numbering → RawKey → Key
resolved_key numbering key =
    let x = unwrap_or (x_of key) [] in
    let scope = pattern_of numbering x key.scope in
    record {
      qualifiers = key.qualifiers;
      scope = scope;
      descriptor = option_map_or (pattern_of numbering x) key.within (x_alone scope);
      exprs = map (resolved_expr (descriptor_variables x key)) key.exprs;
    }
