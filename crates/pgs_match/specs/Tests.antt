-- What a pattern asks of one variable alone, and of an edge place.
use Rattle.std.specs.Prelude.{ℕ, Bool, true, false, ◌&&◌, ◌||◌, ◌==◌, not, cond, List, Option, Some, None, option_and_then}
use Rattle.std.specs.Option.{option_map_or}
use Rattle.std.specs.List.{list_all}
use Rattle.pgs_base.specs.declared.element.NodeId.{NodeId}
use Rattle.pgs_base.specs.declared.element.EdgeId.{EdgeId}
use Rattle.pgs_base.specs.declared.element.Elem.{Elem}
use Rattle.pgs_base.specs.declared.element.Elem.TheVariants as elems
use Rattle.pgs_base.specs.declared.row.NodeRow.{NodeRow}
use Rattle.pgs_base.specs.declared.row.EdgeRow.{EdgeRow}
use Rattle.pgs_base.specs.Graph.{Graph, node_at, edge_at}
use Rattle.pgs_base.specs.Pair.{has_name, value_at, pair_of}
use Rattle.pgs_syntax.specs.declared.pattern.Atom.{Atom}
use Rattle.pgs_syntax.specs.declared.pattern.Atom.TheVariants.{Ends, HasLabel, FitsNode, FitsEdge, Equals}
use Rattle.pgs_syntax.specs.declared.pattern.Pattern.{Pattern}
use Rattle.pgs_syntax.specs.declared.resolved.Resolved.{Resolved}
use Rattle.pgs_syntax.specs.Fitting.{fits_node, fits_edge}
use Rattle.pgs_syntax.specs.Join.{PairTriple}
use Rattle.pgs_syntax.specs.Matches.{same_value}
use Rattle.pgs_syntax.specs.Typed.{triple_at}
use Rattle.pgs_syntax.specs.Valid.{is_edge_var, is_node_var}
use Rattle.pgs_match.specs.declared.bindings.Bound.{Bound}
use Rattle.pgs_match.specs.declared.bindings.Bound.TheVariants as bounds
use Rattle.pgs_match.specs.Bounds.{bound_at}

-- whether the label or the property that an atom asks of a variable, if it does, is in a pair
abbrev pub pair_meets : ℕ → NodeRow → Atom → Bool
pair_meets var own (HasLabel of label) = not (of == var) || has_name label own.labels
pair_meets var own (Equals of key value) = not (of == var) || option_map_or (same_value value) (value_at key own.props) false
pair_meets var own _ = true

-- whether a pair fits the node type too that an atom asks of a variable
abbrev pub node_meets : Resolved → ℕ → NodeRow → Atom → Bool
node_meets resolved var own (FitsNode of number) = not (of == var) || fits_node resolved number own
node_meets resolved var own atom = pair_meets var own atom

-- whether a triple fits the edge type that an atom asks of a variable
abbrev pub triple_meets : Resolved → ℕ → Option PairTriple → Atom → Bool
triple_meets resolved var triple (FitsEdge of number) = not (of == var) || option_map_or (fits_edge resolved number) triple false
triple_meets resolved var triple _ = true

-- whether a node's pair passes all that is asked of a variable
abbrev pub node_passes : Resolved → List Atom → ℕ → NodeRow → Bool
node_passes resolved atoms var own = list_all (node_meets resolved var own) atoms

-- whether an edge's row does
abbrev pub edge_passes : Resolved → Graph → List Atom → ℕ → EdgeRow → Bool
edge_passes resolved g atoms var row =
    list_all (pair_meets var (pair_of row.labels row.props)) atoms && list_all (triple_meets resolved var (triple_at g row)) atoms

-- whether an element is of the kind of a variable, and its own pair passes what is asked of the variable but for an edge type, which
-- is asked of the ends too
abbrev pub own_passes : Resolved → Pattern → ℕ → Elem → NodeRow → Bool
own_passes resolved pattern var (elems.Node id) own =
    cond (is_node_var pattern.edge_vars var) (node_passes resolved pattern.atoms var own) false
own_passes resolved pattern var (elems.Edge id) own =
    cond (is_edge_var pattern.edge_vars var) (list_all (pair_meets var own) pattern.atoms) false

-- what a variable is bound to by a node that is there and passes
abbrev pub admitted_node : Resolved → Graph → List Atom → ℕ → NodeId → Option Bound
admitted_node resolved g atoms var id =
    option_and_then (λ own. cond (node_passes resolved atoms var own) (Some (bounds.Node id)) None) (node_at g id)

-- and by an edge
abbrev pub admitted_edge : Resolved → Graph → List Atom → ℕ → EdgeId → Option Bound
admitted_edge resolved g atoms var id =
    option_and_then (λ (row : EdgeRow). cond (edge_passes resolved g atoms var row) (Some (bounds.Edge id row.source row.target)) None)
    (edge_at g id)

-- and by an element of the kind of the variable
abbrev pub admitted : Resolved → Graph → Pattern → ℕ → Elem → Option Bound
admitted resolved g pattern var (elems.Node id) =
    cond (is_node_var pattern.edge_vars var) (admitted_node resolved g pattern.atoms var id) None
admitted resolved g pattern var (elems.Edge id) =
    cond (is_edge_var pattern.edge_vars var) (admitted_edge resolved g pattern.atoms var id) None

-- whether an edge is bound whose ends are the nodes that are bound
abbrev pub are_ends : Option Bound → Option Bound → Option Bound → Bool
are_ends (Some (bounds.Edge id first second)) (Some (bounds.Node source)) (Some (bounds.Node target)) =
    first.0 == source.0 && second.0 == target.0
are_ends _ _ _ = false

-- whether the bindings of an edge place agree
abbrev pub agrees : List (Option Bound) → Atom → Bool
agrees bindings (Ends edge source target) = are_ends (bound_at bindings edge) (bound_at bindings source) (bound_at bindings target)
agrees bindings _ = true
