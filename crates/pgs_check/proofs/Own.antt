-- Where both patterns of a key are one node variable, a node is in the scope exactly where its own pair passes the test, and its key values
-- are the tuple of its own properties.
use Rattle.std.proofs.Common.{◌≡◌, ℕ, zero, suc, ◌<◌, Bool, true, false, List, [], ◌∷◌, length, nat_lt, Option, Some, None, refl, sym, ◌∙◌, ap, subst, true≢false, arith}
use Rattle.std.specs.Prelude.{cond, option_and_then, option_map, if◌then◌else◌}
use Rattle.std.specs.Option.{option_map_or}
use Rattle.std.specs.List.{list_any, list_all}
use Rattle.std.specs.BTreeSet.{insert_key}
use Rattle.std.proofs.lemmas.Bool.{and_parts, and_from, ltb-true}
use Rattle.pgs_base.specs.declared.element.Elem.{Elem}
use Rattle.pgs_base.specs.declared.element.Elem.TheVariants as elems
use Rattle.pgs_base.specs.declared.element.NodeId.{NodeId}
use Rattle.pgs_base.specs.declared.element.EdgeId.{EdgeId}
use Rattle.pgs_base.specs.declared.part.Part.{Part}
use Rattle.pgs_base.specs.declared.part.Part.TheVariants as parts
use Rattle.pgs_base.specs.declared.row.NodeRow.{NodeRow}
use Rattle.pgs_base.specs.Graph.{Graph, node_at}
use Rattle.pgs_base.specs.Order.{tuple_cmp}
use Rattle.pgs_base.specs.Pair.{value_at}
use Rattle.pgs_syntax.specs.declared.key.Key.{Key}
use Rattle.pgs_syntax.specs.declared.pattern.Atom.{Atom}
use Rattle.pgs_syntax.specs.declared.pattern.Atom.TheVariants.{Ends, HasLabel, FitsNode, FitsEdge, Equals}
use Rattle.pgs_syntax.specs.declared.pattern.Expr.{Expr}
use Rattle.pgs_syntax.specs.declared.pattern.Expr.TheVariants.{Element, Property}
use Rattle.pgs_syntax.specs.declared.pattern.Pattern.{Pattern}
use Rattle.pgs_syntax.specs.declared.resolved.Resolved.{Resolved}
use Rattle.pgs_syntax.specs.KeyValues.{is_in_scope, key_values}
use Rattle.pgs_syntax.specs.Matches.{matches}
use Rattle.pgs_syntax.specs.Valid.{is_edge_var, is_node_var, speaks_of, read_var, is_valid_pattern, is_valid_key}
use Rattle.pgs_match.specs.declared.bindings.Bound.{Bound}
use Rattle.pgs_match.specs.declared.bindings.Bound.TheVariants as bounds
use Rattle.pgs_match.specs.Bounds.{with_bound, nothing_bound, stands_at}
use Rattle.pgs_match.specs.Plans.{is_plan, covers, known_alone}
use Rattle.pgs_match.specs.Search.{part_at, tuple_at, can_complete, gathered}
use Rattle.pgs_match.specs.Tests.{agrees, node_passes, own_passes, admitted, admitted_node, admitted_edge}
use Rattle.pgs_match.proofs.Values.{descriptor_valid, scope_valid, exprs_inside, found_by_matches, gathered_are_values}
use Rattle.pgs_keyindex.specs.Standing.{values_in_scope}
use Rattle.pgs_check.specs.Own.{IsNodeAlone, IsLocal, own_part, own_tuple, own_tuples}

-- nothing more is to be bound
one_plan : (pattern : Pattern) → IsNodeAlone pattern → is_plan pattern 0 [] ≡ true
one_plan pattern alone = ap (λ vars. covers vars (known_alone 0)) alone

one_var : (pattern : Pattern) → IsNodeAlone pattern → 0 < length pattern.edge_vars
one_var pattern alone = subst (λ vars. 0 < length vars) (sym alone) (omega arith)

-- no atom gives the ends of an edge
no_edge : (var : ℕ) → is_edge_var (false ∷ []) var ≡ false
no_edge zero = refl
no_edge (suc var) = refl

one_agrees : (b : List (Option Bound)) (atom : Atom) → speaks_of (false ∷ []) atom ≡ true → agrees b atom ≡ true
one_agrees b (Ends edge source target) speaks =
    absurd (true≢false (sym (and_parts _ _ (and_parts _ _ speaks).0).0 ∙ no_edge edge))
one_agrees b (HasLabel var label) speaks = refl
one_agrees b (FitsNode var number) speaks = refl
one_agrees b (FitsEdge var number) speaks = refl
one_agrees b (Equals var key value) speaks = refl

all_agree : (b : List (Option Bound)) (atoms : List Atom) → list_all (speaks_of (false ∷ [])) atoms ≡ true → list_all (agrees b) atoms ≡ true
all_agree b [] speak = refl
all_agree b (atom ∷ atoms) speak =
    let both = and_parts (speaks_of (false ∷ []) atom) _ speak in
    and_from _ _ (one_agrees b atom both.0) (all_agree b atoms both.1)

speaks : (pattern : Pattern) → is_valid_pattern pattern ≡ true → IsNodeAlone pattern → list_all (speaks_of (false ∷ [])) pattern.atoms ≡ true
speaks pattern valid alone =
    subst (λ vars. list_all (speaks_of vars) pattern.atoms ≡ true) alone (and_parts _ _ (and_parts _ _ (and_parts _ _ valid).0).0).1

-- ---- one pattern, and an element

module _ (resolved : Resolved) (g : Graph) (pattern : Pattern) (valid : is_valid_pattern pattern ≡ true) (alone : IsNodeAlone pattern) where
  unadmitted : (elem : Elem) → admitted resolved g pattern 0 elem ≡ None → list_any (stands_at 0 elem) (matches resolved g pattern) ≡ false
  unadmitted elem none =
      sym (found_by_matches resolved g pattern valid 0 (one_var pattern alone) [] (one_plan pattern alone) elem)
      ∙ ap (λ o. option_map_or (λ x. can_complete resolved g pattern.atoms [] (with_bound nothing_bound 0 x)) o false) none

  -- an edge doesn't stand there
  pub no_edge_stands : (id : EdgeId) → list_any (stands_at 0 (elems.Edge id)) (matches resolved g pattern) ≡ false
  no_edge_stands id =
      unadmitted (elems.Edge id) (ap (λ vars. cond (is_edge_var vars 0) (admitted_edge resolved g pattern.atoms 0 id) None) alone)

module _ (resolved : Resolved) (g : Graph) (pattern : Pattern) (valid : is_valid_pattern pattern ≡ true) (alone : IsNodeAlone pattern) (id : NodeId) where
  absent : node_at g id ≡ None → admitted resolved g pattern 0 (elems.Node id) ≡ None
  absent none =
      ap (λ vars. cond (is_node_var vars 0) (admitted_node resolved g pattern.atoms 0 id) None) alone
      ∙ ap (option_and_then (λ own. cond (node_passes resolved pattern.atoms 0 own) (Some (bounds.Node id)) None)) none

  pub none_stands : node_at g id ≡ None → list_any (stands_at 0 (elems.Node id)) (matches resolved g pattern) ≡ false
  none_stands none = unadmitted resolved g pattern valid alone (elems.Node id) (absent none)

  module _ (own : NodeRow) (there : node_at g id ≡ Some own) where
    pub own_is : own_passes resolved pattern 0 (elems.Node id) own ≡ node_passes resolved pattern.atoms 0 own
    own_is = ap (λ vars. cond (is_node_var vars 0) (node_passes resolved pattern.atoms 0 own) false) alone

    pub present : admitted resolved g pattern 0 (elems.Node id) ≡ cond (own_passes resolved pattern 0 (elems.Node id) own) (Some (bounds.Node id)) None
    present =
        ap (λ vars. cond (is_node_var vars 0) (admitted_node resolved g pattern.atoms 0 id) None) alone
        ∙ ap (option_and_then (λ own. cond (node_passes resolved pattern.atoms 0 own) (Some (bounds.Node id)) None)) there
        ∙ ap (λ t. cond t (Some (bounds.Node id)) None) (sym own_is)

    by : (t : Bool) → option_map_or (λ x. can_complete resolved g pattern.atoms [] (with_bound nothing_bound 0 x)) (cond t (Some (bounds.Node id)) None) false ≡ t
    by true = all_agree (with_bound nothing_bound 0 (bounds.Node id)) pattern.atoms (speaks pattern valid alone)
    by false = refl

    pub stands_where_it_passes : list_any (stands_at 0 (elems.Node id)) (matches resolved g pattern) ≡ own_passes resolved pattern 0 (elems.Node id) own
    stands_where_it_passes =
        sym (found_by_matches resolved g pattern valid 0 (one_var pattern alone) [] (one_plan pattern alone) (elems.Node id))
        ∙ ap (λ o. option_map_or (λ x. can_complete resolved g pattern.atoms [] (with_bound nothing_bound 0 x)) o false) present
        ∙ by (own_passes resolved pattern 0 (elems.Node id) own)

-- ---- expressions

module _ (g : Graph) (id : NodeId) (own : NodeRow) (there : node_at g id ≡ Some own) where
  abbrev bindings : List (Option Bound)
  bindings = with_bound nothing_bound 0 (bounds.Node id)

  part_own : (expr : Expr) → nat_lt (read_var expr) 1 ≡ true → part_at g bindings expr ≡ own_part (elems.Node id) own.props expr
  part_own (Element zero) inside = refl
  part_own (Element (suc var)) inside = let below : suc var < 1 = ltb-true (suc var) 1 inside in absurd (omega arith)
  part_own (Property zero key) inside = ap (λ o. option_map parts.Value (option_and_then (λ (row : NodeRow). value_at key row.props) o)) there
  part_own (Property (suc var) key) inside = let below : suc var < 1 = ltb-true (suc var) 1 inside in absurd (omega arith)

  pub tuple_own : (exprs : List Expr) → list_all (λ (expr : Expr). nat_lt (read_var expr) 1) exprs ≡ true → tuple_at g exprs bindings ≡ own_tuple (elems.Node id) own.props exprs
  tuple_own [] inside = refl
  tuple_own (expr ∷ exprs) inside =
      let both = and_parts (nat_lt (read_var expr) 1) _ inside in
      ap (option_and_then (λ part. option_map (λ rest. part ∷ rest) (tuple_at g exprs bindings))) (part_own expr both.0)
      ∙ ap (λ rest_of. option_and_then (λ part. option_map (λ rest. part ∷ rest) rest_of) (own_part (elems.Node id) own.props expr)) (tuple_own exprs both.1)

-- ---- a local key

module _ (resolved : Resolved) (g : Graph) (key : Key) (valid : is_valid_key key ≡ true) (local : IsLocal key) (id : NodeId) where
  abbrev row : Bool → Option (List (List Part))
  row inside = if inside then Some (key_values resolved g key (elems.Node id)) else None

  pub absent_row : node_at g id ≡ None → None ≡ values_in_scope resolved g key (elems.Node id)
  absent_row none = sym (ap row (none_stands resolved g key.scope (scope_valid key valid) local.0 id none))

  module _ (own : NodeRow) (there : node_at g id ≡ Some own) where
    in_scope_is : is_in_scope resolved g key (elems.Node id) ≡ own_passes resolved key.scope 0 (elems.Node id) own
    in_scope_is = stands_where_it_passes resolved g key.scope (scope_valid key valid) local.0 id own there

    pub outside_row : own_passes resolved key.scope 0 (elems.Node id) own ≡ false → None ≡ values_in_scope resolved g key (elems.Node id)
    outside_row fails = sym (ap row (in_scope_is ∙ fails))

    inside : list_all (λ (expr : Expr). nat_lt (read_var expr) 1) key.exprs ≡ true
    inside = subst (λ vars. list_all (λ (expr : Expr). nat_lt (read_var expr) (length vars)) key.exprs ≡ true) local.1 (exprs_inside key valid)

    by_test : (t : Bool) → option_map_or (λ x. gathered resolved g key.descriptor.atoms key.exprs [] (with_bound nothing_bound 0 x) []) (cond t (Some (bounds.Node id)) None) []
        ≡ cond t (option_map_or (λ tuple. tuple ∷ []) (own_tuple (elems.Node id) own.props key.exprs) []) []
    by_test true =
        ap (λ t. cond t (option_map_or (insert_key tuple_cmp []) (tuple_at g key.exprs (with_bound nothing_bound 0 (bounds.Node id))) []) [])
        (all_agree (with_bound nothing_bound 0 (bounds.Node id)) key.descriptor.atoms (speaks key.descriptor (descriptor_valid key valid) local.1))
        ∙ ap (λ o. option_map_or (λ tuple. tuple ∷ []) o []) (tuple_own g id own there key.exprs inside)
    by_test false = refl

    values_are : key_values resolved g key (elems.Node id) ≡ own_tuples resolved key (elems.Node id) own
    values_are =
        sym (gathered_are_values resolved g key valid (one_var key.descriptor local.1) [] (one_plan key.descriptor local.1) (elems.Node id))
        ∙ ap (λ o. option_map_or (λ x. gathered resolved g key.descriptor.atoms key.exprs [] (with_bound nothing_bound 0 x) []) o [])
        (present resolved g key.descriptor (descriptor_valid key valid) local.1 id own there)
        ∙ by_test (own_passes resolved key.descriptor 0 (elems.Node id) own)

    pub inside_row : own_passes resolved key.scope 0 (elems.Node id) own ≡ true → Some (own_tuples resolved key (elems.Node id) own) ≡ values_in_scope resolved g key (elems.Node id)
    inside_row passes = sym (ap row (in_scope_is ∙ passes) ∙ ap Some values_are)
