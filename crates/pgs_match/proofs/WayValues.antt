-- The tuples under the routes to the variables that expressions take are those under all completions.
use Rattle.std.proofs.Common.{◌≡◌, ℕ, ◌<◌, Bool, true, false, ◌||◌, List, [], ◌∷◌, length, fold, nat_lt, Option, Some, None, refl, sym, ◌∙◌, ap}
use Rattle.std.specs.Prelude.{option_and_then, option_map}
use Rattle.std.specs.Option.{option_map_or}
use Rattle.std.specs.List.{list_any, list_all}
use Rattle.std.specs.List.Sorted.{IsStrictlySortedBy}
use Rattle.std.specs.BTreeMap.{is_at}
use Rattle.std.specs.BTreeSet.{insert_key}
use Rattle.std.specs.Cmp.{eq_by_cmp_equiv}
use Rattle.std.proofs.Math.Bool.{or-false}
use Rattle.std.proofs.lemmas.Bool.{and_parts, ltb-true}
use Rattle.pgs_base.specs.declared.element.Elem.{Elem}
use Rattle.pgs_base.specs.declared.part.Part.{Part}
use Rattle.pgs_base.specs.declared.part.Part.TheVariants as parts
use Rattle.pgs_base.specs.declared.row.NodeRow.{NodeRow}
use Rattle.pgs_base.specs.Graph.{Graph, is_graph}
use Rattle.pgs_base.specs.Order.{tuple_cmp}
use Rattle.pgs_base.specs.OrderLaws.{tuple_cmp_total, exact_tuple}
use Rattle.pgs_base.specs.Pair.{value_at}
use Rattle.pgs_base.proofs.Ascending.{ascending_none, ascending-insert_key}
use Rattle.pgs_base.proofs.Lookups.{any-insert_key, same_keys}
use Rattle.pgs_syntax.specs.declared.pattern.Atom.{Atom}
use Rattle.pgs_syntax.specs.declared.pattern.Expr.{Expr}
use Rattle.pgs_syntax.specs.declared.pattern.Expr.TheVariants.{Element, Property}
use Rattle.pgs_syntax.specs.declared.pattern.Pattern.{Pattern}
use Rattle.pgs_syntax.specs.declared.resolved.Resolved.{Resolved}
use Rattle.pgs_syntax.specs.KeyValues.{part_of, tuple_of}
use Rattle.pgs_syntax.specs.Matches.{carried}
use Rattle.pgs_syntax.specs.Valid.{read_var, is_valid_pattern}
use Rattle.pgs_match.specs.declared.step.Step.{Step}
use Rattle.pgs_match.specs.declared.bindings.Bound.{Bound}
use Rattle.pgs_match.specs.Bounds.{elem_of, bound_at, with_bound, nothing_bound}
use Rattle.pgs_match.specs.Branches.{is_tree}
use Rattle.pgs_match.specs.Plans.{is_plan}
use Rattle.pgs_match.specs.Routes.{on_way, off_way, whole, routes, with_tuple}
use Rattle.pgs_match.specs.Search.{part_at, tuple_at, gathered}
use Rattle.pgs_match.specs.Tests.{admitted}
use Rattle.pgs_match.proofs.Agreeing.{Agrees}
use Rattle.pgs_match.proofs.Gathered.{gives}
use Rattle.pgs_match.proofs.OnWay.{is_wanted, routes_are_matches}
use Rattle.pgs_match.proofs.Values.{from_ascends, has_from}

-- ---- tuples of a list of bindings

module _ (g : Graph) (exprs : List Expr) where
  pub all_ascend : (list : List (List (Option Bound))) (tuples : List (List Part)) → IsStrictlySortedBy tuple_cmp tuples → IsStrictlySortedBy tuple_cmp (fold (with_tuple g exprs) tuples list)
  all_ascend [] tuples order = order
  all_ascend (b ∷ list) tuples order = all_ascend list (with_tuple g exprs tuples b) (by (tuple_at g exprs b))
    where
      by : (o : Option (List Part)) → IsStrictlySortedBy tuple_cmp (option_map_or (insert_key tuple_cmp tuples) o tuples)
      by None = order
      by (Some tuple) = ascending-insert_key tuple_cmp_total tuple tuples order

  module _ (resolved : Resolved) (atoms : List Atom) (tuple : List Part) where
    pub has_all : (list : List (List (Option Bound))) (tuples : List (List Part)) →
        list_any (is_at (tuple_cmp tuple)) (fold (with_tuple g exprs) tuples list) ≡ (list_any (is_at (tuple_cmp tuple)) tuples || list_any (gives resolved g atoms exprs tuple) list)
    has_all [] tuples = sym (or-false (list_any (is_at (tuple_cmp tuple)) tuples))
    has_all (b ∷ list) tuples =
        has_all list (with_tuple g exprs tuples b) ∙ ap (λ t. t || list_any (gives resolved g atoms exprs tuple) list) (put (tuple_at g exprs b))
        ∙ three (list_any (is_at (tuple_cmp tuple)) tuples) (gives resolved g atoms exprs tuple b) (list_any (gives resolved g atoms exprs tuple) list)
      where
        three : (a b c : Bool) → ((a || b) || c) ≡ (a || (b || c))
        three true b c = refl
        three false b c = refl

        swap : (a b : Bool) → (a || b) ≡ (b || a)
        swap true true = refl
        swap true false = refl
        swap false true = refl
        swap false false = refl

        put : (o : Option (List Part)) → list_any (is_at (tuple_cmp tuple)) (option_map_or (insert_key tuple_cmp tuples) o tuples)
            ≡ (list_any (is_at (tuple_cmp tuple)) tuples || option_map_or (is_at (tuple_cmp tuple)) o false)
        put None = sym (or-false (list_any (is_at (tuple_cmp tuple)) tuples))
        put (Some other) =
            any-insert_key tuple_cmp_total tuple other tuples ∙ ap (λ t. t || list_any (is_at (tuple_cmp tuple)) tuples) ((eq_by_cmp_equiv tuple_cmp_total).symm other tuple)
            ∙ swap (is_at (tuple_cmp tuple) other) (list_any (is_at (tuple_cmp tuple)) tuples)

-- ---- expressions over wanted variables

module _ (resolved : Resolved) (g : Graph) (pattern : Pattern) (wanted : List ℕ) where
  -- a wanted variable is bound
  abbrev pub AreBound : List (Option Bound) → Type 0
  AreBound b = (v : ℕ) → is_wanted wanted v ≡ true → v < length pattern.edge_vars → (x : Bound) × (bound_at b v ≡ Some x)

  part_on : (b : List (Option Bound)) (elems : List Elem) → Agrees b elems → AreBound b → (expr : Expr) → is_wanted wanted (read_var expr) ≡ true → read_var expr < length pattern.edge_vars → part_at g b expr ≡ part_of g elems expr
  part_on b elems agree all (Element var) want below =
      let x = all var want below in
      ap (option_map (λ bound. parts.Elem (elem_of bound))) x.1 ∙ sym (ap (option_map parts.Elem) (agree var x.0 x.1))
  part_on b elems agree all (Property var key) want below =
      let x = all var want below in
      ap (λ o. option_map parts.Value (option_and_then (λ (own : NodeRow). value_at key own.props) (option_and_then (λ bound. carried g (elem_of bound)) o))) x.1
      ∙ sym (ap (λ o. option_map parts.Value (option_and_then (λ (own : NodeRow). value_at key own.props) (option_and_then (carried g) o))) (agree var x.0 x.1))

  part_small : (small b : List (Option Bound)) → ((v : ℕ) (x : Bound) → bound_at small v ≡ Some x → bound_at b v ≡ Some x) → AreBound small → (expr : Expr) → is_wanted wanted (read_var expr) ≡ true →
      read_var expr < length pattern.edge_vars → part_at g small expr ≡ part_at g b expr
  part_small small b within all (Element var) want below =
      let x = all var want below in ap (option_map (λ bound. parts.Elem (elem_of bound))) (x.1 ∙ sym (within var x.0 x.1))
  part_small small b within all (Property var key) want below =
      let x = all var want below in
      ap (λ o. option_map parts.Value (option_and_then (λ (own : NodeRow). value_at key own.props) (option_and_then (λ bound. carried g (elem_of bound)) o))) (x.1 ∙ sym (within var x.0 x.1))

  abbrev AreRead : List Expr → Type 0
  AreRead exprs = (list_all (λ expr. is_wanted wanted (read_var expr)) exprs ≡ true) × (list_all (λ (expr : Expr). nat_lt (read_var expr) (length pattern.edge_vars)) exprs ≡ true)

  tuple_on : (b : List (Option Bound)) (elems : List Elem) → Agrees b elems → AreBound b → (exprs : List Expr) → AreRead exprs → tuple_at g exprs b ≡ tuple_of g exprs elems
  tuple_on b elems agree all [] read = refl
  tuple_on b elems agree all (expr ∷ exprs) read =
      let one = and_parts (is_wanted wanted (read_var expr)) _ read.0 in
      let both = and_parts (nat_lt (read_var expr) (length pattern.edge_vars)) _ read.1 in
      ap (option_and_then (λ part. option_map (λ rest. part ∷ rest) (tuple_at g exprs b))) (part_on b elems agree all expr one.0 (ltb-true (read_var expr) (length pattern.edge_vars) both.0))
      ∙ ap (λ rest_of. option_and_then (λ part. option_map (λ rest. part ∷ rest) rest_of) (part_of g elems expr)) (tuple_on b elems agree all exprs (one.1, both.1))

  tuple_small : (small b : List (Option Bound)) → ((v : ℕ) (x : Bound) → bound_at small v ≡ Some x → bound_at b v ≡ Some x) → AreBound small → (exprs : List Expr) → AreRead exprs → tuple_at g exprs small ≡ tuple_at g exprs b
  tuple_small small b within all [] read = refl
  tuple_small small b within all (expr ∷ exprs) read =
      let one = and_parts (is_wanted wanted (read_var expr)) _ read.0 in
      let both = and_parts (nat_lt (read_var expr) (length pattern.edge_vars)) _ read.1 in
      ap (option_and_then (λ part. option_map (λ rest. part ∷ rest) (tuple_at g exprs small))) (part_small small b within all expr one.0 (ltb-true (read_var expr) (length pattern.edge_vars) both.0))
      ∙ ap (λ rest_of. option_and_then (λ part. option_map (λ rest. part ∷ rest) rest_of) (part_at g b expr)) (tuple_small small b within all exprs (one.1, both.1))

-- ---- what is gathered along the routes

module _ (resolved : Resolved) (g : Graph) (graph : is_graph g ≡ true) (pattern : Pattern) (valid : is_valid_pattern pattern ≡ true) (var : ℕ) (below : var < length pattern.edge_vars) (plan : List Step)
    (plans : is_plan pattern var plan ≡ true) (tree : is_tree pattern.atoms plan ≡ true) (elem : Elem) (wanted : List ℕ) (exprs : List Expr)
    (reads : list_all (λ expr. is_wanted wanted (read_var expr)) exprs ≡ true) (inside : list_all (λ (expr : Expr). nat_lt (read_var expr) (length pattern.edge_vars)) exprs ≡ true) where
  abbrev routes_of : List (List (Option Bound))
  routes_of =
      option_map_or (λ x. routes resolved g pattern.atoms (off_way wanted plan) (on_way wanted plan) (with_bound nothing_bound var x))
      (whole resolved g pattern.atoms (off_way wanted plan) var (admitted resolved g pattern var elem)) []

  has_same : (tuple : List Part) → list_any (is_at (tuple_cmp tuple)) (fold (with_tuple g exprs) [] routes_of)
      ≡ list_any (is_at (tuple_cmp tuple)) (option_map_or (λ x. gathered resolved g pattern.atoms exprs plan (with_bound nothing_bound var x) []) (admitted resolved g pattern var elem) [])
  has_same tuple =
      has_all g exprs resolved pattern.atoms tuple routes_of []
      ∙ routes_are_matches resolved g graph pattern valid var below plan plans tree elem wanted (gives resolved g pattern.atoms exprs tuple)
      (λ elems. option_map_or (is_at (tuple_cmp tuple)) (tuple_of g exprs elems) false)
      (λ final elems agree all. ap (λ o. option_map_or (is_at (tuple_cmp tuple)) o false) (tuple_on resolved g pattern wanted final elems agree all exprs (reads, inside)))
      (λ small b within all. ap (λ o. option_map_or (is_at (tuple_cmp tuple)) o false) (tuple_small resolved g pattern wanted small b within all exprs (reads, inside)))
      ∙ sym (has_from resolved g pattern valid var below plan plans elem exprs inside tuple)

  pub routes_give_all : fold (with_tuple g exprs) [] routes_of
      ≡ option_map_or (λ x. gathered resolved g pattern.atoms exprs plan (with_bound nothing_bound var x) []) (admitted resolved g pattern var elem) []
  routes_give_all =
      same_keys tuple_cmp_total exact_tuple _ _ (all_ascend g exprs routes_of [] (ascending_none tuple_cmp [] refl))
      (from_ascends resolved g pattern valid var below plan plans elem exprs inside) has_same
