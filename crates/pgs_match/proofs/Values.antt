-- What a search gathers are the key values of an element, and the elements that are reached.
use Rattle.std.proofs.Common.{◌≡◌, ℕ, ◌<◌, Bool, true, false, ◌&&◌, List, [], ◌∷◌, length, nat_lt, Option, Some, None, refl, sym, ◌∙◌, ap, true≢false}
use Rattle.std.specs.Prelude.{option_and_then, option_map}
use Rattle.std.specs.Option.{option_map_or}
use Rattle.std.specs.Ordering.{is_eq}
use Rattle.std.specs.List.{list_any, list_all}
use Rattle.std.specs.List.Sorted.{IsStrictlySortedBy}
use Rattle.std.specs.BTreeMap.{is_at}
use Rattle.std.specs.Cmp.{tied_itself, Equal-is}
use Rattle.std.proofs.lemmas.Bool.{and_parts, and_from, ltb-true}
use Rattle.pgs_base.specs.declared.element.Elem.{Elem}
use Rattle.pgs_base.specs.declared.part.Part.{Part}
use Rattle.pgs_base.specs.declared.part.Part.TheVariants as parts
use Rattle.pgs_base.specs.declared.row.NodeRow.{NodeRow}
use Rattle.pgs_base.specs.Graph.{Graph}
use Rattle.pgs_base.specs.Order.{tuple_cmp}
use Rattle.pgs_base.specs.OrderLaws.{tuple_cmp_total, exact_tuple}
use Rattle.pgs_base.specs.Pair.{value_at}
use Rattle.pgs_base.proofs.Ascending.{ascends_decides, ascending_none}
use Rattle.pgs_base.proofs.Lookups.{same_keys}
use Rattle.pgs_syntax.specs.declared.key.Key.{Key}
use Rattle.pgs_syntax.specs.declared.pattern.Expr.{Expr}
use Rattle.pgs_syntax.specs.declared.pattern.Expr.TheVariants.{Element, Property}
use Rattle.pgs_syntax.specs.declared.pattern.Pattern.{Pattern}
use Rattle.pgs_syntax.specs.declared.resolved.Resolved.{Resolved}
use Rattle.pgs_syntax.specs.KeyValues.{starts_at, part_of, tuple_of, key_values}
use Rattle.pgs_syntax.specs.Matches.{carried, matches}
use Rattle.pgs_syntax.specs.Valid.{read_var, is_valid_pattern, is_valid_key}
use Rattle.pgs_syntax.proofs.Assigned.{match_found, match_given, value_found, value_given}
use Rattle.pgs_syntax.proofs.Halves.{any_same}
use Rattle.pgs_syntax.proofs.InOrder.{values_ascend}
use Rattle.pgs_match.specs.declared.step.Step.{Step}
use Rattle.pgs_match.specs.Plans.{is_plan}
use Rattle.pgs_match.specs.declared.bindings.Bound.{Bound}
use Rattle.pgs_match.specs.Bounds.{elem_of, with_bound, nothing_bound, stands_at}
use Rattle.pgs_match.specs.Search.{part_at, tuple_at, completions, can_complete, gathered}
use Rattle.pgs_match.specs.Tests.{admitted}
use Rattle.pgs_match.proofs.Agreeing.{Agrees, IsFull}
use Rattle.pgs_match.proofs.Gathered.{can_is_any, through, gathered_ascends, has_gathered, gives, option_keeps, option_any}
use Rattle.pgs_match.proofs.Started.{started_are_matches, same_truth}

-- ---- expressions under bindings are those under the elements

module _ (resolved : Resolved) (g : Graph) (pattern : Pattern) (final : List (Option Bound)) (elems : List Elem) (agree : Agrees final elems) (full : IsFull resolved g pattern final) where
  part_same : (expr : Expr) → read_var expr < length pattern.edge_vars → part_at g final expr ≡ part_of g elems expr
  part_same (Element var) below =
      let x = full var below in
      ap (option_map (λ bound. parts.Elem (elem_of bound))) x.1 ∙ sym (ap (option_map parts.Elem) (agree var x.0 x.1))
  part_same (Property var key) below =
      let x = full var below in
      ap (λ o. option_map parts.Value (option_and_then (λ (own : NodeRow). value_at key own.props) (option_and_then (λ bound. carried g (elem_of bound)) o))) x.1
      ∙ sym (ap (λ o. option_map parts.Value (option_and_then (λ (own : NodeRow). value_at key own.props) (option_and_then (carried g) o))) (agree var x.0 x.1))

  pub tuple_same : (exprs : List Expr) → list_all (λ (expr : Expr). nat_lt (read_var expr) (length pattern.edge_vars)) exprs ≡ true → tuple_at g exprs final ≡ tuple_of g exprs elems
  tuple_same [] inside = refl
  tuple_same (expr ∷ exprs) inside =
      let both = and_parts (nat_lt (read_var expr) (length pattern.edge_vars)) _ inside in
      ap (option_and_then (λ part. option_map (λ rest. part ∷ rest) (tuple_at g exprs final))) (part_same expr (ltb-true (read_var expr) (length pattern.edge_vars) both.0))
      ∙ ap (λ rest_of. option_and_then (λ part. option_map (λ rest. part ∷ rest) rest_of) (part_of g elems expr)) (tuple_same exprs both.1)

module _ (resolved : Resolved) (g : Graph) (pattern : Pattern) (valid : is_valid_pattern pattern ≡ true) (var : ℕ) (below : var < length pattern.edge_vars) (plan : List Step)
    (plans : is_plan pattern var plan ≡ true) (elem : Elem) where
  -- ---- whether some match has the element

  and_true : (a : Bool) → (a && true) ≡ a
  and_true true = refl
  and_true false = refl

  pub found_by_matches : option_map_or (λ x. can_complete resolved g pattern.atoms plan (with_bound nothing_bound var x)) (admitted resolved g pattern var elem) false
      ≡ list_any (stands_at var elem) (matches resolved g pattern)
  found_by_matches =
      through resolved g pattern.atoms (λ x. can_complete resolved g pattern.atoms plan (with_bound nothing_bound var x)) (λ x. completions resolved g pattern.atoms plan (with_bound nothing_bound var x))
      (λ x. can_is_any resolved g pattern.atoms plan (with_bound nothing_bound var x)) (admitted resolved g pattern var elem)
      ∙ started_are_matches resolved g pattern valid var below plan plans elem (λ b. true) (λ elems. true) (λ final elems agree full. refl)
      ∙ any_same (λ elems. stands_at var elem elems && true) (stands_at var elem) (λ elems. and_true (stands_at var elem elems)) (matches resolved g pattern)

  -- ---- what is gathered

  module _ (exprs : List Expr) (inside : list_all (λ (expr : Expr). nat_lt (read_var expr) (length pattern.edge_vars)) exprs ≡ true) where
    abbrev pub gathered_from : List (List Part)
    gathered_from = option_map_or (λ x. gathered resolved g pattern.atoms exprs plan (with_bound nothing_bound var x) []) (admitted resolved g pattern var elem) []

    pub from_ascends : IsStrictlySortedBy tuple_cmp gathered_from
    from_ascends =
        option_keeps (IsStrictlySortedBy tuple_cmp) (λ x. gathered resolved g pattern.atoms exprs plan (with_bound nothing_bound var x) []) []
        (λ x. gathered_ascends resolved g pattern.atoms exprs plan (with_bound nothing_bound var x) [] (ascending_none tuple_cmp [] refl)) (admitted resolved g pattern var elem) (ascending_none tuple_cmp [] refl)

    pub has_from : (tuple : List Part) → list_any (is_at (tuple_cmp tuple)) gathered_from
        ≡ list_any (λ elems. stands_at var elem elems && option_map_or (is_at (tuple_cmp tuple)) (tuple_of g exprs elems) false) (matches resolved g pattern)
    has_from tuple =
        option_any (λ tuples. list_any (is_at (tuple_cmp tuple)) tuples) (gives resolved g pattern.atoms exprs tuple) (λ x. gathered resolved g pattern.atoms exprs plan (with_bound nothing_bound var x) [])
        (λ x. completions resolved g pattern.atoms plan (with_bound nothing_bound var x)) [] (λ x. has_gathered resolved g pattern.atoms exprs tuple plan (with_bound nothing_bound var x) [])
        (admitted resolved g pattern var elem)
        ∙ started_are_matches resolved g pattern valid var below plan plans elem (gives resolved g pattern.atoms exprs tuple)
        (λ elems. option_map_or (is_at (tuple_cmp tuple)) (tuple_of g exprs elems) false)
        (λ final elems agree full. ap (λ o. option_map_or (is_at (tuple_cmp tuple)) o false) (tuple_same resolved g pattern final elems agree full exprs inside))

-- ---- key values

pub descriptor_valid : (key : Key) → is_valid_key key ≡ true → is_valid_pattern key.descriptor ≡ true
descriptor_valid key valid = (and_parts _ _ (and_parts _ _ (and_parts _ _ (and_parts _ _ valid).0).0).0).1

pub scope_valid : (key : Key) → is_valid_key key ≡ true → is_valid_pattern key.scope ≡ true
scope_valid key valid = (and_parts _ _ (and_parts _ _ (and_parts _ _ (and_parts _ _ valid).0).0).0).0

pub exprs_inside : (key : Key) → is_valid_key key ≡ true → list_all (λ (expr : Expr). nat_lt (read_var expr) (length key.descriptor.edge_vars)) key.exprs ≡ true
exprs_inside key valid = (and_parts _ _ valid).1

module _ (resolved : Resolved) (g : Graph) (key : Key) (valid : is_valid_key key ≡ true) (below : 0 < length key.descriptor.edge_vars) (plan : List Step)
    (plans : is_plan key.descriptor 0 plan ≡ true) (elem : Elem) where
  pub gathered_are_values : option_map_or (λ x. gathered resolved g key.descriptor.atoms key.exprs plan (with_bound nothing_bound 0 x) []) (admitted resolved g key.descriptor 0 elem) []
      ≡ key_values resolved g key elem
  gathered_are_values =
      same_keys tuple_cmp_total exact_tuple _ _
      (from_ascends resolved g key.descriptor (descriptor_valid key valid) 0 below plan plans elem key.exprs (exprs_inside key valid))
      ((ascends_decides tuple_cmp (key_values resolved g key elem)).0 (values_ascend resolved g key elem))
      (λ tuple. has_from resolved g key.descriptor (descriptor_valid key valid) 0 below plan plans elem key.exprs (exprs_inside key valid) tuple ∙ same_truth _ _ (there tuple) (back tuple))
    where
      gives_it : (tuple : List Part) (o : Option (List Part)) → option_map_or (is_at (tuple_cmp tuple)) o false ≡ true → o ≡ Some tuple
      gives_it tuple None h = absurd (true≢false (sym h))
      gives_it tuple (Some other) h = ap Some (sym (exact_tuple tuple other ((Equal-is (tuple_cmp tuple other)).0 h)))

      there : (tuple : List Part) → list_any (λ elems. starts_at elem elems && option_map_or (is_at (tuple_cmp tuple)) (tuple_of g key.exprs elems) false) (matches resolved g key.descriptor) ≡ true →
          list_any (is_at (tuple_cmp tuple)) (key_values resolved g key elem) ≡ true
      there tuple h =
          let it = match_found resolved g key.descriptor (λ elems. starts_at elem elems && option_map_or (is_at (tuple_cmp tuple)) (tuple_of g key.exprs elems) false) h in
          let parts = and_parts (starts_at elem it.0) _ it.2 in
          value_given resolved g key elem tuple it.0 it.1 parts.0 (gives_it tuple (tuple_of g key.exprs it.0) parts.1)

      back : (tuple : List Part) → list_any (is_at (tuple_cmp tuple)) (key_values resolved g key elem) ≡ true →
          list_any (λ elems. starts_at elem elems && option_map_or (is_at (tuple_cmp tuple)) (tuple_of g key.exprs elems) false) (matches resolved g key.descriptor) ≡ true
      back tuple h =
          let it = value_found resolved g key elem tuple h in
          match_given resolved g key.descriptor (λ elems. starts_at elem elems && option_map_or (is_at (tuple_cmp tuple)) (tuple_of g key.exprs elems) false) it.0 it.1
          (and_from _ _ it.2 (ap (λ o. option_map_or (is_at (tuple_cmp tuple)) o false) it.3 ∙ ap is_eq (tied_itself tuple_cmp_total tuple)))
