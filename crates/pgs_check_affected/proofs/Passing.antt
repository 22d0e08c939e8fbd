-- An element that a match binds passes what its variable asks, and what is reached from one is there.
use Rattle.std.proofs.Common.{◌≡◌, ℕ, ◌<◌, Bool, true, false, ◌&&◌, ◌||◌, cond, List, [], ◌∷◌, ◌++◌, filter, length, slice_get, Option, Some, None, refl, sym, ◌∙◌, ap, subst}
use Rattle.std.specs.Prelude.{option_and_then, option_map}
use Rattle.std.specs.Option.{option_map_or}
use Rattle.std.specs.List.{list_any, list_all}
use Rattle.std.proofs.lemmas.Bool.{and_parts, and_from, and_left, or_left, or_right, both_ways, true_from_ne_false, false_from_ne_true}
use Rattle.std.proofs.lemmas.List.Folds.{list_any-append}
use Rattle.pgs_base.specs.declared.element.Elem.{Elem}
use Rattle.pgs_base.specs.declared.element.Elem.TheVariants.{Node, Edge}
use Rattle.pgs_base.specs.declared.row.NodeRow.{NodeRow}
use Rattle.pgs_base.specs.declared.row.EdgeRow.{EdgeRow}
use Rattle.pgs_base.specs.Graph.{Graph, node_at, edge_at}
use Rattle.pgs_base.specs.Pair.{pair_of}
use Rattle.pgs_syntax.specs.declared.pattern.Pattern.{Pattern}
use Rattle.pgs_syntax.specs.declared.resolved.Resolved.{Resolved}
use Rattle.pgs_syntax.specs.KeyValues.{starts_at}
use Rattle.pgs_syntax.specs.Matches.{same_elem, elements, is_match, matches}
use Rattle.pgs_syntax.specs.Valid.{is_edge_var, is_node_var, is_valid_pattern}
use Rattle.pgs_syntax.proofs.Assigned.{match_found, match_given}
use Rattle.pgs_syntax.proofs.Halves.{any_filter}
use Rattle.pgs_match.specs.declared.bindings.Bound.TheVariants as bounds
use Rattle.pgs_match.specs.Bounds.{stands_at, with_bound, nothing_bound}
use Rattle.pgs_match.specs.Reached.{reaches, reached}
use Rattle.pgs_match.specs.Search.{can_complete}
use Rattle.pgs_match.specs.Tests.{pair_meets, triple_meets, node_passes, admitted}
use Rattle.pgs_match.proofs.Counts.{some_at}
use Rattle.pgs_match.proofs.Planning.{plan_of}
use Rattle.pgs_match.proofs.There.{there_at, IsOfKind, node_there, edge_there}
use Rattle.pgs_match.proofs.Values.{found_by_matches}
use Rattle.pgs_syntax.specs.Typed.{triple_at}
use Rattle.pgs_check_affected.specs.Found.{passes}
use Rattle.pgs_check_affected.specs.Local.{is_one_of}
use Rattle.pgs_check_affected.proofs.Touching.{any_of, itself}

none_kept : {X : Type 0} (test : X → Bool) → ((x : X) → test x ≡ false) → (xs : List X) → filter test xs ≡ []
none_kept test none [] = refl
none_kept test none (x ∷ xs) = rw (none x) (none_kept test none xs)

-- ---- what a variable's own test rules out

module _ (resolved : Resolved) (g : Graph) (pattern : Pattern) where
  admitted_none : (var : ℕ) (elem : Elem) → passes resolved g pattern var elem ≡ false → admitted resolved g pattern var elem ≡ None
  admitted_none var (Node id) fails = by (is_node_var pattern.edge_vars var) (node_at g id) fails
    where
      by : (k : Bool) (o : Option NodeRow) → option_map_or (λ own. cond k (node_passes resolved pattern.atoms var own) false) o false ≡ false →
          cond k (option_and_then (λ own. cond (node_passes resolved pattern.atoms var own) (Some (bounds.Node id)) None) o) None ≡ None
      by false o fails = refl
      by true None fails = refl
      by true (Some own) fails = ap (λ b. cond b (Some (bounds.Node id)) None) fails
  admitted_none var (Edge id) fails = by (is_edge_var pattern.edge_vars var) (edge_at g id) fails
    where
      by : (k : Bool) (o : Option EdgeRow) →
          option_map_or (λ own. cond k (list_all (pair_meets var own) pattern.atoms) false) (option_map (λ (row : EdgeRow). pair_of row.labels row.props) o) false ≡ false →
          cond k (option_and_then (λ (row : EdgeRow).
          cond (list_all (pair_meets var (pair_of row.labels row.props)) pattern.atoms && list_all (triple_meets resolved var (triple_at g row)) pattern.atoms)
          (Some (bounds.Edge id row.source row.target)) None) o) None ≡ None
      by false o fails = refl
      by true None fails = refl
      by true (Some row) fails = ap (λ b. cond b (Some (bounds.Edge id row.source row.target)) None) (and_left _ _ fails)

  module _ (valid : is_valid_pattern pattern ≡ true) (var : ℕ) (below : var < length pattern.edge_vars) (elem : Elem) where
    pub match_passes : list_any (stands_at var elem) (matches resolved g pattern) ≡ true → passes resolved g pattern var elem ≡ true
    match_passes some =
        let plan = plan_of pattern valid var below in
        true_from_ne_false _ (λ fails. both_ways _
        (sym (found_by_matches resolved g pattern valid var below plan.0 plan.1 elem)
        ∙ ap (λ o. option_map_or (λ bound. can_complete resolved g pattern.atoms plan.0 (with_bound nothing_bound var bound)) o false) (admitted_none var elem fails))
        some)

    pub reached_none : passes resolved g pattern var elem ≡ false → reached resolved g pattern var elem ≡ []
    reached_none fails =
        none_kept (reaches resolved g pattern var elem)
        (λ first. false_from_ne_true _ (λ some.
        let it = match_found resolved g pattern (λ elems. stands_at var elem elems && starts_at first elems) some in
        both_ways _ fails (match_passes (match_given resolved g pattern (stands_at var elem) it.0 it.1 (and_parts _ _ it.2).0))))
        (elements g false ++ elements g true)

  -- the element at which a match starts is there
  is_there : (elems : List Elem) → is_match resolved g pattern elems ≡ true → (first : Elem) → slice_get elems 0 ≡ Some first → 0 < length pattern.edge_vars →
      is_one_of (elements g false ++ elements g true) first ≡ true
  is_there elems match first at some =
      let kind = some_at pattern.edge_vars 0 some in
      let it = there_at g pattern.edge_vars elems 0 kind.0 (and_parts _ _ match).0 kind.1 in
      let same : it.0 ≡ first = (let e : Some it.0 ≡ Some first = sym it.1 ∙ at in cc) in
      list_any-append (same_elem first) (elements g false) (elements g true) ∙ by kind.0 first (subst (IsOfKind g kind.0) same it.2)
    where
      by : (kind : Bool) (first : Elem) → IsOfKind g kind first → (list_any (same_elem first) (elements g false) || list_any (same_elem first) (elements g true)) ≡ true
      by true first form = or_right _ _ (subst (λ e. list_any (same_elem e) (elements g true) ≡ true) (sym form.2) (edge_there g form.0 form.1 form.3))
      by false first form = or_left _ _ (subst (λ e. list_any (same_elem e) (elements g false) ≡ true) (sym form.2) (node_there g form.0 form.1 form.3))

  pub stands_itself : (var : ℕ) (elem : Elem) (elems : List Elem) → slice_get elems var ≡ Some elem → stands_at var elem elems ≡ true
  stands_itself var elem elems at = ap (λ o. option_map_or (same_elem elem) o false) at ∙ itself elem

  pub reached_has : (var : ℕ) (elem first : Elem) (elems : List Elem) → is_match resolved g pattern elems ≡ true → slice_get elems var ≡ Some elem → slice_get elems 0 ≡ Some first →
      0 < length pattern.edge_vars → is_one_of (reached resolved g pattern var elem) first ≡ true
  reached_has var elem first elems match at at_first some =
      any_filter (same_elem first) (reaches resolved g pattern var elem) (elements g false ++ elements g true)
      ∙ any_of (λ x. reaches resolved g pattern var elem x && same_elem first x) first (elements g false ++ elements g true) (is_there elems match first at_first some)
      (and_from _ _ (match_given resolved g pattern (λ others. stands_at var elem others && starts_at first others) elems match
      (and_from _ _ (stands_itself var elem elems at) (stands_itself 0 first elems at_first)))
      (itself first))
