-- A search from one variable and its element comes to the matches that have the element at the variable.
use Rattle.std.proofs.Common.{◌≡◌, ℕ, zero, suc, ◌<◌, Bool, true, false, ◌&&◌, cond, not, List, [], length, slice_get, replicate, Option, Some, None, is_some, refl, sym, ◌∙◌, ap, subst, true≢false, arith}
use Rattle.std.specs.Option.{option_map_or}
use Rattle.std.specs.Ordering.{is_eq}
use Rattle.std.specs.List.{list_any}
use Rattle.std.specs.Cmp.{tied_itself, Equal-is}
use Rattle.std.proofs.lemmas.Bool.{and_parts, and_from}
use Rattle.pgs_base.specs.declared.element.Elem.{Elem}
use Rattle.pgs_base.specs.declared.element.Elem.TheVariants.{Node, Edge}
use Rattle.pgs_base.specs.Graph.{Graph, edge_at}
use Rattle.pgs_base.specs.Order.{elem_cmp}
use Rattle.pgs_base.specs.OrderLaws.{elem_cmp_total, exact_elem}
use Rattle.pgs_syntax.specs.declared.pattern.Pattern.{Pattern}
use Rattle.pgs_syntax.specs.declared.resolved.Resolved.{Resolved}
use Rattle.pgs_syntax.specs.Matches.{same_elem, is_match, matches}
use Rattle.pgs_syntax.specs.Valid.{is_edge_var, is_node_var, is_valid_pattern}
use Rattle.pgs_syntax.proofs.Assigned.{match_found, match_given}
use Rattle.pgs_match.specs.declared.step.Step.{Step}
use Rattle.pgs_match.specs.Plans.{is_known, known_alone, is_plan}
use Rattle.pgs_match.proofs.Counts.{some_at}
use Rattle.pgs_match.proofs.Known.{valid_most}
use Rattle.pgs_match.specs.declared.bindings.Bound.{Bound}
use Rattle.pgs_match.specs.declared.bindings.Bound.TheVariants as bounds
use Rattle.pgs_match.specs.Bounds.{elem_of, bound_at, with_bound, nothing_bound, stands_at}
use Rattle.pgs_match.specs.Search.{completions}
use Rattle.pgs_match.specs.Tests.{admitted_node, admitted_edge, admitted}
use Rattle.pgs_match.proofs.Agreeing.{Agrees, IsFull}
use Rattle.pgs_match.proofs.Completed.{any_option, found, agrees_more, given, edge_of_match, node_of_match}
use Rattle.pgs_match.proofs.Standing.{IsGood, IsState, node_elem, edge_elem, admitted_node_good, admitted_edge_good, state_more, bound_now}
use Rattle.pgs_match.proofs.There.{there_at, IsOfKind}

pub same_truth : (a b : Bool) → (a ≡ true → b ≡ true) → (b ≡ true → a ≡ true) → a ≡ b
same_truth true b there back = sym (there refl)
same_truth false true there back = back refl
same_truth false false there back = refl

pub nothing_at : (n var : ℕ) → bound_at (replicate n None) var ≡ None
nothing_at zero var = refl
nothing_at (suc n) zero = refl
nothing_at (suc n) (suc var) = nothing_at n var

pub none_known : (n var : ℕ) → is_known (replicate n false) var ≡ false
none_known zero var = refl
none_known (suc n) zero = refl
none_known (suc n) (suc var) = none_known n var

module _ (resolved : Resolved) (g : Graph) (pattern : Pattern) where
  pub state_alone : (var : ℕ) (x : Bound) → var < 20 → IsGood resolved g pattern var x → IsState resolved g pattern (known_alone var) (with_bound nothing_bound var x)
  state_alone var x below good = state_more resolved g pattern (replicate 20 false) nothing_bound nothing var x below good
    where
      nothing : IsState resolved g pattern (replicate 20 false) nothing_bound
      nothing = record {
        known_size = refl;
        size = refl;
        same = λ v. none_known 20 v ∙ sym (ap is_some (nothing_at 20 v));
        good = λ v y at. let e : None ≡ Some y = sym (nothing_at 20 v) ∙ at in cc;
      }

  -- what is admitted may be bound, and is the element
  pub admitted_good : (var : ℕ) (elem : Elem) (x : Bound) → admitted resolved g pattern var elem ≡ Some x → IsGood resolved g pattern var x × (elem_of x ≡ elem)
  admitted_good var (Node id) x h = by (is_node_var pattern.edge_vars var) refl h
    where
      by : (b : Bool) → is_node_var pattern.edge_vars var ≡ b → cond b (admitted_node resolved g pattern.atoms var id) None ≡ Some x → IsGood resolved g pattern var x × (elem_of x ≡ Node id)
      by true kind found_here = (admitted_node_good resolved g pattern var id x kind found_here, node_elem resolved g pattern var id x found_here)
      by false kind found_here = cc
  admitted_good var (Edge id) x h = by (is_edge_var pattern.edge_vars var) refl h
    where
      by : (b : Bool) → is_edge_var pattern.edge_vars var ≡ b → cond b (admitted_edge resolved g pattern.atoms var id) None ≡ Some x → IsGood resolved g pattern var x × (elem_of x ≡ Edge id)
      by true kind found_here = (admitted_edge_good resolved g pattern var id x kind found_here, edge_elem resolved g pattern var id x found_here)
      by false kind found_here = cc

  -- the element of a match at a variable is admitted
  module _ (valid : is_valid_pattern pattern ≡ true) (elems : List Elem) (match : is_match resolved g pattern elems ≡ true) where
    pub admitted_of_match : (var : ℕ) (elem : Elem) → var < length pattern.edge_vars → slice_get elems var ≡ Some elem → (x : Bound) × (admitted resolved g pattern var elem ≡ Some x) × (elem_of x ≡ elem)
    admitted_of_match var elem below at =
        let kind = some_at pattern.edge_vars var below in
        let there = there_at g pattern.edge_vars elems var kind.0 (and_parts _ _ match).0 kind.1 in
        let same : there.0 ≡ elem = (let e : Some there.0 ≡ Some elem = sym there.1 ∙ at in cc) in
        by kind.0 elem kind.1 at (subst (IsOfKind g kind.0) same there.2)
      where
        by : (kind : Bool) (elem : Elem) → slice_get pattern.edge_vars var ≡ Some kind → slice_get elems var ≡ Some elem → IsOfKind g kind elem →
            (x : Bound) × (admitted resolved g pattern var elem ≡ Some x) × (elem_of x ≡ elem)
        by true (Edge id) kind here form =
            let is : is_edge_var pattern.edge_vars var ≡ true = ap (λ (o : Option Bool). option_map_or (λ is_edge. is_edge) o false) kind in
            let number : form.0 ≡ id = (let e : Edge id ≡ Edge form.0 = form.2 in cc) in
            let row_at = subst (λ n. edge_at g n ≡ Some form.1) number form.3 in (
              bounds.Edge id form.1.source form.1.target,
              ap (λ b. cond b (admitted_edge resolved g pattern.atoms var id) None) is ∙ edge_of_match resolved g pattern valid elems match var id form.1 here row_at,
              refl,
            )
        by true (Node id) kind here form = let e : Node id ≡ Edge form.0 = form.2 in cc
        by false (Node id) kind here form =
            let is : is_node_var pattern.edge_vars var ≡ true = ap (λ (o : Option Bool). option_map_or not o false) kind in
            (bounds.Node id, ap (λ b. cond b (admitted_node resolved g pattern.atoms var id) None) is ∙ node_of_match resolved g pattern valid elems match var id is here, refl)
        by false (Edge id) kind here form = let e : Edge id ≡ Node form.0 = form.2 in cc

  module _ (valid : is_valid_pattern pattern ≡ true) (var : ℕ) (below : var < length pattern.edge_vars) (plan : List Step) (plans : is_plan pattern var plan ≡ true) (elem : Elem)
      (test : List (Option Bound) → Bool) (of_elems : List Elem → Bool) (same_test : (final : List (Option Bound)) (elems : List Elem) → Agrees final elems → IsFull resolved g pattern final → test final ≡ of_elems elems) where
    -- what the search has of the element comes to
    abbrev pub started : List (List (Option Bound))
    started = option_map_or (λ x. completions resolved g pattern.atoms plan (with_bound nothing_bound var x)) (admitted resolved g pattern var elem) []

    below_20 : var < 20
    below_20 = let most = valid_most pattern valid in omega arith

    there : list_any test started ≡ true → list_any (λ elems. stands_at var elem elems && of_elems elems) (matches resolved g pattern) ≡ true
    there h =
        let bound = any_option test (λ x. completions resolved g pattern.atoms plan (with_bound nothing_bound var x)) (admitted resolved g pattern var elem) h in
        let good = admitted_good var elem bound.0 bound.1 in
        let it = found resolved g pattern valid test plan (known_alone var) (with_bound nothing_bound var bound.0) plans (state_alone var bound.0 below_20 good.0) bound.2 in
        let at : slice_get it.1 var ≡ Some elem = it.4 var bound.0 (it.6 var bound.0 (bound_now nothing_bound var bound.0 below_20)) ∙ ap Some good.1 in
        match_given resolved g pattern (λ elems. stands_at var elem elems && of_elems elems) it.1 it.3
        (and_from _ _ (ap (λ o. option_map_or (same_elem elem) o false) at ∙ ap is_eq (tied_itself elem_cmp_total elem)) (sym (same_test it.0 it.1 it.4 it.5) ∙ it.2))

    stands : (elems : List Elem) → stands_at var elem elems ≡ true → slice_get elems var ≡ Some elem
    stands elems h = by (slice_get elems var) h
      where
        by : (o : Option Elem) → option_map_or (same_elem elem) o false ≡ true → o ≡ Some elem
        by None h = absurd (true≢false (sym h))
        by (Some other) h = ap Some (sym (exact_elem elem other ((Equal-is (elem_cmp elem other)).0 h)))

    back : list_any (λ elems. stands_at var elem elems && of_elems elems) (matches resolved g pattern) ≡ true → list_any test started ≡ true
    back h =
        let it = match_found resolved g pattern (λ elems. stands_at var elem elems && of_elems elems) h in
        let parts = and_parts (stands_at var elem it.0) _ it.2 in
        let at = stands it.0 parts.0 in
        let bound = admitted_of_match valid it.0 it.1 var elem below at in
        let good = admitted_good var elem bound.0 bound.1 in
        ap (λ o. list_any test (option_map_or (λ x. completions resolved g pattern.atoms plan (with_bound nothing_bound var x)) o [])) bound.1
        ∙ given resolved g pattern valid it.0 it.1 test (λ final agree full. same_test final it.0 agree full ∙ parts.1) plan (known_alone var) (with_bound nothing_bound var bound.0) plans
        (state_alone var bound.0 below_20 good.0) (agrees_more resolved g pattern valid it.0 it.1 nothing_bound var bound.0 below_20 (λ v y none. let e : None ≡ Some y = sym (nothing_at 20 v) ∙ none in cc)
        (at ∙ ap Some (sym bound.2)))

    pub started_are_matches : list_any test started ≡ list_any (λ elems. stands_at var elem elems && of_elems elems) (matches resolved g pattern)
    started_are_matches = same_truth _ _ there back
