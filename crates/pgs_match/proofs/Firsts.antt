-- The first elements of tuples, and that those which a search gathers of x are the elements that are reached.
use Rattle.std.proofs.Common.{◌≡◌, ℕ, ◌+◌, ◌<◌, ◌≤◌, true, false, List, [], ◌∷◌, ◌++◌, map, take, get_or, length, append-nil, Option, Some, None, OnSome, refl, sym, ap, ◌∙◌, true≢false, arith}
use Rattle.std.specs.Prelude.{filter_map}
use Rattle.std.specs.Ordering.{is_eq}
use Rattle.std.specs.Option.{option_map_or}
use Rattle.std.specs.List.{list_any, cons_option}
use Rattle.std.specs.BTreeMap.{is_at}
use Rattle.std.specs.Cmp.{tied_itself}
use Rattle.std.proofs.lemmas.Bool.{or_left}
use Rattle.std.proofs.lemmas.List.{take_more}
use Rattle.std.proofs.lemmas.List.Elements.{filter_map-append}
use Rattle.pgs_base.specs.declared.element.Elem.{Elem}
use Rattle.pgs_base.specs.declared.part.Part.{Part}
use Rattle.pgs_base.specs.Graph.{Graph, is_graph}
use Rattle.pgs_base.specs.Order.{tuple_cmp}
use Rattle.pgs_base.specs.OrderLaws.{tuple_cmp_total}
use Rattle.pgs_syntax.specs.declared.pattern.Expr.TheVariants.{Element}
use Rattle.pgs_syntax.specs.declared.pattern.Pattern.{Pattern}
use Rattle.pgs_syntax.specs.declared.resolved.Resolved.{Resolved}
use Rattle.pgs_syntax.specs.Valid.{is_valid_pattern}
use Rattle.pgs_match.specs.declared.step.Step.{Step}
use Rattle.pgs_match.specs.Plans.{is_plan}
use Rattle.pgs_match.specs.declared.bindings.Bound.{Bound}
use Rattle.pgs_match.specs.Bounds.{with_bound, nothing_bound}
use Rattle.pgs_match.specs.Reached.{reached}
use Rattle.pgs_match.specs.Search.{gathered}
use Rattle.pgs_match.specs.Tests.{admitted}
use Rattle.pgs_match.proofs.Reaching.{one_elem, gathered_are_reached, has_all}
use Rattle.pgs_match.specs.Planned.{first_elem}

module _ (tuples : List (List Part)) (i : ℕ) (d : List Part) (below : i < length tuples) where
  one_more : filter_map first_elem (take (i + 1) tuples) ≡ filter_map first_elem (take i tuples) ++ filter_map first_elem (get_or tuples i d ∷ [])
  one_more = ap (filter_map first_elem) (take_more tuples i d below) ∙ filter_map-append first_elem (take i tuples) (get_or tuples i d ∷ [])

  pub first_more : (elem : Elem) → Some elem ≡ first_elem (get_or tuples i d) → filter_map first_elem (take (i + 1) tuples) ≡ filter_map first_elem (take i tuples) ++ elem ∷ []
  first_more elem is = one_more ∙ ap (λ o. filter_map first_elem (take i tuples) ++ cons_option o []) (sym is)

  pub no_first_more : None ≡ first_elem (get_or tuples i d) → filter_map first_elem (take (i + 1) tuples) ≡ filter_map first_elem (take i tuples)
  no_first_more is = one_more ∙ ap (λ o. filter_map first_elem (take i tuples) ++ cons_option o []) (sym is) ∙ append-nil (filter_map first_elem (take i tuples))

firsts_back : (elems : List Elem) → filter_map first_elem (map one_elem elems) ≡ elems
firsts_back [] = refl
firsts_back (elem ∷ elems) = ap (λ rest. elem ∷ rest) (firsts_back elems)

pub firsts_few : (tuples : List (List Part)) → length (filter_map first_elem tuples) ≤ length tuples
firsts_few [] = omega arith
firsts_few (tuple ∷ tuples) = by (first_elem tuple) (firsts_few tuples)
  where
    by : (o : Option Elem) → length (filter_map first_elem tuples) ≤ length tuples → length (cons_option o (filter_map first_elem tuples)) ≤ length (tuple ∷ tuples)
    by None rest = omega arith
    by (Some elem) rest = omega arith

module _ (resolved : Resolved) (g : Graph) (pattern : Pattern) (valid : is_valid_pattern pattern ≡ true) (var : ℕ) (below : var < length pattern.edge_vars) (plan : List Step)
    (plans : is_plan pattern var plan ≡ true) (elem : Elem) (graph : OnSome (admitted resolved g pattern var elem) (is_graph g ≡ true)) where
  -- where nothing is admitted nothing is reached
  none_has : (elems : List Elem) → ((tuple : List Part) → false ≡ list_any (is_at (tuple_cmp tuple)) (map one_elem elems)) → [] ≡ map one_elem elems
  none_has [] h = refl
  none_has (first ∷ rest) h = absurd (true≢false (sym (h (one_elem first) ∙ or_left _ _ (ap is_eq (tied_itself tuple_cmp_total (one_elem first))))))

  pub firsts_are_reached : (tuples : List (List Part)) →
      tuples ≡ option_map_or (λ x. gathered resolved g pattern.atoms (Element 0 ∷ []) plan (with_bound nothing_bound var x) []) (admitted resolved g pattern var elem) [] →
      filter_map first_elem tuples ≡ reached resolved g pattern var elem
  firsts_are_reached tuples is = ap (filter_map first_elem) (is ∙ by (admitted resolved g pattern var elem) refl graph) ∙ firsts_back (reached resolved g pattern var elem)
    where
      by : (o : Option Bound) → admitted resolved g pattern var elem ≡ o → OnSome o (is_graph g ≡ true) →
          option_map_or (λ x. gathered resolved g pattern.atoms (Element 0 ∷ []) plan (with_bound nothing_bound var x) []) (admitted resolved g pattern var elem) [] ≡ map one_elem (reached resolved g pattern var elem)
      by (Some x) at one = gathered_are_reached resolved g pattern valid var below plan plans elem one
      by None at one =
          ap (λ o. option_map_or (λ x. gathered resolved g pattern.atoms (Element 0 ∷ []) plan (with_bound nothing_bound var x) []) o []) at
          ∙ none_has (reached resolved g pattern var elem)
          (λ tuple. sym (ap (λ o. list_any (is_at (tuple_cmp tuple)) (option_map_or (λ x. gathered resolved g pattern.atoms (Element 0 ∷ []) plan (with_bound nothing_bound var x) []) o [])) at)
          ∙ has_all resolved g pattern valid var below plan plans elem tuple)
