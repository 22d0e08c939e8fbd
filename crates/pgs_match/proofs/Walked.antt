-- The elements of a match lie within as many edges of each of them as the pattern has edge variables, so what is reached is near; and
-- it is few where few edges are near.
use Rattle.std.proofs.Common.{◌≡◌, ℕ, suc, ◌+◌, ◌^◌, ◌<◌, ◌≤◌, Bool, true, false, ◌&&◌, ◌||◌, ◌==◌, cond, ⊎_elim, List, [], ◌∷◌, ◌++◌, map, length, slice_get, replicate, Option, Some, None, refl, sym, ◌∙◌, ap, subst, true≢false, add-zero, arith}
use Rattle.std.specs.Option.{option_map_or}
use Rattle.std.specs.List.{list_all, All}
use Rattle.std.specs.Cmp.{Equal-is}
use Rattle.std.proofs.lemmas.Bool.{and_parts, or_left, or_right, eqb-true, eq-eqb}
use Rattle.std.proofs.lemmas.List.{length-map}
use Rattle.std.proofs.lemmas.List.Elements.{filter_passes}
use Rattle.pgs_base.specs.declared.element.NodeId.{NodeId}
use Rattle.pgs_base.specs.declared.element.Elem.{Elem}
use Rattle.pgs_base.specs.declared.element.Elem.TheVariants.{Node, Edge}
use Rattle.pgs_base.specs.declared.row.EdgeRow.{EdgeRow}
use Rattle.pgs_base.specs.Graph.{Graph, is_end, is_graph}
use Rattle.pgs_base.specs.Order.{elem_cmp}
use Rattle.pgs_base.specs.OrderLaws.{exact_elem}
use Rattle.pgs_syntax.specs.declared.pattern.Pattern.{Pattern}
use Rattle.pgs_syntax.specs.declared.resolved.Resolved.{Resolved}
use Rattle.pgs_syntax.specs.declared.pattern.Expr.TheVariants.{Element}
use Rattle.pgs_syntax.specs.KeyValues.{starts_at}
use Rattle.pgs_syntax.specs.Matches.{same_elem, elements, are_there, holds, is_match}
use Rattle.pgs_syntax.specs.Valid.{edge_count, is_valid_pattern}
use Rattle.pgs_syntax.proofs.Assigned.{match_found}
use Rattle.pgs_match.specs.declared.step.Step.{Step}
use Rattle.pgs_match.specs.declared.step.Step.TheVariants.{Along, End}
use Rattle.pgs_match.specs.declared.bindings.Bound.{Bound}
use Rattle.pgs_match.specs.Bounds.{with_bound, nothing_bound, stands_at}
use Rattle.pgs_match.specs.Near.{is_at_element, is_within, IsSparse, IsNearTo}
use Rattle.pgs_match.specs.Plans.{is_known, and_known, known_alone, completes, is_plan}
use Rattle.pgs_match.specs.Reached.{reaches, reached}
use Rattle.pgs_match.specs.Search.{gathered}
use Rattle.pgs_match.specs.Tests.{admitted}
use Rattle.pgs_match.proofs.Bounded.{plan_size, completions_most}
use Rattle.pgs_match.proofs.Completed.{along_facts, end_facts, completes_more, placed}
use Rattle.pgs_match.proofs.Costs.{alongs}
use Rattle.pgs_match.proofs.Counts.{some_at}
use Rattle.pgs_match.proofs.Gathered.{gathered_size}
use Rattle.pgs_match.proofs.Known.{covers_at}
use Rattle.pgs_match.proofs.Nearby.{within_less, within_by}
use Rattle.pgs_match.proofs.Planning.{plan_of}
use Rattle.pgs_match.proofs.Reaching.{one_elem, gathered_are_reached}
use Rattle.pgs_match.proofs.Standing.{known_other, one_or_other}
use Rattle.pgs_match.proofs.Started.{admitted_good, none_known}

-- an element that stands at a variable
pub stands : (var : ℕ) (elem : Elem) (elems : List Elem) → stands_at var elem elems ≡ true → slice_get elems var ≡ Some elem
stands var elem elems h = by (slice_get elems var) h
  where
    by : (o : Option Elem) → option_map_or (same_elem elem) o false ≡ true → o ≡ Some elem
    by None h = absurd (true≢false (sym h))
    by (Some other) h = ap Some (sym (exact_elem elem other ((Equal-is (elem_cmp elem other)).0 h)))

module _ (resolved : Resolved) (g : Graph) (pattern : Pattern) (valid : is_valid_pattern pattern ≡ true) (elems : List Elem) (match : is_match resolved g pattern elems ≡ true) (from : Elem) where
  holds_all : list_all (holds resolved g elems) pattern.atoms ≡ true
  holds_all = (and_parts (are_there g pattern.edge_vars elems) _ match).1

  -- the elements of the known variables are within so many edges
  abbrev AreWithin : ℕ → List Bool → Type 0
  AreWithin near known = (var : ℕ) (elem : Elem) → is_known known var ≡ true → slice_get elems var ≡ Some elem → IsNearTo g near from elem

  within_known : (near : ℕ) (known : List Bool) (var : ℕ) (here : Elem) → slice_get elems var ≡ Some here → AreWithin near known → IsNearTo g near from here → AreWithin near (and_known known var)
  within_known near known var here at all near_here other elem is at_other =
      ⊎_elim
      (λ same. let one : here ≡ elem = (let e : Some here ≡ Some elem = sym at ∙ ap (slice_get elems) (sym same) ∙ at_other in cc) in subst (IsNearTo g near from) one near_here)
      (λ apart. all other elem (sym (known_other known var other apart) ∙ is) at_other) (one_or_other other var)

  one_further : (near : ℕ) (known : List Bool) → AreWithin near known → AreWithin (suc near) known
  one_further near known all var elem is at = λ id here. or_left (is_within g near from id) _ (all var elem is at id here)

  ends_same : (n : NodeId) → is_at_element g (Node n) n ≡ true
  ends_same n = eq-eqb n.0 n.0 refl

  walked : (plan : List Step) (known : List Bool) (near : ℕ) → completes pattern known plan ≡ true → AreWithin near known →
      (var : ℕ) (elem : Elem) → var < length pattern.edge_vars → slice_get elems var ≡ Some elem → IsNearTo g (near + alongs plan) from elem
  walked [] known near whole all var elem below at =
      let same : near ≡ near + 0 = sym (add-zero near) in
      subst (λ n. IsNearTo g n from elem) same (all var elem (covers_at pattern.edge_vars known var (and_parts true _ whole).1 below) at)
  walked (Along edge node forward ∷ plan) known near whole all var elem below at =
      let parts = completes_more pattern known (Along edge node forward) plan whole in
      let facts = along_facts resolved g pattern valid known edge node forward parts.0 in
      let place = placed resolved g pattern valid elems match edge node forward pattern.atoms facts.1 holds_all in
      let end = cond forward place.1.source place.1.target in
      let within : is_within g near from end ≡ true = all node (Node end) facts.0 place.4 end (ends_same end) in
      let here : IsNearTo g (suc near) from (Edge place.0) = λ id is.
      within_by g from near place.0 place.1 id place.3 (sym (ap (λ o. option_map_or (is_end id) o false) place.3) ∙ is) (some forward place.1 within) in
      let count : suc near + alongs plan ≡ near + suc (alongs plan) = omega arith in
      subst (λ n. IsNearTo g n from elem) count
      (walked plan (and_known known edge) (suc near) parts.1 (within_known (suc near) known edge (Edge place.0) place.2 (one_further near known all) here) var elem below at)
    where
      some : (forward : Bool) (row : EdgeRow) → is_within g near from (cond forward row.source row.target) ≡ true → (is_within g near from row.source || is_within g near from row.target) ≡ true
      some true row h = or_left _ _ h
      some false row h = or_right _ _ h
  walked (End edge node source ∷ plan) known near whole all var elem below at =
      let parts = completes_more pattern known (End edge node source) plan whole in
      let facts = end_facts resolved g pattern valid known edge node source parts.0 in
      let place = placed resolved g pattern valid elems match edge node source pattern.atoms facts.1 holds_all in
      let end = cond source place.1.source place.1.target in
      let within : is_within g near from end ≡ true =
      all edge (Edge place.0) facts.0 place.2 end (ap (λ o. option_map_or (is_end end) o false) place.3 ∙ is_its_end source place.1) in
      let here : IsNearTo g near from (Node end) = λ id is. subst (λ n. is_within g near from n ≡ true) (one_node end id is) within in
      walked plan (and_known known node) near parts.1 (within_known near known node (Node end) place.4 all here) var elem below at
    where
      is_its_end : (source : Bool) (row : EdgeRow) → is_end (cond source row.source row.target) row ≡ true
      is_its_end true row = or_left _ _ (eq-eqb row.source.0 row.source.0 refl)
      is_its_end false row = or_right _ _ (eq-eqb row.target.0 row.target.0 refl)

      one_node : (a b : NodeId) → (a.0 == b.0) ≡ true → a ≡ b
      one_node a b h = ap (λ n. record { 0 = n }) (eqb-true a.0 b.0 h)

  -- from the element of one variable to those of all
  pub match_near : (start var : ℕ) (elem : Elem) (w : ℕ) → edge_count pattern.edge_vars ≤ w → start < length pattern.edge_vars → var < length pattern.edge_vars → slice_get elems start ≡ Some from →
      slice_get elems var ≡ Some elem → IsNearTo g w from elem
  match_near start var elem w few below inside at_start at =
      let plan = plan_of pattern valid start below in
      let kind = some_at pattern.edge_vars start below in
      let size = plan_size resolved g pattern valid start below kind.0 kind.1 plan.0 plan.1 in
      λ id here. within_less g from (0 + alongs plan.0) w id (omega (arith, size.0)) (walked plan.0 (known_alone start) 0 plan.1 alone var elem inside at id here)
    where
      itself : IsNearTo g 0 from from
      itself = λ id here. here

      none : AreWithin 0 (replicate 20 false)
      none var elem is at = absurd (true≢false (sym is ∙ none_known 20 var))

      alone : AreWithin 0 (known_alone start)
      alone = within_known 0 (replicate 20 false) start from at_start none itself

-- ---- what is reached

module _ (resolved : Resolved) (g : Graph) (pattern : Pattern) (valid : is_valid_pattern pattern ≡ true) (var : ℕ) (below : var < length pattern.edge_vars) (elem : Elem) where
  near_one : (w : ℕ) → edge_count pattern.edge_vars ≤ w → (first : Elem) → reaches resolved g pattern var elem first ≡ true → IsNearTo g w elem first
  near_one w few first h =
      let it = match_found resolved g pattern (λ elems. stands_at var elem elems && starts_at first elems) h in
      let both = and_parts (stands_at var elem it.0) _ it.2 in
      match_near resolved g pattern valid it.0 it.1 elem var 0 first w few below (omega arith) (stands var elem it.0 both.0) (stands 0 first it.0 both.1)

  pub reached_near : (w : ℕ) → edge_count pattern.edge_vars ≤ w → All (IsNearTo g w elem) (reached resolved g pattern var elem)
  reached_near w few = λ k d inside. near_one w few _ (filter_passes (reaches resolved g pattern var elem) (elements g false ++ elements g true) k d inside)

  pub reached_few : is_graph g ≡ true → (w most : ℕ) → edge_count pattern.edge_vars ≤ w → IsSparse g w elem most → length (reached resolved g pattern var elem) ≤ (most + 2) ^ w
  reached_few graph w most few sparse =
      let same = gathered_are_reached resolved g pattern valid var below plan.0 plan.1 elem graph in
      let size : length (map one_elem (reached resolved g pattern var elem)) ≡ length (reached resolved g pattern var elem) = length-map (reached resolved g pattern var elem) one_elem in
      let all = by (admitted resolved g pattern var elem) refl in
      let is = ap length same in
      omega arith
    where
      plan : (steps : List Step) × (is_plan pattern var steps ≡ true)
      plan = plan_of pattern valid var below

      by : (o : Option Bound) → admitted resolved g pattern var elem ≡ o →
          length (option_map_or (λ x. gathered resolved g pattern.atoms (Element 0 ∷ []) plan.0 (with_bound nothing_bound var x) []) (admitted resolved g pattern var elem) []) ≤ (most + 2) ^ w
      by None at =
          let none : length (option_map_or (λ x. gathered resolved g pattern.atoms (Element 0 ∷ []) plan.0 (with_bound nothing_bound var x) []) (admitted resolved g pattern var elem) []) ≡ 0 =
          ap (λ o. length (option_map_or (λ x. gathered resolved g pattern.atoms (Element 0 ∷ []) plan.0 (with_bound nothing_bound var x) []) o [])) at in
          omega arith
      by (Some x) at =
          let kind = some_at pattern.edge_vars var below in
          let good = admitted_good resolved g pattern var elem x at in
          let bound = completions_most resolved g pattern valid var below kind.0 kind.1 plan.0 plan.1 graph elem x good.0 good.1 w most few sparse in
          let size = gathered_size resolved g pattern.atoms (Element 0 ∷ []) plan.0 (with_bound nothing_bound var x) [] in
          let is : length (option_map_or (λ y. gathered resolved g pattern.atoms (Element 0 ∷ []) plan.0 (with_bound nothing_bound var y) []) (admitted resolved g pattern var elem) [])
          ≡ length (gathered resolved g pattern.atoms (Element 0 ∷ []) plan.0 (with_bound nothing_bound var x) []) =
          ap (λ o. length (option_map_or (λ y. gathered resolved g pattern.atoms (Element 0 ∷ []) plan.0 (with_bound nothing_bound var y) []) o [])) at in
          omega arith
