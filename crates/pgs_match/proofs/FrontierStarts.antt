-- To what the steps of a way lead from what its first variable is bound to, and how many look-ups that takes.
use Rattle.std.proofs.Common.{◌≡◌, ℕ, ◌+◌, Bool, true, false, ◌==◌, ⊎_elim, List, [], ◌∷◌, Option, Some, None, refl, sym, ap, subst, true≢false, arith}
use Rattle.std.specs.Prelude.{is_some}
use Rattle.std.specs.Option.{option_map_or}
use Rattle.std.specs.List.{Contains, flat_map}
use Rattle.std.proofs.lemmas.Bool.{and_parts, eqb-true}
use Rattle.std.proofs.lemmas.List.{append-nil}
use Rattle.pgs_base.specs.declared.element.NodeId.{NodeId}
use Rattle.pgs_base.specs.declared.element.Elem.TheVariants.{Node}
use Rattle.pgs_base.specs.Graph.{Graph}
use Rattle.pgs_syntax.specs.declared.pattern.Atom.{Atom}
use Rattle.pgs_syntax.specs.declared.resolved.Resolved.{Resolved}
use Rattle.pgs_syntax.proofs.Members.{contains_none, contains_cases}
use Rattle.pgs_match.specs.declared.step.Step.{Step}
use Rattle.pgs_match.specs.declared.step.Step.TheVariants.{End}
use Rattle.pgs_match.specs.declared.stand.Stand.{Stand}
use Rattle.pgs_match.specs.declared.bindings.Bound.{Bound}
use Rattle.pgs_match.specs.declared.bindings.Bound.TheVariants as bounds
use Rattle.pgs_match.specs.declared.notes.Notes.{Notes}
use Rattle.pgs_match.specs.Answers.{is_given, IsAmong, IsClosed}
use Rattle.pgs_match.specs.Bounds.{end_at}
use Rattle.pgs_match.specs.Branches.{can_be_given}
use Rattle.pgs_match.specs.Frontier.{led_on, at_nodes, hops_most, is_path, AreAllOf, HasWay, IsPaidOn, StayFull}
use Rattle.pgs_match.specs.Spread.{stand_at}
use Rattle.pgs_match.specs.Tests.{admitted_node}
use Rattle.pgs_match.proofs.Frontiers.{paid_then, paid_less, end_leads, end_has}

module _ (resolved : Resolved) (g : Graph) (atoms : List Atom) (off : List Step) where
  one_here : (var : ℕ) (id : NodeId) (pairs : List Stand) → Contains pairs (stand_at var (Node id)) → (other : NodeId) → Contains (id ∷ []) other → Contains pairs (stand_at var (Node other))
  one_here var id pairs here other among =
      ⊎_elim (λ same. subst (λ n. Contains pairs (stand_at var (Node n))) same here) (λ later. absurd (contains_none other later)) (contains_cases id [] other among)

  pub given_some : (node : ℕ) (id : NodeId) → is_given resolved g atoms off node id ≡ true → is_some (admitted_node resolved g atoms node id) ≡ true
  given_some node id given = by (admitted_node resolved g atoms node id) given
    where
      by : (o : Option Bound) → option_map_or (can_be_given resolved g atoms off node) o false ≡ true → is_some o ≡ true
      by None can = absurd (true≢false (sym can))
      by (Some x) can = refl

  -- from a node
  module _ (ways : List Step) (bound : Bound) (id : NodeId) (is : bound ≡ bounds.Node id) where
    pub node_all : (ends : List Bound) → AreAllOf (flat_map (led_on resolved g atoms off ways) (at_nodes (id ∷ []))) ends → AreAllOf (led_on resolved g atoms off ways bound) ends
    node_all ends all =
        subst (λ b. AreAllOf (led_on resolved g atoms off ways b) ends) (sym is)
        (subst (λ l. AreAllOf l ends) (append-nil (led_on resolved g atoms off ways (bounds.Node id))) all)

    pub node_way : (var : ℕ) (pairs : List Stand) → IsAmong g pairs var bound → IsClosed resolved g atoms pairs ways → IsClosed resolved g atoms pairs off →
        HasWay resolved g atoms off ways var (id ∷ []) pairs
    node_way var pairs among closed away = (one_here var id pairs (subst (IsAmong g pairs var) is among).0, closed, away)

  pub more_paid : (ways : List Step) (count : ℕ) (pairs : List Stand) (before after : Notes) (start now : ℕ) → IsPaidOn g pairs before after start now (hops_most g count ways pairs) →
      IsPaidOn g pairs before after start now (1 + hops_most g count ways pairs)
  more_paid ways count pairs before after start now paid =
      paid_less g pairs before after start now (hops_most g count ways pairs) (1 + hops_most g count ways pairs) paid (omega arith)

  -- from an edge
  module _ (ways rest : List Step) (edge node : ℕ) (source : Bool) (bound : Bound) (id : NodeId) (first : ways ≡ End edge node source ∷ rest) (at : Some id ≡ end_at source (Some bound)) where
    pub start_all : is_given resolved g atoms off node id ≡ true → (ends : List Bound) → AreAllOf (flat_map (led_on resolved g atoms off rest) (at_nodes (id ∷ []))) ends →
        AreAllOf (led_on resolved g atoms off ways bound) ends
    start_all given ends all =
        subst (λ w. AreAllOf (led_on resolved g atoms off w bound) ends) (sym first)
        (subst (λ l. AreAllOf l ends) (sym (end_leads resolved g atoms off rest edge node source bound id at given)) all)

    module _ (var : ℕ) (pairs : List Stand) (path : is_path var ways ≡ true) (among : IsAmong g pairs var bound) (closed : IsClosed resolved g atoms pairs ways) where
      both : (edge ≡ var) × (is_path node rest ≡ true)
      both = let all = and_parts (edge == var) _ (subst (λ w. is_path var w ≡ true) first path) in (eqb-true edge var all.0, all.1)

      all_closed : IsClosed resolved g atoms pairs (End edge node source ∷ rest)
      all_closed = subst (IsClosed resolved g atoms pairs) first closed

      pub start_path : is_path node rest ≡ true
      start_path = both.1

      pub start_has : is_some (admitted_node resolved g atoms node id) ≡ true → Contains pairs (stand_at node (Node id))
      start_has is = end_has resolved g atoms off rest edge node source bound id at pairs (subst (λ v. IsAmong g pairs v bound) (sym both.0) among) all_closed.0 is

      pub start_way : is_some (admitted_node resolved g atoms node id) ≡ true → IsClosed resolved g atoms pairs off → HasWay resolved g atoms off rest node (id ∷ []) pairs
      start_way is away = (one_here node id pairs (start_has is), all_closed.1, away)

    pub start_paid : (count : ℕ) (pairs : List Stand) (before after : Notes) (start now : ℕ) → IsPaidOn g pairs before after start now 1 → IsPaidOn g pairs before after start now (1 + hops_most g count ways pairs)
    start_paid count pairs before after start now paid = paid_less g pairs before after start now 1 (1 + hops_most g count ways pairs) paid (omega arith)

    pub start_once : (count : ℕ) (pairs : List Stand) (before mid after : Notes) (start between now : ℕ) → StayFull mid after → IsPaidOn g pairs before mid start between 1 →
        IsPaidOn g pairs mid after between now (hops_most g count rest pairs) → IsPaidOn g pairs before after start now (1 + hops_most g count ways pairs)
    start_once count pairs before mid after start between now stay early late =
        let same : hops_most g count ways pairs ≡ hops_most g count rest pairs = ap (λ w. hops_most g count w pairs) first in
        paid_then g pairs before mid after start between now 1 (hops_most g count rest pairs) (1 + hops_most g count ways pairs) stay early late (omega (arith, same))
