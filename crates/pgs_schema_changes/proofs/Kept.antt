-- A graph that conforms to the old schema conforms to a new one that asks no more: each violation under the new one would be one under
-- the old one.
use Rattle.std.proofs.Common.{◌≡◌, ℕ, ◌+◌, Bool, true, false, cond, ⊎_elim, List, [], ◌∷◌, length, Some, None, refl, sym, subst, ap, ◌∙◌}
use Rattle.std.specs.Prelude.{Contains}
use Rattle.std.proofs.lemmas.Bool.{true≢false}
use Rattle.pgs_base.specs.declared.element.NodeId.{NodeId}
use Rattle.pgs_base.specs.declared.element.EdgeId.{EdgeId}
use Rattle.pgs_base.specs.declared.element.Elem.{Elem}
use Rattle.pgs_base.specs.declared.part.Part.{Part}
use Rattle.pgs_base.specs.declared.row.NodeRow.{NodeRow}
use Rattle.pgs_base.specs.declared.row.EdgeRow.{EdgeRow}
use Rattle.pgs_base.specs.Graph.{Graph, is_graph}
use Rattle.pgs_syntax.specs.declared.key.Key.{Key}
use Rattle.pgs_syntax.specs.declared.resolved.Resolved.{Resolved}
use Rattle.pgs_syntax.specs.Join.{is_empty}
use Rattle.pgs_syntax.specs.KeyValues.{scope_of, key_values}
use Rattle.pgs_syntax.specs.Typed.{is_typed_node, is_typed_edge}
use Rattle.pgs_syntax.proofs.Members.{contains_first, contains_none}
use Rattle.pgs_violation.specs.declared.violation.Violation.{Violation}
use Rattle.pgs_violation.specs.declared.violation.Violation.TheVariants.{UntypedNode, UntypedEdge, Mandatory, CountOutside}
use Rattle.pgs_violation.specs.Meaning.{IsKeyOf}
use Rattle.pgs_violation.specs.Violations.{violations, conforms, two_least, exclusive_violation, later_than, is_within}
use Rattle.pgs_violation.proofs.Origins.{Origin, of_node, of_edge, missing, several, shared, counted, origin, listed}
use Rattle.pgs_schema_changes.specs.AsksNoMore.{AsksNoMore, keeps, is_kept}
use Rattle.pgs_schema_changes.proofs.KeptKeys.{at_place, has_place, some_item, each_item, qualifiers_kept, scope_same, values_same, two_again, shared_again, narrower}
use Rattle.pgs_schema_changes.proofs.Types.{node_pair, node_typed, edge_typed}

unless : (b : Bool) (u v : Violation) → cond b None (Some u) ≡ Some v → b ≡ false
unless true u v e = cc
unless false u v e = refl

when : (b : Bool) (u v : Violation) → cond b (Some u) None ≡ Some v → b ≡ true
when true u v e = refl
when false u v e = cc

none_in : (vs : List Violation) → is_empty vs ≡ true → (v : Violation) → Contains vs v → ⊥
none_in [] empty v there = contains_none v there
none_in (first ∷ rest) empty v there = cc

-- a key of the old guard, as its violations number it
record OldKey (old new : Resolved) (key : Key) : Type 0 where
  pub number : ℕ
  pub own : Key
  pub is : IsKeyOf old number own
  pub kept : keeps old new own key ≡ true

module _ (old new : Resolved) (g : Graph) (graph : is_graph g ≡ true) (asks : AsksNoMore old new) (conforming : conforms old g ≡ true) where
  lacks : (v : Violation) → Origin old g v → ⊥
  lacks v from = none_in (violations old g) conforming v (listed old g v from)

  -- ---- types

  was_typed_node : (node : NodeId × NodeRow) → old.guard.strict ≡ true → Contains g.nodes node → is_typed_node old node.1 ≡ true
  was_typed_node node strict there = by (is_typed_node old node.1) refl
    where
      by : (b : Bool) → is_typed_node old node.1 ≡ b → b ≡ true
      by true is = refl
      by false is = absurd (lacks (UntypedNode node.0) (of_node node strict there (ap (λ (b : Bool). cond b None (Some (UntypedNode node.0))) is)))

  was_typed_edge : (edge : EdgeId × EdgeRow) → old.guard.strict ≡ true → Contains g.edges edge → is_typed_edge old g edge.1 ≡ true
  was_typed_edge edge strict there = by (is_typed_edge old g edge.1) refl
    where
      by : (b : Bool) → is_typed_edge old g edge.1 ≡ b → b ≡ true
      by true is = refl
      by false is = absurd (lacks (UntypedEdge edge.0) (of_edge edge strict there (ap (λ (b : Bool). cond b None (Some (UntypedEdge edge.0))) is)))

  node_kept : (node : NodeId × NodeRow) → Contains g.nodes node → new.guard.strict ≡ true → is_typed_node new node.1 ≡ false → ⊥
  node_kept node there strict untyped =
      ⊎_elim (λ (loose : new.guard.strict ≡ false). true≢false (sym strict ∙ loose))
      (λ types. true≢false (sym (node_typed old new types.1 node.1 (node_pair g graph node there) (was_typed_node node types.0 there)) ∙ untyped)) asks.types

  edge_kept : (edge : EdgeId × EdgeRow) → Contains g.edges edge → new.guard.strict ≡ true → is_typed_edge new g edge.1 ≡ false → ⊥
  edge_kept edge there strict untyped =
      ⊎_elim (λ (loose : new.guard.strict ≡ false). true≢false (sym strict ∙ loose))
      (λ types. true≢false (sym (edge_typed old new types.1 g graph edge there (was_typed_edge edge types.0 there)) ∙ untyped)) asks.types

  -- ---- keys

  old_key : (number : ℕ) (key : Key) → IsKeyOf new number key → OldKey old new key
  old_key number key (place, same, at) =
      let one =
      some_item (λ own. keeps old new own key) old.guard.keys
      (each_item (is_kept old new) new.guard.keys key asks.keys (at_place new.guard.keys place key at)) in
      let there = has_place old.guard.keys one.0 one.1 in
      record { number = there.0 + 1; own = one.0; is = (there.0, refl, there.1); kept = one.2 }

  module _ (key : Key) (was : OldKey old new key) (elem : Elem) (there : Contains (scope_of new g key) elem) where
    was_there : Contains (scope_of old g was.own) elem
    was_there = subst (λ (scope : List Elem). Contains scope elem) (scope_same old new g was.own key was.kept) there

    same_values : key_values new g key ≡ key_values old g was.own
    same_values = λ i e. values_same old new g was.own key was.kept e i

    missing_kept : key.qualifiers.mandatory ≡ true → is_empty (key_values new g key elem) ≡ true → ⊥
    missing_kept asked empty =
        lacks (Mandatory was.number elem) (missing was.number was.own elem was.is ((qualifiers_kept old new was.own key was.kept).mandatory asked) was_there
        (ap (λ (b : Bool). cond b (Some (Mandatory was.number elem)) None) (ap is_empty (sym (values_same old new g was.own key was.kept elem)) ∙ empty)))

    several_kept : (number : ℕ) (v : Violation) → key.qualifiers.singleton ≡ true → two_least number elem (key_values new g key elem) ≡ Some v → ⊥
    several_kept number v asked gives =
        let again = two_again number was.number elem (key_values new g key elem) v gives in
        lacks again.0 (several was.number was.own elem was.is ((qualifiers_kept old new was.own key was.kept).singleton asked) was_there
        (ap (two_least was.number elem) (sym (values_same old new g was.own key was.kept elem)) ∙ again.1))

    shared_kept : (number : ℕ) (v : Violation) → key.qualifiers.exclusive ≡ true → exclusive_violation number (scope_of new g key) (key_values new g key) elem ≡ Some v → ⊥
    shared_kept number v asked gives =
        let again = shared_again number was.number (key_values new g key) elem (later_than elem (scope_of new g key)) v gives in
        lacks again.0 (shared was.number was.own elem was.is ((qualifiers_kept old new was.own key was.kept).exclusive asked) was_there
        (ap (λ (scope : List Elem). exclusive_violation was.number scope (key_values old g was.own) elem) (sym (scope_same old new g was.own key was.kept))
        ∙ ap (λ (values : Elem → List (List Part)). exclusive_violation was.number (scope_of new g key) values elem) (sym same_values) ∙ again.1))

    counted_kept : (range : ℕ × ℕ) → key.qualifiers.count ≡ Some range → is_within range (length (key_values new g key elem)) ≡ false → ⊥
    counted_kept range asked out =
        let own = (qualifiers_kept old new was.own key was.kept).count range asked in
        let tuples = key_values old g was.own elem in
        let narrow = narrower range own.0 (length tuples) own.2 own.3 (ap (λ (ts : List (List Part)). is_within range (length ts)) (sym (values_same old new g was.own key was.kept elem)) ∙ out) in
        lacks (CountOutside was.number elem (length tuples) own.0.0 own.0.1) (counted was.number was.own own.0 elem was.is own.1 was_there
        (ap (λ (b : Bool). cond b None (Some (CountOutside was.number elem (length tuples) own.0.0 own.0.1))) narrow))

  -- ---- all of it

  refuted : (v : Violation) → Origin new g v → ⊥
  refuted v (of_node node strict there gives) =
      node_kept node there strict (unless (is_typed_node new node.1) (UntypedNode node.0) v gives)
  refuted v (of_edge edge strict there gives) =
      edge_kept edge there strict (unless (is_typed_edge new g edge.1) (UntypedEdge edge.0) v gives)
  refuted v (missing number key elem is asked there gives) =
      missing_kept key (old_key number key is) elem there asked (when (is_empty (key_values new g key elem)) (Mandatory number elem) v gives)
  refuted v (several number key elem is asked there gives) = several_kept key (old_key number key is) elem there number v asked gives
  refuted v (shared number key elem is asked there gives) = shared_kept key (old_key number key is) elem there number v asked gives
  refuted v (counted number key range elem is asked there gives) =
      counted_kept key (old_key number key is) elem there range asked
      (unless (is_within range (length (key_values new g key elem))) (CountOutside number elem (length (key_values new g key elem)) range.0 range.1) v gives)

  none_by : (vs : List Violation) → violations new g ≡ vs → is_empty vs ≡ true
  none_by [] is = refl
  none_by (v ∷ rest) is = absurd (refuted v (origin new g v (subst (λ (vs : List Violation). Contains vs v) (sym is) (contains_first v rest))))

pub kept : (old new : Resolved) (g : Graph) → is_graph g ≡ true → AsksNoMore old new → conforms old g ≡ true → conforms new g ≡ true
kept old new g graph asks conforming = none_by old new g graph asks conforming (violations new g) refl
