use Rattle.std.proofs.Common.{inl, inr, refl, arith}
use Rattle.std.specs.Prelude.{codes}
use Rattle.pgs_json.proofs.Rooms.{add_node_room, add_edge_room, bare_room, named_room, set_room}
use Rattle.pgs_json.proofs.room.op_room.Goals as goal

pub returns-in-AddNode : goal.returns-in-AddNode
returns-in-AddNode c =
    rw c.in-AddNode.is (add_node_room _ _ _ _ _ (rw c.in-AddNode.is at c.facts.ensures) c.pair_room.ensures c.saturating_add.ensures)

pub returns-in-AddEdge : goal.returns-in-AddEdge
returns-in-AddEdge c =
    rw c.in-AddEdge.is (add_edge_room _ _ _ _ _ _ _ (rw c.in-AddEdge.is at c.facts.ensures) c.pair_room-in-AddEdge.ensures c.saturating_add-in-AddEdge.ensures)

pub returns-in-RemoveNode : goal.returns-in-RemoveNode
returns-in-RemoveNode c = bare_room _ c.facts.ensures c.in-RemoveNode.is

pub returns-in-RemoveNode-2 : goal.returns-in-RemoveNode-2
returns-in-RemoveNode-2 c = bare_room _ c.facts.ensures c.in-RemoveNode.is

pub returns-in-RemoveNode-3 : goal.returns-in-RemoveNode-3
returns-in-RemoveNode-3 c = bare_room _ c.facts.ensures c.in-RemoveNode.is

pub returns-in-SetNode : goal.returns-in-SetNode
returns-in-SetNode c =
    elim c.in-SetNode.is [
      | inl e ↦ rw e.1 (set_room (codes "set_node") c.in-SetNode.key c.in-SetNode.value e.0.0 (rw e.1 at c.facts.ensures) refl (omega arith) _ c.prop_room.ensures.enough c.prop_room.ensures.bounded)
      | inr e ↦ rw e.1 (set_room (codes "set_edge") c.in-SetNode.key c.in-SetNode.value e.0.0 (rw e.1 at c.facts.ensures) refl (omega arith) _ c.prop_room.ensures.enough c.prop_room.ensures.bounded)
    ]

pub returns-in-UnsetNode : goal.returns-in-UnsetNode
returns-in-UnsetNode c =
    elim c.in-UnsetNode.is [
      | inl e ↦ rw e.1 (named_room (codes "key") (codes "unset_node") c.in-UnsetNode.name e.0.0 (rw e.1 at c.facts.ensures) (refl, refl) (omega arith) _ c.name_room.ensures.exact)
      | inr others ↦
          elim others [
            | inl e ↦ rw e.1 (named_room (codes "key") (codes "unset_edge") c.in-UnsetNode.name e.0.0 (rw e.1 at c.facts.ensures) (refl, refl) (omega arith) _ c.name_room.ensures.exact)
            | inr others ↦
                elim others [
                  | inl e ↦ rw e.1 (named_room (codes "label") (codes "label_node") c.in-UnsetNode.name e.0.0 (rw e.1 at c.facts.ensures) (refl, refl) (omega arith) _ c.name_room.ensures.exact)
                  | inr others ↦
                      elim others [
                        | inl e ↦ rw e.1 (named_room (codes "label") (codes "unlabel_node") c.in-UnsetNode.name e.0.0 (rw e.1 at c.facts.ensures) (refl, refl) (omega arith) _ c.name_room.ensures.exact)
                        | inr others ↦
                            elim others [
                              | inl e ↦ rw e.1 (named_room (codes "label") (codes "label_edge") c.in-UnsetNode.name e.0.0 (rw e.1 at c.facts.ensures) (refl, refl) (omega arith) _ c.name_room.ensures.exact)
                              | inr e ↦ rw e.1 (named_room (codes "label") (codes "unlabel_edge") c.in-UnsetNode.name e.0.0 (rw e.1 at c.facts.ensures) (refl, refl) (omega arith) _ c.name_room.ensures.exact)
                            ]
                      ]
                ]
          ]
    ]
