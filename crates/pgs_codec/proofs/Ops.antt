-- Operations are read exactly.
use Rattle.std.proofs.Common.{◌≡◌, ℕ, true, List, ◌++◌, Some, refl}
use Rattle.pgs_graph.specs.declared.operation.Op.{Op}
use Rattle.pgs_graph.specs.declared.operation.Op.TheVariants.{AddNode, AddEdge, RemoveNode, DetachNode, RemoveEdge, SetNode, UnsetNode, LabelNode, UnlabelNode, SetEdge, UnsetEdge, LabelEdge, UnlabelEdge}
use Rattle.pgs_codec.specs.Payload.{op_field}
use Rattle.pgs_codec.specs.Encodable.{is_op}
use Rattle.pgs_codec.specs.Reading.{op_kinds, op_at}
use Rattle.pgs_codec.proofs.Exact.{IsExact, pair_exact, kind_takes, row_takes, named_again}
use Rattle.pgs_codec.proofs.Fields.{name_exact, property_exact, node_id_exact, edge_id_exact, node_exact, edge_exact}

pub op_exact : IsExact op_field is_op op_at
unfolding op_at
op_exact = record {
  takes = kind_takes op_field is_op op_kinds (
    row_takes op_field is_op 1 node_exact (λ node. AddNode node.0 node.1.labels node.1.props) (λ x e. refl) (λ x e. e),
    (
      row_takes op_field is_op 2 edge_exact (λ edge. AddEdge edge.0 edge.1.source edge.1.target edge.1.labels edge.1.props) (λ x e. refl) (λ x e. e),
      (
        row_takes op_field is_op 3 node_id_exact RemoveNode (λ x e. refl) (λ x e. e),
        (
          row_takes op_field is_op 4 node_id_exact DetachNode (λ x e. refl) (λ x e. e),
          (
            row_takes op_field is_op 5 edge_id_exact RemoveEdge (λ x e. refl) (λ x e. e),
            (
              row_takes op_field is_op 6 (pair_exact node_id_exact property_exact) (λ set. SetNode set.0 set.1.0 set.1.1) (λ x e. refl) (λ x e. e),
              (
                row_takes op_field is_op 7 (pair_exact node_id_exact name_exact) (λ unset. UnsetNode unset.0 unset.1) (λ x e. refl) (λ x e. e),
                (
                  row_takes op_field is_op 8 (pair_exact node_id_exact name_exact) (λ put. LabelNode put.0 put.1) (λ x e. refl) (λ x e. e),
                  (
                    row_takes op_field is_op 9 (pair_exact node_id_exact name_exact) (λ taken. UnlabelNode taken.0 taken.1) (λ x e. refl) (λ x e. e),
                    (
                      row_takes op_field is_op 10 (pair_exact edge_id_exact property_exact) (λ set. SetEdge set.0 set.1.0 set.1.1) (λ x e. refl) (λ x e. e),
                      (
                        row_takes op_field is_op 11 (pair_exact edge_id_exact name_exact) (λ unset. UnsetEdge unset.0 unset.1) (λ x e. refl) (λ x e. e),
                        (
                          row_takes op_field is_op 12 (pair_exact edge_id_exact name_exact) (λ put. LabelEdge put.0 put.1) (λ x e. refl) (λ x e. e),
                          (
                            row_takes op_field is_op 13 (pair_exact edge_id_exact name_exact) (λ taken. UnlabelEdge taken.0 taken.1) (λ x e. refl) (λ x e. e),
                            tt,
                          ),
                        ),
                      ),
                    ),
                  ),
                ),
              ),
            ),
          ),
        ),
      ),
    ),
  );
  again = again;
}
  where
    again : (op : Op) (rest : List ℕ) → is_op op ≡ true → op_at (op_field op ++ rest) ≡ Some (op, rest)
    again (AddNode id labels props) rest e = named_again node_exact (λ node. AddNode node.0 node.1.labels node.1.props) (id, record { labels = labels; props = props }) rest e
    again (AddEdge id source target labels props) rest e =
        named_again edge_exact (λ edge. AddEdge edge.0 edge.1.source edge.1.target edge.1.labels edge.1.props)
        (id, record { source = source; target = target; labels = labels; props = props }) rest e
    again (RemoveNode id) rest e = named_again node_id_exact RemoveNode id rest e
    again (DetachNode id) rest e = named_again node_id_exact DetachNode id rest e
    again (RemoveEdge id) rest e = named_again edge_id_exact RemoveEdge id rest e
    again (SetNode id key value) rest e = named_again (pair_exact node_id_exact property_exact) (λ set. SetNode set.0 set.1.0 set.1.1) (id, (key, value)) rest e
    again (UnsetNode id key) rest e = named_again (pair_exact node_id_exact name_exact) (λ unset. UnsetNode unset.0 unset.1) (id, key) rest e
    again (LabelNode id label) rest e = named_again (pair_exact node_id_exact name_exact) (λ put. LabelNode put.0 put.1) (id, label) rest e
    again (UnlabelNode id label) rest e = named_again (pair_exact node_id_exact name_exact) (λ taken. UnlabelNode taken.0 taken.1) (id, label) rest e
    again (SetEdge id key value) rest e = named_again (pair_exact edge_id_exact property_exact) (λ set. SetEdge set.0 set.1.0 set.1.1) (id, (key, value)) rest e
    again (UnsetEdge id key) rest e = named_again (pair_exact edge_id_exact name_exact) (λ unset. UnsetEdge unset.0 unset.1) (id, key) rest e
    again (LabelEdge id label) rest e = named_again (pair_exact edge_id_exact name_exact) (λ put. LabelEdge put.0 put.1) (id, label) rest e
    again (UnlabelEdge id label) rest e = named_again (pair_exact edge_id_exact name_exact) (λ taken. UnlabelEdge taken.0 taken.1) (id, label) rest e
