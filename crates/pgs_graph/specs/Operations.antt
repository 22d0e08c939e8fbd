-- Which operations and transactions are well formed: labels and properties are a pair, a key and a label are names, a value is one,
-- and each number is below 2 ^ 64.
use Rattle.std.specs.Prelude.{Bool, ◌&&◌}
use Rattle.std.specs.List.{list_all}
use Rattle.pgs_base.specs.Graph.{is_element_number}
use Rattle.pgs_base.specs.Name.{is_name}
use Rattle.pgs_base.specs.Pair.{pair_of, is_pair}
use Rattle.pgs_base.specs.Value.{is_value}
use Rattle.pgs_graph.specs.declared.operation.Op.{Op}
use Rattle.pgs_graph.specs.declared.operation.Op.TheVariants.{AddNode, AddEdge, RemoveNode, DetachNode, RemoveEdge, SetNode, UnsetNode, LabelNode, UnlabelNode, SetEdge, UnsetEdge, LabelEdge, UnlabelEdge}
use Rattle.pgs_graph.specs.declared.operation.Txn.{Txn}

-- whether an operation is well formed
abbrev pub is_well_formed_op : Op → Bool
is_well_formed_op (AddNode id labels props) = is_element_number id.0 && is_pair (pair_of labels props)
is_well_formed_op (AddEdge id source target labels props) =
    is_element_number id.0 && is_element_number source.0 && is_element_number target.0 && is_pair (pair_of labels props)
is_well_formed_op (RemoveNode id) = is_element_number id.0
is_well_formed_op (DetachNode id) = is_element_number id.0
is_well_formed_op (RemoveEdge id) = is_element_number id.0
is_well_formed_op (SetNode id key value) = is_element_number id.0 && is_name key && is_value value
is_well_formed_op (UnsetNode id key) = is_element_number id.0 && is_name key
is_well_formed_op (LabelNode id label) = is_element_number id.0 && is_name label
is_well_formed_op (UnlabelNode id label) = is_element_number id.0 && is_name label
is_well_formed_op (SetEdge id key value) = is_element_number id.0 && is_name key && is_value value
is_well_formed_op (UnsetEdge id key) = is_element_number id.0 && is_name key
is_well_formed_op (LabelEdge id label) = is_element_number id.0 && is_name label
is_well_formed_op (UnlabelEdge id label) = is_element_number id.0 && is_name label

-- whether a transaction is: each of its operations is
abbrev pub is_well_formed_txn : Txn → Bool
is_well_formed_txn txn = list_all is_well_formed_op txn.ops
