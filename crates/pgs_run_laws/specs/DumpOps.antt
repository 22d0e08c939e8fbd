-- Operations as a dump has them, each on a line of its own.
use Rattle.std.specs.Prelude.{◌≡◌, ◌≤◌, ℕ, true, List, [], ◌∷◌, length, Some, None}
use Rattle.pgs_graph.specs.declared.operation.Op.{Op}
use Rattle.pgs_graph.specs.declared.operation.Op.TheVariants.{AddNode, AddEdge, SetNode, SetEdge}
use Rattle.pgs_graph.specs.declared.operation.Txn.{Txn}
use Rattle.pgs_graph.specs.Operations.{is_well_formed_op, is_well_formed_txn}
use Rattle.pgs_json.specs.Line.{txn_of}
use Rattle.pgs_json.specs.Canonical.{text_of_txn}

-- the form: an element is added with few labels and no properties, or a property is set
abbrev pub HasDumpForm : Op → Type 0
HasDumpForm (AddNode id labels props) = (props ≡ []) × (length labels ≤ 64)
HasDumpForm (AddEdge id source target labels props) = (props ≡ []) × (length labels ≤ 64)
HasDumpForm (SetNode id key value) = Unit {0}
HasDumpForm (SetEdge id key value) = Unit {0}
HasDumpForm op = ⊥

-- an operation as a dump has it
pub record IsDumpOp (op : Op) : Type 0 where
  pub form : HasDumpForm op
  pub well_formed : is_well_formed_op op ≡ true

-- the transaction of one operation
abbrev pub txn_of_op : Op → Txn
txn_of_op op = record { ops = op ∷ [] }

-- its line, without the line feed
abbrev pub line_of_op : Op → List ℕ
line_of_op op = text_of_txn (txn_of_op op) None

-- what is written of a transaction is read again as this transaction
abbrev pub AreReadBack : Type 0
AreReadBack = (txn : Txn) → is_well_formed_txn txn ≡ true → txn_of (text_of_txn txn None) ≡ Some txn
