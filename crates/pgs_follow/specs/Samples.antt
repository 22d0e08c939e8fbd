-- Feeds on which the definition is tried.
use Rattle.std.specs.Prelude.{ℕ, List, [], ◌∷◌, ◌++◌, Some}
use Rattle.pgs_base.specs.declared.element.NodeId.{NodeId}
use Rattle.pgs_base.specs.declared.limits.Limits.{Limits}
use Rattle.pgs_base.specs.declared.row.NodeRow.{NodeRow}
use Rattle.pgs_graph.specs.declared.operation.Op.{Op}
use Rattle.pgs_graph.specs.declared.operation.Op.TheVariants.{AddNode}
use Rattle.pgs_json.specs.Canonical.{text_of_txn}

abbrev pub few : Limits
few = record { ops = 10; elements = 10 }

abbrev pub node : ℕ → NodeId
node n = record { 0 = n }

-- a node without labels and properties
abbrev pub bare : ℕ → NodeId × NodeRow
bare n = (node n, record { labels = []; props = [] })

-- the feed's line of a commit of one operation
abbrev pub line_of : ℕ → Op → List ℕ
line_of number op = text_of_txn (record { ops = op ∷ [] }) (Some number) ++ 10 ∷ []

-- the feed's line of a commit that adds a node
abbrev pub adds : ℕ → ℕ → List ℕ
adds number n = line_of number (AddNode (node n) [] [])
