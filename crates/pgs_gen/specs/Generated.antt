-- The workload of a start: its schema, and the transaction of each number.
use Rattle.std.specs.Prelude.{ℕ, ◌+◌, ◌-◌, ◌*◌, ◌%◌, List, [], ◌∷◌, ◌++◌, pos, nat_lt, codes, decimal, if◌then◌else◌}
use Rattle.pgs_base.specs.declared.value.Value.TheVariants.{Text, Int}
use Rattle.pgs_graph.specs.declared.operation.Op.{Op}
use Rattle.pgs_graph.specs.declared.operation.Op.TheVariants.{AddNode, AddEdge}
use Rattle.pgs_graph.specs.declared.operation.Txn.{Txn}

-- persons with a number and an address, of whom one may know another; no two share either
abbrev pub schema_text : List ℕ
schema_text =
    codes "CREATE GRAPH TYPE g STRICT {(p: Person {id INT, mail STRING}), (:p)-[k: knows]->(:p), "
    ++ codes "FOR (x:p) IDENTIFIER x.mail, FOR (x:p) IDENTIFIER x.id};"

-- the address of the person of a number
abbrev pub address : ℕ → List ℕ
address number = codes "u" ++ (decimal number ++ codes "@x.org")

-- the person of a number
abbrev pub person : ℕ → Op
person number =
    AddNode (record { 0 = number }) (codes "Person" ∷ [])
    ((codes "id", Int (pos number)) ∷ (codes "mail", Text (address number)) ∷ [])

-- whom the person of a number knows: one before
abbrev pub known_by : ℕ → ℕ → ℕ
known_by start number = 1 + (start % 4294967296 + 7 * number) % (number - 1)

abbrev pub knowing : ℕ → ℕ → Op
knowing start number =
    AddEdge (record { 0 = number }) (record { 0 = number }) (record { 0 = known_by start number }) (codes "knows" ∷ []) []

-- the transaction of a number, from 1
abbrev pub generated : ℕ → ℕ → Txn
generated start number = record { ops = person number ∷ (if nat_lt number 2 then [] else knowing start number ∷ []) }
