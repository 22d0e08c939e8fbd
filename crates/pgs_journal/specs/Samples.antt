-- Areas written out byte by byte.
use Rattle.std.specs.Prelude.{ℕ, List, [], ◌∷◌, ◌++◌, replicate, codes}

-- the schema `CREATE GRAPH TYPE g LOOSE {};`
abbrev pub schema_payload : List ℕ
schema_payload = 1 ∷ codes "CREATE GRAPH TYPE g LOOSE {};"

-- `{"ops":[{"add_node":1}]}`
abbrev pub txn_payload : List ℕ
txn_payload = 3 ∷ 0 ∷ 0 ∷ 0 ∷ 1 ∷ 1 ∷ 0 ∷ 0 ∷ 0 ∷ 0 ∷ 0 ∷ 0 ∷ 0 ∷ 1 ∷ 0 ∷ 0 ∷ 0 ∷ 0 ∷ []

-- a graph of node 1, after one commit
abbrev pub snapshot_payload : List ℕ
snapshot_payload =
    2 ∷ 0 ∷ 0 ∷ 0 ∷ 0 ∷ 0 ∷ 0 ∷ 0 ∷ 1 ∷ 0 ∷ 0 ∷ 0 ∷ 0 ∷ 0 ∷ 0 ∷ 0 ∷ 1
    ∷ 0 ∷ 0 ∷ 0 ∷ 0 ∷ 0 ∷ 0 ∷ 0 ∷ 1 ∷ 0 ∷ 0 ∷ 0 ∷ 0 ∷ 0 ∷ 0 ∷ 0 ∷ 0 ∷ 0 ∷ 0 ∷ 0 ∷ 0 ∷ []

-- a head of the first format behind its gate, of this epoch below 256
abbrev pub head : ℕ → List ℕ
head epoch = codes "PGSGRD1" ++ (0 ∷ 0 ∷ 0 ∷ 0 ∷ 0 ∷ 0 ∷ 0 ∷ epoch ∷ [])

-- a record of the first format behind its gate, of this size below 256
abbrev pub record_bytes : ℕ → List ℕ → List ℕ
record_bytes size payload = 0 ∷ 0 ∷ 0 ∷ 0 ∷ 0 ∷ 0 ∷ 0 ∷ size ∷ payload

-- a store that was just loaded: 56 bytes
abbrev pub loaded : List ℕ
loaded = 1 ∷ (head 1 ++ 1 ∷ (record_bytes 30 schema_payload ++ 0 ∷ []))

-- the same with one transaction behind this gate at place 55: 83 bytes
abbrev pub applied : ℕ → List ℕ
applied gate = 1 ∷ (head 1 ++ 1 ∷ (record_bytes 30 schema_payload ++ gate ∷ (record_bytes 18 txn_payload ++ 0 ∷ [])))

-- a store of this epoch with a snapshot: 102 bytes
abbrev pub checkpointed : ℕ → List ℕ
checkpointed epoch = 1 ∷ (head epoch ++ 1 ∷ (record_bytes 30 schema_payload ++ 1 ∷ (record_bytes 37 snapshot_payload ++ 0 ∷ [])))

-- the same with a second schema in the snapshot's place, which the first format doesn't have
abbrev pub with_two_schemas : List ℕ
with_two_schemas = 1 ∷ (head 1 ++ 1 ∷ (record_bytes 30 schema_payload ++ 1 ∷ (record_bytes 30 schema_payload ++ 0 ∷ [])))

-- a head of the second format behind its gate, of this epoch below 256
abbrev pub second_head : ℕ → List ℕ
second_head epoch = codes "PGSGRD2" ++ (0 ∷ 0 ∷ 0 ∷ 0 ∷ 0 ∷ 0 ∷ 0 ∷ epoch ∷ [])

-- a record of the second format behind its gate, of this number and size below 256
abbrev pub numbered_bytes : ℕ → ℕ → List ℕ → List ℕ
numbered_bytes number size payload = 0 ∷ 0 ∷ 0 ∷ 0 ∷ 0 ∷ 0 ∷ 0 ∷ number ∷ record_bytes size payload

-- a store that was just loaded: 64 bytes
abbrev pub second_loaded : List ℕ
second_loaded = 1 ∷ (second_head 1 ++ 1 ∷ (numbered_bytes 1 30 schema_payload ++ 0 ∷ []))

-- the same with one transaction that bears this number, behind this gate at place 63: 99 bytes
abbrev pub second_applied : ℕ → ℕ → List ℕ
second_applied gate number =
    1 ∷ (second_head 1 ++ 1 ∷ (numbered_bytes 1 30 schema_payload ++ gate ∷ (numbered_bytes number 18 txn_payload ++ 0 ∷ [])))

-- a store of this epoch with a snapshot: 118 bytes
abbrev pub second_checkpointed : ℕ → List ℕ
second_checkpointed epoch =
    1 ∷ (second_head epoch ++ 1 ∷ (numbered_bytes 1 30 schema_payload ++ 1 ∷ (numbered_bytes 2 37 snapshot_payload ++ 0 ∷ [])))

-- a store with a later schema
abbrev pub evolved : List ℕ
evolved = 1 ∷ (second_head 1 ++ 1 ∷ (numbered_bytes 1 30 schema_payload ++ 1 ∷ (numbered_bytes 2 30 schema_payload ++ 0 ∷ [])))

-- an open gate and 16 bytes of another program
abbrev pub another_program : List ℕ
another_program = 1 ∷ replicate 16 120
