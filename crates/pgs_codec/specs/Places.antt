-- What kind of command bytes are the payload of, for a record's fitness for its place in a journal.
use Rattle.std.specs.Prelude.{ℕ, Bool, true, false, List, [], ◌∷◌, Option, nat_le, ◌==◌}
use Rattle.std.specs.Option.{option_map, option_map_or}
use Rattle.pgs_codec.specs.declared.command.Command.{Command}
use Rattle.pgs_codec.specs.declared.command.Command.TheVariants as commands
use Rattle.pgs_codec.specs.declared.walking.payload.PayloadKind.{PayloadKind}
use Rattle.pgs_codec.specs.declared.walking.payload.PayloadKind.TheVariants as kinds
use Rattle.pgs_codec.specs.Reading.{decoded}

abbrev pub is_schema : Command → Bool
is_schema (commands.Schema text) = true
is_schema command = false

abbrev pub is_txn : Command → Bool
is_txn (commands.Txn txn) = true
is_txn command = false

-- a snapshot after at most so many commits
abbrev pub is_snapshot_within : ℕ → Command → Bool
is_snapshot_within most (commands.Snapshot commits nodes edges) = nat_le commits most
is_snapshot_within most command = false

-- whether bytes are the payload of a command that passes a test
abbrev pub is_payload_of : (Command → Bool) → List ℕ → Bool
is_payload_of test bytes = option_map_or test (decoded bytes) false

-- ---- the kind alone

abbrev pub command_kind : Command → PayloadKind
command_kind (commands.Schema text) = kinds.Schema
command_kind (commands.Snapshot commits nodes edges) = kinds.Snapshot commits
command_kind (commands.Txn txn) = kinds.Txn

-- the kind of the command whose payload the bytes are
abbrev pub kind_of : List ℕ → Option PayloadKind
kind_of bytes = option_map command_kind (decoded bytes)

abbrev pub is_schema_kind : PayloadKind → Bool
is_schema_kind kinds.Schema = true
is_schema_kind kind = false

abbrev pub is_txn_kind : PayloadKind → Bool
is_txn_kind kinds.Txn = true
is_txn_kind kind = false

abbrev pub is_snapshot_kind_within : ℕ → PayloadKind → Bool
is_snapshot_kind_within most (kinds.Snapshot commits) = nat_le commits most
is_snapshot_kind_within most kind = false

-- whether bytes are the payload of a command whose kind passes a test
abbrev pub is_payload_of_kind : (PayloadKind → Bool) → List ℕ → Bool
is_payload_of_kind test bytes = option_map_or test (kind_of bytes) false

-- whether the first byte is that of a snapshot
abbrev pub begins_snapshot : List ℕ → Bool
begins_snapshot [] = false
begins_snapshot (kind ∷ bytes) = kind == 2
