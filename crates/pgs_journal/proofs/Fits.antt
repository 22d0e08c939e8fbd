-- Which payloads of the samples are fit for which places.
use Rattle.std.proofs.Common.{◌≡◌, true, false, refl}
use Rattle.pgs_codec.specs.Reading.{pair_at, named_at, tested_at, many_at, bytes_at, byte_at, number_at, counted_at, name_bytes_at, name_at, labels_at, props_at, property_at, node_id_at, edge_id_at, node_row_at, edge_row_at, node_at, edge_at, op_at, schema_at, txn_at, snapshot_parts_at, snapshot_at, decoded}
use Rattle.pgs_journal.specs.declared.format.Format.{Format}
use Rattle.pgs_journal.specs.declared.format.Format.TheVariants.{First, Second}
use Rattle.pgs_journal.specs.Area.{is_fit}
use Rattle.pgs_journal.specs.Samples.{schema_payload, txn_payload, snapshot_payload}

pub schema_first : (format : Format) → is_fit format 1 1 schema_payload ≡ true
unfolding is_fit decoded schema_at
schema_first format = refl

pub schema_of_second : (format : Format) → is_fit format 2 1 schema_payload ≡ true
unfolding is_fit decoded schema_at
schema_of_second format = refl

pub schema_later : is_fit Second 1 2 schema_payload ≡ true
unfolding is_fit decoded schema_at
schema_later = refl

pub schema_too_late : is_fit First 1 2 schema_payload ≡ false
unfolding is_fit decoded schema_at
schema_too_late = refl

pub txn_second : (format : Format) → is_fit format 1 2 txn_payload ≡ true
unfolding is_fit decoded txn_at op_at named_at counted_at number_at bytes_at many_at pair_at tested_at node_at node_row_at node_id_at labels_at props_at property_at name_at name_bytes_at byte_at
txn_second format = refl

pub snapshot_second : (format : Format) → is_fit format 2 2 snapshot_payload ≡ true
unfolding is_fit decoded snapshot_at snapshot_parts_at named_at counted_at number_at bytes_at many_at pair_at tested_at node_at node_row_at node_id_at edge_at edge_row_at edge_id_at labels_at props_at property_at name_at name_bytes_at byte_at
snapshot_second First = refl
snapshot_second Second = refl

pub snapshot_too_late : is_fit First 1 2 snapshot_payload ≡ false
unfolding is_fit decoded snapshot_at snapshot_parts_at named_at counted_at number_at bytes_at many_at pair_at tested_at node_at node_row_at node_id_at edge_at edge_row_at edge_id_at labels_at props_at property_at name_at name_bytes_at byte_at
snapshot_too_late = refl
