-- What a world shows, by the status, of what a run was told to put.
use Rattle.std.specs.Prelude.{◌≡◌}
use Rattle.pgs_run_lines.specs.declared.stop.Stop.{Stop}
use Rattle.pgs_run_lines.specs.declared.stop.Stop.TheVariants as stops
use Rattle.pgs_run_lines.specs.Machine.{Told}
use Rattle.pgs_run_lines.specs.Pieces.{Shown, ShowsAll, ShowsFirst, ShowsTorn}
use Rattle.pgs_command.specs.declared.status.Status.{Status}
use Rattle.pgs_command.specs.declared.status.Status.TheVariants.{Accepted, Refused, BadWords, SchemaRefused, StoreRefused, DiskFault, ReadFault, PutFault, Memory, InputTooLong}

-- With these statuses all pieces were put, each by one put, and the status is the one told. After a fault of a put some first
-- pieces were put, and a front of the next; after the other faults, and after want of memory, some first pieces, whole.
-- Which ones at a fault of a read has a clause of its own.
abbrev pub Ends : Shown → Told Status → Status → Shown → Type 0
Ends start told Accepted now = ShowsAll start told.pieces now × (told.status ≡ Accepted)
Ends start told Refused now = ShowsAll start told.pieces now × (told.status ≡ Refused)
Ends start told BadWords now = ShowsAll start told.pieces now × (told.status ≡ BadWords)
Ends start told SchemaRefused now = ShowsAll start told.pieces now × (told.status ≡ SchemaRefused)
Ends start told StoreRefused now = ShowsAll start told.pieces now × (told.status ≡ StoreRefused)
Ends start told InputTooLong now = ShowsAll start told.pieces now × (told.status ≡ InputTooLong)
Ends start told DiskFault now = ShowsFirst start told.pieces now
Ends start told ReadFault now = ShowsFirst start told.pieces now
Ends start told PutFault now = ShowsTorn start told.pieces now
Ends start told Memory now = ShowsFirst start told.pieces now

-- the status of a run over lines
abbrev pub status_at : Stop Status → Status
status_at (stops.Ended status) = status
status_at stops.ReadFault = ReadFault
status_at stops.DiskFault = DiskFault
status_at stops.PutFault = PutFault
status_at stops.Memory = Memory
