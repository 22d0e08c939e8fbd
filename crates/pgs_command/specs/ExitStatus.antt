-- The exit status that each ending has.
use Rattle.std.specs.Prelude.{ℕ}
use Rattle.pgs_command.specs.declared.status.Status.{Status}
use Rattle.pgs_command.specs.declared.status.Status.TheVariants.{Accepted, Refused, BadWords, SchemaRefused, StoreRefused, DiskFault, ReadFault, PutFault, Memory, InputTooLong}

-- the number of a status
unfoldable pub status_number : Status → ℕ
status_number Accepted = 0
status_number Refused = 1
status_number BadWords = 2
status_number SchemaRefused = 3
status_number StoreRefused = 4
status_number DiskFault = 5
status_number ReadFault = 6
status_number PutFault = 7
status_number Memory = 8
status_number InputTooLong = 9
