-- Which status of `pgguard` each status of a run of sessions is.
use Rattle.pgs_command.specs.declared.status.Status.{Status}
use Rattle.pgs_command.specs.declared.status.Status.TheVariants.{Accepted, Refused, BadWords, SchemaRefused, ReadFault, PutFault, Memory, InputTooLong}
use Rattle.pgs_run_sessions.specs.declared.status.SessionStatus.{SessionStatus}
use Rattle.pgs_run_sessions.specs.declared.status.SessionStatus.TheVariants as sessions

abbrev pub status_of : SessionStatus → Status
status_of sessions.Accepted = Accepted
status_of sessions.Refused = Refused
status_of sessions.BadWords = BadWords
status_of sessions.SchemaRefused = SchemaRefused
status_of sessions.ReadFault = ReadFault
status_of sessions.PutFault = PutFault
status_of sessions.Memory = Memory
status_of sessions.InputTooLong = InputTooLong
