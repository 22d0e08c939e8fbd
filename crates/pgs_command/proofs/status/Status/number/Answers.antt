use Rattle.std.proofs.Common.{ap, sym}
use Rattle.pgs_command.specs.ExitStatus.{status_number}
use Rattle.pgs_command.proofs.status.Status.number.Goals as goal

-- src/status.rt:31:5
pub returns-in-Accepted : goal.returns-in-Accepted
unfolding status_number
returns-in-Accepted c = ap status_number (sym c.in-Accepted.is)

-- src/status.rt:31:5
pub returns-in-Refused : goal.returns-in-Refused
unfolding status_number
returns-in-Refused c = ap status_number (sym c.in-Refused.is)

-- src/status.rt:31:5
pub returns-in-BadWords : goal.returns-in-BadWords
unfolding status_number
returns-in-BadWords c = ap status_number (sym c.in-BadWords.is)

-- src/status.rt:31:5
pub returns-in-SchemaRefused : goal.returns-in-SchemaRefused
unfolding status_number
returns-in-SchemaRefused c = ap status_number (sym c.in-SchemaRefused.is)

-- src/status.rt:31:5
pub returns-in-StoreRefused : goal.returns-in-StoreRefused
unfolding status_number
returns-in-StoreRefused c = ap status_number (sym c.in-StoreRefused.is)

-- src/status.rt:31:5
pub returns-in-DiskFault : goal.returns-in-DiskFault
unfolding status_number
returns-in-DiskFault c = ap status_number (sym c.in-DiskFault.is)

-- src/status.rt:31:5
pub returns-in-ReadFault : goal.returns-in-ReadFault
unfolding status_number
returns-in-ReadFault c = ap status_number (sym c.in-ReadFault.is)

-- src/status.rt:31:5
pub returns-in-PutFault : goal.returns-in-PutFault
unfolding status_number
returns-in-PutFault c = ap status_number (sym c.in-PutFault.is)

-- src/status.rt:31:5
pub returns-in-Memory : goal.returns-in-Memory
unfolding status_number
returns-in-Memory c = ap status_number (sym c.in-Memory.is)

-- src/status.rt:31:5
pub returns-in-InputTooLong : goal.returns-in-InputTooLong
unfolding status_number
returns-in-InputTooLong c = ap status_number (sym c.in-InputTooLong.is)
