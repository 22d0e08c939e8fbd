-- How a command ends whose store isn't opened.
use Rattle.std.specs.Prelude.{◌≡◌, ◌⊎◌, Bool, true, false}
use Rattle.pgs_run_lines.specs.Ending.{faults_of}
use Rattle.pgs_run_lines.specs.Pieces.{shown_of}
use Rattle.pgs_run_lines.specs.Replies.{EndsReply}
use Rattle.pgs_command.specs.declared.status.Status.{Status}
use Rattle.pgs_command.specs.declared.status.Status.TheVariants as statuses
use Rattle.pgs_world.specs.World.{View}
use Rattle.pgs_run_store.specs.declared.opening.Unopened.{Unopened}
use Rattle.pgs_run_store.specs.declared.opening.Unopened.TheVariants.{Refused, DiskFault, Memory}

-- whether a refusal's line is put
abbrev pub is_refusal : Unopened → Bool
is_refusal (Refused reply) = true
is_refusal DiskFault = false
is_refusal Memory = false

-- nothing was put, and no fault came
pub record PutsNothing (old now : View) : Type 0 where
  pub shown : shown_of now ≡ shown_of old
  pub faults : faults_of 0 now ≡ faults_of 0 old

-- the reply of a refusal was put; else nothing was
abbrev pub EndsUnopened : Unopened → View → Status → View → Type 0
EndsUnopened (Refused reply) old result now = EndsReply reply.line reply.status statuses.PutFault old result now
EndsUnopened DiskFault old result now = (result ≡ statuses.DiskFault) × PutsNothing old now
EndsUnopened Memory old result now = (result ≡ statuses.Memory) × PutsNothing old now

-- the status is that of the refusal whose line was put, or the put failed and was the last call; else no call was made
abbrev pub EndsLast : Unopened → Status → Type 0 → Type 0
EndsLast (Refused reply) result failed = (result ≡ reply.status) ⊎ failed
EndsLast DiskFault result failed = Unit {0}
EndsLast Memory result failed = Unit {0}
