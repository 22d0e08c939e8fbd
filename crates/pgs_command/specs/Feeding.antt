-- What a run does to its feeds, delivery by delivery.
use Rattle.std.specs.Prelude.{◌≡◌, ◌⊎◌, List}
use Rattle.pgs_feed.specs.Deliveries.{AreDelivered, Delivery, ListKind}
use Rattle.pgs_command.specs.declared.status.Status.{Status}
use Rattle.pgs_command.specs.declared.status.Status.TheVariants.{Memory}
use Rattle.pgs_command.specs.Setting.{Setting}
use Rattle.pgs_command.specs.Spec.{CommandSpec}

-- The list of feeds was given what the command says, one delivery after another, each while the world had answered so many puts with Ok;
-- nothing else was done to it.
pub record Gives (spec : CommandSpec) (kind : ListKind) (old new : Setting) (before after : kind.Feeds) (status : Status) : Type 0 where
  pub deliveries : List Delivery
  pub right : spec.Gives old new status deliveries
  pub made : AreDelivered kind before deliveries after

-- a run of words that name a command: the same, or memory was wanting before anything was done
abbrev pub RunGives : (spec : CommandSpec) (kind : ListKind) → Setting → Setting → kind.Feeds → kind.Feeds → Status → Type 0
RunGives spec kind old new before after status = ((status ≡ Memory) × (after ≡ before)) ⊎ Gives spec kind old new before after status
