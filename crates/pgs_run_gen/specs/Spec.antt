-- The command `gen`: it reads nothing, uses no area, and refuses nothing.
use Rattle.std.specs.Prelude.{ℕ, false}
use Rattle.pgs_command.specs.declared.status.Status.{Status}
use Rattle.pgs_command.specs.declared.status.Status.TheVariants.{Accepted, PutFault, Memory}
use Rattle.pgs_command.specs.Kept.{without_areas}
use Rattle.pgs_command.specs.Spec.{CommandSpec}
use Rattle.pgs_run_gen.specs.Told.{told_gen}

-- the statuses with which it may end
abbrev pub IsOfGen : Status → Type 0
IsOfGen Accepted = Unit {0}
IsOfGen PutFault = Unit {0}
IsOfGen Memory = Unit {0}
IsOfGen status = ⊥

abbrev pub gen_spec : (start count : ℕ) → CommandSpec
gen_spec start count = without_areas false IsOfGen (λ input bytes. told_gen start count)
