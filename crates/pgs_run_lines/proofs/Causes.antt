-- Causes of stops, one call after another.
use Rattle.std.proofs.Common.{◌≡◌, false, ℕ, ◌+◌, ◌-◌, ◌^◌, min, refl, sym, ap, ◌∙◌, arith}
use Rattle.pgs_world.specs.Count.{RoseByOne}
use Rattle.pgs_world.specs.World.{View}
use Rattle.pgs_run_lines.specs.declared.stop.Stop.{Stop}
use Rattle.pgs_run_lines.specs.declared.stop.Stop.TheVariants as stops
use Rattle.pgs_run_lines.specs.Calls.{is_of_source}
use Rattle.pgs_run_lines.specs.Ending.{Faults, faults_of, HasCause}

-- the counts were as before, and then a stop raised one or none
pub cause_on : {E : Type 0} (before mid now : Faults) (stop : Stop E) → mid ≡ before → HasCause mid now stop → HasCause before now stop
cause_on before mid now (stops.Ended status) same cause = cause ∙ same
cause_on before mid now stops.ReadFault same cause = rw (sym same) cause
cause_on before mid now stops.DiskFault same cause = rw (sym same) cause
cause_on before mid now stops.PutFault same cause = rw (sym same) cause
cause_on before mid now stops.Memory same cause = cause ∙ same

-- no read fails where nothing is read
pub no_rise : (n : ℕ) → RoseByOne n n → n ≡ 0 → ⊥
no_rise n rose is = let h : n ≡ min (n + 1) (2 ^ 64 - 1) = rose in absurd (omega arith)

-- the same faults of a world
same_world : (reads : ℕ) (old new : View) → faults_of 0 new ≡ faults_of 0 old → faults_of reads new ≡ faults_of reads old
same_world reads old new same =
    ap (λ (f : Faults). let g : Faults = record { reads = reads; areas = f.areas; puts = f.puts } in g) same

-- a stop that came from the world, after reads that didn't fail
pub world_cause : {E : Type 0} (reads : ℕ) (old new : View) (stop : Stop E) → HasCause (faults_of 0 old) (faults_of 0 new) stop → HasCause (faults_of reads old) (faults_of reads new) stop
world_cause reads old new (stops.Ended status) cause = same_world reads old new cause
world_cause reads old new stops.ReadFault cause = absurd (no_rise 0 cause.0 refl)
world_cause reads old new stops.DiskFault cause = (cause.0, refl, cause.2)
world_cause reads old new stops.PutFault cause = (cause.0, refl, cause.2)
world_cause reads old new stops.Memory cause = same_world reads old new cause

pub world_same : (reads now : ℕ) (old new : View) → now ≡ reads → faults_of 0 new ≡ faults_of 0 old → faults_of now new ≡ faults_of reads old
world_same reads now old new is same = ap (λ n. faults_of n new) is ∙ same_world reads old new same

-- what came of the world alone is no fault of a read
pub not_of_source : {E : Type 0} (old new : View) (stop : Stop E) → HasCause (faults_of 0 old) (faults_of 0 new) stop → is_of_source stop ≡ false
not_of_source old new (stops.Ended status) cause = refl
not_of_source old new stops.ReadFault cause = absurd (no_rise 0 cause.0 refl)
not_of_source old new stops.DiskFault cause = refl
not_of_source old new stops.PutFault cause = refl
not_of_source old new stops.Memory cause = refl
