-- Which file of a store failed, and why.
use Rattle.std.specs.Prelude.{ℕ, List, Option, Some, None, codes}
use Rattle.std.specs.Option.{option_map}
use Rattle.pgs_world.specs.declared.area.Area.{Area}
use Rattle.pgs_world.specs.declared.area.Area.TheVariants.{A, B}
use Rattle.pgs_world_files.specs.declared.area_files.AreaFiles.{AreaFiles}
use Rattle.pgs_world_files.specs.declared.cause.FileCause.{FileCause}

-- the ending of a file's name, and a cause
abbrev pub FailedFile : Type 0
FailedFile = List ℕ × FileCause

-- the cause that the file of an area keeps
abbrev pub cause_in : {H : Type 0} → Area → AreaFiles H → Option FileCause
cause_in A areas = areas.a.cause
cause_in B areas = areas.b.cause

abbrev pub ending_of : Area → List ℕ
ending_of A = codes ".a"
ending_of B = codes ".b"

-- before a call has failed: why the first file wasn't opened, or else the second
abbrev pub cause_of_opening : Option FileCause → Option FileCause → Option FailedFile
cause_of_opening (Some cause) second = Some (ending_of A, cause)
cause_of_opening None second = option_map {U = FailedFile} (λ cause. (ending_of B, cause)) second

-- of these files the one whose call was the last that failed, and why
abbrev pub cause_of_last : {H : Type 0} → Option Area → AreaFiles H → Option FailedFile
cause_of_last (Some area) areas = option_map {U = FailedFile} (λ cause. (ending_of area, cause)) (cause_in area areas)
cause_of_last None areas = cause_of_opening areas.a.cause areas.b.cause

abbrev pub cause_of : {H : Type 0} → AreaFiles H → Option FailedFile
cause_of areas = cause_of_last areas.failed areas
