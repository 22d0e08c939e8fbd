-- An area in a file that was opened is among the files that are open.
use Rattle.std.proofs.Common.{◌≡◌, ◌∙◌, ℕ, List, Option, Some, ap, sym, subst}
use Rattle.pgs_world_files.specs.declared.access.Access.{Access}
use Rattle.pgs_world_files.specs.declared.cause.FileCause.{FileCause}
use Rattle.pgs_world_files.specs.declared.found.Found.{Found}
use Rattle.pgs_world_files.specs.declared.store_file.StoreFile.{StoreFile}
use Rattle.pgs_world_files.specs.declared.system_file.SystemFile.{SystemFile}
use Rattle.pgs_world_files.specs.Calls.{Facts}
use Rattle.pgs_world_files.specs.Faults.{IsOwn}
use Rattle.pgs_world_files.specs.SystemFiles.{IsAdmitted}

pub admitted_open : {S F : Type 0} (facts : Facts F) (old : List Found) (name : List ℕ) (access : Access) (file : F) (system : SystemFile S F) (store : StoreFile (SystemFile S F)) (handle : Option (StoreFile (SystemFile S F))) (cause : Option FileCause) (new : List Found)
    → IsOwn facts access old file new → system.file ≡ file → store.file ≡ system → handle ≡ Some store → IsAdmitted facts old name access handle cause new
admitted_open {S} {F} facts old name access file system store handle cause new own is_file is_system is_store =
    subst (λ (h : Option (StoreFile (SystemFile S F))). IsAdmitted facts old name access h cause new) (sym is_store)
    (subst (λ (f : F). IsOwn facts access old f new) (sym (ap (λ (s : SystemFile S F). s.file) is_system ∙ is_file)) own)
