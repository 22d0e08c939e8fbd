use Rattle.std.proofs.Common.{◌≡◌, ◌∙◌, ℕ, List, [], Err, sym, subst}
use Rattle.std.proofs.lemmas.Bool.{false≢true}
use Rattle.std.specs.Path.{path_bytes, path_buf_bytes}
use Rattle.pgs_world_files.specs.declared.cause.OpenFault.{OpenFault}
use Rattle.pgs_world_files.specs.Calls.{folder_of}
use Rattle.pgs_world_files.specs.Faults.{IsFault}
use Rattle.pgs_world_files.specs.Faults.HasFailed.{at_real, at_sync}
use Rattle.pgs_world_files.proofs.Faults.{failed, folder_failed, if_err}
use Rattle.pgs_world_files.proofs.system_opening.sync_folder.Goals as goal

pub returns-in_err-real-clause-fault : goal.returns-in_err-real-clause-fault
returns-in_err-real-clause-fault g c =
    if_err _ c.from_residual.result c.from_residual.ensures.1 (λ made is access. failed g.S.System.facts c.args.name.now access [] made is (at_real c.in_err-real.ensures.failed))

pub returns-in_err-names-clause-fault : goal.returns-in_err-names-clause-fault
returns-in_err-names-clause-fault g c =
    let fault = c.in_err-names.ensures.fault in
    let same : path_bytes c.folder_of-folder.result ≡ folder_of (path_buf_bytes c.in_ok-real.real) = cc in
    let asked = subst (λ (n : List ℕ). g.S.System.facts.opened fault.0 n (Err fault.1)) same fault.2 in
    if_err _ c.from_residual-in_err-names.result c.from_residual-in_err-names.ensures.1
    (λ made is access. subst (λ (m : OpenFault). IsFault g.S.System.facts [] c.args.name.now access m) (sym is)
    (folder_failed g.S.System.facts c.args.name.now access [] (path_buf_bytes c.in_ok-real.real) fault.0 fault.1 _ c.in_ok-real.ensures.real asked fault.3))

pub returns-clause-fault : goal.returns-clause-fault
returns-clause-fault g c = λ access.
    failed g.S.System.facts c.args.name.now access [] c.from.result c.from.ensures
    (at_sync c.in-Err.ensures (λ said. false≢true (sym c.if-is_unsupported.false ∙ c.is_unsupported.ensures.not_said said)))
