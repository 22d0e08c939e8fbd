use Rattle.pgs_resolve.proofs.Refusing.{resolved_only}
use Rattle.pgs_resolve.proofs.Unrefused.{graphs_from, graphs_to}
use Rattle.pgs_resolve.proofs.laws.what_is_imported_is_walked.Goals as goal

pub returns : goal.returns
returns c = λ script schema ok last is_last name.
    let none = (resolved_only script schema ok).0 in (graphs_from script none last is_last name, graphs_to script none last is_last name)
