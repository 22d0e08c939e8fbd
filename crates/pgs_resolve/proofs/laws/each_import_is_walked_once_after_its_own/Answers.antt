use Rattle.pgs_resolve.proofs.Refusing.{resolved_only}
use Rattle.pgs_resolve.proofs.Unrefused.{each_follows}
use Rattle.pgs_resolve.proofs.laws.each_import_is_walked_once_after_its_own.Goals as goal

pub returns : goal.returns
returns c = λ script schema ok before after type. each_follows script (resolved_only script schema ok).0 before after type
