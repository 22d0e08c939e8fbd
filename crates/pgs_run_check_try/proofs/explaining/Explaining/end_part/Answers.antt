use Rattle.std.proofs.Common.{sym, subst}
use Rattle.pgs_run_check_try.specs.Telling.{TellsPart}
use Rattle.pgs_run_check_try.proofs.Stepped.{tells_no_part}
use Rattle.pgs_run_check_try.proofs.explaining.Explaining.end_part.Goals as goal

pub returns-in-Lines-clause-lines : goal.returns-in-Lines-clause-lines
returns-in-Lines-clause-lines c = subst (TellsPart c.args.self.now.phase) (sym c.new.ensures.items) (tells_no_part c.args.self.now.phase c.in-Lines.is)
