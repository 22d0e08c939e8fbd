use Rattle.std.proofs.Common.{◌≡◌, ◌∙◌, ap, false, is_some, sym}
use Rattle.pgs_answer.specs.Lines.{absent_line}
use Rattle.pgs_base.specs.Graph.{Graph}
use Rattle.pgs_syntax.specs.Matches.{carried}
use Rattle.pgs_run_store.proofs.Tells.{told_absent}
use Rattle.pgs_run_store.proofs.explaining.put_explained.Goals as goal

pub returns-clause-puts : goal.returns-clause-puts
returns-clause-puts g c =
    let guard = c.args.store.now.guard in
    let absent : is_some (carried guard.graph c.args.elem) ≡ false =
    ap (λ (graph : Graph). is_some (carried graph c.args.elem)) (sym c.graph.ensures.graph) ∙ sym c.is_there.ensures ∙ c.if-is_there.false in
    rw (told_absent guard.schema guard.graph c.args.elem absent) (c.in_ok-put_made.ensures.puts (absent_line c.args.elem) c.absent_line.ensures)
