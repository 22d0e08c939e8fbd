use Rattle.std.proofs.Common.{◌≡◌, ◌∷◌, [], IfOk, sym, subst}
use Rattle.pgs_run_lines.specs.Machine.{Told}
use Rattle.pgs_command.specs.declared.status.Status.{Status}
use Rattle.pgs_run_gen.proofs.Telling.{told_decided}
use Rattle.pgs_run_gen.proofs.running.reply_of.Goals as goal

pub returns-clause-line : goal.returns-clause-line
returns-clause-line c =
    let same = told_decided c.in_ok-guard.guard.schema c.in_ok-guard.guard.limits c.args.start c.args.count c.in_ok-guard.ensures.schema c.in_ok-guard.ensures.limits in
    subst (λ (told : Told Status). IfOk c.decided_by.result (λ reply. told.pieces ≡ reply.line ∷ [])) (sym same) c.decided_by.ensures.line
