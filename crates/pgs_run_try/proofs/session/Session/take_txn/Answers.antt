use Rattle.std.proofs.Common.{◌≡◌, ◌∙◌, subst}
use Rattle.pgs_run_lines.specs.Pieces.{pieces_in}
use Rattle.pgs_run_input.specs.Session.{Standing, decision_on, with_text}
use Rattle.pgs_run_try.specs.Judging.{verdict_by, telling_by}
use Rattle.pgs_run_try.specs.State.{SessionState, judging_in, graph_in, commits_in}
use Rattle.pgs_run_try.proofs.Judged.{told_of_done}
use Rattle.pgs_run_try.proofs.session.Session.take_txn.Goals as goal

pub returns-in_ok-piece-in-Ok-clause-piece : goal.returns-in_ok-piece-in-Ok-clause-piece
returns-in_ok-piece-in-Ok-clause-piece c =
    let inside = c.self.inside in
    let standing : Standing = record { number = inside.number; commits = commits_in inside.decider; refused = inside.refused; graph = graph_in inside.decider } in
    subst (λ (s : SessionState). pieces_in c.in_ok-piece-in-Ok.piece ≡ telling_by s.judging s.standing (with_text (decision_on (verdict_by s.judging s.schema) s.standing.graph c.args.txn.now))) c.self.view_is
    (told_of_done (judging_in inside.decider) standing _ (graph_in c.apply.new.decider) c.in-Ok.commit (pieces_in c.in_ok-piece-in-Ok.piece) c.in-Ok.ensures.accepted c.in-Ok.ensures.number
    (λ each. c.in_ok-piece-in-Ok.ensures.each_line (c.in-Ok.ensures.judging ∙ each))
    (λ end. c.in_ok-piece-in-Ok.ensures.at_end (c.in-Ok.ensures.judging ∙ end)))
