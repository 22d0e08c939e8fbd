use Rattle.std.proofs.Common.{◌∷◌}
use Rattle.pgs_run_lines.proofs.Together.{exits, stops_in, stops_on, result_on}
use Rattle.pgs_dump.specs.Lines.{graph_lines}
use Rattle.pgs_answer.specs.Lines.{followed_line}
use Rattle.pgs_run_follow.proofs.following.put_told.Goals as goal

pub returns-in_err-put_made-clause-puts : goal.returns-in_err-put_made-clause-puts
returns-in_err-put_made-clause-puts g c =
    rw (← c.commits.ensures)
    (exits c.from_residual-in_err-put_made.result c.from_residual-in_err-put_made.ensures.1
    (stops_on c.in_ok-put_fault.ensures.puts
    (stops_in (graph_lines c.args.progress.now.followed.graph)
    (c.in_err-put_made.ensures.puts (followed_line c.commits.result c.args.rest) c.followed_line.ensures))))

pub returns-clause-puts : goal.returns-clause-puts
returns-clause-puts g c =
    rw (← c.commits.ensures, ← c.graph.ensures)
    (result_on _ (followed_line c.commits.result c.args.rest ∷ graph_lines c.graph.result.now) c.put_graph.result c.in_ok-put_fault.ensures.puts
    (result_on _ (graph_lines c.graph.result.now) c.put_graph.result
    (c.in_ok-put_made.ensures.puts (followed_line c.commits.result c.args.rest) c.followed_line.ensures) c.put_graph.ensures.puts))
