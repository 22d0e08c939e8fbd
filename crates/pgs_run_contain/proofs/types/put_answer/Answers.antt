use Rattle.pgs_run_contain.specs.Answers.{answer_line}
use Rattle.pgs_run_contain.proofs.Answered.{answered_all, answered_some, right_answer, unanswered}
use Rattle.pgs_run_contain.proofs.types.put_answer.Goals as goal

pub returns-in-Err-clause-answer : goal.returns-in-Err-clause-answer
returns-in-Err-clause-answer g c = unanswered c.args.first.now c.args.containing.now.second c.args.containing.now.avoid _ (g.W.World.view c.args.world.now) (g.met.W.World.timed c.args.world.now)

pub returns-in-Ok-put_made-clause-answer : goal.returns-in-Ok-put_made-clause-answer
returns-in-Ok-put_made-clause-answer g c =
    answered_all c.args.first.now c.args.containing.now.second c.args.containing.now.avoid c.args.number c.args.name.now c.in-Ok.answer c.is_some-some.result (g.W.World.view c.args.world.now) (g.W.World.view c.put_made.new.world)
    c.requires.named (right_answer c.args.first.now c.args.containing.now.second c.args.containing.now.avoid c.args.number c.in-Ok.answer c.in-Ok.ensures.answer c.in-Ok.ensures.strange) c.is_some-some.ensures (c.in-Ok-put_made.ensures.puts (answer_line c.args.name.now c.in-Ok.answer) c.answer_line.ensures)

pub returns-in-Err-put_made-clause-answer : goal.returns-in-Err-put_made-clause-answer
returns-in-Err-put_made-clause-answer g c =
    answered_some c.args.first.now c.args.containing.now.second c.args.containing.now.avoid c.args.number c.args.name.now c.in-Ok.answer c.in-Err-put_made.stop (g.W.World.view c.args.world.now) (g.W.World.view c.put_made.new.world)
    c.requires.named (right_answer c.args.first.now c.args.containing.now.second c.args.containing.now.avoid c.args.number c.in-Ok.answer c.in-Ok.ensures.answer c.in-Ok.ensures.strange) (c.in-Err-put_made.ensures.puts (answer_line c.args.name.now c.in-Ok.answer) c.answer_line.ensures)
