use Rattle.pgs_command.proofs.Refusing.{refused}
use Rattle.pgs_command.proofs.words.refuse_words.Goals as goal

pub returns-clause-promise : goal.returns-clause-promise
returns-clause-promise g c = λ line made. refused line (g.W.World.view c.args.world.now) (g.W.World.view c.put_last.new.world) c.put_last.result c.put_last.ensures.areas (c.put_last.ensures.ends line made)
