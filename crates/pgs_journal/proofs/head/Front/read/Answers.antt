use Rattle.pgs_journal.proofs.Heads.{front_short, front_long}
use Rattle.pgs_journal.proofs.head.Front.read.Goals as goal

pub returns-then-len-lt17-clause-answered : goal.returns-then-len-lt17-clause-answered
returns-then-len-lt17-clause-answered g c =
    front_short g.W.World.answered c.args.area c.args.world.now c.len.new.self c.in_ok-len.len _ c.if-len-lt17.true c.in_ok-len.ensures.answered

pub returns-clause-answered : goal.returns-clause-answered
returns-clause-answered g c =
    front_long g.W.World.answered c.args.area c.args.world.now c.len.new.self c.read_at.new.self c.in_ok-len.len c.read_at.new.buf c.if-len-lt17.false c.in_ok-len.ensures.answered c.in_ok-read_at.ensures.answered
