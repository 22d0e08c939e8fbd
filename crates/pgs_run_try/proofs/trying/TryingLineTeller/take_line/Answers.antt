use Rattle.pgs_run_try.proofs.Room.{room_step}
use Rattle.pgs_run_try.proofs.trying.TryingLineTeller.take_line.Goals as goal

pub returns-clause-room : goal.returns-clause-room
returns-clause-room c = room_step c.step.result c.args.self.now.phase c.step.new.self.phase c.args.line.now c.step.ensures.phase
