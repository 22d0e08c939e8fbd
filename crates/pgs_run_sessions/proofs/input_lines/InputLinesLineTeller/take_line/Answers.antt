use Rattle.pgs_run_sessions.specs.InputMachine.{stand_of}
use Rattle.pgs_run_sessions.proofs.Room.{room_step}
use Rattle.pgs_run_sessions.proofs.input_lines.InputLinesLineTeller.take_line.Goals as goal

pub returns-clause-room : goal.returns-clause-room
returns-clause-room c = room_step c.step.result (stand_of c.args.self.now.part) (stand_of c.step.new.self.part) c.args.line.now c.step.ensures.stand
