use Rattle.pgs_world_streams.proofs.stdin_source.StdinSourceSource.read.Goals as goal

pub returns-in-Ok-clause-made : goal.returns-in-Ok-clause-made
returns-in-Ok-clause-made g c = (c.read_once.new.buf, c.read_once.auto.buf, c.in-Ok.ensures.gives)

pub returns-in-Err-clause-made : goal.returns-in-Err-clause-made
returns-in-Err-clause-made g c = (c.read_once.new.buf, c.in-Err.error, c.read_once.auto.buf, c.in-Err.ensures.gives)
