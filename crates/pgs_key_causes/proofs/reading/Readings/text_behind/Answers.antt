use Rattle.std.proofs.Common.{◌+◌, sym, [], arith}
use Rattle.pgs_key_causes.proofs.Places.{none_past}
use Rattle.pgs_key_causes.proofs.reading.Readings.text_behind.Goals as goal

pub returns-in-None : goal.returns-in-None
returns-in-None c = sym (none_past [] c.args.self.now.texts.now c.args.place (c.args.place + 1) (omega arith) (omega arith))
