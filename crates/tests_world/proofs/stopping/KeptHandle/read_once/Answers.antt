use Rattle.std.proofs.Common.{rules, refl}
use Rattle.tests_world.proofs.OneByte.{read_one}
use Rattle.tests_world.proofs.stopping.KeptHandle.read_once.Goals as goal

pub returns-clause-gives : goal.returns-clause-gives
returns-clause-gives c = (
  record { bytes = refl; until = refl; past = refl },
  read_one c.args.buf.now c.args.self.now.bytes.items c.args.at c.index.result.now (search rules) (search rules) c.index.ensures,
)
