use Rattle.pgs_command.specs.Setting.{setting_of}
use Rattle.pgs_run_contain.proofs.Behind.{reading}
use Rattle.pgs_run_contain.proofs.texts.read_texts.Goals as goal

pub returns-clause-reading : goal.returns-clause-reading
returns-clause-reading g c = λ places.
    let read = c.run_lines in
    let old = setting_of (g.S.Source.left c.args.source.now) (g.S.Source.faults c.args.source.now) (g.W.World.view c.args.world.now) places in
    reading c.args.budget old (record { left = g.S.Source.left read.new.source; faults = g.S.Source.faults read.new.source }) (g.W.World.view read.new.world) c.new-comparing.result.phase read.result
    c.new-comparing.ensures read.ensures.ends read.ensures.by read.ensures.may read.ensures.cause read.ensures.allows.allowed
