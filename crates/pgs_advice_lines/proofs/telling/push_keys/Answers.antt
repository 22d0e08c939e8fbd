use Rattle.std.proofs.Common.{arith}
use Rattle.pgs_advice_lines.specs.Telling.{key_lines}
use Rattle.pgs_advice_lines.proofs.Numbered.{more_numbered}
use Rattle.pgs_advice_lines.proofs.telling.push_keys.Goals as goal

pub loop-place-preserved : goal.loop-place-preserved
loop-place-preserved c =
    more_numbered (key_lines c.args.resolved.now c.args.texts.now c.args.findings.now.reached.items c.args.findings.now.apart.items) c.args.lines.now.items c.args.keys.now c.loop-place.place c.index-keys-place.result c.loop-place.lines.items
    c.push_key.new.lines.items (omega arith) c.index-keys-place.is c.loop-place.invariant c.in_ok-push_key.ensures
