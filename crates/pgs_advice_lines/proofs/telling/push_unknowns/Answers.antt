use Rattle.std.proofs.Common.{arith}
use Rattle.pgs_advice_lines.specs.Telling.{unknown_lines}
use Rattle.pgs_advice_lines.proofs.Numbered.{more_numbered}
use Rattle.pgs_advice_lines.proofs.telling.push_unknowns.Goals as goal

pub loop-place-preserved : goal.loop-place-preserved
loop-place-preserved c =
    more_numbered (unknown_lines c.args.words.now c.args.reached.now) c.args.lines.now.items c.args.keys.now c.loop-place.place c.index-keys-place.result c.loop-place.lines.items
    c.push_unknown.new.lines.items (omega arith) c.index-keys-place.is c.loop-place.invariant c.in_ok-push_unknown.ensures
