use Rattle.std.proofs.Common.{refl}
use Rattle.pgs_resolve_declared.specs.Refused.{uses_in_key}
use Rattle.pgs_resolve_declared.proofs.Walks.{none_yet, more_of, all_of}
use Rattle.pgs_resolve_declared.proofs.kinds.use_keys.Goals as goal

pub loop-key-init : goal.loop-key-init
loop-key-init c = none_yet c.args.uses.now.items

pub loop-key-preserved : goal.loop-key-preserved
loop-key-preserved c =
    more_of uses_in_key c.args.uses.now.items c.args.keys.now c.loop-key.key-index c.key-item.result c.loop-key.uses.items c.use_key.new.uses.items
    c.loop-key-test.true c.key-item.is c.loop-key.invariant c.in_ok-use_key.ensures

pub returns : goal.returns
returns c =
    all_of uses_in_key c.args.uses.now.items c.args.keys.now c.args.keys.now c.loop-key.key-index c.loop-key.uses.items c.loop-key-test.false refl c.loop-key.invariant
