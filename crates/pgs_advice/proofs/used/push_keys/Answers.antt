use Rattle.std.proofs.Common.{refl}
use Rattle.pgs_resolve_declared.proofs.Walks.{more_of, all_of}
use Rattle.pgs_advice.specs.Used.{named_by_key}
use Rattle.pgs_advice.proofs.used.push_keys.Goals as goal

pub loop-key-preserved : goal.loop-key-preserved
loop-key-preserved c =
    more_of named_by_key c.args.types.now.items c.args.keys.now c.loop-key.key-index c.key-item.result c.loop-key.types.items c.push_key.new.types.items
    c.loop-key-test.true c.key-item.is c.loop-key.invariant c.in_ok-push_key.ensures

pub returns : goal.returns
returns c =
    all_of named_by_key c.args.types.now.items c.args.keys.now c.args.keys.now c.loop-key.key-index c.loop-key.types.items c.loop-key-test.false refl
    c.loop-key.invariant
