use Rattle.std.proofs.Common.{arith}
use Rattle.pgs_resolve.specs.Keyed.{names_x}
use Rattle.pgs_resolve_keys.specs.Patterns.{resolved_key}
use Rattle.pgs_resolve.proofs.Each.{each_at, more_mapped}
use Rattle.pgs_resolve.proofs.guard_keys.push_keys.Goals as goal

pub push_key-requires : goal.push_key-requires
push_key-requires c = each_at names_x c.args.written.now c.loop-key.key-index c.key-item.result (omega arith) c.key-item.is c.requires

pub loop-key-preserved : goal.loop-key-preserved
loop-key-preserved c =
    more_mapped (resolved_key c.args.numbering.now) c.args.keys.now.items c.args.written.now c.loop-key.key-index c.key-item.result _ _
    (omega arith) c.key-item.is c.loop-key.invariant c.in_ok-push_key.ensures
