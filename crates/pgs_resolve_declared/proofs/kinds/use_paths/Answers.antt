use Rattle.std.proofs.Common.{refl}
use Rattle.pgs_resolve_declared.specs.Refused.{uses_in_path}
use Rattle.pgs_resolve_declared.proofs.Walks.{none_yet, more_of, all_of}
use Rattle.pgs_resolve_declared.proofs.kinds.use_paths.Goals as goal

pub loop-path-init : goal.loop-path-init
loop-path-init c = none_yet c.args.uses.now.items

pub loop-path-preserved : goal.loop-path-preserved
loop-path-preserved c =
    more_of uses_in_path c.args.uses.now.items c.args.paths.now c.loop-path.path-index c.path-item.result c.loop-path.uses.items c.use_path.new.uses.items
    c.loop-path-test.true c.path-item.is c.loop-path.invariant c.in_ok-use_path.ensures

pub returns : goal.returns
returns c =
    all_of uses_in_path c.args.uses.now.items c.args.paths.now c.args.paths.now c.loop-path.path-index c.loop-path.uses.items c.loop-path-test.false refl c.loop-path.invariant
