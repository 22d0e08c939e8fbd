use Rattle.std.proofs.Common.{[], refl, arith}
use Rattle.pgs_resolve_keys.specs.Patterns.{places_of_path}
use Rattle.pgs_resolve_declared.proofs.Walks.{more_of, all_of}
use Rattle.pgs_resolve_keys.proofs.places.places_of.Goals as goal

pub loop-path-preserved : goal.loop-path-preserved
loop-path-preserved c =
    more_of places_of_path [] c.args.paths.now _ _ _ _ (omega arith) c.path-item.is c.loop-path.invariant c.in_ok-push_path.ensures

pub returns : goal.returns
returns c = all_of places_of_path [] c.args.paths.now c.args.paths.now _ _ (omega arith) refl c.loop-path.invariant
