use Rattle.std.proofs.Common.{arith}
use Rattle.pgs_resolve_keys.specs.Patterns.{number_of}
use Rattle.pgs_resolve_keys.proofs.Stepped.{more_paths, path_places}
use Rattle.pgs_resolve_keys.proofs.patterns.push_paths.Goals as goal

pub push_path-requires : goal.push_path-requires
push_path-requires c =
    let p = path_places c.args.paths.now c.loop-path.path-index c.path-item.result (omega arith) c.path-item.is in omega (arith, p, c.loop-path.invariant.at)

pub overflow_mul-place : goal.overflow_mul-place
overflow_mul-place c =
    let p = path_places c.args.paths.now c.loop-path.path-index c.path-item.result (omega arith) c.path-item.is in omega (arith, p, c.loop-path.invariant.at)

pub overflow_add-place : goal.overflow_add-place
overflow_add-place c =
    let p = path_places c.args.paths.now c.loop-path.path-index c.path-item.result (omega arith) c.path-item.is in omega (arith, p, c.loop-path.invariant.at)

pub overflow_add-place-in-loop-path : goal.overflow_add-place-in-loop-path
overflow_add-place-in-loop-path c =
    let p = path_places c.args.paths.now c.loop-path.path-index c.path-item.result (omega arith) c.path-item.is in omega (arith, p, c.loop-path.invariant.at)

pub loop-path-preserved : goal.loop-path-preserved
loop-path-preserved c =
    let p = path_places c.args.paths.now c.loop-path.path-index c.path-item.result (omega arith) c.path-item.is in
    record {
      at = omega (arith, p, c.loop-path.invariant.at);
      atoms = λ held holds.
          more_paths c.args.numbering.now (number_of held) c.args.paths.now c.loop-path.path-index c.path-item.result c.loop-path.place _ _
          c.loop-path.atoms.items _ (omega arith) c.path-item.is (omega arith) (c.loop-path.invariant.atoms held holds) (c.in_ok-push_path.ensures held holds);
    }
