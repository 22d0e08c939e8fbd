use Rattle.std.proofs.Common.{◌+◌, refl, ap, ◌++◌, ◌∙◌, arith}
use Rattle.pgs_violation.specs.Violations.{key_violations, keys_violations}
use Rattle.pgs_scratch.specs.Judged.{scope_rows, keys_rows}
use Rattle.pgs_scratch.proofs.KeyList.{valid_key, key_added}
use Rattle.pgs_scratch.proofs.KeyRows.{indexed_are_scope}
use Rattle.pgs_scratch.proofs.judging.add_keys.Goals as goal

pub add_violations-requires-clause-typed : goal.add_violations-requires-clause-typed
add_violations-requires-clause-typed g c =
    valid_key c.args.compiled.now c.resolved-resolved.ensures.valid c.args.keys.now c.requires.keys c.loop-place.place c.loop-place-test.true
    c.index-keys-place.result c.index-keys-place.is

pub loop-place-preserved : goal.loop-place-preserved
loop-place-preserved g c =
    let resolved = c.args.compiled.now in
    let graph = g.G.GraphRead.meaning c.args.graph.now in
    let place = c.loop-place.place in
    let key = c.index-keys-place.result in
    record {
      so_far = key_added (key_violations resolved graph) (keys_violations resolved graph) (λ number own rest. refl) c.args.keys.now place key
          c.loop-place-test.true c.index-keys-place.is c.args.found.now.items c.loop-place.found.items c.add_violations.new.found.items
          c.loop-place.invariant.so_far c.in_ok-own.ensures.key;
      rows_so_far = key_added (scope_rows resolved graph) (keys_rows resolved graph) (λ number own rest. refl) c.args.keys.now place key
          c.loop-place-test.true c.index-keys-place.is c.args.rows.now.items c.loop-place.rows.items c.add_rows.new.rows.items
          c.loop-place.invariant.rows_so_far
          (c.in_ok-add_rows.ensures
          ∙ ap (λ more. c.loop-place.rows.items ++ more)
          (indexed_are_scope resolved graph c.requires.graph (place + 1) key c.in_ok-own.own.items c.in_ok-own.ensures.rows));
      no_step_back = omega arith;
    }
