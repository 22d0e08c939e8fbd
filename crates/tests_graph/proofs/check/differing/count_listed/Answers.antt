use Rattle.std.proofs.Common.{◌∙◌}
use Rattle.pgs_schema.proofs.Keys.{valid_key}
use Rattle.tests_graph.proofs.check.differing.count_listed.Goals as goal

pub count_key-requires-clause-key : goal.count_key-requires-clause-key
count_key-requires-clause-key g c =
    valid_key c.args.sides.now.compiled.now c.resolved-resolved.ensures.valid c.as_slice-key-items.result.now (c.as_slice-key-items.ensures ∙ c.requires.keys)
    c.loop-key.key-index c.loop-key-test.true c.key-item.result c.key-item.is
