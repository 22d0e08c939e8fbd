use Rattle.std.proofs.Common.{refl}
use Rattle.pgs_schema.proofs.Keys.{valid_key, valid_alone}
use Rattle.pgs_schema.proofs.schema.plan_keys.Goals as goal

pub plan_key-requires : goal.plan_key-requires
plan_key-requires c =
    valid_alone c.args.compiled.now c.key-item.result
    (valid_key c.args.compiled.now c.resolved.ensures.valid c.as_slice-keys.result.now (rw (c.as_slice-keys.ensures, c.resolved.ensures.same) refl)
    c.loop-key.key-index c.loop-key-test.true c.key-item.result c.key-item.is)
