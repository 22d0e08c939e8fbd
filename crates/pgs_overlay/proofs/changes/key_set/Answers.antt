use Rattle.std.proofs.Common.{◌∙◌, ap}
use Rattle.std.specs.BTreeSet.{insert_key}
use Rattle.pgs_overlay.proofs.Before.{key_more}
use Rattle.pgs_overlay.proofs.changes.key_set.Goals as goal

pub loop-key-preserved : goal.loop-key-preserved
loop-key-preserved g c =
    c.in_ok-insert.ensures.keys ∙ ap (λ l. insert_key g.K.Ord.cmp l c.key-item.result) c.loop-key.invariant
    ∙ key_more g.K.Ord.cmp g.met.K.Ord.total c.args.before.now c.loop-key.key-index c.key-item.result c.requires c.loop-key-test.true c.key-item.is
