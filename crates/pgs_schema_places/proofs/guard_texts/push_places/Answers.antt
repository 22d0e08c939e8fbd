use Rattle.std.proofs.Common.{refl}
use Rattle.pgs_resolve_declared.proofs.Walks.{more_mapped, all_mapped}
use Rattle.pgs_schema_places.specs.KeyTexts.{place_of}
use Rattle.pgs_schema_places.proofs.guard_texts.push_places.Goals as goal

pub loop-key-preserved : goal.loop-key-preserved
loop-key-preserved c =
    more_mapped place_of c.args.places.now.items c.args.keys.now c.loop-key.key-index c.key-item.result c.loop-key.places.items c.push.new.self.items
    (place_of c.key-item.result) c.loop-key-test.true c.key-item.is c.loop-key.invariant refl c.in_ok-push.ensures.items

pub returns : goal.returns
returns c =
    all_mapped place_of c.args.places.now.items c.args.keys.now c.loop-key.key-index c.loop-key.places.items c.loop-key-test.false c.loop-key.invariant
