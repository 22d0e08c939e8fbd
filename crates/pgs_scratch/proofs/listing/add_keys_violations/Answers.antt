use Rattle.pgs_scratch.proofs.KeyList.{valid_key}
use Rattle.pgs_scratch.proofs.listing.add_keys_violations.Goals as goal

pub add_violations-requires-clause-typed : goal.add_violations-requires-clause-typed
add_violations-requires-clause-typed g c =
    valid_key c.args.compiled.now c.resolved-resolved.ensures.valid c.args.keys.now c.requires.keys c.loop-place.place c.loop-place-test.true
    c.index-keys-place.result c.index-keys-place.is
