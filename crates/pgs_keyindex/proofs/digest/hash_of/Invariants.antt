use Rattle.std.proofs.Common.{◌≡◌, fold, take}
use Rattle.pgs_base.specs.Seed.{hasher_by}
use Rattle.pgs_keyindex.specs.Digests.{fed_part}
use Rattle.pgs_keyindex.proofs.digest.hash_of.Given as goal

abbrev pub invariant-loop-part : goal.invariant-loop-part
invariant-loop-part l = l.hasher ≡ fold fed_part (hasher_by l.fn.seed) (take l.part-index l.parts)
