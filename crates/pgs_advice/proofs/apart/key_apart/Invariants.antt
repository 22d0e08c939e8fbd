use Rattle.std.proofs.Common.{take}
use Rattle.pgs_advice.specs.Apart.{AreThoseApart}
use Rattle.pgs_advice.proofs.apart.key_apart.Given as goal

abbrev pub invariant-loop-subtype : goal.invariant-loop-subtype
invariant-loop-subtype l = AreThoseApart l.schema (take l.subtype-index l.subtype-items) l.found.items
