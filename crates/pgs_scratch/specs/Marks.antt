-- The mark of a tuple: a number that it is hashed to.
use Rattle.std.specs.Prelude.{ℕ, List, map}
use Rattle.pgs_base.specs.declared.part.Part.{Part}
use Rattle.pgs_base.specs.declared.seed.Seed.TheVariants.{Fixed}
use Rattle.pgs_keyindex.specs.Digests.{hash_of}
use Rattle.pgs_scratch.specs.declared.key_row.KeyRow.{KeyRow}

unfoldable pub mark_of : List Part → ℕ
mark_of tuple = hash_of Fixed tuple

-- the marks of a row's tuples
abbrev pub marks_of : KeyRow → List ℕ
marks_of row = map mark_of row.tuples
