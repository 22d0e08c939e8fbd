-- The digest of a tuple under a key: the key's number, and 32 bits of what its parts hash to.
use Rattle.std.specs.Prelude.{ℕ, ◌%◌, ◌^◌, List, ◌++◌, fold}
use Rattle.std.specs.declared.hash.DefaultHasher.{DefaultHasher}
use Rattle.std.specs.Hash as fed
use Rattle.std.specs.Hash.DefaultHasher as sip
use Rattle.pgs_base.specs.declared.element.Elem.TheVariants as elems
use Rattle.pgs_base.specs.declared.part.Part.{Part}
use Rattle.pgs_base.specs.declared.part.Part.TheVariants as parts
use Rattle.pgs_base.specs.declared.seed.Seed.{Seed}
use Rattle.pgs_base.specs.declared.value.Value.{Value}
use Rattle.pgs_base.specs.declared.value.Value.TheVariants as values
use Rattle.pgs_base.specs.Seed.{hasher_by}
use Rattle.pgs_keyindex.specs.declared.digest.Digest.{Digest}

-- what is hashed of a part
abbrev pub value_writes : Value → List (List ℕ)
value_writes (values.Text bytes) = fed.str bytes
value_writes (values.Int number) = fed.i64 number
value_writes (values.Bool truth) = fed.bool truth
value_writes (values.Date day) = fed.u16 day.0 ++ fed.u8 day.1 ++ fed.u8 day.2

abbrev pub part_writes : Part → List (List ℕ)
part_writes (parts.Value value) = value_writes value
part_writes (parts.Elem (elems.Node id)) = fed.u64 id.0
part_writes (parts.Elem (elems.Edge id)) = fed.u64 id.0

-- a hasher after a value, and after a part
abbrev pub fed_value : DefaultHasher → Value → DefaultHasher
fed_value hasher value = fold sip.write hasher (value_writes value)

abbrev pub fed_part : DefaultHasher → Part → DefaultHasher
fed_part hasher part = fold sip.write hasher (part_writes part)

-- what the parts of a tuple hash to
abbrev pub hash_of : Seed → List Part → ℕ
hash_of seed parts = sip.finish (fold fed_part (hasher_by seed) parts)

unfoldable pub digest_of : Seed → ℕ → List Part → Digest
digest_of seed key tuple = record { key = key; hash = hash_of seed tuple % 2 ^ 32 }
