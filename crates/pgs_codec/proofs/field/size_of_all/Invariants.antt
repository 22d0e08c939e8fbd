use Rattle.std.proofs.Common.{◌≡◌, ◌-◌, ◌^◌, min, length, take, flat_map}
use Rattle.pgs_codec.proofs.field.size_of_all.Given as goal

abbrev pub invariant-loop-field : goal.invariant-loop-field
invariant-loop-field g l = l.size ≡ min (length (flat_map g.F.Field.field (take l.field-index l.fields))) (2 ^ 64 - 1)
