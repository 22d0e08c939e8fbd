use Rattle.std.proofs.Common.{◌≡◌, ◌++◌, take, flat_map}
use Rattle.std.specs.Prelude.{IsTrue}
use Rattle.std.specs.List.{list_all}
use Rattle.pgs_codec.proofs.field.write_all.Given as goal

abbrev pub invariant-loop-field : goal.invariant-loop-field
invariant-loop-field g l = record {
  written : l.out.items ≡ l.fn.out.items ++ flat_map g.F.Field.field (take l.field-index l.fields);
  fit : IsTrue (list_all g.F.Field.is_field (take l.field-index l.fields));
}
