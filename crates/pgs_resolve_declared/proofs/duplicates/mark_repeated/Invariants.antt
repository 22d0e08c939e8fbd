use Rattle.std.proofs.Common.{◌≡◌, ◌++◌, [], map, take}
use Rattle.pgs_syntax.specs.declared.specification.Property.{Property}
use Rattle.pgs_resolve_declared.specs.declared.duplicates.Mark.TheVariants as marked
use Rattle.pgs_resolve_declared.specs.Refused.{repeated_after}
use Rattle.pgs_resolve_declared.proofs.duplicates.mark_repeated.Given as goal

abbrev pub invariant-loop-property : goal.invariant-loop-property
invariant-loop-property l = record {
  keys : l.keys ≡ map (λ (property : Property). property.key) (take l.property-index l.properties);
  marks : l.marks.items ≡ l.fn.marks.items ++ map marked.Again (repeated_after [] (map (λ (property : Property). property.key) (take l.property-index l.properties)));
}
