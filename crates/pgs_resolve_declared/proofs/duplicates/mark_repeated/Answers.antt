use Rattle.std.proofs.Common.{[]}
use Rattle.pgs_syntax.specs.declared.specification.Property.{Property}
use Rattle.pgs_resolve_declared.proofs.Repeats.{more_repeated}
use Rattle.pgs_resolve_declared.proofs.Walks.{more_mapped}
use Rattle.pgs_resolve_declared.proofs.duplicates.mark_repeated.Goals as goal

pub loop-property-preserved : goal.loop-property-preserved
loop-property-preserved c = record {
  keys = more_mapped (λ (property : Property). property.key) [] c.args.properties.now c.loop-property.property-index c.property-item.result c.loop-property.keys c.push.new.self c.in_ok-copy.field-0
      c.loop-property-test.true c.property-item.is c.loop-property.invariant.keys c.in_ok-copy.ensures c.in_ok-push.ensures.ok;
  marks = more_repeated c.args.marks.now.items c.loop-property.marks.items c.mark_again.new.marks.items c.args.properties.now c.loop-property.property-index c.property-item.result c.loop-property.keys
      c.loop-property-test.true c.property-item.is c.loop-property.invariant.keys c.loop-property.invariant.marks c.in_ok-mark_again.ensures;
}
