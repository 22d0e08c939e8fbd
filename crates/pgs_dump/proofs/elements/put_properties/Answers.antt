use Rattle.std.proofs.Common.{refl}
use Rattle.pgs_run_lines.proofs.Together.{exits, at_place, item_on, item_stop}
use Rattle.pgs_dump.specs.Lines.{op_line, set_op}
use Rattle.pgs_dump.specs.Parts.{set_lines}
use Rattle.pgs_dump.proofs.Tells.{set_lines-append}
use Rattle.pgs_dump.proofs.elements.put_properties.Goals as goal

pub returns-in_err-put_made-clause-puts : goal.returns-in_err-put_made-clause-puts
returns-in_err-put_made-clause-puts g c =
    let elem = c.args.elem in
    let more = at_place c.args.properties.now c.loop-property.property-index c.property-item.result c.loop-property-test.true c.property-item.is in
    exits c.from_residual.result c.from_residual.ensures.1
    (item_stop (set_lines elem) (set_lines-append elem) c.args.properties.now c.loop-property.property-index c.property-item.result more _ refl c.loop-property.invariant
    (c.in_err-put_made.ensures.puts (op_line (set_op elem c.property-item.result)) c.set_line.ensures))

pub loop-property-preserved : goal.loop-property-preserved
loop-property-preserved g c =
    let elem = c.args.elem in
    let more = at_place c.args.properties.now c.loop-property.property-index c.property-item.result c.loop-property-test.true c.property-item.is in
    item_on (set_lines elem) (set_lines-append elem) c.args.properties.now c.loop-property.property-index c.property-item.result more _ refl c.loop-property.invariant
    (c.in_ok-put_made.ensures.puts (op_line (set_op elem c.property-item.result)) c.set_line.ensures)
