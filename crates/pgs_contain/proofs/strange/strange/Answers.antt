use Rattle.std.proofs.Common.{length, ◌/◌, arith}
use Rattle.pgs_contain.proofs.Letters.{counted_less, making_begun, making_counted, making_on, never_none, never_there}
use Rattle.pgs_contain.proofs.strange.strange.Goals as goal

pub loop-most-init : goal.loop-most-init
loop-most-init c =
    let bytes = c.in_ok-bytes.bytes.items in
    let names = c.args.names.now in
    making_counted bytes c.as_slice.result.now names (length names / 2) c.count_beginning-most.result c.as_slice.ensures.value c.count_beginning-most.ensures
    (making_begun bytes names (length names) c.in_ok-bytes.ensures)

pub loop-most-preserved : goal.loop-most-preserved
loop-most-preserved c =
    let bytes = c.go_on.new.bytes.items in
    let names = c.args.names.now in
    making_counted bytes c.as_slice-in-loop-most.result.now names (c.loop-most.most / 2) c.count_beginning-most-in-loop-most.result c.as_slice-in-loop-most.ensures.value
    c.count_beginning-most-in-loop-most.ensures
    (making_on c.loop-most.bytes.items bytes names c.loop-most.most (omega arith) c.loop-most.invariant c.in_ok-go_on.ensures.fewer)

pub loop-most-smaller : goal.loop-most-smaller
loop-most-smaller c =
    counted_less c.go_on.new.bytes.items c.as_slice-in-loop-most.result.now c.args.names.now c.loop-most.most c.count_beginning-most-in-loop-most.result
    c.as_slice-in-loop-most.ensures.value c.count_beginning-most-in-loop-most.ensures (omega arith) c.in_ok-go_on.ensures.fewer.0

pub unreachable-requires : goal.unreachable-requires
unreachable-requires c =
    never_none c.loop-most.bytes.items c.as_slice-2.result.now c.args.names.now c.loop-most.most c.in_ok-name.field-0 c.loop-most.invariant c.as_slice-2.ensures.value
    c.in_ok-name.ensures c.in-None.is

pub returns : goal.returns
returns c =
    never_there c.loop-most.bytes.items c.as_slice-2.result.now c.in-Some.name c.args.names.now c.loop-most.most c.in_ok-name.field-0 c.loop-most.invariant (omega arith)
    c.as_slice-2.ensures.value c.in_ok-name.ensures c.in-Some.is
