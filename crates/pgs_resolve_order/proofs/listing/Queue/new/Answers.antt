use Rattle.std.proofs.Common.{map, ◌∙◌, arith}
use Rattle.std.proofs.lemmas.List.{length-map}
use Rattle.std.proofs.lemmas.Option.{slice_get_within}
use Rattle.pgs_resolve_order.specs.Listing.{entry_of}
use Rattle.pgs_resolve_order.proofs.Kept.{awaits_first, kept_first}
use Rattle.pgs_resolve_order.proofs.listing.Queue.new.Goals as goal

pub loop-number-preserved : goal.loop-number-preserved
loop-number-preserved c =
    let items = c.args.items.now in
    let item = c.index-items-number.result in
    let before = c.loop-number.invariant in
    let step = c.in_ok-settle.ensures in
    record {
      listed = step.listed ∙ before.listed;
      stands = step.stands (map entry_of items) before.stands
          (awaits_first items c.loop-number.queue.listed c.loop-number.number item c.as_slice.result.now (omega arith) c.index-items-number.is c.as_slice.ensures.value);
      kept = kept_first items c.loop-number.queue c.settle.new.self c.loop-number.number item (omega arith) c.index-items-number.is before.kept step.keeps step.puts;
    }

pub returns-clause-all : goal.returns-clause-all
returns-clause-all c entry number is =
    c.loop-number.invariant.kept entry number is
    (let l = slice_get_within (map entry_of c.args.items.now) number entry is in let m = length-map c.args.items.now entry_of in omega arith)
