use Rattle.std.proofs.Common.{[], ◌∷◌, ◌++◌, length, map, sym, ◌∙◌, ap, arith}
use Rattle.pgs_resolve_order.specs.Listing.{entry_of}
use Rattle.pgs_resolve_order.proofs.Queues.{listing_begin, listing_more}
use Rattle.pgs_resolve_order.proofs.listing.list_items.Goals as goal

pub loop-alloc-init : goal.loop-alloc-init
loop-alloc-init c =
    let begin = c.in_ok-queue.ensures in
    record {
      stands = begin.stands;
      kept = begin.all;
      order = listing_begin (length c.args.items.now) c.in_ok-queue.queue.listed (map entry_of c.args.items.now) begin.listed;
    }

pub loop-alloc-preserved : goal.loop-alloc-preserved
loop-alloc-preserved c =
    let entries = map entry_of c.args.items.now in
    let item = c.in-Some.item.now in
    let names = c.loop-alloc.queue.listed in
    let before = c.loop-alloc.invariant in
    let popped = c.in-Some.ensures in
    let listed = c.in_ok-list-in-Some.ensures in
    record {
      stands = listed.stands entries (popped.stands before.stands);
      kept = λ entry number is. listed.keeps entries (popped.stands before.stands) entry number is (popped.keeps entry number is (before.kept entry number is));
      order = listing_more (length c.args.items.now) names c.list.new.self.listed entries (entry_of item) _ (let l = ap length c.as_slice.ensures in omega (arith, l))
          (listed.listed ∙ ap (λ all. all ++ item.name ∷ []) popped.listed) (sym (popped.next before.stands before.kept)) before.order;
    }
