use Rattle.std.proofs.Common.{arith}
use Rattle.pgs_resolve_declared.specs.Order.{number_in}
use Rattle.pgs_resolve_declared.proofs.Walks.{more_kept}
use Rattle.pgs_resolve_order.proofs.links.push_numbers.Goals as goal

pub loop-word-preserved : goal.loop-word-preserved
loop-word-preserved c =
    more_kept (number_in c.args.names.now) c.args.row.now.items c.args.words.now _ _ _ _ (omega arith) c.word-item.is c.loop-word.invariant c.in_ok-push_number.ensures
