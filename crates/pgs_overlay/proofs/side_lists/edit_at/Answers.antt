use Rattle.std.proofs.Common.{sym}
use Rattle.pgs_overlay.specs.Sides.{edges_at}
use Rattle.pgs_overlay.specs.Passed.{list_at}
use Rattle.pgs_overlay.proofs.Taking.{edited_list, edited_at}
use Rattle.pgs_overlay.proofs.side_lists.edit_at.Goals as goal

pub returns-clause-edited : goal.returns-clause-edited
returns-clause-edited g c =
    edited_at (λ id. edges_at c.args.edit.side id (g.B.GraphRead.meaning c.args.base.now).edges) c.args.edit.edge c.args.edit.kind c.args.lists.now
    c.take_list-list.ensures.ascending c.in-Some.id _ _ _ c.take_list-list.ensures.entries c.in_ok-set.ensures.ok
    (λ edited later was rising. rw (sym c.new-base_list.ensures) (c.in_ok-edit_list.ensures.edited edited later
    (rw c.new-base_list.ensures (edited_list _ edited _ (list_at c.args.lists.now c.in-Some.id) c.take_list-list.result c.take_list-list.ensures.list was)) rising))
    c.args.end c.in-Some.is
