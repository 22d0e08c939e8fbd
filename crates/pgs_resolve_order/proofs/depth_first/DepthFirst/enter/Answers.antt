use Rattle.std.proofs.Common.{◌∷◌, ◌^◌, ◌-◌, ◌∙◌, ap, reverse, set, subst, sym, arith, get_or-set_same}
use Rattle.std.specs.List.{sum_by}
use Rattle.pgs_resolve_order.specs.declared.depth_first.Visit.{Visit}
use Rattle.pgs_resolve_order.specs.Searching.{mark_at, unseen_work}
use Rattle.pgs_resolve_order.specs.DepthFirst.{way_of, StayMarked, visit_work}
use Rattle.pgs_resolve_order.proofs.Work.{within}
use Rattle.pgs_resolve_order.proofs.DepthFirst.{enters, enter_work, stay_set, same_search, last_first}
use Rattle.pgs_resolve_order.proofs.depth_first.DepthFirst.enter.Goals as goal

pub returns-clause-search : goal.returns-clause-search
returns-clause-search c =
    let rows = c.args.rows.now in
    let old = c.args.self.now in
    let visit : Visit = record { number = c.args.number; rest = c.row_at.result } in
    same_search rows (set old.marks.items c.args.number 1) c.set_mark.new.marks.items (visit ∷ way_of old) (reverse c.push.new.self.items)
    c.set_mark.ensures (ap reverse c.in_ok-push.ensures.items ∙ last_first old.visits.items visit)
    (enters rows old.marks.items (way_of old) visit c.row_at.ensures c.requires.unseen c.requires.next c.requires.search)

pub returns-clause-stay : goal.returns-clause-stay
returns-clause-stay c =
    let marks = c.args.self.now.marks.items in
    let new = c.requires.unseen in
    subst (StayMarked marks) (sym c.set_mark.ensures)
    (stay_set marks c.args.number 1 (within marks c.args.number (2 ^ 64 - 1) (omega arith) new) (omega arith) (λ e. absurd (omega (arith, e, new))))

pub returns-clause-seen : goal.returns-clause-seen
returns-clause-seen c =
    let marks = c.args.self.now.marks.items in
    let e = ap (λ ms. mark_at ms c.args.number) c.set_mark.ensures
    ∙ get_or-set_same marks c.args.number 1 (2 ^ 64 - 1) (within marks c.args.number (2 ^ 64 - 1) (omega arith) c.requires.unseen) in
    omega (arith, e)

pub returns-clause-work : goal.returns-clause-work
returns-clause-work c =
    let rows = c.args.rows.now in
    let old = c.args.self.now in
    let visit : Visit = record { number = c.args.number; rest = c.row_at.result } in
    let a = enter_work rows old.marks.items (way_of old) visit c.row_at.ensures c.requires.unseen c.requires.search.len in
    let m = ap (unseen_work rows) c.set_mark.ensures in
    let w = ap (sum_by visit_work) (ap reverse c.in_ok-push.ensures.items ∙ last_first old.visits.items visit) in
    omega (arith, a, m, w)
