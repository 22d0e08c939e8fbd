use Rattle.std.proofs.Common.{◌≡◌, ◌<◌, ◌∙◌, ap, reverse, set, refl, arith}
use Rattle.std.specs.List.{slice_index_or}
use Rattle.std.proofs.lemmas.Bool.Decides.{nat_tests}
use Rattle.pgs_resolve_order.specs.Searching.{mark_at, unseen_work}
use Rattle.pgs_resolve_order.specs.DepthFirst.{way_of}
use Rattle.pgs_resolve_order.proofs.DepthFirst.{no_link, one_link, leaves, leave_work, passes, turns_back, same_search, last_first}
use Rattle.pgs_resolve_order.proofs.depth_first.DepthFirst.step.Goals as goal

pub returns-in_default-clause-back : goal.returns-in_default-clause-back
returns-in_default-clause-back c =
    let rows = c.args.rows.now in
    let old = c.args.self.now in
    let visit = c.args.visit in
    same_search rows (set old.marks.items visit.number 2) c.set_mark.new.marks.items (way_of old) (way_of old) c.set_mark.ensures refl
    (leaves rows old.marks.items (way_of old) visit (no_link visit.rest.now c.in_default.len_below) c.requires.search)

pub returns-in_default-clause-work : goal.returns-in_default-clause-work
returns-in_default-clause-work c =
    let rows = c.args.rows.now in
    let old = c.args.self.now in
    let a = leave_work rows old.marks.items (way_of old) c.args.visit in
    let m = ap (unseen_work rows) c.set_mark.ensures in
    omega (arith, a, m)

pub returns-then-mark-eq-ON_THE_WAY-clause-back : goal.returns-then-mark-eq-ON_THE_WAY-clause-back
returns-then-mark-eq-ON_THE_WAY-clause-back c =
    let old = c.args.self.now in
    let links = c.args.visit.rest.now in
    let e = c.mark_of-mark.ensures in
    let f = c.if-mark-eq-ON_THE_WAY.true in
    let on : mark_at old.marks.items (slice_index_or links 0 0) ≡ 1 = grind (arith, nat_tests) in
    turns_back c.args.rows.now old.marks.items (way_of old) c.args.visit (slice_index_or links 0 0) _ (one_link links c.in-len1-up.len_at_least) on c.requires.search

pub returns-in_ok-push-2-clause-back : goal.returns-in_ok-push-2-clause-back
returns-in_ok-push-2-clause-back c =
    let rows = c.args.rows.now in
    let old = c.args.self.now in
    let links = c.args.visit.rest.now in
    let e = c.mark_of-mark.ensures in
    let f = c.if-mark-eq-ON_THE_WAY.false in
    let g = c.if-mark-eq0.false in
    let done : 1 < mark_at old.marks.items (slice_index_or links 0 0) = grind (arith, nat_tests) in
    same_search rows old.marks.items old.marks.items _ (reverse c.push-else-mark-eq0.new.self.items) refl (ap reverse c.in_ok-push-2.ensures.items ∙ last_first old.visits.items _)
    (passes rows old.marks.items (way_of old) c.args.visit _ (slice_index_or links 0 0) (one_link links c.in-len1-up.len_at_least) refl done c.requires.search)
