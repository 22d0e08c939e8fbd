use Rattle.std.proofs.Common.{rules, ◌≡◌, ℕ, Option, None, MatchOption, true, ◌∙◌, ap, reverse, subst, arith}
use Rattle.std.specs.List.{sum_by}
use Rattle.pgs_resolve_order.specs.Links.{leads_back}
use Rattle.pgs_resolve_order.specs.DepthFirst.{way_of, IsDepthFirst, visit_work}
use Rattle.pgs_resolve_order.proofs.DepthFirst.{last_first, stay_on}
use Rattle.pgs_resolve_order.proofs.depth_first.DepthFirst.visit.Goals as goal

pub loop-visit-preserved : goal.loop-visit-preserved
loop-visit-preserved g c =
    let rows = c.args.rows.now in
    let new = c.step.new.self in
    let before = c.loop-visit.invariant in
    let step = c.in_ok-found.ensures in
    let none : c.in_ok-found.found ≡ None = search rules in
    let work = step.work in
    let left = before.work in
    let tick = c.tick.ensures in
    let popped = ap (sum_by visit_work) (ap reverse c.in-Some.ensures.items ∙ last_first c.pop.new.self.items c.in-Some.visit) in
    record {
      search = subst (λ (found : Option ℕ). MatchOption found (IsDepthFirst rows new.marks.items (way_of new)) (λ number. leads_back rows number ≡ true)) none step.back;
      stay = stay_on c.args.self.now.marks.items c.loop-visit.self.marks.items new.marks.items before.stay step.stay;
      seen = step.stay.seen c.args.start before.seen;
      work = omega (arith, work, left, tick, popped);
    }
