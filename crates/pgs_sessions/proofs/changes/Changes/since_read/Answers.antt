use Rattle.std.proofs.Common.{◌∙◌, ap, sym, ℕ, List, Option}
use Rattle.pgs_base.specs.declared.element.Elem.{Elem}
use Rattle.pgs_sessions_machine.specs.Machine.{least_after}
use Rattle.pgs_sessions.specs.Changes.{last_in}
use Rattle.pgs_sessions.specs.Least.{lesser_of}
use Rattle.pgs_sessions.proofs.Lesser.{one_more}
use Rattle.pgs_sessions.proofs.changes.Changes.since_read.Goals as goal

pub loop-elem-preserved : goal.loop-elem-preserved
loop-elem-preserved c =
    let last = last_in c.args.self.now in
    ap (λ (found : Option (Elem × ℕ)). lesser_of found (least_after last c.args.began c.next.new.self)) (c.lesser-found.ensures ∙ ap (lesser_of c.loop-elem.found) c.since.ensures)
    ∙ one_more last c.args.began c.loop-elem.found c.in-Some.elem.now c.next.new.self
    ∙ ap (λ (elems : List Elem). lesser_of c.loop-elem.found (least_after last c.args.began elems)) (sym c.in-Some.ensures.steps) ∙ c.loop-elem.invariant
