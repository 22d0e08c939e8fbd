use Rattle.std.proofs.Common.{[]}
use Rattle.pgs_resolve_order.specs.declared.listing.Pending.{Pending}
use Rattle.pgs_resolve_order.proofs.Queues.{awaits_others}
use Rattle.pgs_resolve_order.proofs.Kept.{stands_ready, kept_ready, put_ready, stands_waiting, kept_waiting, put_waiting}
use Rattle.pgs_resolve_order.proofs.listing.Queue.settle.Goals as goal

pub returns-in_ok-insert-in-None-clause-stands : goal.returns-in_ok-insert-in-None-clause-stands
returns-in_ok-insert-in-None-clause-stands c entries stands awaits =
    let old = c.args.self.now in
    stands_ready old (record old { ready = c.insert.new.self }) c.args.pending.place c.args.pending.number c.in_ok-insert-in-None.ensures.updates.0 entries
    (awaits_others entries old.listed c.args.pending.place c.args.pending.number c.args.pending.rest.now [] awaits c.in-None.ensures.alike) stands

pub returns-in_ok-insert-in-None-clause-keeps : goal.returns-in_ok-insert-in-None-clause-keeps
returns-in_ok-insert-in-None-clause-keeps c =
    let old = c.args.self.now in
    kept_ready old (record old { ready = c.insert.new.self }) c.args.pending.place c.args.pending.number c.in_ok-insert-in-None.ensures.updates.0

pub returns-in_ok-insert-in-None-clause-puts : goal.returns-in_ok-insert-in-None-clause-puts
returns-in_ok-insert-in-None-clause-puts c =
    let old = c.args.self.now in
    put_ready old (record old { ready = c.insert.new.self }) c.args.pending.place c.args.pending.number c.in_ok-insert-in-None.ensures.updates.0

pub returns-in_ok-wait-in-Some-clause-stands : goal.returns-in_ok-wait-in-Some-clause-stands
returns-in_ok-wait-in-Some-clause-stands c entries stands awaits =
    let old = c.args.self.now in
    let left : Pending = record c.args.pending { rest = c.in-Some.next.1 } in
    stands_waiting old (record old { waiting = c.wait.new.waiting }) c.in-Some.next.0.now left c.in_ok-wait-in-Some.ensures entries c.in-Some.ensures.unlisted
    (awaits_others entries old.listed c.args.pending.place c.args.pending.number c.args.pending.rest.now _ awaits c.in-Some.ensures.alike) stands

pub returns-in_ok-wait-in-Some-clause-keeps : goal.returns-in_ok-wait-in-Some-clause-keeps
returns-in_ok-wait-in-Some-clause-keeps c =
    let old = c.args.self.now in
    let left : Pending = record c.args.pending { rest = c.in-Some.next.1 } in
    kept_waiting old (record old { waiting = c.wait.new.waiting }) c.in-Some.next.0.now left c.in_ok-wait-in-Some.ensures

pub returns-in_ok-wait-in-Some-clause-puts : goal.returns-in_ok-wait-in-Some-clause-puts
returns-in_ok-wait-in-Some-clause-puts c entry placed =
    let old = c.args.self.now in
    let left : Pending = record c.args.pending { rest = c.in-Some.next.1 } in
    put_waiting old (record old { waiting = c.wait.new.waiting }) c.in-Some.next.0.now left c.in_ok-wait-in-Some.ensures entry
