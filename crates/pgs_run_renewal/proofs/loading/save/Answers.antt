use Rattle.std.proofs.Common.{refl, sym, ap, subst, ◌∙◌}
use Rattle.pgs_answer.specs.Lines.{store_refused_line}
use Rattle.pgs_answer.specs.Refusals.{already_store_text, foreign_text}
use Rattle.pgs_command.specs.declared.status.Status.TheVariants.{Accepted, PutFault, StoreRefused}
use Rattle.pgs_run_lines.specs.Replies.{PutsReply}
use Rattle.pgs_store.specs.Loads.{IsLoaded}
use Rattle.pgs_store.specs.State.{GuardState}
use Rattle.pgs_store.specs.Stored.{IsLoadedIn}
use Rattle.pgs_world.specs.Moment.{EachSince}
use Rattle.pgs_run_input.proofs.OneLine.{silent_quiet}
use Rattle.pgs_run_renewal.specs.LoadTold.{line_of, told_choice}
use Rattle.pgs_run_renewal.proofs.Loads.{found_store, loads_failed, loads_made, loads_none, loads_refused, refuses_areas}
use Rattle.pgs_run_renewal.proofs.loading.save.Goals as goal

pub returns-in-Ok-clause-answer : goal.returns-in-Ok-clause-answer
returns-in-Ok-clause-answer g c =
    let guard = c.args.guard in
    let old = g.W.World.view c.args.world.now in
    let mid = g.W.World.view c.create.new.world in
    let made = c.create.ensures in
    let store = c.in-Ok._store in
    let limits = c.requires.limits in
    let line = c.requires.line ∙ ap (λ (s : GuardState). line_of s.schema) (sym c.in-Ok.ensures.guard) in
    loads_made guard.text guard.schema c.schema_text-text.ensures.schema old mid (g.met.W.World.timed c.args.world.now) made.kept (λ free settled. subst (λ l. EachSince (IsLoadedIn l guard.text) old mid) limits (made.stops free settled)) made.beside
    store (subst (λ l. IsLoaded l guard.text store old mid) limits c.in-Ok.ensures.answer) c.in-Ok.ensures.faults (g.W.World.view c.put_reply.new.world) c.put_reply.result
    (subst (λ l. PutsReply l Accepted PutFault mid c.put_reply.result (g.W.World.view c.put_reply.new.world)) line (record { ends = c.put_reply.ensures.ends; stops = c.put_reply.ensures.stops; areas = c.put_reply.ensures.areas }))

pub returns-in-Err-AlreadyStore-clause-answer : goal.returns-in-Err-AlreadyStore-clause-answer
returns-in-Err-AlreadyStore-clause-answer g c =
    let guard = c.args.guard in
    let old = g.W.World.view c.args.world.now in
    let ensures = rw c.in-Err-AlreadyStore.field-0-is at c.in-Err-AlreadyStore.ensures in
    let mid = g.W.World.view c.create.new.world in
    let quiet = ensures.unwritten refl in
    let has = ensures.answer.0 in
    let put = c.put_last.ensures in
    loads_refused guard.text (store_refused_line already_store_text) StoreRefused c.put_last.result old mid (g.W.World.view c.put_last.new.world) (g.met.W.World.timed c.args.world.now)
    quiet (silent_quiet old mid quiet ensures.beside.no_put ensures.faults)
    (refuses_areas guard.text already_store_text has.0 old has.1 (found_store has.0 old ensures.answer.1))
    (record { ends = put.ends _ c.occupied_line.ensures; stops = put.stops _ c.occupied_line.ensures; areas = put.areas })

pub returns-in-Err-Foreign-clause-answer : goal.returns-in-Err-Foreign-clause-answer
returns-in-Err-Foreign-clause-answer g c =
    let guard = c.args.guard in
    let old = g.W.World.view c.args.world.now in
    let ensures = rw c.in-Err-Foreign.field-0-is at c.in-Err-Foreign.ensures in
    let mid = g.W.World.view c.create.new.world in
    let quiet = ensures.unwritten refl in
    let has = ensures.answer.0 in
    let put = c.put_last-in-Err-Foreign.ensures in
    loads_refused guard.text (store_refused_line foreign_text) StoreRefused c.put_last-in-Err-Foreign.result old mid (g.W.World.view c.put_last-in-Err-Foreign.new.world) (g.met.W.World.timed c.args.world.now)
    quiet (silent_quiet old mid quiet ensures.beside.no_put ensures.faults)
    (refuses_areas guard.text foreign_text has.0 old has.1 (λ tells. ap (told_choice has.0) (ensures.answer.1 tells)))
    (record { ends = put.ends _ c.foreign_line.ensures; stops = put.stops _ c.foreign_line.ensures; areas = put.areas })

pub returns-in-Err-DiskFault-clause-answer : goal.returns-in-Err-DiskFault-clause-answer
returns-in-Err-DiskFault-clause-answer g c =
    let guard = c.args.guard in
    let made = c.create.ensures in
    let old = g.W.World.view c.args.world.now in
    let mid = g.W.World.view c.create.new.world in
    loads_failed guard.text guard.schema c.schema_text-text.ensures.schema old mid (g.met.W.World.timed c.args.world.now) made.kept
    (λ free settled. subst (λ l. EachSince (IsLoadedIn l guard.text) old mid) c.requires.limits (made.stops free settled)) made.beside (rw c.in-Err-DiskFault.field-0-is at c.in-Err-DiskFault.ensures.faults)

pub returns-in-Err-Memory-clause-answer : goal.returns-in-Err-Memory-clause-answer
returns-in-Err-Memory-clause-answer g c =
    let old = g.W.World.view c.args.world.now in
    let mid = g.W.World.view c.create.new.world in
    let ensures = rw c.in-Err-Memory.field-0-is at c.in-Err-Memory.ensures in
    let quiet = ensures.unwritten refl in
    loads_none c.args.guard.text old mid (g.met.W.World.timed c.args.world.now) quiet (silent_quiet old mid quiet ensures.beside.no_put ensures.faults)
