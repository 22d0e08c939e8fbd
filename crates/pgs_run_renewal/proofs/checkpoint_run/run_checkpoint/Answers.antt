use Rattle.std.proofs.Common.{refl, sym, ap, subst}
use Rattle.pgs_answer.specs.Lines.{store_refused_line}
use Rattle.pgs_answer.specs.Refusals.{epochs_spent_text}
use Rattle.pgs_run_lines.specs.declared.reply.Reply.{Reply}
use Rattle.pgs_run_lines.specs.Replies.{PutsReply}
use Rattle.pgs_command.specs.declared.status.Status.{Status}
use Rattle.pgs_command.specs.declared.status.Status.TheVariants.{StoreRefused, PutFault, Memory}
use Rattle.pgs_command.specs.Promise.{PromiseAlone}
use Rattle.pgs_run_renewal.specs.CheckpointSpec.{checkpoint_spec}
use Rattle.pgs_run_renewal.proofs.CheckpointPromised.{promised_failed, promised_memory, promised_renewed, promised_spent, promised_unopened}
use Rattle.pgs_run_renewal.proofs.checkpoint_run.run_checkpoint.Goals as goal

pub returns-in-Err-clause-promise : goal.returns-in-Err-clause-promise
returns-in-Err-clause-promise g c =
    promised_unopened c.in-Err.unopened (g.W.World.view c.args.world.now) (g.W.World.view c.open_store.new.world) (g.W.World.view c.end_unopened.new.world) c.end_unopened.result
    (record {
      opens = c.in-Err.ensures.answer;
      counts = c.in-Err.ensures.faults;
      quiet = c.open_store.ensures.quiet;
      no_put = c.open_store.ensures.no_put;
      ends = c.end_unopened.ensures.ends;
      areas = c.end_unopened.ensures.areas;
    }) (λ none. ap g.W.World.view (c.end_unopened.ensures.early none))

pub returns-in-Err-renewed_reply-clause-promise : goal.returns-in-Err-renewed_reply-clause-promise
returns-in-Err-renewed_reply-clause-promise g c =
    promised_memory c.in-Ok.store (g.W.World.view c.args.world.now) (g.W.World.view c.open_store.new.world)
    (record { opened = c.in-Ok.ensures.answer; areas = c.in-Ok.ensures.faults; quiet = c.open_store.ensures.quiet; no_put = c.open_store.ensures.no_put })

pub returns-in-Ok-checkpoint-clause-promise : goal.returns-in-Ok-checkpoint-clause-promise
returns-in-Ok-checkpoint-clause-promise g c =
    let late = g.W.World.view c.checkpoint.new.world in
    let new = g.W.World.view c.put_reply.new.world in
    promised_renewed c.in-Ok.store (g.W.World.view c.args.world.now) (g.W.World.view c.open_store.new.world)
    (record { opened = c.in-Ok.ensures.answer; areas = c.in-Ok.ensures.faults; quiet = c.open_store.ensures.quiet; no_put = c.open_store.ensures.no_put })
    late c.checkpoint.ensures.beside (c.checkpoint.ensures.stops c.in-Ok.ensures.answer.whole) c.in-Ok-checkpoint.ensures.faults c.checkpoint.new.self.journal c.in-Ok-checkpoint.field-0
    c.in-Ok-checkpoint.ensures.answer.3 c.epoch-epoch.ensures.numbered new c.put_reply.result
    (subst (λ (r : Reply Status). PutsReply r.line r.status PutFault late c.put_reply.result new) c.in-Ok-renewed_reply.ensures
    (record { ends = c.put_reply.ensures.ends; stops = c.put_reply.ensures.stops; areas = c.put_reply.ensures.areas }))

pub returns-in-Ok-spent_reply-clause-promise : goal.returns-in-Ok-spent_reply-clause-promise
returns-in-Ok-spent_reply-clause-promise g c =
    let put = c.put_reply-in-Ok-spent_reply in
    let new = g.W.World.view put.new.world in
    let answer = rw c.in-Err-EpochsSpent.field-0-is at c.in-Err-EpochsSpent.ensures.answer in
    let early = rw c.in-Err-EpochsSpent.field-0-is at c.in-Err-EpochsSpent.ensures.early in
    promised_spent c.in-Ok.store (g.W.World.view c.args.world.now) (g.W.World.view c.open_store.new.world)
    (record { opened = c.in-Ok.ensures.answer; areas = c.in-Ok.ensures.faults; quiet = c.open_store.ensures.quiet; no_put = c.open_store.ensures.no_put })
    answer.1 new put.result
    (subst (λ w. PutsReply (store_refused_line epochs_spent_text) StoreRefused PutFault (g.W.World.view w) put.result new) (early refl)
    (subst (λ (r : Reply Status). PutsReply r.line r.status PutFault (g.W.World.view c.checkpoint.new.world) put.result new) c.in-Ok-spent_reply.ensures
    (record { ends = put.ensures.ends; stops = put.ensures.stops; areas = put.ensures.areas })))

pub returns-in-Err-EpochsSpent-clause-promise : goal.returns-in-Err-EpochsSpent-clause-promise
returns-in-Err-EpochsSpent-clause-promise g c =
    let old = g.W.World.view c.args.world.now in
    let early = rw c.in-Err-EpochsSpent.field-0-is at c.in-Err-EpochsSpent.ensures.early in
    subst (λ w. PromiseAlone checkpoint_spec old (g.W.World.view w) Memory) (sym (early refl))
    (promised_memory c.in-Ok.store old (g.W.World.view c.open_store.new.world)
    (record { opened = c.in-Ok.ensures.answer; areas = c.in-Ok.ensures.faults; quiet = c.open_store.ensures.quiet; no_put = c.open_store.ensures.no_put }))

pub returns-in-Err-Memory-clause-promise : goal.returns-in-Err-Memory-clause-promise
returns-in-Err-Memory-clause-promise g c =
    let old = g.W.World.view c.args.world.now in
    let early = rw c.in-Err-Memory.field-0-is at c.in-Err-Memory.ensures.early in
    subst (λ w. PromiseAlone checkpoint_spec old (g.W.World.view w) Memory) (sym (early refl))
    (promised_memory c.in-Ok.store old (g.W.World.view c.open_store.new.world)
    (record { opened = c.in-Ok.ensures.answer; areas = c.in-Ok.ensures.faults; quiet = c.open_store.ensures.quiet; no_put = c.open_store.ensures.no_put }))

pub returns-in-Err-DiskFault-clause-promise : goal.returns-in-Err-DiskFault-clause-promise
returns-in-Err-DiskFault-clause-promise g c =
    let rose = rw c.in-Err-DiskFault.field-0-is at c.in-Err-DiskFault.ensures.faults in
    promised_failed c.in-Ok.store (g.W.World.view c.args.world.now) (g.W.World.view c.open_store.new.world)
    (record { opened = c.in-Ok.ensures.answer; areas = c.in-Ok.ensures.faults; quiet = c.open_store.ensures.quiet; no_put = c.open_store.ensures.no_put })
    (g.W.World.view c.checkpoint.new.world) c.checkpoint.ensures.beside (c.checkpoint.ensures.stops c.in-Ok.ensures.answer.whole) rose
