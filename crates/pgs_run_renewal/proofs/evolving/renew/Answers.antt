use Rattle.std.proofs.Common.{refl, sym, subst}
use Rattle.pgs_answer.specs.Lines.{evolve_refused_line}
use Rattle.pgs_answer.specs.Refusals.{violation_text}
use Rattle.pgs_run_lines.specs.Replies.{PutsReply}
use Rattle.pgs_command.specs.declared.status.Status.TheVariants.{Accepted, Refused, PutFault, Memory}
use Rattle.pgs_run_input.proofs.OneLine.{PutsLine}
use Rattle.pgs_run_renewal.specs.EvolveLeaving.{EvolvesText}
use Rattle.pgs_run_renewal.specs.EvolveTold.{line_of, told_text}
use Rattle.pgs_run_renewal.proofs.Evolves.{Evolving, evolves_failed, evolves_made, evolves_none, evolves_refused, refuses_violated, told_made}
use Rattle.pgs_run_renewal.proofs.evolving.renew.Goals as goal

pub returns-in-Err-clause-answer : goal.returns-in-Err-clause-answer
returns-in-Err-clause-answer g c =
    evolves_none (told_text c.args.schema.text c.args.store.now.guard.graph) c.args.schema.text (g.W.World.view c.args.world.now) (g.met.W.World.timed c.args.world.now)

pub returns-in-Ok-evolve_to-clause-answer : goal.returns-in-Ok-evolve_to-clause-answer
returns-in-Ok-evolve_to-clause-answer g c =
    let it = c.args.store.now in
    let text = c.args.schema.text in
    let resolved = c.args.schema.resolved in
    let old = g.W.World.view c.args.world.now in
    let mid = g.W.World.view c.evolve_to.new.world in
    let new = g.W.World.view c.put_reply.new.world in
    let after = c.evolve_to.new.self in
    let done = c.in-Ok-evolve_to.ensures.answer.2 in
    let call : Evolving it text old mid = record {
      timed = g.met.W.World.timed c.args.world.now;
      ready = c.requires.evolvable;
      numbered = c.requires.numbered;
      beside = c.evolve_to.ensures.beside;
      stops = c.evolve_to.ensures.stops c.requires.evolvable.whole;
    } in
    let put : PutsReply c.in-Ok.line Accepted PutFault mid c.put_reply.result new =
    record { ends = c.put_reply.ensures.ends; stops = c.put_reply.ensures.stops; areas = c.put_reply.ensures.areas } in
    evolves_made it text old mid call after.guard after.journal done (line_of resolved) c.put_reply.result new
    (subst (λ line. PutsReply line Accepted PutFault mid c.put_reply.result new) c.in-Ok.ensures put)
    (told_text text it.guard.graph) (told_made text it.guard done.resolved resolved c.requires.read done.conforming) c.in-Ok-evolve_to.ensures.faults

pub returns-in-Err-Violated-clause-answer : goal.returns-in-Err-Violated-clause-answer
returns-in-Err-Violated-clause-answer g c =
    let it = c.args.store.now in
    let text = c.args.schema.text in
    let violation = c.in-Err-Violated.violation in
    let line = evolve_refused_line (violation_text violation) in
    let old = g.W.World.view c.args.world.now in
    let new = g.W.World.view c.put_last.new.world in
    let ensures = rw c.in-Err-Violated.field-0-is at c.in-Err-Violated.ensures in
    let made = rw c.in-Err-Violated.field-0-is at c.violated_line.ensures in
    let put : PutsLine line Refused (g.W.World.view c.evolve_to.new.world) c.put_last.result new =
    record { ends = c.put_last.ensures.ends line made; stops = c.put_last.ensures.stops line made; areas = c.put_last.ensures.areas } in
    evolves_refused (told_text text it.guard.graph) text line Refused c.put_last.result old new (g.met.W.World.timed c.args.world.now)
    (refuses_violated it old text violation c.args.schema.resolved c.requires.evolvable c.requires.read ensures.answer.2)
    (subst (λ w. PutsLine line Refused (g.W.World.view w) c.put_last.result new) (ensures.early refl) put)

pub returns-in-Err-DiskFault-clause-answer : goal.returns-in-Err-DiskFault-clause-answer
returns-in-Err-DiskFault-clause-answer g c =
    let it = c.args.store.now in
    let text = c.args.schema.text in
    let ensures = rw c.in-Err-DiskFault.field-0-is at c.in-Err-DiskFault.ensures in
    evolves_failed it text (g.W.World.view c.args.world.now) (g.W.World.view c.evolve_to.new.world)
    (record {
      timed = g.met.W.World.timed c.args.world.now;
      ready = c.requires.evolvable;
      numbered = c.requires.numbered;
      beside = c.evolve_to.ensures.beside;
      stops = c.evolve_to.ensures.stops c.requires.evolvable.whole;
    })
    (told_text text it.guard.graph) ensures.faults ensures.answer.2

pub returns-in-Err-Memory-clause-answer : goal.returns-in-Err-Memory-clause-answer
returns-in-Err-Memory-clause-answer g c =
    let told = told_text c.args.schema.text c.args.store.now.guard.graph in
    let old = g.W.World.view c.args.world.now in
    let early = rw c.in-Err-Memory.field-0-is at c.in-Err-Memory.ensures.early in
    subst (λ w. EvolvesText told c.args.schema.text old (g.W.World.view w) Memory) (sym (early refl)) (evolves_none told c.args.schema.text old (g.met.W.World.timed c.args.world.now))
