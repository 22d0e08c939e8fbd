use Rattle.std.proofs.Common.{[], ap, ap₂, refl, sym, ◌∙◌}
use Rattle.pgs_command.specs.Setting.{SourceState}
use Rattle.pgs_run_renewal.specs.CheckpointSpec.{checkpoint_spec}
use Rattle.pgs_run_gen.specs.Spec.{gen_spec}
use Rattle.pgs_run_store.specs.Dump.{told_dump}
use Rattle.pgs_run_store.specs.Explaining.{told_element}
use Rattle.pgs_run_store.specs.Spec.{reader_spec}
use Rattle.pgs_run.specs.Commands.{spec_of}
use Rattle.pgs_run.proofs.Named.{gives_as, promise_as, calls_of}
use Rattle.pgs_run.proofs.commands.run_command.Goals as goal

-- ---- of a command that reads its source

pub returns-in-Try-clause-promise : goal.returns-in-Try-clause-promise
returns-in-Try-clause-promise g c =
    promise_as _ _ c.args.budget _ _ c.run_judging.result (ap spec_of c.in-Try.is) (c.run_judging.ensures.promise (g.L.Feeds.places c.args.feeds.now))

pub returns-in-Validate-clause-promise : goal.returns-in-Validate-clause-promise
returns-in-Validate-clause-promise g c =
    promise_as _ _ c.args.budget _ _ c.run_judging-in-Validate.result (ap spec_of c.in-Validate.is) (c.run_judging-in-Validate.ensures.promise (g.L.Feeds.places c.args.feeds.now))

pub returns-in-Load-clause-promise : goal.returns-in-Load-clause-promise
returns-in-Load-clause-promise g c =
    promise_as _ _ c.args.budget _ _ c.run_load.result (ap spec_of c.in-Load.is) (c.run_load.ensures.promise (g.L.Feeds.places c.args.feeds.now))

pub returns-in-Contain-clause-promise : goal.returns-in-Contain-clause-promise
returns-in-Contain-clause-promise g c =
    promise_as _ _ c.args.budget _ _ c.run_contain.result (ap spec_of c.in-Contain.is) (c.run_contain.ensures.promise (g.L.Feeds.places c.args.feeds.now))

pub returns-in-Evolve-clause-promise : goal.returns-in-Evolve-clause-promise
returns-in-Evolve-clause-promise g c =
    promise_as _ _ c.args.budget _ _ c.run_evolve.result (ap spec_of c.in-Evolve.is) (c.run_evolve.ensures.promise (g.L.Feeds.places c.args.feeds.now))

pub returns-in-Apply-clause-promise : goal.returns-in-Apply-clause-promise
returns-in-Apply-clause-promise g c = promise_as _ _ c.args.budget _ _ c.run_apply.result (ap spec_of c.in-Apply.is) c.run_apply.ensures.promise

-- ---- of one that doesn't

pub returns-in-Recover-clause-promise : goal.returns-in-Recover-clause-promise
returns-in-Recover-clause-promise g c =
    let source : SourceState = record { left = g.S.Source.left c.args.source.now; faults = g.S.Source.faults c.args.source.now } in
    promise_as _ _ c.args.budget _ _ c.run_reader.result (ap spec_of c.in-Recover.is) (c.run_reader.ensures.promise c.args.budget source (g.L.Feeds.places c.args.feeds.now))

pub returns-in-Recover-clause-calls : goal.returns-in-Recover-clause-calls
returns-in-Recover-clause-calls g c = calls_of g.S.Source.read_made c.args.source.now (reader_spec told_dump) c.args.budget _ _ c.run_reader.result refl c.run_reader.ensures.promise

pub returns-in-Explain-clause-promise : goal.returns-in-Explain-clause-promise
returns-in-Explain-clause-promise g c =
    let source : SourceState = record { left = g.S.Source.left c.args.source.now; faults = g.S.Source.faults c.args.source.now } in
    promise_as _ _ c.args.budget _ _ c.run_reader-in-Explain.result (ap spec_of c.in-Explain.is) (c.run_reader-in-Explain.ensures.promise c.args.budget source (g.L.Feeds.places c.args.feeds.now))

pub returns-in-Explain-clause-calls : goal.returns-in-Explain-clause-calls
returns-in-Explain-clause-calls g c = calls_of g.S.Source.read_made c.args.source.now (reader_spec (told_element c.in-Explain.elem)) c.args.budget _ _ c.run_reader-in-Explain.result refl c.run_reader-in-Explain.ensures.promise

pub returns-in-Gen-clause-promise : goal.returns-in-Gen-clause-promise
returns-in-Gen-clause-promise g c =
    let source : SourceState = record { left = g.S.Source.left c.args.source.now; faults = g.S.Source.faults c.args.source.now } in
    promise_as _ _ c.args.budget _ _ c.run_gen.result (ap spec_of c.in-Gen.is ∙ sym (ap₂ gen_spec c.start.ensures c.count.ensures.value)) (c.run_gen.ensures.promise c.args.budget source (g.L.Feeds.places c.args.feeds.now))

pub returns-in-Gen-clause-calls : goal.returns-in-Gen-clause-calls
returns-in-Gen-clause-calls g c = calls_of g.S.Source.read_made c.args.source.now (gen_spec c.start.result c.count.result) c.args.budget _ _ c.run_gen.result refl c.run_gen.ensures.promise

pub returns-in-Checkpoint-clause-promise : goal.returns-in-Checkpoint-clause-promise
returns-in-Checkpoint-clause-promise g c =
    let source : SourceState = record { left = g.S.Source.left c.args.source.now; faults = g.S.Source.faults c.args.source.now } in
    promise_as _ _ c.args.budget _ _ c.run_checkpoint.result (ap spec_of c.in-Checkpoint.is) (c.run_checkpoint.ensures.promise c.args.budget source (g.L.Feeds.places c.args.feeds.now))

pub returns-in-Checkpoint-clause-calls : goal.returns-in-Checkpoint-clause-calls
returns-in-Checkpoint-clause-calls g c = calls_of g.S.Source.read_made c.args.source.now (checkpoint_spec) c.args.budget _ _ c.run_checkpoint.result refl c.run_checkpoint.ensures.promise

-- ---- what feeds are given

pub returns-in-Apply-clause-gives : goal.returns-in-Apply-clause-gives
returns-in-Apply-clause-gives g c = gives_as _ _ _ _ _ c.args.feeds.now _ c.run_apply.result (ap spec_of c.in-Apply.is) c.run_apply.ensures.gives

pub returns-in-Try-clause-gives : goal.returns-in-Try-clause-gives
returns-in-Try-clause-gives g c = gives_as _ _ _ _ _ c.args.feeds.now c.args.feeds.now c.run_judging.result (ap spec_of c.in-Try.is) (record { deliveries = []; right = refl; made = refl })

pub returns-in-Validate-clause-gives : goal.returns-in-Validate-clause-gives
returns-in-Validate-clause-gives g c = gives_as _ _ _ _ _ c.args.feeds.now c.args.feeds.now c.run_judging-in-Validate.result (ap spec_of c.in-Validate.is) (record { deliveries = []; right = refl; made = refl })

pub returns-in-Load-clause-gives : goal.returns-in-Load-clause-gives
returns-in-Load-clause-gives g c = gives_as _ _ _ _ _ c.args.feeds.now c.args.feeds.now c.run_load.result (ap spec_of c.in-Load.is) (record { deliveries = []; right = refl; made = refl })

pub returns-in-Recover-clause-gives : goal.returns-in-Recover-clause-gives
returns-in-Recover-clause-gives g c = gives_as _ _ _ _ _ c.args.feeds.now c.args.feeds.now c.run_reader.result (ap spec_of c.in-Recover.is) (record { deliveries = []; right = refl; made = refl })

pub returns-in-Explain-clause-gives : goal.returns-in-Explain-clause-gives
returns-in-Explain-clause-gives g c = gives_as _ _ _ _ _ c.args.feeds.now c.args.feeds.now c.run_reader-in-Explain.result (ap spec_of c.in-Explain.is) (record { deliveries = []; right = refl; made = refl })

pub returns-in-Gen-clause-gives : goal.returns-in-Gen-clause-gives
returns-in-Gen-clause-gives g c = gives_as _ _ _ _ _ c.args.feeds.now c.args.feeds.now c.run_gen.result (ap spec_of c.in-Gen.is ∙ sym (ap₂ gen_spec c.start.ensures c.count.ensures.value)) (record { deliveries = []; right = refl; made = refl })

pub returns-in-Checkpoint-clause-gives : goal.returns-in-Checkpoint-clause-gives
returns-in-Checkpoint-clause-gives g c = gives_as _ _ _ _ _ c.args.feeds.now c.args.feeds.now c.run_checkpoint.result (ap spec_of c.in-Checkpoint.is) (record { deliveries = []; right = refl; made = refl })

pub returns-in-Contain-clause-gives : goal.returns-in-Contain-clause-gives
returns-in-Contain-clause-gives g c = gives_as _ _ _ _ _ c.args.feeds.now c.args.feeds.now c.run_contain.result (ap spec_of c.in-Contain.is) (record { deliveries = []; right = refl; made = refl })

pub returns-in-Evolve-clause-gives : goal.returns-in-Evolve-clause-gives
returns-in-Evolve-clause-gives g c = gives_as _ _ _ _ _ c.args.feeds.now c.args.feeds.now c.run_evolve.result (ap spec_of c.in-Evolve.is) (record { deliveries = []; right = refl; made = refl })
