use Rattle.std.proofs.Common.{[], sym, subst}
use Rattle.pgs_command.specs.Promise.{Promise}
use Rattle.pgs_command.specs.Setting.{setting_of}
use Rattle.pgs_run_sessions.specs.Spec.{asks_run, spec_for}
use Rattle.pgs_run_sessions.proofs.Promised.{never_store, never_disk}
use Rattle.pgs_run_sessions.proofs.run_of_words.run_sessions_within.Goals as goal

pub of-requires-clause-store : goal.of-requires-clause-store
of-requires-clause-store g c = never_store (asks_run c.args.words.now) _ _ c.run_words.result (c.run_words.ensures.promise []).cause

pub of-requires-clause-disk : goal.of-requires-clause-disk
of-requires-clause-disk g c = never_disk (asks_run c.args.words.now) _ _ c.run_words.result (c.run_words.ensures.promise []).cause

pub returns-clause-promise : goal.returns-clause-promise
returns-clause-promise g c = λ places.
    subst (Promise (spec_for c.args.words.now) c.args.budget
    (setting_of (g.S.Source.left c.args.source.now) (g.S.Source.faults c.args.source.now) (g.W.World.view c.args.world.now) places)
    (setting_of (g.S.Source.left c.run_words.new.source) (g.S.Source.faults c.run_words.new.source) (g.W.World.view c.run_words.new.world) places))
    (sym c.of.ensures) (c.run_words.ensures.promise places)
