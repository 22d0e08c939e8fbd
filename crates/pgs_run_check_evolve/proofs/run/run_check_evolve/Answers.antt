use Rattle.std.proofs.Common.{Bool, [], sym, subst, ◌∙◌}
use Rattle.pgs_run_lines.specs.Calls.{MakesReads}
use Rattle.pgs_command.specs.Setting.{setting_of}
use Rattle.pgs_run_contain.proofs.Behind.{fails, promised}
use Rattle.pgs_run_check_evolve.specs.Spec.{evolve_behind}
use Rattle.pgs_run_check_evolve.proofs.Followed.{rules}
use Rattle.pgs_run_check_evolve.proofs.run.run_check_evolve.Goals as goal

pub returns-clause-promise : goal.returns-clause-promise
returns-clause-promise g c = λ places.
    let read = c.read_texts-texts in
    let mid = g.W.World.view read.new.world in
    let old = setting_of (g.S.Source.left c.args.source.now) (g.S.Source.faults c.args.source.now) (g.W.World.view c.args.world.now) places in
    promised evolve_behind rules c.args.budget old (record { left = g.S.Source.left read.new.source; faults = g.S.Source.faults read.new.source }) mid read.result c.end_run-stop.result c.status_at.result
    (g.W.World.view c.end_run-stop.new.world) (read.ensures.reading places) c.end_run-stop.ensures.follows c.status_at.ensures

pub returns-clause-last : goal.returns-clause-last
returns-clause-last g c = λ failed.
    let read = c.read_texts-texts in
    let mid = g.W.World.view read.new.world in
    let old = setting_of (g.S.Source.left c.args.source.now) (g.S.Source.faults c.args.source.now) (g.W.World.view c.args.world.now) [] in
    let so =
    fails evolve_behind rules c.args.budget old (record { left = g.S.Source.left read.new.source; faults = g.S.Source.faults read.new.source }) mid read.result c.end_run-stop.result c.status_at.result
    (g.W.World.view c.end_run-stop.new.world) (read.ensures.reading []) c.end_run-stop.ensures.follows c.status_at.ensures in
    c.end_run-stop.ensures.last (sym so.1 ∙ failed)

pub returns-clause-calls : goal.returns-clause-calls
returns-clause-calls g c =
    let read = c.read_texts-texts in
    let mid = g.W.World.view read.new.world in
    let old = setting_of (g.S.Source.left c.args.source.now) (g.S.Source.faults c.args.source.now) (g.W.World.view c.args.world.now) [] in
    let so =
    fails evolve_behind rules c.args.budget old (record { left = g.S.Source.left read.new.source; faults = g.S.Source.faults read.new.source }) mid read.result c.end_run-stop.result c.status_at.result
    (g.W.World.view c.end_run-stop.new.world) (read.ensures.reading []) c.end_run-stop.ensures.follows c.status_at.ensures in
    subst (λ (failed : Bool). MakesReads g.S.Source.read_made c.args.budget c.args.source.now failed read.new.source) (sym so.0) read.ensures.calls
