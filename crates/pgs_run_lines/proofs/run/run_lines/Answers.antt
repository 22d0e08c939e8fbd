use Rattle.std.proofs.Common.{Err, [], subst}
use Rattle.pgs_run_lines.specs.declared.reading.End.TheVariants.{Whole, Cut}
use Rattle.pgs_run_lines.specs.Calls.{gave_none, so_far}
use Rattle.pgs_run_lines.specs.Machine.{AtEnd, scene_of}
use Rattle.pgs_run_lines.specs.Pieces.{shown_of}
use Rattle.pgs_run_lines.specs.Run.{EndsWhere}
use Rattle.pgs_run_lines.proofs.Driven.{where_said}
use Rattle.pgs_run_lines.proofs.RunEnds.{ends_where, told_where, whole_ends, cut_ends, stopped_ends, stopped_by, stopped_allows, cut_allows, cut_by, whole_allows, whole_by, unread_ends, unread_allows, reads_as, reads_how, no_read_fault}
use Rattle.pgs_run_lines.proofs.run.run_lines.Goals as goal

pub returns-in-Err-clause-ends : goal.returns-in-Err-clause-ends
returns-in-Err-clause-ends g c = λ input is.
    where_said g.T.LineTaker.rule.tells (λ tells. unread_ends g.T.LineTaker.machine c.args.limit _ (shown_of (g.W.World.view c.args.world.now)) c.args.budget _ input is)

pub returns-in-Err-clause-allows : goal.returns-in-Err-clause-allows
returns-in-Err-clause-allows g c = unread_allows g.T.LineTaker.machine g.T.LineTaker.rule c.args.limit _ c.args.budget _ (scene_of (g.W.World.view c.args.world.now) (g.T.LineTaker.kept c.args.taker.now)) (g.met.W.World.timed c.args.world.now) c.requires.holds

pub returns-in-Whole-clause-ends : goal.returns-in-Whole-clause-ends
returns-in-Whole-clause-ends g c = λ input is.
    let m = g.T.LineTaker.machine in
    let reads = reads_how m g.T.LineTaker.rule c.args.limit c.new-line.result.limit _ _ _ _ _ _ _ c.read_all-end.result c.in-Ok-end.end Whole _ c.new-line.ensures.limit c.in-Ok-end.is c.in-Whole.is c.read_all-end.ensures.reads in
    let ends = subst (λ line. EndsWhere g.T.LineTaker.rule.tells (shown_of (g.W.World.view c.read_all-end.new.world)) (m.rest (g.T.LineTaker.stands c.read_all-end.new.taker) line) c.end_input.result (shown_of (g.W.World.view c.end_input.new.world))) c.as_slice.ensures.bytes c.end_input.ensures.ends in
    where_said g.T.LineTaker.rule.tells (λ tells.
    whole_ends m g.T.LineTaker.rule c.args.limit _ _ c.args.budget _ _ tells input _ _ _ (scene_of (g.W.World.view c.end_input.new.world) (g.T.LineTaker.kept c.end_input.new.self)) c.end_input.result is reads
    (ends_where g.T.LineTaker.rule.tells _ c.end_input.result _ _ ends tells) (no_read_fault (g.W.World.view c.read_all-end.new.world) (g.W.World.view c.end_input.new.world) c.end_input.result c.end_input.ensures.cause))

pub returns-in-Whole-clause-by : goal.returns-in-Whole-clause-by
returns-in-Whole-clause-by g c =
    let m = g.T.LineTaker.machine in
    let reads = reads_how m g.T.LineTaker.rule c.args.limit c.new-line.result.limit _ _ _ _ _ _ _ c.read_all-end.result c.in-Ok-end.end Whole _ c.new-line.ensures.limit c.in-Ok-end.is c.in-Whole.is c.read_all-end.ensures.reads in
    let ends = subst (λ line. EndsWhere g.T.LineTaker.rule.tells (shown_of (g.W.World.view c.read_all-end.new.world)) (m.rest (g.T.LineTaker.stands c.read_all-end.new.taker) line) c.end_input.result (shown_of (g.W.World.view c.end_input.new.world))) c.as_slice.ensures.bytes c.end_input.ensures.ends in
    whole_by m g.T.LineTaker.rule c.args.limit _ _ c.args.budget _ _ _ _ _ c.end_input.result reads (told_where g.T.LineTaker.rule.tells _ c.end_input.result _ _ ends)

pub returns-in-Whole-clause-allows : goal.returns-in-Whole-clause-allows
returns-in-Whole-clause-allows g c =
    let m = g.T.LineTaker.machine in
    let reads = reads_how m g.T.LineTaker.rule c.args.limit c.new-line.result.limit _ _ _ _ _ _ _ c.read_all-end.result c.in-Ok-end.end Whole _ c.new-line.ensures.limit c.in-Ok-end.is c.in-Whole.is c.read_all-end.ensures.reads in
    let ends = subst (λ line. EndsWhere g.T.LineTaker.rule.tells (shown_of (g.W.World.view c.read_all-end.new.world)) (m.rest (g.T.LineTaker.stands c.read_all-end.new.taker) line) c.end_input.result (shown_of (g.W.World.view c.end_input.new.world))) c.as_slice.ensures.bytes c.end_input.ensures.ends in
    whole_allows m g.T.LineTaker.rule c.args.limit _ _ c.args.budget _ _ _ _ c.end_input.result (scene_of (g.W.World.view c.read_all-end.new.world) (g.T.LineTaker.kept c.read_all-end.new.taker)) (scene_of (g.W.World.view c.end_input.new.world) (g.T.LineTaker.kept c.end_input.new.self)) reads (told_where g.T.LineTaker.rule.tells _ c.end_input.result _ _ ends)
    (subst (λ line. g.T.LineTaker.rule.allows (g.T.LineTaker.stands c.read_all-end.new.taker) [] (AtEnd line c.end_input.result) (scene_of (g.W.World.view c.read_all-end.new.world) (g.T.LineTaker.kept c.read_all-end.new.taker)) (scene_of (g.W.World.view c.end_input.new.world) (g.T.LineTaker.kept c.end_input.new.self))) c.as_slice.ensures.bytes c.end_input.ensures.allows)

pub returns-in-Ok-end-clause-ends : goal.returns-in-Ok-end-clause-ends
returns-in-Ok-end-clause-ends g c = λ input is.
    let m = g.T.LineTaker.machine in
    let reads = reads_how m g.T.LineTaker.rule c.args.limit c.new-line.result.limit _ _ _ _ _ _ _ c.read_all-end.result c.in-Ok-end.end Cut _ c.new-line.ensures.limit c.in-Ok-end.is c.in-Cut.is c.read_all-end.ensures.reads in
    where_said g.T.LineTaker.rule.tells (λ tells. cut_ends m g.T.LineTaker.rule c.args.limit _ _ c.args.budget _ _ tells input _ _ _ c.end_budget.result is reads c.end_budget.ensures)

pub returns-in-Ok-end-clause-by : goal.returns-in-Ok-end-clause-by
returns-in-Ok-end-clause-by g c =
    let m = g.T.LineTaker.machine in
    let reads = reads_how m g.T.LineTaker.rule c.args.limit c.new-line.result.limit _ _ _ _ _ _ _ c.read_all-end.result c.in-Ok-end.end Cut _ c.new-line.ensures.limit c.in-Ok-end.is c.in-Cut.is c.read_all-end.ensures.reads in
    cut_by m g.T.LineTaker.rule c.args.limit _ _ c.args.budget _ _ _ _ _ c.end_budget.result reads c.end_budget.ensures

pub returns-in-Ok-end-clause-allows : goal.returns-in-Ok-end-clause-allows
returns-in-Ok-end-clause-allows g c =
    let m = g.T.LineTaker.machine in
    let reads = reads_how m g.T.LineTaker.rule c.args.limit c.new-line.result.limit _ _ _ _ _ _ _ c.read_all-end.result c.in-Ok-end.end Cut _ c.new-line.ensures.limit c.in-Ok-end.is c.in-Cut.is c.read_all-end.ensures.reads in
    cut_allows m g.T.LineTaker.rule c.args.limit _ _ c.args.budget _ _ _ _ c.end_budget.result _ reads c.end_budget.ensures

pub returns-clause-ends : goal.returns-clause-ends
returns-clause-ends g c = λ input is.
    let m = g.T.LineTaker.machine in
    let reads = reads_as m g.T.LineTaker.rule c.args.limit c.new-line.result.limit _ _ _ _ _ _ _ c.read_all-end.result (Err c.in-Err-end.stop) _ c.new-line.ensures.limit c.in-Err-end.is c.read_all-end.ensures.reads in
    where_said g.T.LineTaker.rule.tells (λ tells. stopped_ends m g.T.LineTaker.rule c.args.limit _ _ c.args.budget _ _ tells input _ _ c.in-Err-end.stop _ is reads)

pub returns-clause-by : goal.returns-clause-by
returns-clause-by g c =
    let m = g.T.LineTaker.machine in
    let reads = reads_as m g.T.LineTaker.rule c.args.limit c.new-line.result.limit _ _ _ _ _ _ _ c.read_all-end.result (Err c.in-Err-end.stop) _ c.new-line.ensures.limit c.in-Err-end.is c.read_all-end.ensures.reads in
    stopped_by m g.T.LineTaker.rule c.args.limit _ _ c.args.budget _ _ _ _ c.in-Err-end.stop _ reads

pub returns-clause-allows : goal.returns-clause-allows
returns-clause-allows g c =
    let m = g.T.LineTaker.machine in
    let reads = reads_as m g.T.LineTaker.rule c.args.limit c.new-line.result.limit _ _ _ _ _ _ _ c.read_all-end.result (Err c.in-Err-end.stop) _ c.new-line.ensures.limit c.in-Err-end.is c.read_all-end.ensures.reads in
    stopped_allows m g.T.LineTaker.rule c.args.limit _ _ c.args.budget _ _ _ _ c.in-Err-end.stop _ reads

pub returns-in-Err-clause-calls : goal.returns-in-Err-clause-calls
returns-in-Err-clause-calls g c = so_far gave_none
