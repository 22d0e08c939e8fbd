use Rattle.std.proofs.Common.{rules, arith, ◌-◌, ◌∙◌, subst, take, ℕ, Some}
use Rattle.std.proofs.lemmas.Grind.{common_steps}
use Rattle.pgs_run_lines.specs.Calls.{gave_none, gave_more, so_far, to_end, to_fault}
use Rattle.pgs_run_input.specs.Text.{state_of}
use Rattle.pgs_run_input.proofs.Reading.{read_more, read_none, unread_more}
use Rattle.pgs_run_input.proofs.text.read_into.Goals as goal

pub loop-left-init : goal.loop-left-init
loop-left-init g c = record {
  far = read_none c.args.budget (state_of (g.S.Source.left c.args.source.now) (g.S.Source.faults c.args.source.now)) c.args.text.now.bytes c.requires.text.0;
  limit = c.requires.text.1;
  buffer = c.requires.buffer;
  calls = gave_none;
}

pub returns-in-Err-clause-calls : goal.returns-in-Err-clause-calls
returns-in-Err-clause-calls g c = to_fault c.loop-left.invariant.calls c.in-Err.ensures.made.1 c.in-Err.ensures.made.2

pub returns-then-count-eq0-clause-calls : goal.returns-then-count-eq0-clause-calls
returns-then-count-eq0-clause-calls g c =
    to_end c.loop-left.invariant.calls c.in-Ok.ensures.made.1 (subst (λ (count : ℕ). g.S.Source.read_made c.loop-left.source c.in-Ok.ensures.made.0 (Some count) c.read_some.new.source) (search rules) c.in-Ok.ensures.made.2)

pub returns-in-Err-push_all-clause-unread : goal.returns-in-Err-push_all-clause-unread
returns-in-Err-push_all-clause-unread g c =
    unread_more c.args.budget c.loop-left.left c.in-Ok.count _ _ (state_of (g.S.Source.left c.read_some.new.source) (g.S.Source.faults c.read_some.new.source)) c.loop-left.text.bytes (take c.in-Ok.count c.read_some.new.buffer) c.loop-left.invariant.far
    (grind (arith, common_steps)) c.in-Ok.ensures.budget c.in-Ok.ensures.taken c.in-Ok.ensures.no_cause

pub returns-in-Err-push_all-clause-calls : goal.returns-in-Err-push_all-clause-calls
returns-in-Err-push_all-clause-calls g c =
    so_far {left = c.loop-left.left - c.in-Ok.count} (gave_more c.loop-left.invariant.calls c.in-Ok.ensures.made.1 (grind (arith, common_steps)) (grind (arith, common_steps)) c.in-Ok.ensures.made.2)

pub loop-left-preserved : goal.loop-left-preserved
loop-left-preserved g c = record {
  far = read_more c.args.budget c.loop-left.left c.in-Ok.count _ _ (state_of (g.S.Source.left c.read_some.new.source) (g.S.Source.faults c.read_some.new.source)) c.loop-left.text.bytes (take c.in-Ok.count c.read_some.new.buffer) _ c.loop-left.invariant.far
      (grind (arith, common_steps)) c.in-Ok.ensures.budget c.in-Ok.ensures.taken c.in-Ok.ensures.no_cause (search rules);
  limit = c.push_all.ensures.limit ∙ c.loop-left.invariant.limit;
  buffer = search rules;
  calls = gave_more c.loop-left.invariant.calls c.in-Ok.ensures.made.1 (grind (arith, common_steps)) (grind (arith, common_steps)) c.in-Ok.ensures.made.2;
}

pub returns-clause-calls : goal.returns-clause-calls
returns-clause-calls g c = so_far c.loop-left.invariant.calls
