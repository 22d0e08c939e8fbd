use Rattle.std.proofs.Common.{Some, ◌∙◌, sym, ap, length}
use Rattle.std.proofs.lemmas.Result.{err_from_is_err_and}
use Rattle.pgs_parser.specs.Reader.{more, none_declared}
use Rattle.pgs_parser.proofs.Items.{ahead, ahead-none, goes_on, ends, fails, left_less}
use Rattle.pgs_parser.proofs.SoundKeys.{step_sound, step_begin}
use Rattle.pgs_parser.specs.Reader.{each_at}
use Rattle.pgs_parser.specs.KeyReaders.{step_at, step_begins}
use Rattle.pgs_parser.proofs.parser.Parser.some_steps.Goals as goal

pub loop-self-init : goal.loop-self-init
loop-self-init c =
    ap (λ xs. ahead xs (each_at step_begins step_at c.args.self.now)) c.in_ok-steps.ensures.items ∙ ahead-none (each_at step_begins step_at c.args.self.now)

pub returns-in_err-step : goal.returns-in_err-step
returns-in_err-step c =
    let p = err_from_is_err_and c.from_residual-in_err-step.result c.from_residual-in_err-step.ensures.1 in
    rw (p.1, p.2) (fails step_begins (λ place. step_at) none_declared step_begin c.loop-self.steps.items 0 c.loop-self.self
    c.loop-self.self (each_at step_begins step_at c.args.self.now) c.in_err-step.field-0.0 c.loop-self-test.ensures c.loop-self.invariant c.in_err-step.ensures)

pub loop-self-smaller : goal.loop-self-smaller
loop-self-smaller c =
    left_less step_begins (λ place. step_at) none_declared step_begin (λ place tokens x e. (step_sound tokens x e).1) 0
    c.loop-self.self c.loop-self.self (c.in_ok-step.step, c.step.new.self) c.loop-self-test.ensures c.in_ok-step.ensures

pub loop-self-preserved : goal.loop-self-preserved
loop-self-preserved c =
    let rest = c.step.new.self in
    ap (λ xs. ahead xs (more step_begins (λ place. step_at) none_declared (length rest) 0 rest)) c.in_ok-push.ensures.items
    ∙ goes_on step_begins (λ place. step_at) none_declared step_begin (λ place tokens x e. (step_sound tokens x e).1)
    c.loop-self.steps.items 0 c.loop-self.self c.loop-self.self (c.in_ok-step.step, rest)
    (each_at step_begins step_at c.args.self.now) c.loop-self-test.ensures c.in_ok-step.ensures c.loop-self.invariant

pub returns : goal.returns
returns c =
    ends step_begins (λ place. step_at) none_declared c.loop-self.steps.items 0 c.loop-self.self
    (each_at step_begins step_at c.args.self.now) c.loop-self-test.ensures.0 c.loop-self.invariant
    ∙ ap (λ xs. Some (xs, c.loop-self.self)) (sym (c.from_vec.ensures ∙ c.shrink_to_fit.ensures.items))
