use Rattle.std.proofs.Common.{Some, ◌∙◌, sym, ap, ap₂, length}
use Rattle.std.proofs.lemmas.Result.{err_from_is_err_and}
use Rattle.pgs_parser.specs.Reader.{more, none_declared}
use Rattle.pgs_parser.proofs.Items.{ahead, starts, start_fails, goes_on, ends, fails, left_less}
use Rattle.pgs_parser.proofs.Chains.{after_begin}
use Rattle.pgs_parser.specs.Reader.{listed_at, after, the_sign, name_at}
use Rattle.pgs_parser.proofs.Chains.{name_sound}
use Rattle.pgs_parser.proofs.parser.Parser.some_names.Goals as goal

pub returns-in_err-first : goal.returns-in_err-first
returns-in_err-first c =
    let p = err_from_is_err_and c.from_residual.result c.from_residual.ensures.1 in
    rw (p.1, p.2) (start_fails (after (the_sign c.args.separator.now)) (λ place. name_at) none_declared 0 c.args.self.now c.in_err-first.field-0.0 c.in_err-first.ensures)

pub loop-self-init : goal.loop-self-init
loop-self-init c =
    let rest = c.name.new.self in
    ap (λ xs. ahead xs (more (after (the_sign c.args.separator.now)) (λ place. name_at) none_declared (length rest) 0 rest))
    c.in_ok-names.ensures
    ∙ starts (after (the_sign c.args.separator.now)) (λ place. name_at) none_declared 0 c.args.self.now (c.in_ok-first.first, rest) c.in_ok-first.ensures

pub returns-in_err-name : goal.returns-in_err-name
returns-in_err-name c =
    let p = err_from_is_err_and c.from_residual-in_err-name.result c.from_residual-in_err-name.ensures.1 in
    rw (p.1, p.2) (fails (after (the_sign c.args.separator.now)) (λ place. name_at) none_declared (after_begin (the_sign c.args.separator.now)) c.loop-self.names.items 0 c.loop-self.self
    c.passes_sign.new.self (listed_at (after (the_sign c.args.separator.now)) name_at c.args.self.now) c.in_err-name.field-0.0 c.loop-self-test.ensures c.loop-self.invariant c.in_err-name.ensures)

pub loop-self-smaller : goal.loop-self-smaller
loop-self-smaller c =
    left_less (after (the_sign c.args.separator.now)) (λ place. name_at) none_declared (after_begin (the_sign c.args.separator.now)) (λ place tokens x e. (name_sound tokens x e).1) 0
    c.loop-self.self c.passes_sign.new.self (c.in_ok-name.name, c.name-in-loop-self.new.self) c.loop-self-test.ensures c.in_ok-name.ensures

pub loop-self-preserved : goal.loop-self-preserved
loop-self-preserved c =
    let rest = c.name-in-loop-self.new.self in
    ap (λ xs. ahead xs (more (after (the_sign c.args.separator.now)) (λ place. name_at) none_declared (length rest) 0 rest)) c.in_ok-push.ensures.items
    ∙ goes_on (after (the_sign c.args.separator.now)) (λ place. name_at) none_declared (after_begin (the_sign c.args.separator.now)) (λ place tokens x e. (name_sound tokens x e).1)
    c.loop-self.names.items 0 c.loop-self.self c.passes_sign.new.self (c.in_ok-name.name, rest)
    (listed_at (after (the_sign c.args.separator.now)) name_at c.args.self.now) c.loop-self-test.ensures c.in_ok-name.ensures c.loop-self.invariant

pub returns : goal.returns
returns c =
    ends (after (the_sign c.args.separator.now)) (λ place. name_at) none_declared c.loop-self.names.items 0 c.loop-self.self
    (listed_at (after (the_sign c.args.separator.now)) name_at c.args.self.now) c.loop-self-test.ensures.0 c.loop-self.invariant
    ∙ ap₂ (λ xs rest. Some (xs, rest)) (sym c.from_vec.ensures) (sym c.loop-self-test.ensures.1)
