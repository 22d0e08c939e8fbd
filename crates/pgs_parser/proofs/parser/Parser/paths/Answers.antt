use Rattle.std.proofs.Common.{Some, ◌∙◌, sym, ap, ap₂, length, codes}
use Rattle.std.proofs.lemmas.Result.{err_from_is_err_and}
use Rattle.pgs_parser.specs.Reader.{more, none_declared}
use Rattle.pgs_parser.proofs.Items.{ahead, starts, start_fails, goes_on, ends, fails, left_less}
use Rattle.pgs_parser.proofs.Chains.{comma_begin}
use Rattle.pgs_parser.specs.Reader.{comma_unless}
use Rattle.pgs_parser.specs.KeyReaders.{path_at, paths_at}
use Rattle.pgs_parser.proofs.SoundKeys.{path_sound}
use Rattle.pgs_parser.proofs.parser.Parser.paths.Goals as goal

pub returns-in_err-first : goal.returns-in_err-first
returns-in_err-first c =
    let p = err_from_is_err_and c.from_residual.result c.from_residual.ensures.1 in
    rw (p.1, p.2) (start_fails (comma_unless (codes "FOR")) (λ place. path_at) none_declared 0 c.args.self.now c.in_err-first.field-0.0 c.in_err-first.ensures)

pub loop-self-init : goal.loop-self-init
loop-self-init c =
    let rest = c.path.new.self in
    ap (λ xs. ahead xs (more (comma_unless (codes "FOR")) (λ place. path_at) none_declared (length rest) 0 rest))
    c.in_ok-paths.ensures
    ∙ starts (comma_unless (codes "FOR")) (λ place. path_at) none_declared 0 c.args.self.now (c.in_ok-first.first, rest) c.in_ok-first.ensures

pub returns-in_err-path : goal.returns-in_err-path
returns-in_err-path c =
    let p = err_from_is_err_and c.from_residual-in_err-path.result c.from_residual-in_err-path.ensures.1 in
    rw (p.1, p.2) (fails (comma_unless (codes "FOR")) (λ place. path_at) none_declared (comma_begin (codes "FOR")) c.loop-self.paths.items 0 c.loop-self.self
    c.passes_comma_unless.new.self (paths_at c.args.self.now) c.in_err-path.field-0.0 c.loop-self-test.ensures c.loop-self.invariant c.in_err-path.ensures)

pub loop-self-smaller : goal.loop-self-smaller
loop-self-smaller c =
    left_less (comma_unless (codes "FOR")) (λ place. path_at) none_declared (comma_begin (codes "FOR")) (λ place tokens x e. (path_sound tokens x e).1) 0
    c.loop-self.self c.passes_comma_unless.new.self (c.in_ok-path.path, c.path-in-loop-self.new.self) c.loop-self-test.ensures c.in_ok-path.ensures

pub loop-self-preserved : goal.loop-self-preserved
loop-self-preserved c =
    let rest = c.path-in-loop-self.new.self in
    ap (λ xs. ahead xs (more (comma_unless (codes "FOR")) (λ place. path_at) none_declared (length rest) 0 rest)) c.in_ok-push.ensures.items
    ∙ goes_on (comma_unless (codes "FOR")) (λ place. path_at) none_declared (comma_begin (codes "FOR")) (λ place tokens x e. (path_sound tokens x e).1)
    c.loop-self.paths.items 0 c.loop-self.self c.passes_comma_unless.new.self (c.in_ok-path.path, rest)
    (paths_at c.args.self.now) c.loop-self-test.ensures c.in_ok-path.ensures c.loop-self.invariant

pub returns : goal.returns
returns c =
    ends (comma_unless (codes "FOR")) (λ place. path_at) none_declared c.loop-self.paths.items 0 c.loop-self.self
    (paths_at c.args.self.now) c.loop-self-test.ensures.0 c.loop-self.invariant
    ∙ ap₂ (λ xs rest. Some (xs, rest)) (sym (c.from_vec.ensures ∙ c.shrink_to_fit.ensures.items)) (sym c.loop-self-test.ensures.1)
