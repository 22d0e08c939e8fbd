use Rattle.std.proofs.Common.{Some, ◌∙◌, ◌++◌, ◌∷◌, [], sym, ap, ap₂, length}
use Rattle.std.proofs.lemmas.Result.{err_from_is_err_and}
use Rattle.pgs_parser.specs.Reader.{more, none_declared, followed}
use Rattle.pgs_parser.proofs.Items.{ahead, goes_on, ends, fails, left_less}
use Rattle.pgs_parser.specs.KeyReaders.{qualifier_at, qualifier_begins}
use Rattle.pgs_parser.proofs.SoundKeys.{qualifier_sound, qualifier_begin}
use Rattle.pgs_parser.proofs.parser.Parser.written_qualifiers.Goals as goal

pub loop-self-init : goal.loop-self-init
loop-self-init c =
    let rest = c.args.self.now in
    ap (λ xs. ahead xs (more qualifier_begins (λ place. qualifier_at) none_declared (length rest) 0 rest))
    (c.in_ok-push.ensures.items ∙ ap (λ xs. xs ++ c.args.first ∷ []) c.new-written.ensures.items)

pub returns-in_err-qualifier : goal.returns-in_err-qualifier
returns-in_err-qualifier c =
    let p = err_from_is_err_and c.from_residual-in_err-qualifier.result c.from_residual-in_err-qualifier.ensures.1 in
    rw (p.1, p.2) (fails qualifier_begins (λ place. qualifier_at) none_declared qualifier_begin c.loop-self.written.items 0 c.loop-self.self
    c.passes_to_qualifier.new.self (followed qualifier_begins (λ place. qualifier_at) none_declared 0 (c.args.first, c.args.self.now)) c.in_err-qualifier.field-0.0 c.loop-self-test.ensures c.loop-self.invariant c.in_err-qualifier.ensures)

pub loop-self-smaller : goal.loop-self-smaller
loop-self-smaller c =
    left_less qualifier_begins (λ place. qualifier_at) none_declared qualifier_begin (λ place tokens x e. (qualifier_sound tokens x e).1) 0
    c.loop-self.self c.passes_to_qualifier.new.self (c.in_ok-qualifier.qualifier, c.qualifier.new.self) c.loop-self-test.ensures c.in_ok-qualifier.ensures

pub loop-self-preserved : goal.loop-self-preserved
loop-self-preserved c =
    let rest = c.qualifier.new.self in
    ap (λ xs. ahead xs (more qualifier_begins (λ place. qualifier_at) none_declared (length rest) 0 rest)) c.in_ok-push-2.ensures.items
    ∙ goes_on qualifier_begins (λ place. qualifier_at) none_declared qualifier_begin (λ place tokens x e. (qualifier_sound tokens x e).1)
    c.loop-self.written.items 0 c.loop-self.self c.passes_to_qualifier.new.self (c.in_ok-qualifier.qualifier, rest)
    (followed qualifier_begins (λ place. qualifier_at) none_declared 0 (c.args.first, c.args.self.now)) c.loop-self-test.ensures c.in_ok-qualifier.ensures c.loop-self.invariant

pub returns : goal.returns
returns c =
    ends qualifier_begins (λ place. qualifier_at) none_declared c.loop-self.written.items 0 c.loop-self.self
    (followed qualifier_begins (λ place. qualifier_at) none_declared 0 (c.args.first, c.args.self.now)) c.loop-self-test.ensures.0 c.loop-self.invariant
    ∙ ap₂ (λ xs rest. Some (xs, rest)) (sym c.from_vec.ensures) (sym c.loop-self-test.ensures.1)
