use Rattle.std.proofs.Common.{Some, ◌∙◌, sym, ap, ap₂, length, codes}
use Rattle.std.proofs.lemmas.Result.{err_from_is_err_and}
use Rattle.pgs_parser.specs.Reader.{more, none_declared}
use Rattle.pgs_parser.proofs.Items.{ahead, starts, start_fails, goes_on, ends, fails, left_less}
use Rattle.pgs_parser.proofs.Chains.{comma_begin}
use Rattle.pgs_parser.specs.Reader.{listed_at, comma_unless}
use Rattle.pgs_parser.specs.TypeReaders.{property_at}
use Rattle.pgs_parser.proofs.SoundTypes.{property_sound}
use Rattle.pgs_parser.proofs.parser.Parser.some_properties.Goals as goal

pub returns-in_err-first : goal.returns-in_err-first
returns-in_err-first c =
    let p = err_from_is_err_and c.from_residual.result c.from_residual.ensures.1 in
    rw (p.1, p.2) (start_fails (comma_unless (codes "OPEN")) (λ place. property_at) none_declared 0 c.args.self.now c.in_err-first.field-0.0 c.in_err-first.ensures)

pub loop-self-init : goal.loop-self-init
loop-self-init c =
    let rest = c.property.new.self in
    ap (λ xs. ahead xs (more (comma_unless (codes "OPEN")) (λ place. property_at) none_declared (length rest) 0 rest))
    c.in_ok-properties.ensures
    ∙ starts (comma_unless (codes "OPEN")) (λ place. property_at) none_declared 0 c.args.self.now (c.in_ok-first.first, rest) c.in_ok-first.ensures

pub returns-in_err-property : goal.returns-in_err-property
returns-in_err-property c =
    let p = err_from_is_err_and c.from_residual-in_err-property.result c.from_residual-in_err-property.ensures.1 in
    rw (p.1, p.2) (fails (comma_unless (codes "OPEN")) (λ place. property_at) none_declared (comma_begin (codes "OPEN")) c.loop-self.properties.items 0 c.loop-self.self
    c.passes_comma_unless.new.self (listed_at (comma_unless (codes "OPEN")) property_at c.args.self.now) c.in_err-property.field-0.0 c.loop-self-test.ensures c.loop-self.invariant c.in_err-property.ensures)

pub loop-self-smaller : goal.loop-self-smaller
loop-self-smaller c =
    left_less (comma_unless (codes "OPEN")) (λ place. property_at) none_declared (comma_begin (codes "OPEN")) (λ place tokens x e. (property_sound tokens x e).1) 0
    c.loop-self.self c.passes_comma_unless.new.self (c.in_ok-property.property, c.property-in-loop-self.new.self) c.loop-self-test.ensures c.in_ok-property.ensures

pub loop-self-preserved : goal.loop-self-preserved
loop-self-preserved c =
    let rest = c.property-in-loop-self.new.self in
    ap (λ xs. ahead xs (more (comma_unless (codes "OPEN")) (λ place. property_at) none_declared (length rest) 0 rest)) c.in_ok-push.ensures.items
    ∙ goes_on (comma_unless (codes "OPEN")) (λ place. property_at) none_declared (comma_begin (codes "OPEN")) (λ place tokens x e. (property_sound tokens x e).1)
    c.loop-self.properties.items 0 c.loop-self.self c.passes_comma_unless.new.self (c.in_ok-property.property, rest)
    (listed_at (comma_unless (codes "OPEN")) property_at c.args.self.now) c.loop-self-test.ensures c.in_ok-property.ensures c.loop-self.invariant

pub returns : goal.returns
returns c =
    ends (comma_unless (codes "OPEN")) (λ place. property_at) none_declared c.loop-self.properties.items 0 c.loop-self.self
    (listed_at (comma_unless (codes "OPEN")) property_at c.args.self.now) c.loop-self-test.ensures.0 c.loop-self.invariant
    ∙ ap₂ (λ xs rest. Some (xs, rest)) (sym c.from_vec.ensures) (sym c.loop-self-test.ensures.1)
