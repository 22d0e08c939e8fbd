use Rattle.std.proofs.Common.{Some, ◌∙◌, sym, ap, ap₂, length, codes}
use Rattle.std.proofs.lemmas.Result.{err_from_is_err_and}
use Rattle.pgs_parser.specs.Reader.{more, none_declared, followed, sign_at, the_sign}
use Rattle.pgs_parser.specs.Types.{together}
use Rattle.pgs_parser.specs.TypeReaders.{alternatives, unit_at, conj_at, inner_at}
use Rattle.pgs_parser.proofs.Items.{ahead, goes_on, ends, fails, left_less}
use Rattle.pgs_parser.proofs.Chains.{after_begin}
use Rattle.pgs_parser.proofs.OneItem.{conj_fails, conj_of_one, conj_cause, conj_of_all, level_fails, level_of_one, level_cause, level_of_all}
use Rattle.pgs_parser.proofs.SoundTypes.{unit_within_sound, conj_within_sound}
use Rattle.pgs_parser.proofs.parser.Parser.+labels.Goals as goal

pub units-loop-self-init : goal.units-loop-self-init
units-loop-self-init t c =
    ap (λ xs. ahead xs (more (sign_at "&") (λ place. unit_at (inner_at c.args.further)) none_declared (length c.args.self.now) 0 c.args.self.now))
    c.in_ok-units.ensures

pub units-returns-in_err-unit : goal.units-returns-in_err-unit
units-returns-in_err-unit t c =
    let p = err_from_is_err_and c.from_residual-in_err-unit.result c.from_residual-in_err-unit.ensures.1 in
    rw (p.1, p.2) (fails (sign_at "&") (λ place. unit_at (inner_at c.args.further)) none_declared (after_begin (the_sign (codes "&"))) c.loop-self.units.items 0 c.loop-self.self
    c.passes_sign.new.self (followed (sign_at "&") (λ place. unit_at (inner_at c.args.further)) none_declared 0 (c.args.first, c.args.self.now)) c.in_err-unit.field-0.0 c.loop-self-test.ensures c.loop-self.invariant c.in_err-unit.ensures)

pub units-loop-self-smaller : goal.units-loop-self-smaller
units-loop-self-smaller t c =
    left_less (sign_at "&") (λ place. unit_at (inner_at c.args.further)) none_declared (after_begin (the_sign (codes "&"))) (λ place tokens x e. (unit_within_sound c.args.further tokens x e).1) 0
    c.loop-self.self c.passes_sign.new.self (c.in_ok-unit.unit, c.unit.new.self) c.loop-self-test.ensures c.in_ok-unit.ensures

pub units-loop-self-preserved : goal.units-loop-self-preserved
units-loop-self-preserved t c =
    let rest = c.unit.new.self in
    ap (λ xs. ahead xs (more (sign_at "&") (λ place. unit_at (inner_at c.args.further)) none_declared (length rest) 0 rest)) c.in_ok-push.ensures.items
    ∙ goes_on (sign_at "&") (λ place. unit_at (inner_at c.args.further)) none_declared (after_begin (the_sign (codes "&"))) (λ place tokens x e. (unit_within_sound c.args.further tokens x e).1)
    c.loop-self.units.items 0 c.loop-self.self c.passes_sign.new.self (c.in_ok-unit.unit, rest)
    (followed (sign_at "&") (λ place. unit_at (inner_at c.args.further)) none_declared 0 (c.args.first, c.args.self.now)) c.loop-self-test.ensures c.in_ok-unit.ensures c.loop-self.invariant

pub units-returns : goal.units-returns
units-returns t c =
    ends (sign_at "&") (λ place. unit_at (inner_at c.args.further)) none_declared c.loop-self.units.items 0 c.loop-self.self
    (followed (sign_at "&") (λ place. unit_at (inner_at c.args.further)) none_declared 0 (c.args.first, c.args.self.now)) c.loop-self-test.ensures.0 c.loop-self.invariant
    ∙ ap₂ (λ xs rest. Some (xs, rest)) (sym c.from_vec.ensures) (sym c.loop-self-test.ensures.1)

pub conjs-loop-self-init : goal.conjs-loop-self-init
conjs-loop-self-init t c =
    ap (λ xs. ahead xs (more (sign_at "|") (λ place. conj_at (inner_at c.args.further)) none_declared (length c.args.self.now) 0 c.args.self.now))
    c.in_ok-conjs.ensures

pub conjs-returns-in_err-conj : goal.conjs-returns-in_err-conj
conjs-returns-in_err-conj t c =
    let p = err_from_is_err_and c.from_residual-in_err-conj.result c.from_residual-in_err-conj.ensures.1 in
    rw (p.1, p.2) (fails (sign_at "|") (λ place. conj_at (inner_at c.args.further)) none_declared (after_begin (the_sign (codes "|"))) c.loop-self.conjs.items 0 c.loop-self.self
    c.passes_sign.new.self (followed (sign_at "|") (λ place. conj_at (inner_at c.args.further)) none_declared 0 (c.args.first, c.args.self.now)) c.in_err-conj.field-0.0 c.loop-self-test.ensures c.loop-self.invariant c.in_err-conj.ensures)

pub conjs-loop-self-smaller : goal.conjs-loop-self-smaller
conjs-loop-self-smaller t c =
    left_less (sign_at "|") (λ place. conj_at (inner_at c.args.further)) none_declared (after_begin (the_sign (codes "|"))) (λ place tokens x e. (conj_within_sound c.args.further tokens x e).1) 0
    c.loop-self.self c.passes_sign.new.self (c.in_ok-conj.conj, c.conj.new.self) c.loop-self-test.ensures c.in_ok-conj.ensures

pub conjs-loop-self-preserved : goal.conjs-loop-self-preserved
conjs-loop-self-preserved t c =
    let rest = c.conj.new.self in
    ap (λ xs. ahead xs (more (sign_at "|") (λ place. conj_at (inner_at c.args.further)) none_declared (length rest) 0 rest)) c.in_ok-push.ensures.items
    ∙ goes_on (sign_at "|") (λ place. conj_at (inner_at c.args.further)) none_declared (after_begin (the_sign (codes "|"))) (λ place tokens x e. (conj_within_sound c.args.further tokens x e).1)
    c.loop-self.conjs.items 0 c.loop-self.self c.passes_sign.new.self (c.in_ok-conj.conj, rest)
    (followed (sign_at "|") (λ place. conj_at (inner_at c.args.further)) none_declared 0 (c.args.first, c.args.self.now)) c.loop-self-test.ensures c.in_ok-conj.ensures c.loop-self.invariant

pub conjs-returns : goal.conjs-returns
conjs-returns t c =
    ends (sign_at "|") (λ place. conj_at (inner_at c.args.further)) none_declared c.loop-self.conjs.items 0 c.loop-self.self
    (followed (sign_at "|") (λ place. conj_at (inner_at c.args.further)) none_declared 0 (c.args.first, c.args.self.now)) c.loop-self-test.ensures.0 c.loop-self.invariant
    ∙ ap₂ (λ xs rest. Some (xs, rest)) (sym c.from_vec.ensures) (sym c.loop-self-test.ensures.1)

pub conj-returns-in_err-first : goal.conj-returns-in_err-first
conj-returns-in_err-first t c =
    let p = err_from_is_err_and c.from_residual.result c.from_residual.ensures.1 in
    rw (p.1, p.2) (conj_fails (inner_at c.args.further) c.args.self.now c.in_err-first.field-0.0 c.in_err-first.ensures)

pub conj-returns-then-not-is_at_sign : goal.conj-returns-then-not-is_at_sign
conj-returns-then-not-is_at_sign t c = conj_of_one (inner_at c.args.further) c.args.self.now (c.in_ok-first.first, c.unit.new.self) c.in_ok-first.ensures (sym c.is_at_sign.ensures ∙ c.if-not-is_at_sign.true)

pub conj-returns-in_err-units : goal.conj-returns-in_err-units
conj-returns-in_err-units t c =
    let p = err_from_is_err_and c.from_residual-in_err-units.result c.from_residual-in_err-units.ensures.1 in
    rw (p.1, p.2) (conj_cause (inner_at c.args.further) c.args.self.now (c.in_ok-first.first, c.unit.new.self) c.in_ok-first.ensures c.in_err-units.field-0.0 c.in_err-units.ensures)

pub conj-returns : goal.conj-returns
conj-returns t c = conj_of_all (inner_at c.args.further) c.args.self.now (c.in_ok-first.first, c.unit.new.self) c.in_ok-first.ensures (c.in_ok-units.units, c.units.new.self) c.in_ok-units.ensures
    ∙ ap (λ spec. Some (spec, c.units.new.self)) (ap together (sym c.into_vec.ensures.items) ∙ sym c.join_of.ensures)

pub level-returns-in_err-first : goal.level-returns-in_err-first
level-returns-in_err-first t c =
    let p = err_from_is_err_and c.from_residual.result c.from_residual.ensures.1 in
    rw (p.1, p.2) (level_fails (inner_at c.args.further) c.args.self.now c.in_err-first.field-0.0 c.in_err-first.ensures)

pub level-returns-then-not-is_at_sign : goal.level-returns-then-not-is_at_sign
level-returns-then-not-is_at_sign t c = level_of_one (inner_at c.args.further) c.args.self.now (c.in_ok-first.first, c.conj.new.self) c.in_ok-first.ensures (sym c.is_at_sign.ensures ∙ c.if-not-is_at_sign.true)

pub level-returns-in_err-conjs : goal.level-returns-in_err-conjs
level-returns-in_err-conjs t c =
    let p = err_from_is_err_and c.from_residual-in_err-conjs.result c.from_residual-in_err-conjs.ensures.1 in
    rw (p.1, p.2) (level_cause (inner_at c.args.further) c.args.self.now (c.in_ok-first.first, c.conj.new.self) c.in_ok-first.ensures c.in_err-conjs.field-0.0 c.in_err-conjs.ensures)

pub level-returns : goal.level-returns
level-returns t c = level_of_all (inner_at c.args.further) c.args.self.now (c.in_ok-first.first, c.conj.new.self) c.in_ok-first.ensures (c.in_ok-conjs.conjs, c.conjs.new.self) c.in_ok-conjs.ensures
    ∙ ap (λ spec. Some (spec, c.conjs.new.self)) (ap alternatives (sym c.into_vec.ensures.items) ∙ sym c.alternatives.ensures)
