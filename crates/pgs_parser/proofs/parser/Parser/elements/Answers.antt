use Rattle.std.proofs.Common.{Some, ◌+◌, ◌∙◌, ◌++◌, ◌∷◌, [], sym, ap, ap₂, length, codes, arith}
use Rattle.std.proofs.lemmas.Result.{err_from_is_err_and}
use Rattle.pgs_parser.specs.Reader.{more}
use Rattle.pgs_parser.proofs.Items.{ahead, starts, start_fails, goes_on, ends, fails, left_less}
use Rattle.pgs_parser.proofs.Chains.{comma_begin}
use Rattle.pgs_parser.specs.Reader.{comma_unless}
use Rattle.pgs_parser.specs.Statements.{place_of_member}
use Rattle.pgs_parser.specs.StatementReaders.{element_at, elements_at}
use Rattle.pgs_parser.proofs.SoundStatements.{element_sound}
use Rattle.pgs_parser.proofs.parser.Parser.elements.Goals as goal

pub returns-in_err-first : goal.returns-in_err-first
returns-in_err-first c =
    let p = err_from_is_err_and c.from_residual.result c.from_residual.ensures.1 in
    rw (p.1, p.2) (start_fails (comma_unless (codes "FOR")) element_at place_of_member c.args.place c.args.self.now c.in_err-first.field-0.0 c.in_err-first.ensures)

pub loop-self-init : goal.loop-self-init
loop-self-init c =
    let rest = c.element.new.self in
    let first = c.in_ok-first.first in
    let short = (element_sound c.args.place c.args.self.now (first, rest) c.in_ok-first.ensures).0.1 in
    record {
      read =
          ap (λ xs. ahead xs (more (comma_unless (codes "FOR")) element_at place_of_member (length rest) (c.args.place + c.declared_by.result) rest))
          (c.in_ok-push.ensures.items ∙ ap (λ xs. xs ++ first ∷ []) c.new-elements.ensures.items)
          ∙ ap (λ n. ahead (first ∷ []) (more (comma_unless (codes "FOR")) element_at place_of_member (length rest) (c.args.place + n) rest)) c.declared_by.ensures.count
          ∙ starts (comma_unless (codes "FOR")) element_at place_of_member c.args.place c.args.self.now (first, rest) c.in_ok-first.ensures;
      numbers = omega (arith, c.declared_by.ensures.at_most_one);
    }

pub returns-in_err-element : goal.returns-in_err-element
returns-in_err-element c =
    let p = err_from_is_err_and c.from_residual-in_err-element.result c.from_residual-in_err-element.ensures.1 in
    rw (p.1, p.2) (fails (comma_unless (codes "FOR")) element_at place_of_member (comma_begin (codes "FOR")) c.loop-self.elements.items c.loop-self.next c.loop-self.self
    c.passes_comma_unless.new.self (elements_at c.args.place c.args.self.now) c.in_err-element.field-0.0 c.loop-self-test.ensures c.loop-self.invariant.read c.in_err-element.ensures)

pub loop-self-smaller : goal.loop-self-smaller
loop-self-smaller c =
    left_less (comma_unless (codes "FOR")) element_at place_of_member (comma_begin (codes "FOR")) (λ place tokens x e. (element_sound place tokens x e).0.1) c.loop-self.next
    c.loop-self.self c.passes_comma_unless.new.self (c.in_ok-element.element, c.element-in-loop-self.new.self) c.loop-self-test.ensures c.in_ok-element.ensures

pub loop-self-preserved : goal.loop-self-preserved
loop-self-preserved c =
    let rest = c.element-in-loop-self.new.self in
    let items = c.loop-self.elements.items in
    let element = c.in_ok-element.element in
    let short = (element_sound c.loop-self.next c.passes_comma_unless.new.self (element, rest) c.in_ok-element.ensures).0.1 in
    let kept = (comma_begin (codes "FOR")).kept c.loop-self.self c.passes_comma_unless.new.self c.loop-self-test.ensures in
    record {
      read =
          ap (λ xs. ahead xs (more (comma_unless (codes "FOR")) element_at place_of_member (length rest) (c.loop-self.next + c.declared_by-next.result) rest)) c.in_ok-push-2.ensures.items
          ∙ ap (λ n. ahead (items ++ element ∷ []) (more (comma_unless (codes "FOR")) element_at place_of_member (length rest) (c.loop-self.next + n) rest)) c.declared_by-next.ensures.count
          ∙ goes_on (comma_unless (codes "FOR")) element_at place_of_member (comma_begin (codes "FOR")) (λ place tokens x e. (element_sound place tokens x e).0.1)
          items c.loop-self.next c.loop-self.self c.passes_comma_unless.new.self (element, rest)
          (elements_at c.args.place c.args.self.now) c.loop-self-test.ensures c.in_ok-element.ensures c.loop-self.invariant.read;
      numbers = let n = c.loop-self.invariant.numbers in omega (arith, c.declared_by-next.ensures.at_most_one);
    }

pub overflow_add-next : goal.overflow_add-next
overflow_add-next c =
    let short = (element_sound c.args.place c.args.self.now (c.in_ok-first.first, c.element.new.self) c.in_ok-first.ensures).0.1 in
    omega (arith, c.requires, c.declared_by.ensures.at_most_one)

pub returns : goal.returns
returns c =
    ends (comma_unless (codes "FOR")) element_at place_of_member c.loop-self.elements.items c.loop-self.next c.loop-self.self
    (elements_at c.args.place c.args.self.now) c.loop-self-test.ensures.0 c.loop-self.invariant.read
    ∙ ap₂ (λ xs rest. Some (xs, rest)) (sym c.from_vec.ensures) (sym c.loop-self-test.ensures.1)
