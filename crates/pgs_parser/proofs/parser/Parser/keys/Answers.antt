use Rattle.std.proofs.Common.{Some, ◌+◌, ◌∙◌, ◌++◌, ◌∷◌, [], sym, ap, ap₂, length, codes, arith}
use Rattle.std.proofs.lemmas.Result.{err_from_is_err_and}
use Rattle.pgs_parser.specs.Reader.{more}
use Rattle.pgs_parser.proofs.Items.{ahead, starts, start_fails, goes_on, ends, fails, left_less}
use Rattle.pgs_parser.proofs.Chains.{after_begin}
use Rattle.pgs_parser.specs.Reader.{sign_at, the_sign}
use Rattle.pgs_parser.specs.KeyReaders.{key_at}
use Rattle.pgs_parser.specs.StatementReaders.{place_of_key, keys_at}
use Rattle.pgs_parser.proofs.SoundStatements.{key_declared}
use Rattle.pgs_parser.proofs.parser.Parser.keys.Goals as goal

pub returns-in_err-first : goal.returns-in_err-first
returns-in_err-first c =
    let p = err_from_is_err_and c.from_residual.result c.from_residual.ensures.1 in
    rw (p.1, p.2) (start_fails (sign_at ",") key_at place_of_key c.args.place c.args.self.now c.in_err-first.field-0.0 c.in_err-first.ensures)

pub loop-self-init : goal.loop-self-init
loop-self-init c =
    let rest = c.key.new.self in
    let first = c.in_ok-first.first in
    let short = (key_declared c.args.place c.args.self.now (first, rest) c.in_ok-first.ensures).0.1 in
    record {
      read =
          ap (λ xs. ahead xs (more (sign_at ",") key_at place_of_key (length rest) (c.args.place + 1) rest))
          (c.in_ok-push.ensures.items ∙ ap (λ xs. xs ++ first ∷ []) c.new-keys.ensures.items)
          ∙ starts (sign_at ",") key_at place_of_key c.args.place c.args.self.now (first, rest) c.in_ok-first.ensures;
      numbers = omega (arith);
    }

pub returns-in_err-key : goal.returns-in_err-key
returns-in_err-key c =
    let p = err_from_is_err_and c.from_residual-in_err-key.result c.from_residual-in_err-key.ensures.1 in
    rw (p.1, p.2) (fails (sign_at ",") key_at place_of_key (after_begin (the_sign (codes ","))) c.loop-self.keys.items c.loop-self.next c.loop-self.self
    c.passes_sign.new.self (keys_at c.args.place c.args.self.now) c.in_err-key.field-0.0 c.loop-self-test.ensures c.loop-self.invariant.read c.in_err-key.ensures)

pub loop-self-smaller : goal.loop-self-smaller
loop-self-smaller c =
    left_less (sign_at ",") key_at place_of_key (after_begin (the_sign (codes ","))) (λ place tokens x e. (key_declared place tokens x e).0.1) c.loop-self.next
    c.loop-self.self c.passes_sign.new.self (c.in_ok-key.key, c.key-in-loop-self.new.self) c.loop-self-test.ensures c.in_ok-key.ensures

pub loop-self-preserved : goal.loop-self-preserved
loop-self-preserved c =
    let rest = c.key-in-loop-self.new.self in
    let items = c.loop-self.keys.items in
    let key = c.in_ok-key.key in
    let short = (key_declared c.loop-self.next c.passes_sign.new.self (key, rest) c.in_ok-key.ensures).0.1 in
    let kept = (after_begin (the_sign (codes ","))).kept c.loop-self.self c.passes_sign.new.self c.loop-self-test.ensures in
    record {
      read =
          ap (λ xs. ahead xs (more (sign_at ",") key_at place_of_key (length rest) (c.loop-self.next + 1) rest)) c.in_ok-push-2.ensures.items
          ∙ goes_on (sign_at ",") key_at place_of_key (after_begin (the_sign (codes ","))) (λ place tokens x e. (key_declared place tokens x e).0.1)
          items c.loop-self.next c.loop-self.self c.passes_sign.new.self (key, rest)
          (keys_at c.args.place c.args.self.now) c.loop-self-test.ensures c.in_ok-key.ensures c.loop-self.invariant.read;
      numbers = let n = c.loop-self.invariant.numbers in omega (arith);
    }

pub overflow_add-next : goal.overflow_add-next
overflow_add-next c =
    let short = (key_declared c.args.place c.args.self.now (c.in_ok-first.first, c.key.new.self) c.in_ok-first.ensures).0.1 in
    omega (arith, c.requires)

pub returns : goal.returns
returns c =
    ends (sign_at ",") key_at place_of_key c.loop-self.keys.items c.loop-self.next c.loop-self.self
    (keys_at c.args.place c.args.self.now) c.loop-self-test.ensures.0 c.loop-self.invariant.read
    ∙ ap₂ (λ xs rest. Some (xs, rest)) (sym c.from_vec.ensures) (sym c.loop-self-test.ensures.1)
