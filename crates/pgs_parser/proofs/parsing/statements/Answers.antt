use Rattle.std.proofs.Common.{◌≡◌, ◌+◌, [], ◌∷◌, ◌∙◌, Ok, None, sym, ap, subst, length, drop, arith, length-append}
use Rattle.std.specs.List.{slice_range}
use Rattle.std.proofs.lemmas.List.{drop_all}
use Rattle.pgs_parser.specs.Gives.{IsCause}
use Rattle.pgs_parser.specs.Statements.{pieces_of}
use Rattle.pgs_parser.specs.StatementReaders.{statement_of, statements_of}
use Rattle.pgs_parser.proofs.Script.{step, step_fails, step_ends, few_declared}
use Rattle.pgs_parser.proofs.parsing.statements.Goals as goal

pub declared_in-place-requires : goal.declared_in-place-requires
declared_in-place-requires c =
    let few = few_declared c.loop-start.place c.loop-start.start c.end_of_piece-end.result c.args.tokens.now c.in-Ok.statement c.end_of_piece-end.ensures.within c.in-Ok.ensures in
    omega (arith, few, c.end_of_piece-end.ensures.within, c.len.ensures.at_most)

pub overflow_add-place : goal.overflow_add-place
overflow_add-place c =
    let few = few_declared c.loop-start.place c.loop-start.start c.end_of_piece-end.result c.args.tokens.now c.in-Ok.statement c.end_of_piece-end.ensures.within c.in-Ok.ensures in
    omega (arith, few, c.loop-start.invariant.numbers, c.declared_in-place.ensures, c.end_of_piece-end.ensures.after, c.end_of_piece-end.ensures.within, c.len.ensures.at_most)

pub returns-in-Err-OtherForm : goal.returns-in-Err-OtherForm
returns-in-Err-OtherForm c =
    let tokens = c.args.tokens.now in
    let piece = slice_range tokens c.loop-start.start c.end_of_piece-end.result in
    let none : statement_of c.loop-start.place piece ≡ None = subst (IsCause (statement_of c.loop-start.place piece)) c.in-Err-OtherForm.field-0-is c.in-Err-OtherForm.ensures in
    step_fails c.loop-start.statements.items c.loop-start.place (c.len-in-Err-OtherForm.result + 1) piece (pieces_of (drop c.loop-start.start tokens))
    (pieces_of (drop c.end_of_piece-end.result tokens)) (statements_of 1 1 (pieces_of tokens)) c.end_of_piece-end.ensures.piece none
    (ap (λ n. n + 1) (c.len-in-Err-OtherForm.ensures ∙ c.loop-start.statements.ok.0)) c.loop-start.invariant.read

pub loop-start-preserved : goal.loop-start-preserved
loop-start-preserved c =
    let tokens = c.args.tokens.now in
    let items = c.loop-start.statements.items in
    let piece = slice_range tokens c.loop-start.start c.end_of_piece-end.result in
    let few = few_declared c.loop-start.place c.loop-start.start c.end_of_piece-end.result tokens c.in-Ok.statement c.end_of_piece-end.ensures.within c.in-Ok.ensures in
    record {
      within = c.end_of_piece-end.ensures.within;
      numbers = omega (arith, few, c.loop-start.invariant.numbers, c.declared_in-place.ensures, c.end_of_piece-end.ensures.after);
      count = omega (arith, c.loop-start.invariant.count, c.end_of_piece-end.ensures.after, ap length c.in_ok-push-in-Ok.ensures.items, length-append items (c.in-Ok.statement ∷ []));
      read =
          step items c.push.new.self.items c.in-Ok.statement c.loop-start.place c.declared_in-place.result piece (pieces_of (drop c.loop-start.start tokens))
          (pieces_of (drop c.end_of_piece-end.result tokens)) (statements_of 1 1 (pieces_of tokens)) c.end_of_piece-end.ensures.piece c.in-Ok.ensures
          c.declared_in-place.ensures c.in_ok-push-in-Ok.ensures.items c.loop-start.invariant.read;
    }

pub returns : goal.returns
returns c =
    let tokens = c.args.tokens.now in
    let none : pieces_of (drop c.loop-start.start tokens) ≡ [] = ap pieces_of (drop_all c.loop-start.start tokens (omega (arith, c.len.ensures.count))) in
    step_ends c.loop-start.statements.items c.loop-start.place (pieces_of (drop c.loop-start.start tokens)) (statements_of 1 1 (pieces_of tokens)) none c.loop-start.invariant.read
    ∙ ap Ok (sym c.from_vec.ensures)
