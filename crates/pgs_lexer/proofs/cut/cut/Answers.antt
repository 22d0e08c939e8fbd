use Rattle.std.proofs.Common.{sym, ap, ◌∙◌, ◌+◌, arith, drop, length, length-drop, Err, List}
use Rattle.std.proofs.lemmas.List.{take_rest}
use Rattle.pgs_lexer.specs.Scan.{item_at}
use Rattle.pgs_lexer.specs.Token.{Lexeme}
use Rattle.pgs_lexer.specs.Cut.{lexemes, with_front, tokens_from}
use Rattle.pgs_lexer.proofs.Steps.{kept, refused, complete}
use Rattle.pgs_lexer.proofs.cut.cut.Goals as goal

pub returns-in-None : goal.returns-in-None
returns-in-None c =
    let text = c.args.text.now in
    let place = c.loop-place.place in
    refused (lexemes text c.loop-place.spans.items) place text (omega arith) (ap item_at (sym (take_rest text place)) ∙ sym c.in-None.ensures.item) c.loop-place.invariant.told
    ∙ ap Err (sym c.line_at-line.ensures)

pub loop-place-preserved : goal.loop-place-preserved
loop-place-preserved c =
    let text = c.args.text.now in
    let place = c.loop-place.place in
    let item = c.in-Some.item in
    let w = c.in-Some.ensures.within in
    record {
      within = omega (arith, w.1, ap length (take_rest text place), length-drop place text);
      told = ap (λ (front : List Lexeme). with_front front (tokens_from 0 (place + item.size) (drop (place + item.size) text))) c.in-Ok.ensures
          ∙ kept (lexemes text c.loop-place.spans.items) place text item _ (ap item_at (sym (take_rest text place)) ∙ sym c.in-Some.ensures.item) c.loop-place.invariant.told;
    }

pub returns : goal.returns
returns c = complete (lexemes c.args.text.now c.loop-place.spans.items) c.loop-place.place c.args.text.now (omega arith) c.loop-place.invariant.told
