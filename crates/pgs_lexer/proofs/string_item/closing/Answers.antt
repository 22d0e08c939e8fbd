use Rattle.std.proofs.Common.{arith, sym, ap, ◌∙◌}
use Rattle.std.specs.Prelude.{option_map}
use Rattle.pgs_lexer.proofs.Closing.{closing_at_line_feed, closing_at_other, closing_at_pair, later}
use Rattle.pgs_lexer.proofs.string_item.closing.Goals as goal

pub returns-then-byte-eq10-clause-place : goal.returns-then-byte-eq10-clause-place
returns-then-byte-eq10-clause-place c = let e = closing_at_line_feed c.args.text.now c.loop-place.place (omega arith) (omega arith) in
    sym (ap (option_map _) e) ∙ c.loop-place.invariant.same

pub loop-place-preserved-then-byte-ne39 : goal.loop-place-preserved-then-byte-ne39
loop-place-preserved-then-byte-ne39 c =
    let e = closing_at_other c.args.text.now c.loop-place.place (omega arith) c.if-byte-eq10.false c.if-byte-ne39.true in
    record {
      within = omega arith;
      same = sym (later c.loop-place.place 1 _) ∙ sym (ap (option_map _) e) ∙ c.loop-place.invariant.same;
    }

pub loop-place-preserved : goal.loop-place-preserved
loop-place-preserved c =
    let e = closing_at_pair c.args.text.now c.loop-place.place (omega arith) c.if-byte-ne39.false c.if-text-place-eq39.true in
    record {
      within = omega arith;
      same = sym (later c.loop-place.place 2 _) ∙ sym (ap (option_map _) e) ∙ c.loop-place.invariant.same;
    }
