use Rattle.std.proofs.Common.{◌<◌, ◌≡◌, length, ◌∙◌, arith}
use Rattle.pgs_parser.proofs.Pieces.{told, goes_on, ends, ends_last}
use Rattle.pgs_parser.proofs.parsing.end_of_piece.Goals as goal

pub returns-then-is_semicolon_at-clause-piece : goal.returns-then-is_semicolon_at-clause-piece
returns-then-is_semicolon_at-clause-piece c =
    let tokens = c.args.tokens.now in
    let within : c.loop-place.place < length tokens = omega (arith, c.len.ensures.count) in
    let t = told tokens c.loop-place.place c.is_semicolon_at.result within c.is_semicolon_at.ensures in
    ends tokens c.args.start c.loop-place.place t.0 c.loop-place.invariant.order t.1 (t.2 ∙ c.if-is_semicolon_at.true) c.loop-place.invariant.pieces

pub loop-place-preserved : goal.loop-place-preserved
loop-place-preserved c =
    let tokens = c.args.tokens.now in
    let within : c.loop-place.place < length tokens = omega (arith, c.len.ensures.count) in
    let t = told tokens c.loop-place.place c.is_semicolon_at.result within c.is_semicolon_at.ensures in
    record {
      order = let order = c.loop-place.invariant.order in omega arith;
      within = omega arith;
      pieces = goes_on tokens c.args.start c.loop-place.place t.0 c.loop-place.invariant.order t.1 (t.2 ∙ c.if-is_semicolon_at.false) c.loop-place.invariant.pieces;
    }

pub returns-clause-piece : goal.returns-clause-piece
returns-clause-piece c =
    let tokens = c.args.tokens.now in
    let all : c.loop-place.place ≡ length tokens = let within = c.loop-place.invariant.within in omega (arith, c.len.ensures.count) in
    ends_last tokens c.args.start c.loop-place.place (omega (arith, c.requires, all)) all c.loop-place.invariant.pieces
