use Rattle.std.proofs.Common.{◌≡◌, ◌<◌, ◌++◌, ap, ◌∙◌, length, [], codes, cond, ◌==◌, arith}
use Rattle.std.specs.List.{slice_range}
use Rattle.pgs_lexer.specs.Token.{Lexeme}
use Rattle.pgs_schema_places.specs.KeyTexts.{spaced}
use Rattle.pgs_schema_places.proofs.Ranges.{told, more_text, first_text, whole_text}
use Rattle.pgs_schema_places.proofs.texts.text_between.Goals as goal

pub loop-place-init : goal.loop-place-init
loop-place-init c =
    let tokens = c.args.tokens.now in
    ap (λ text. text ++ spaced c.start_at-end.result (slice_range tokens c.args.start c.args.stop)) c.in_ok-text.ensures
    ∙ first_text tokens c.args.start c.args.stop c.start_at-end.result c.requires.order c.requires.within c.start_at-end.ensures

pub loop-place-preserved : goal.loop-place-preserved
loop-place-preserved c =
    let tokens = c.args.tokens.now in
    let within : c.loop-place.place < length tokens = omega (arith, c.requires.within) in
    let t = told (λ (token : Lexeme). (c.in_ok-next.next ≡ token.end) × (c.push_at.new.text ≡ c.loop-place.text ++ (cond (c.loop-place.end == token.start) [] (codes " ") ++ token.bytes))) tokens c.loop-place.place within c.in_ok-next.ensures in
    more_text tokens c.loop-place.place t.0 t.1 c.args.stop c.loop-place.end c.in_ok-next.next c.loop-place.text c.push_at.new.text _ (omega arith) c.loop-place.invariant t.2.1 t.2.0

pub returns : goal.returns
returns c =
    let tokens = c.args.tokens.now in
    c.into_bytes.ensures ∙ whole_text tokens c.loop-place.place c.args.stop c.loop-place.end c.loop-place.text _ (omega (arith, c.requires.order)) c.loop-place.invariant
