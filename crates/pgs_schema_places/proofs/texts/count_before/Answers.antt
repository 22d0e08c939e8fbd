use Rattle.std.proofs.Common.{◌≡◌, ◌<◌, ◌∙◌, sym, length, arith}
use Rattle.pgs_lexer.specs.Token.{Lexeme}
use Rattle.pgs_schema_places.specs.KeyTexts.{is_behind}
use Rattle.pgs_schema_places.proofs.Ranges.{told, passed, stopped, count_end}
use Rattle.pgs_schema_places.proofs.texts.count_before.Goals as goal

pub returns-then-is_behind_at-clause-count : goal.returns-then-is_behind_at-clause-count
returns-then-is_behind_at-clause-count c =
    let tokens = c.args.tokens.now in
    let within : c.loop-place.place < length tokens = omega (arith, c.len-place-end.ensures.count) in
    let t = told (λ (token : Lexeme). c.is_behind_at.result ≡ is_behind token) tokens c.loop-place.place within c.is_behind_at.ensures in
    let none = stopped tokens c.loop-place.place t.0 t.1 (sym t.2 ∙ c.if-is_behind_at.true) in
    omega (arith, none, c.loop-place.invariant)

pub loop-place-preserved : goal.loop-place-preserved
loop-place-preserved c =
    let tokens = c.args.tokens.now in
    let within : c.loop-place.place < length tokens = omega (arith, c.len-place-end.ensures.count) in
    let t = told (λ (token : Lexeme). c.is_behind_at.result ≡ is_behind token) tokens c.loop-place.place within c.is_behind_at.ensures in
    let more = passed tokens c.loop-place.place t.0 t.1 (sym t.2 ∙ c.if-is_behind_at.false) in
    omega (arith, more, c.loop-place.invariant)

pub returns-clause-count : goal.returns-clause-count
returns-clause-count c =
    let tokens = c.args.tokens.now in
    let all : c.loop-place.place ≡ length tokens = omega (arith, c.len.ensures.count) in
    let none = count_end tokens c.loop-place.place all in
    omega (arith, none, c.loop-place.invariant, c.len.ensures.count)
