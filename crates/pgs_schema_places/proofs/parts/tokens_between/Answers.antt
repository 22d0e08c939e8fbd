use Rattle.std.proofs.Common.{◌≡◌, ◌<◌, ◌++◌, ◌∷◌, [], ap, sym, ◌∙◌, length, map, arith}
use Rattle.pgs_lexer.specs.Token.{Lexeme}
use Rattle.pgs_lexer.specs.Tokens.{lexeme_of}
use Rattle.pgs_schema_places.proofs.Ranges.{told, range_more}
use Rattle.pgs_schema_places.proofs.parts.tokens_between.Goals as goal

pub loop-place-preserved : goal.loop-place-preserved
loop-place-preserved c =
    let tokens = c.args.tokens.now in
    let within : c.loop-place.place < length tokens = omega (arith, c.requires.within) in
    let t = told (λ (token : Lexeme). map lexeme_of c.push_at.new.between.items ≡ map lexeme_of c.loop-place.between.items ++ token ∷ []) tokens c.loop-place.place within
    c.in_ok-push_at.ensures in
    t.2 ∙ ap (λ before. before ++ t.0 ∷ []) c.loop-place.invariant ∙ sym (range_more tokens c.args.start c.loop-place.place t.0 (omega arith) t.1)
