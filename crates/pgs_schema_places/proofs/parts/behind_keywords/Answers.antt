use Rattle.std.proofs.Common.{◌+◌, sym, ◌∙◌, ap, map, drop, arith}
use Rattle.pgs_lexer.specs.Tokens.{lexeme_of}
use Rattle.pgs_schema_places.specs.KeyParts.{behind_last}
use Rattle.pgs_schema_places.proofs.Tokens.{behind_keyword, behind_other, behind_all}
use Rattle.pgs_schema_places.proofs.parts.behind_keywords.Goals as goal
use Rattle.pgs_schema_places.proofs.parts.behind_keywords.Goals.{then-is_keyword, else-is_keyword}

pub loop-place-preserved : goal.loop-place-preserved
loop-place-preserved c =
    let tokens = c.args.tokens.now in
    let all = map lexeme_of tokens in
    let place = c.loop-place.place in
    let later = drop (place + 1) all in
    elim c.if-is_keyword.branch [
      | then-is_keyword w ↦
          ap (λ n. behind_last (drop n all) later) w.count-is
          ∙ behind_keyword tokens place _ (drop c.loop-place.count all) (omega arith) _ (sym c.is_keyword.ensures ∙ w.if-is_keyword.true) c.loop-place.invariant
      | else-is_keyword w ↦
          ap (λ n. behind_last (drop n all) later) w.count-is
          ∙ behind_other tokens place _ (drop c.loop-place.count all) (omega arith) _ (sym c.is_keyword.ensures ∙ w.if-is_keyword.false) c.loop-place.invariant
    ]

pub returns : goal.returns
returns c =
    c.behind.ensures ∙ sym (behind_all c.args.tokens.now c.loop-place.place (drop c.loop-place.count (map lexeme_of c.args.tokens.now)) (omega arith))
    ∙ c.loop-place.invariant
