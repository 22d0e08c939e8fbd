use Rattle.std.proofs.Common.{◌++◌, ap, ◌∙◌, map, arith}
use Rattle.pgs_lexer.specs.Tokens.{lexeme_of}
use Rattle.pgs_schema_places.specs.KeyTexts.{spaced}
use Rattle.pgs_schema_places.proofs.Tokens.{more_spaced, all_spaced}
use Rattle.pgs_schema_places.proofs.parts.text_of.Goals as goal

pub loop-token-init : goal.loop-token-init
loop-token-init c =
    ap (λ text. text ++ spaced c.start_of-end.result (map lexeme_of c.args.tokens.now)) c.in_ok-text.ensures ∙ c.start_of-end.ensures

pub loop-token-preserved : goal.loop-token-preserved
loop-token-preserved c =
    more_spaced c.args.tokens.now c.loop-token.token-index _ c.loop-token.end c.loop-token.text _ _ (omega arith)
    c.loop-token.invariant c.in_ok-push_token.ensures

pub returns : goal.returns
returns c =
    c.into_bytes.ensures ∙ all_spaced c.args.tokens.now c.loop-token.token-index c.loop-token.end c.loop-token.text _ (omega arith) c.loop-token.invariant
