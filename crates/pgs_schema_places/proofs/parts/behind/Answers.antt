use Rattle.std.proofs.Common.{length-drop, arith}
use Rattle.pgs_lexer.specs.declared.token.Token.{Token}
use Rattle.pgs_schema_places.proofs.Tokens.{behind_is, nothing_behind}
use Rattle.pgs_schema_places.proofs.parts.behind.Goals as goal

pub returns-then-count-tokens : goal.returns-then-count-tokens
returns-then-count-tokens c =
    behind_is c.args.tokens.now c.args.count _ (omega (arith, length-drop {A = Token}))

pub returns-else-count-tokens : goal.returns-else-count-tokens
returns-else-count-tokens c = nothing_behind c.args.tokens.now c.args.count (omega arith)
