use Rattle.std.proofs.Common.{arith}
use Rattle.pgs_schema_places.proofs.Tokens.{front_is, all_in_front}
use Rattle.pgs_schema_places.proofs.parts.front.Goals as goal

pub returns-then-count-tokens : goal.returns-then-count-tokens
returns-then-count-tokens c = front_is c.args.tokens.now c.args.count

pub returns-else-count-tokens : goal.returns-else-count-tokens
returns-else-count-tokens c = all_in_front c.args.tokens.now c.args.count (omega arith)
