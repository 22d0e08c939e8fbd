use Rattle.std.proofs.Common.{sym}
use Rattle.pgs_lexer.proofs.Sizes.{size_within}
use Rattle.pgs_lexer.proofs.item.item_at.Goals as goal

pub returns-in_ok-size-in-len1-up-clause-within : goal.returns-in_ok-size-in-len1-up-clause-within
returns-in_ok-size-in-len1-up-clause-within c = size_within _ c.args.text.now _ (sym c.in_ok-size-in-len1-up.ensures)
