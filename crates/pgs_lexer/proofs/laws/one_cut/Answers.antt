use Rattle.pgs_lexer.proofs.OneCut.{some_cut, one_cut, tokens_by_cut}
use Rattle.pgs_lexer.proofs.laws.one_cut.Goals as goal

pub returns-clause-some : goal.returns-clause-some
returns-clause-some c = some_cut

pub returns-clause-one : goal.returns-clause-one
returns-clause-one c = one_cut

pub returns-clause-tokens : goal.returns-clause-tokens
returns-clause-tokens c = tokens_by_cut
