use Rattle.pgs_match.proofs.Walked.{reached_near, reached_few}
use Rattle.pgs_match.proofs.laws.what_is_reached_is_near_and_few.Goals as goal

pub returns-clause-near : goal.returns-clause-near
returns-clause-near c = λ resolved g pattern valid var below elem edges few. reached_near resolved g pattern valid var below elem edges few

pub returns-clause-few : goal.returns-clause-few
returns-clause-few c = λ resolved g pattern graph valid var below elem edges most few sparse. reached_few resolved g pattern valid var below elem graph edges most few sparse
