use Rattle.pgs_lexer.proofs.Longest.{found_longest, longest_found, none_begins, begins_none}
use Rattle.pgs_lexer.proofs.laws.longest_item.Goals as goal

pub returns-clause-found : goal.returns-clause-found
returns-clause-found c = λ text item. (found_longest text item, longest_found text item)

pub returns-clause-none : goal.returns-clause-none
returns-clause-none c = λ text. (none_begins text, begins_none text)
