use Rattle.pgs_match.proofs.Apart.{found_among, are_apart}
use Rattle.pgs_match.proofs.ordered.nodes_in_order.Goals as goal

pub returns-clause-kept : goal.returns-clause-kept
returns-clause-kept c = λ id inside. found_among id c.each_once.result (c.each_once.ensures.kept id inside)

pub returns-clause-apart : goal.returns-clause-apart
returns-clause-apart c = are_apart c.each_once.result c.each_once.ensures.ascending
