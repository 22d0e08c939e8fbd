use Rattle.pgs_check_affected.proofs.Touching.{changed_agrees, touched_is}
use Rattle.pgs_check_affected.proofs.laws.deltas_touch_their_elements_and_the_edges_at_their_nodes.Goals as goal

pub returns-clause-agree : goal.returns-clause-agree
returns-clause-agree c = λ g delta graph sound. changed_agrees delta g graph sound

pub returns-clause-touched : goal.returns-clause-touched
returns-clause-touched c = λ g h elems agree elem. touched_is g h elems agree elem
