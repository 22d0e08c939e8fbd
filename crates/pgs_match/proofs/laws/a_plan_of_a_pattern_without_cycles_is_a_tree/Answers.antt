use Rattle.pgs_match.proofs.Acyclic.{plan_is_tree}
use Rattle.pgs_match.proofs.laws.a_plan_of_a_pattern_without_cycles_is_a_tree.Goals as goal

pub returns : goal.returns
returns c = λ pattern valid acyclic var below plan plans. plan_is_tree pattern valid acyclic var below plan plans
