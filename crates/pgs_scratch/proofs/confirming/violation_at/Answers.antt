use Rattle.std.proofs.Common.{◌+◌, ◌^◌, arith}
use Rattle.std.proofs.lemmas.Grind.{common_steps}
use Rattle.pgs_base.specs.Graph.{element_count}
use Rattle.pgs_match.specs.Planned.{most_edges}
use Rattle.pgs_match.proofs.Costs.{one_at_least}
use Rattle.pgs_scratch.proofs.Costs.{few_alone, numbered_there, within_all}
use Rattle.pgs_scratch.proofs.KeyList.{valid_numbered}
use Rattle.pgs_scratch.proofs.confirming.violation_at.Goals as goal

pub violation_at-requires-clause-typed : goal.violation_at-requires-clause-typed
violation_at-requires-clause-typed g c =
    valid_numbered c.args.compiled.now c.resolved.ensures.valid c.args.keys.now c.requires c.key_of-number.result c.in-Some.key.now c.in-Some.ensures

pub returns-then-strict-clause-cost : goal.returns-then-strict-clause-cost
returns-then-strict-clause-cost g c = λ edges most few within.
    few_alone (element_count (g.G.GraphRead.meaning c.args.graph.now)) ((most + 2) ^ (edges + 1)) c.args.steps.now c.untyped_node.new.steps (one_at_least most (edges + 1))
    (omega (arith, c.untyped_node.ensures.at_most))

pub returns-then-strict-2-clause-cost : goal.returns-then-strict-2-clause-cost
returns-then-strict-2-clause-cost g c = λ edges most few within.
    few_alone (element_count (g.G.GraphRead.meaning c.args.graph.now)) ((most + 2) ^ (edges + 1)) c.args.steps.now c.untyped_edge.new.steps (one_at_least most (edges + 1))
    (omega (arith, c.untyped_edge.ensures.at_most))

pub returns-in-Some : goal.returns-in-Some
returns-in-Some g c = record {
  found = grind (arith, common_steps);
  no_step_back = c.violation_at.ensures.no_step_back;
  cost = λ edges most few within.
      within_all (element_count (g.G.GraphRead.meaning c.args.graph.now)) most edges (most_edges c.in-Some.key.now) c.args.steps.now c.violation_at.new.steps
      (few c.in-Some.key.now (numbered_there c.args.keys.now c.key_of-number.result c.in-Some.key.now c.in-Some.ensures)) (c.violation_at.ensures.cost most within);
}
