use Rattle.std.proofs.Common.{sym, subst}
use Rattle.pgs_contain.specs.Containing.{ContainingState, NodeAnswers, EdgeAnswers}
use Rattle.pgs_contain.specs.Strange.{AreTypedShapes, AreTypedTriples}
use Rattle.pgs_contain.proofs.Answers.{of_node, of_edge}
use Rattle.pgs_contain.proofs.containment.Containing.outside_of.Goals as goal

pub returns-in_ok-own-in-Node-clause-answer : goal.returns-in_ok-own-in-Node-clause-answer
returns-in_ok-own-in-Node-clause-answer c =
    let first = c.args.first.now in
    let second = c.self.inside.second.now in
    let answer = c.in_ok-own-in-Node.own in
    let told = c.in_ok-own-in-Node.ensures second (subst (AreTypedShapes second) (sym c.as_slice.ensures) c.self.invariant.nodes) in
    let here = subst (λ (state : ContainingState). NodeAnswers state.avoid first c.in-Node.place state.second answer) c.self.view_is told in
    (of_node first c.args.number c.in-Node.place c.args.self.now answer c.outside_in_node.result c.in-Node.is c.outside_in_node.ensures here).0

pub returns-in_ok-own-in-Node-clause-strange : goal.returns-in_ok-own-in-Node-clause-strange
returns-in_ok-own-in-Node-clause-strange c =
    let first = c.args.first.now in
    let second = c.self.inside.second.now in
    let answer = c.in_ok-own-in-Node.own in
    let told = c.in_ok-own-in-Node.ensures second (subst (AreTypedShapes second) (sym c.as_slice.ensures) c.self.invariant.nodes) in
    let here = subst (λ (state : ContainingState). NodeAnswers state.avoid first c.in-Node.place state.second answer) c.self.view_is told in
    (of_node first c.args.number c.in-Node.place c.args.self.now answer c.outside_in_node.result c.in-Node.is c.outside_in_node.ensures here).1

pub returns-in_ok-own-in-Edge-clause-answer : goal.returns-in_ok-own-in-Edge-clause-answer
returns-in_ok-own-in-Edge-clause-answer c =
    let first = c.args.first.now in
    let second = c.self.inside.second.now in
    let answer = c.in_ok-own-in-Edge.own in
    let told = c.in_ok-own-in-Edge.ensures second (subst (AreTypedTriples second) (sym c.as_slice-in-Edge.ensures) c.self.invariant.edges) in
    let here = subst (λ (state : ContainingState). EdgeAnswers state.avoid first c.in-Edge.place state.second answer) c.self.view_is told in
    (of_edge first c.args.number c.in-Edge.place c.args.self.now answer c.outside_in_edge.result c.in-Edge.is c.outside_in_edge.ensures here).0

pub returns-in_ok-own-in-Edge-clause-strange : goal.returns-in_ok-own-in-Edge-clause-strange
returns-in_ok-own-in-Edge-clause-strange c =
    let first = c.args.first.now in
    let second = c.self.inside.second.now in
    let answer = c.in_ok-own-in-Edge.own in
    let told = c.in_ok-own-in-Edge.ensures second (subst (AreTypedTriples second) (sym c.as_slice-in-Edge.ensures) c.self.invariant.edges) in
    let here = subst (λ (state : ContainingState). EdgeAnswers state.avoid first c.in-Edge.place state.second answer) c.self.view_is told in
    (of_edge first c.args.number c.in-Edge.place c.args.self.now answer c.outside_in_edge.result c.in-Edge.is c.outside_in_edge.ensures here).1
