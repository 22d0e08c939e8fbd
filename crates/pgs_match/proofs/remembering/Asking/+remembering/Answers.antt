use Rattle.std.proofs.Common.{◌≡◌, ◌||◌, ◌+◌, ◌≤◌, ◌∷◌, true, false, Bool, not, cond, length, Some, sym, ap, ◌∙◌, subst, arith}
use Rattle.std.specs.List.{Contains}
use Rattle.std.specs.Option.{option_map_or}
use Rattle.pgs_match.specs.declared.bindings.Bound.TheVariants as bounds
use Rattle.pgs_match.specs.Answers.{IsClosed, IsPrice, own_most}
use Rattle.pgs_match.specs.Branches.{goes_from, can_be_given}
use Rattle.pgs_match.specs.Search.{edges_along}
use Rattle.pgs_match.proofs.Along.{none_more, one_found, none_at_all, past_end, at_place, cost_more, cost_all}
use Rattle.pgs_match.proofs.BranchSteps.{given_with, given_by, asked_with, asked_by, any_next, next_most, edge_branch, edge_branch_most}
use Rattle.pgs_match.proofs.Few.{few_along}
use Rattle.pgs_match.proofs.Noting.{rest_price, edge_among, edge_own, leaf_given, right_noted}
use Rattle.pgs_match.proofs.Remembered.{paid_both, paid_first, paid_edge, paid_edges, branch_edges, branch_node, paid_node}
use Rattle.pgs_match.proofs.remembering.Asking.+remembering.Goals as goal

pub branch_given-returns-in-Node-clause-found : goal.branch_given-returns-in-Node-clause-found
branch_given-returns-in-Node-clause-found g t c =
    let search = c.args.self.now.search in
    let graph = g.G.GraphRead.meaning search.graph.now in
    let resolved = search.compiled.now in
    let atoms = search.atoms.now in
    let rest = c.args.rest.now in
    let from : goes_from c.args.var c.args.step ≡ true = sym c.goes_from.ensures ∙ c.if-not-goes_from.false in
    c.edge_given.ensures.found
    ∙ edge_branch resolved graph atoms rest c.args.step c.args.bound c.in-Along.edge c.in-Along.node c.in-Along.forward c.in-Node.from c.in-Along.is c.in-Node.is
    ∙ sym (ap (λ (b : Bool). not b || any_next resolved graph atoms rest c.args.step c.args.bound) from)

pub branch_given-returns-in-Node-clause-cost : goal.branch_given-returns-in-Node-clause-cost
branch_given-returns-in-Node-clause-cost g t c =
    let search = c.args.self.now.search in
    let graph = g.G.GraphRead.meaning search.graph.now in
    let resolved = search.compiled.now in
    let atoms = search.atoms.now in
    let rest = c.args.rest.now in
    let from : goes_from c.args.var c.args.step ≡ true = sym c.goes_from.ensures ∙ c.if-not-goes_from.false in
    let most = edge_branch_most resolved graph atoms rest c.args.step c.args.bound c.in-Along.edge c.in-Along.node c.in-Along.forward c.in-Node.from c.in-Along.is c.in-Node.is in
    subst (λ (b : Bool). c.edge_given.new.steps ≤ c.args.steps.now + cond b (next_most resolved graph atoms rest c.args.step c.args.bound) 0) (sym from)
    (subst (λ n. c.edge_given.new.steps ≤ c.args.steps.now + n) most c.edge_given.ensures.cost)

pub branch_given-returns-in-Node-clause-once : goal.branch_given-returns-in-Node-clause-once
branch_given-returns-in-Node-clause-once g t c =
    let search = c.args.self.now.search in
    let graph = g.G.GraphRead.meaning search.graph.now in
    let resolved = search.compiled.now in
    let atoms = search.atoms.now in
    let rest = c.args.rest.now in
    let from : goes_from c.args.var c.args.step ≡ true = sym c.goes_from.ensures ∙ c.if-not-goes_from.false in
    λ pairs price few closed among.
    branch_edges resolved graph atoms price pairs c.args.answers.now c.edge_given.new.answers c.args.steps.now c.edge_given.new.steps c.args.step rest c.args.var c.args.bound from closed among
    c.in-Along.edge c.in-Along.node c.in-Along.forward c.in-Node.from c.in-Along.is c.in-Node.is (c.edge_given.ensures.once pairs price few closed.1)

pub branch_given-returns-in-Some-clause-once : goal.branch_given-returns-in-Some-clause-once
branch_given-returns-in-Some-clause-once g t c =
    let search = c.args.self.now.search in
    let graph = g.G.GraphRead.meaning search.graph.now in
    let resolved = search.compiled.now in
    let atoms = search.atoms.now in
    let rest = c.args.rest.now in
    let from : goes_from c.args.var c.args.step ≡ true = sym c.goes_from.ensures ∙ c.if-not-goes_from.false in
    λ pairs price few closed among.
    branch_node resolved graph atoms price pairs c.args.answers.now c.node_given.new.answers c.args.steps.now c.node_given.new.steps c.args.step rest c.args.var c.args.bound from closed among
    c.in-End.edge c.in-End.node c.in-End.source c.in-Some.id c.in-End.is c.in-Some.ensures (c.node_given.ensures.once pairs price few closed.1)

pub edge_given-returns-then-next_given-clause-found : goal.edge_given-returns-then-next_given-clause-found
edge_given-returns-then-next_given-clause-found g t c =
    let search = c.args.self.now.search in
    let graph = g.G.GraphRead.meaning search.graph.now in
    let resolved = search.compiled.now in
    let atoms = search.atoms.now in
    let rest = c.args.rest.now in
    let ids = edges_along graph c.args.forward (Some (bounds.Node c.args.from)) in
    let value = c.admit_edge-admitted.ensures.value in
    sym (one_found (given_with resolved graph atoms rest c.args.var) ids c.loop-nth.nth c.in-Some.id (sym c.in-Some.ensures.value)
    (sym (given_by resolved graph atoms rest c.args.var c.in-Some.id c.admit_edge-admitted.result value) ∙ sym c.next_given.ensures.found ∙ c.if-next_given.true))

pub edge_given-returns-then-next_given-clause-cost : goal.edge_given-returns-then-next_given-clause-cost
edge_given-returns-then-next_given-clause-cost g t c =
    let search = c.args.self.now.search in
    let graph = g.G.GraphRead.meaning search.graph.now in
    let resolved = search.compiled.now in
    let atoms = search.atoms.now in
    let rest = c.args.rest.now in
    let ids = edges_along graph c.args.forward (Some (bounds.Node c.args.from)) in
    let value = c.admit_edge-admitted.ensures.value in
    let by = asked_by resolved graph atoms rest c.args.var c.in-Some.id c.admit_edge-admitted.result value c.edge_along.new.steps c.admit_edge-admitted.new.steps c.next_given.new.steps
    c.admit_edge-admitted.ensures.at_most c.next_given.ensures.cost in
    cost_all (asked_with resolved graph atoms rest c.args.var) ids c.loop-nth.nth c.in-Some.id (sym c.in-Some.ensures.value)
    c.args.steps.now c.loop-nth.steps c.next_given.new.steps c.loop-nth.invariant.cost (omega (arith, c.edge_along.ensures.tick, by))

pub edge_given-returns-then-next_given-clause-once : goal.edge_given-returns-then-next_given-clause-once
edge_given-returns-then-next_given-clause-once g t c =
    let search = c.args.self.now.search in
    let graph = g.G.GraphRead.meaning search.graph.now in
    let resolved = search.compiled.now in
    let atoms = search.atoms.now in
    let rest = c.args.rest.now in
    let ids = edges_along graph c.args.forward (Some (bounds.Node c.args.from)) in
    let value = c.admit_edge-admitted.ensures.value in
    λ pairs price few closed has.
    let place = at_place ids c.loop-nth.nth c.in-Some.id (sym c.in-Some.ensures.value) in
    let listed : Contains ids c.in-Some.id = (c.loop-nth.nth, place.0, place.1) in
    let among = edge_among resolved graph atoms c.args.var pairs c.in-Some.id (has c.in-Some.id listed) c.admit_edge-admitted.result value in
    let few_tried : c.admit_edge-admitted.new.steps ≤ c.loop-nth.steps + 4 = omega (arith, c.edge_along.ensures.tick, c.admit_edge-admitted.ensures.at_most) in
    let more = paid_edge graph price pairs c.args.answers.now c.loop-nth.answers c.next_given.new.answers c.args.steps.now c.loop-nth.steps c.admit_edge-admitted.new.steps c.next_given.new.steps
    c.loop-nth.nth (length rest) (option_map_or (own_most graph rest) c.admit_edge-admitted.result 0) c.next_given.ensures.full (c.loop-nth.invariant.once pairs price few closed has) few_tried
    (c.next_given.ensures.once pairs price few closed among) (edge_own resolved graph atoms c.args.var rest c.in-Some.id c.admit_edge-admitted.result value) in
    paid_edges graph price pairs c.args.answers.now c.next_given.new.answers c.args.steps.now c.next_given.new.steps c.next_given.new.steps (c.loop-nth.nth + 1) (length ids) (length rest)
    (omega (arith, place.0)) more (omega arith)

pub edge_given-returns-in-None-clause-found : goal.edge_given-returns-in-None-clause-found
edge_given-returns-in-None-clause-found g t c =
    let search = c.args.self.now.search in
    let graph = g.G.GraphRead.meaning search.graph.now in
    let resolved = search.compiled.now in
    let atoms = search.atoms.now in
    let rest = c.args.rest.now in
    let ids = edges_along graph c.args.forward (Some (bounds.Node c.args.from)) in
    sym (none_at_all (given_with resolved graph atoms rest c.args.var) ids c.loop-nth.nth (past_end ids c.loop-nth.nth (sym c.in-None.ensures.value)) c.loop-nth.invariant.none)

pub edge_given-loop-nth-preserved : goal.edge_given-loop-nth-preserved
edge_given-loop-nth-preserved g t c =
    let search = c.args.self.now.search in
    let graph = g.G.GraphRead.meaning search.graph.now in
    let resolved = search.compiled.now in
    let atoms = search.atoms.now in
    let rest = c.args.rest.now in
    let ids = edges_along graph c.args.forward (Some (bounds.Node c.args.from)) in
    let value = c.admit_edge-admitted.ensures.value in
    let by = asked_by resolved graph atoms rest c.args.var c.in-Some.id c.admit_edge-admitted.result value c.edge_along.new.steps c.admit_edge-admitted.new.steps c.next_given.new.steps
    c.admit_edge-admitted.ensures.at_most c.next_given.ensures.cost in
    let before = c.loop-nth.invariant in
    let tick = c.edge_along.ensures.tick in
    let with = c.next_given.ensures in
    record {
      none =
          none_more (given_with resolved graph atoms rest c.args.var) ids c.loop-nth.nth c.in-Some.id (sym c.in-Some.ensures.value) before.none
          (sym (given_by resolved graph atoms rest c.args.var c.in-Some.id c.admit_edge-admitted.result value) ∙ sym with.found ∙ c.if-next_given.false);
      reached = let place = at_place ids c.loop-nth.nth c.in-Some.id (sym c.in-Some.ensures.value) in omega (arith, place.0);
      right = with.right;
      kept = λ var id none. with.kept var id none ∙ before.kept var id none;
      full = λ was. with.full (before.full was);
      no_step_back = omega (arith, tick, c.admit_edge-admitted.ensures.no_step_back, with.no_step_back, before.no_step_back);
      cost =
          cost_more (asked_with resolved graph atoms rest c.args.var) ids c.loop-nth.nth c.in-Some.id (sym c.in-Some.ensures.value)
          c.args.steps.now c.loop-nth.steps c.next_given.new.steps before.cost (omega (arith, tick, by));
      once =
          λ pairs price few closed has.
          let place = at_place ids c.loop-nth.nth c.in-Some.id (sym c.in-Some.ensures.value) in
          let listed : Contains ids c.in-Some.id = (c.loop-nth.nth, place.0, place.1) in
          let among = edge_among resolved graph atoms c.args.var pairs c.in-Some.id (has c.in-Some.id listed) c.admit_edge-admitted.result value in
          let few_tried : c.admit_edge-admitted.new.steps ≤ c.loop-nth.steps + 4 = omega (arith, c.edge_along.ensures.tick, c.admit_edge-admitted.ensures.at_most) in
          let more = paid_edge graph price pairs c.args.answers.now c.loop-nth.answers c.next_given.new.answers c.args.steps.now c.loop-nth.steps c.admit_edge-admitted.new.steps c.next_given.new.steps
          c.loop-nth.nth (length rest) (option_map_or (own_most graph rest) c.admit_edge-admitted.result 0) c.next_given.ensures.full (c.loop-nth.invariant.once pairs price few closed has) few_tried
          (c.next_given.ensures.once pairs price few closed among) (edge_own resolved graph atoms c.args.var rest c.in-Some.id c.admit_edge-admitted.result value) in
          more;
    }

pub edge_given-returns-clause-found : goal.edge_given-returns-clause-found
edge_given-returns-clause-found g t c =
    let search = c.args.self.now.search in
    let graph = g.G.GraphRead.meaning search.graph.now in
    let resolved = search.compiled.now in
    let atoms = search.atoms.now in
    let rest = c.args.rest.now in
    let ids = edges_along graph c.args.forward (Some (bounds.Node c.args.from)) in
    sym (none_at_all (given_with resolved graph atoms rest c.args.var) ids c.loop-nth.nth (omega (arith, few_along graph c.args.from c.args.forward, c.count-nth-end.ensures.value, c.loop-nth-test.false))
    c.loop-nth.invariant.none)

pub given-returns-then-branch_given-clause-once : goal.given-returns-then-branch_given-clause-once
given-returns-then-branch_given-clause-once g t c =
    let search = c.args.self.now.search in
    let graph = g.G.GraphRead.meaning search.graph.now in
    let resolved = search.compiled.now in
    let atoms = search.atoms.now in
    let plan = c.args.plan.now in
    let step = c.in-Some.step in
    let rest = c.in-Some.rest.now in
    let first : plan ≡ step ∷ rest = c.in-Some.ensures in
    λ pairs price few closed among.
    let few_rest : IsPrice rest price = rest_price step rest price (subst (λ p. IsPrice p price) first few) in
    let closed_all : IsClosed resolved graph atoms pairs (step ∷ rest) = subst (IsClosed resolved graph atoms pairs) first closed in
    let one = c.branch_given.ensures.once pairs price few_rest closed_all among in
    paid_both graph price pairs c.args.answers.now c.branch_given.new.answers c.given.new.answers c.args.steps.now c.branch_given.new.steps c.given.new.steps plan rest step c.args.bound first
    c.given.ensures.full one (c.given.ensures.once pairs price few_rest closed_all.1 among)

pub given-returns-else-branch_given-clause-once : goal.given-returns-else-branch_given-clause-once
given-returns-else-branch_given-clause-once g t c =
    let search = c.args.self.now.search in
    let graph = g.G.GraphRead.meaning search.graph.now in
    let resolved = search.compiled.now in
    let atoms = search.atoms.now in
    let plan = c.args.plan.now in
    let step = c.in-Some.step in
    let rest = c.in-Some.rest.now in
    let first : plan ≡ step ∷ rest = c.in-Some.ensures in
    λ pairs price few closed among.
    let few_rest : IsPrice rest price = rest_price step rest price (subst (λ p. IsPrice p price) first few) in
    let closed_all : IsClosed resolved graph atoms pairs (step ∷ rest) = subst (IsClosed resolved graph atoms pairs) first closed in
    let one = c.branch_given.ensures.once pairs price few_rest closed_all among in
    paid_first graph price pairs c.args.answers.now c.branch_given.new.answers c.args.steps.now c.branch_given.new.steps plan rest step c.args.bound first one

pub node_given-returns-then-not-is_left-clause-found : goal.node_given-returns-then-not-is_left-clause-found
node_given-returns-then-not-is_left-clause-found g t c =
    let search = c.args.self.now.search in
    let graph = g.G.GraphRead.meaning search.graph.now in
    let resolved = search.compiled.now in
    let atoms = search.atoms.now in
    let rest = c.args.rest.now in
    let none = sym c.is_left.ensures ∙ c.if-not-is_left.true in
    c.is_some.ensures ∙ leaf_given resolved graph atoms rest c.args.var c.admit_node.result none
    ∙ ap (λ o. option_map_or (can_be_given resolved graph atoms rest c.args.var) o false) c.admit_node.ensures.value

pub node_given-returns-in-None-clause-right : goal.node_given-returns-in-None-clause-right
node_given-returns-in-None-clause-right g t c =
    let search = c.args.self.now.search in
    let graph = g.G.GraphRead.meaning search.graph.now in
    let resolved = search.compiled.now in
    let atoms = search.atoms.now in
    let rest = c.args.rest.now in
    right_noted c.args.var c.args.id c.next_given-answer.result c.next_given-answer.new.answers c.note.new.self c.note.ensures.noted c.note.ensures.full resolved graph atoms c.args.self.now.whole.now rest
    c.requires.behind
    (c.next_given-answer.ensures.found ∙ ap (λ o. option_map_or (can_be_given resolved graph atoms rest c.args.var) o false) c.admit_node-admitted.ensures.value)
    c.next_given-answer.ensures.right

pub node_given-returns-in-None-clause-once : goal.node_given-returns-in-None-clause-once
node_given-returns-in-None-clause-once g t c =
    let search = c.args.self.now.search in
    let graph = g.G.GraphRead.meaning search.graph.now in
    let resolved = search.compiled.now in
    let atoms = search.atoms.now in
    let rest = c.args.rest.now in
    λ pairs price few closed has.
    paid_node resolved graph atoms price pairs rest few c.args.var c.args.id c.next_given-answer.result c.args.answers.now c.next_given-answer.new.answers c.note.new.self (sym c.in-None.ensures)
    c.next_given-answer.ensures.kept c.requires.unbound c.note.ensures.noted c.note.ensures.stays has c.admit_node-admitted.result c.admit_node-admitted.ensures.value
    c.args.steps.now c.admit_node-admitted.new.steps c.next_given-answer.new.steps c.admit_node-admitted.ensures.tick (c.next_given-answer.ensures.once pairs price few closed)
