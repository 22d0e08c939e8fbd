use Rattle.pgs_match.proofs.Kept.{few_price, paid_edge}
use Rattle.pgs_match.proofs.frontier.Frontier.edge_kept.Goals as goal

pub returns-then-given-clause-once : goal.returns-then-given-clause-once
returns-then-given-clause-once g c =
    let search = c.args.self.now.asking.search in
    let off = c.args.self.now.asking.whole.now in
    λ pairs few closed has.
    paid_edge search.compiled.now (g.G.GraphRead.meaning search.graph.now) search.atoms.now pairs off c.args.var c.args.id has c.admit_edge.result c.admit_edge.ensures.value
    c.in_ok-bound.bound c.in_ok-bound.was c.args.notes.now c.given.new.answers c.args.steps.now c.admit_edge.new.steps c.given.new.steps c.admit_edge.ensures.at_most
    (c.given.ensures.once pairs 440 (few_price off few) closed)

pub returns-else-given-clause-once : goal.returns-else-given-clause-once
returns-else-given-clause-once g c =
    let search = c.args.self.now.asking.search in
    let off = c.args.self.now.asking.whole.now in
    λ pairs few closed has.
    paid_edge search.compiled.now (g.G.GraphRead.meaning search.graph.now) search.atoms.now pairs off c.args.var c.args.id has c.admit_edge.result c.admit_edge.ensures.value
    c.in_ok-bound.bound c.in_ok-bound.was c.args.notes.now c.given.new.answers c.args.steps.now c.admit_edge.new.steps c.given.new.steps c.admit_edge.ensures.at_most
    (c.given.ensures.once pairs 440 (few_price off few) closed)
