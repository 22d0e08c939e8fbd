use Rattle.std.proofs.Common.{◌+◌, ◌^◌, length, ap, arith}
use Rattle.std.proofs.lemmas.Bool.{and_parts}
use Rattle.pgs_syntax.specs.declared.pattern.Pattern.{Pattern}
use Rattle.pgs_match.specs.Planned.{most_edges, pattern_of}
use Rattle.pgs_match.proofs.Known.{valid_most}
use Rattle.pgs_match.proofs.Scopes.{side_valid}
use Rattle.pgs_check_affected.proofs.Counting.{edges_few, searched_few, alone_few_steps}
use Rattle.pgs_check_affected.proofs.gathering.Sought.add_found.Goals as goal

pub returns-then-vars-ne1-clause-cost : goal.returns-then-vars-ne1-clause-cost
returns-then-vars-ne1-clause-cost g c = λ most sparse.
    let key = c.args.self.now.key.now in
    let side = c.args.self.now.side in
    let few = valid_most (pattern_of side key) (side_valid side key (and_parts _ _ (and_parts _ _ c.requires.typed).0).0) in
    let count = ap (λ (pattern : Pattern). length pattern.edge_vars) c.pattern.ensures.pattern in
    searched_few c.len-vars.result ((most + 2) ^ (most_edges key + 1)) _ _ (omega (arith, few, count, c.len-vars.ensures)) (c.add_searched.ensures.cost most sparse)

pub returns-in_err-add_edges_at_both-clause-cost : goal.returns-in_err-add_edges_at_both-clause-cost
returns-in_err-add_edges_at_both-clause-cost g c = λ most sparse.
    let w = most_edges c.args.self.now.key.now in
    alone_few_steps most w c.args.steps.now c.add_edges_at_both.new.steps
    (omega (
      arith,
      c.add_edges_at_both.ensures.cost,
      edges_few (g.G.GraphRead.meaning c.args.before.now) c.args.known.now.elem w most sparse.0,
      edges_few (g.H.GraphRead.meaning c.args.after.now) c.args.known.now.elem w most sparse.1,
    ))

pub returns-in_ok-add_edges_at_both-clause-cost : goal.returns-in_ok-add_edges_at_both-clause-cost
returns-in_ok-add_edges_at_both-clause-cost g c = λ most sparse.
    let w = most_edges c.args.self.now.key.now in
    alone_few_steps most w c.args.steps.now c.add_edges_at_both.new.steps
    (omega (
      arith,
      c.add_edges_at_both.ensures.cost,
      edges_few (g.G.GraphRead.meaning c.args.before.now) c.args.known.now.elem w most sparse.0,
      edges_few (g.H.GraphRead.meaning c.args.after.now) c.args.known.now.elem w most sparse.1,
    ))
