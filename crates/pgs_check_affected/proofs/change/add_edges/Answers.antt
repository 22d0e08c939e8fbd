use Rattle.std.proofs.Common.{◌++◌, ap, ◌∙◌, arith}
use Rattle.pgs_base.specs.declared.element.Elem.TheVariants.{Edge}
use Rattle.pgs_check_affected.specs.Changes.{known_in}
use Rattle.pgs_check_affected.proofs.Knowing.{of_edges}
use Rattle.pgs_check_affected.proofs.Loops.{mapped_all}
use Rattle.pgs_check_affected.proofs.change.add_edges.Goals as goal

pub returns-clause-known : goal.returns-clause-known
returns-clause-known g c =
    let before = g.G.GraphRead.meaning c.args.before.now in
    let after = g.H.GraphRead.meaning c.args.after.now in
    let start = c.args.known.now.items in
    let all = c.args.edges.now in
    mapped_all (λ edge. known_in before after (Edge edge.0)) start c.loop-edge.known.items all c.loop-edge.edge-index (omega (arith, c.loop-edge-test.false)) c.loop-edge.invariant.so_far
    ∙ ap (λ more. start ++ more) (of_edges before after all)
