use Rattle.std.proofs.Common.{◌++◌, ap, ◌∙◌, arith}
use Rattle.pgs_base.specs.declared.element.Elem.TheVariants.{Node}
use Rattle.pgs_check_affected.specs.Changes.{known_in}
use Rattle.pgs_check_affected.proofs.Knowing.{of_nodes}
use Rattle.pgs_check_affected.proofs.Loops.{mapped_all}
use Rattle.pgs_check_affected.proofs.change.add_nodes.Goals as goal

pub returns-clause-known : goal.returns-clause-known
returns-clause-known g c =
    let before = g.G.GraphRead.meaning c.args.before.now in
    let after = g.H.GraphRead.meaning c.args.after.now in
    let start = c.args.known.now.items in
    let all = c.args.nodes.now in
    mapped_all (λ node. known_in before after (Node node.0)) start c.loop-node.known.items all c.loop-node.node-index (omega (arith, c.loop-node-test.false)) c.loop-node.invariant.so_far
    ∙ ap (λ more. start ++ more) (of_nodes before after all)
