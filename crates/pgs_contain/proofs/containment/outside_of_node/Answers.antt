use Rattle.std.proofs.Common.{sym, subst}
use Rattle.std.proofs.lemmas.Result.{IfOk-weaker}
use Rattle.pgs_contain.specs.Strange.{AreShapesOf}
use Rattle.pgs_contain.proofs.Answers.{node_answers}
use Rattle.pgs_contain.proofs.containment.outside_of_node.Goals as goal

pub returns : goal.returns
returns c = λ second typed.
    let own : AreShapesOf c.args.first.now c.args.number c.shapes_of_node.result.now = record { denote = c.shapes_of_node.ensures.denote; within = c.shapes_of_node.ensures.within } in
    IfOk-weaker c.outside_of_shapes.result _ _
    (node_answers c.args.further.now.avoid.now c.args.first.now c.args.number second c.as_slice.result.now c.args.others.now
    (subst (AreShapesOf c.args.first.now c.args.number) (sym c.as_slice.ensures) own) typed) c.outside_of_shapes.ensures
