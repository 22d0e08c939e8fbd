use Rattle.std.proofs.Common.{sym, subst}
use Rattle.std.proofs.lemmas.Result.{IfOk-weaker}
use Rattle.pgs_contain.specs.Strange.{AreTriplesOf}
use Rattle.pgs_contain.proofs.Answers.{edge_answers}
use Rattle.pgs_contain.proofs.containment.outside_of_edge.Goals as goal

pub returns : goal.returns
returns c = λ second typed.
    let own : AreTriplesOf c.args.first.now c.args.number c.shapes_of_edge.result.now = record { denote = c.shapes_of_edge.ensures.denote; within = c.shapes_of_edge.ensures.within } in
    IfOk-weaker c.outside_of_triples.result _ _
    (edge_answers c.args.further.now.avoid.now c.args.first.now c.args.number second c.as_slice.result.now c.args.others.now
    (subst (AreTriplesOf c.args.first.now c.args.number) (sym c.as_slice.ensures) own) typed) c.outside_of_triples.ensures
