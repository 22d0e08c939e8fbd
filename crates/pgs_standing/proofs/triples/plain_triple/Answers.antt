use Rattle.pgs_contain.specs.Contained.{pair_in}
use Rattle.pgs_standing.proofs.Found.{found_none, found_some}
use Rattle.pgs_standing.proofs.Three.{end_test, own_test, plainest_three, none_source, none_middle, none_target}
use Rattle.pgs_standing.proofs.triples.plain_triple.Goals as goal

pub returns-in_default : goal.returns-in_default
returns-in_default c =
    let shapes = c.args.shapes.now in
    let nodes = c.args.nodes.now in
    none_middle shapes nodes (found_none (own_test shapes nodes) c.in_ok-middle.field-0 c.in_default.is c.in_ok-middle.ensures)

pub returns-in_default-2 : goal.returns-in_default-2
returns-in_default-2 c =
    let shapes = c.args.shapes.now in
    let nodes = c.args.nodes.now in
    none_source shapes nodes (found_none (end_test shapes nodes shapes.source) c.in_ok-source.field-0 c.in_default-2.is c.in_ok-source.ensures)

pub returns-in_default-3 : goal.returns-in_default-3
returns-in_default-3 c =
    let shapes = c.args.shapes.now in
    let nodes = c.args.nodes.now in
    none_target shapes nodes (found_none (end_test shapes nodes shapes.target) c.in_ok-target.field-0 c.in_default-3.is c.in_ok-target.ensures)

pub returns : goal.returns
returns c =
    let shapes = c.args.shapes.now in
    let nodes = c.args.nodes.now in
    plainest_three shapes nodes (pair_in c.in-Some-2.source) (pair_in c.in-Some.middle) (pair_in c.in-Some-3.target)
    (found_some (end_test shapes nodes shapes.source) c.in_ok-source.field-0 c.in-Some-2.source c.in-Some-2.is c.in_ok-source.ensures)
    (found_some (own_test shapes nodes) c.in_ok-middle.field-0 c.in-Some.middle c.in-Some.is c.in_ok-middle.ensures)
    (found_some (end_test shapes nodes shapes.target) c.in_ok-target.field-0 c.in-Some-3.target c.in-Some-3.is c.in_ok-target.ensures)
