use Rattle.std.proofs.Common.{◌≡◌, ◌*◌, ℕ, sym, subst, arith}
use Rattle.pgs_base.specs.Graph.{Graph}
use Rattle.pgs_graph.specs.declared.delta.Delta.{Delta}
use Rattle.pgs_check_affected.specs.Changes.{elems_of}
use Rattle.pgs_check_affected.specs.Touched.{AreSparse, touched}
use Rattle.pgs_decide.proofs.Degrees.{delta_low}
use Rattle.pgs_decide.proofs.deciding.checked_changes.Goals as goal

-- of the changed graph, and so of the overlay that is it
moved : (g h overlay : Graph) (delta : Delta) (near most : ℕ) → overlay ≡ h → AreSparse g h near (touched g (elems_of delta)) most →
    AreSparse g overlay near (touched g (elems_of delta)) most
moved g h overlay delta near most same sparse = subst (λ k. AreSparse g k near (touched g (elems_of delta)) most) (sym same) sparse

pub returns-in_err-overlay-clause-cost : goal.returns-in_err-overlay-clause-cost
returns-in_err-overlay-clause-cost g c = λ edges most few sparse.
    let over = c.new.ensures.cost most (delta_low c.args.graph.now.graph c.args.delta.now c.count-count.ensures.graph c.requires.sound (2 * edges) most sparse) in
    omega arith

pub returns-in-Ok-clause-cost : goal.returns-in-Ok-clause-cost
returns-in-Ok-clause-cost g c = λ edges most few sparse.
    let graph = c.args.graph.now.graph in
    let over = c.new.ensures.cost most (delta_low graph c.args.delta.now c.count-count.ensures.graph c.requires.sound (2 * edges) most sparse) in
    let all = c.check.ensures.cost edges most few (moved graph _ c.in_ok-overlay.overlay c.args.delta.now (2 * edges) most c.in_ok-overlay.ensures.graph sparse) in
    omega arith

pub returns-in-Err-Memory-clause-cost : goal.returns-in-Err-Memory-clause-cost
returns-in-Err-Memory-clause-cost g c = λ edges most few sparse.
    let graph = c.args.graph.now.graph in
    let over = c.new.ensures.cost most (delta_low graph c.args.delta.now c.count-count.ensures.graph c.requires.sound (2 * edges) most sparse) in
    let all = c.check.ensures.cost edges most few (moved graph _ c.in_ok-overlay.overlay c.args.delta.now (2 * edges) most c.in_ok-overlay.ensures.graph sparse) in
    omega arith

pub returns-clause-cost : goal.returns-clause-cost
returns-clause-cost g c = λ edges most few sparse.
    let graph = c.args.graph.now.graph in
    let over = c.new.ensures.cost most (delta_low graph c.args.delta.now c.count-count.ensures.graph c.requires.sound (2 * edges) most sparse) in
    let all = c.check.ensures.cost edges most few (moved graph _ c.in_ok-overlay.overlay c.args.delta.now (2 * edges) most c.in_ok-overlay.ensures.graph sparse) in
    omega arith
