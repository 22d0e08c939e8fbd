use Rattle.std.proofs.Common.{◌+◌, ◌*◌, ◌≤◌, None, length, ap, sym, subst, ◌∙◌, arith}
use Rattle.std.specs.Prelude.{flat_map}
use Rattle.std.specs.Map.{keys_of}
use Rattle.pgs_check.specs.Untyped.{is_untyped_edge, least_edge, edges_at, retyped_nodes, HaveDegreesWithin}
use Rattle.pgs_check.proofs.Least.{all_settled}
use Rattle.pgs_check.proofs.Retyped.{least_retyped_in}
use Rattle.pgs_check.proofs.Steps.{least_append}
use Rattle.pgs_check.proofs.untyped.least_untyped.Goals as goal

pub least_at_changed-requires : goal.least_at_changed-requires
least_at_changed-requires g c =
    all_settled (is_untyped_edge c.args.compiled.now c.args.new.now) None c.least_changed-changed.result (keys_of c.as_slice-edges.result.now) c.least_changed-changed.ensures.least

pub returns-clause-least : goal.returns-clause-least
returns-clause-least g c =
    let old = c.args.old.now.graph in
    let graph = c.args.new.now in
    let delta = c.args.delta.now in
    let test = is_untyped_edge c.args.compiled.now graph in
    let nodes = flat_map (edges_at graph) (retyped_nodes old delta.nodes) in
    c.least_at_changed.ensures.least
    ∙ ap (λ rows. least_edge test c.least_changed-changed.result (flat_map (edges_at graph) (retyped_nodes old rows))) c.as_slice.ensures
    ∙ ap (λ found. least_edge test found nodes) (c.least_changed-changed.ensures.least ∙ ap (λ edges. least_edge test None (keys_of edges)) c.as_slice-edges.ensures)
    ∙ sym (least_append test None (keys_of delta.edges) nodes)
    ∙ least_retyped_in c.args.compiled.now old c.requires.graph delta c.requires.sound c.requires.typed graph c.requires.overlay

pub returns-clause-cost : goal.returns-clause-cost
returns-clause-cost g c = λ most within.
    let old = c.args.old.now.graph in
    let delta = c.args.delta.now in
    let edges = ap (λ rows. length rows) c.as_slice-edges.ensures in
    let whole = subst (λ rows. HaveDegreesWithin c.args.new.now (retyped_nodes old rows) most →
    c.least_at_changed.new.steps ≤ c.least_changed-changed.new.steps + length rows + length (retyped_nodes old rows) * (4 * most + 2)) c.as_slice.ensures (c.least_at_changed.ensures.cost most) within in
    omega (arith, c.least_changed-changed.ensures.cost, whole, edges)
