use Rattle.std.proofs.Common.{◌∙◌, sym, ap}
use Rattle.std.specs.Map.{keys_of}
use Rattle.pgs_base.specs.Graph.{node_cmp}
use Rattle.pgs_graph.specs.Changed.{entries_changed}
use Rattle.pgs_graph.proofs.Deltas.{ascending_nodes}
use Rattle.pgs_overlay.proofs.Reading.{ids_are, ticks_are}
use Rattle.pgs_overlay.proofs.read.OverlayGraphRead.node_ids.Goals as goal

pub changed_keys-requires : goal.changed_keys-requires
changed_keys-requires g c =
    rw (c.as_slice.ensures, c.in_ok-before.ensures) (ascending_nodes (g.B.GraphRead.meaning c.self.inside.base.now) c.self.invariant.graph)

pub returns-clause-ids : goal.returns-clause-ids
returns-clause-ids g c =
    let graph = g.B.GraphRead.meaning c.self.inside.base.now in
    ids_are c.changed_keys.result (keys_of (entries_changed node_cmp graph.nodes c.as_slice-2.result.now)) (keys_of c.args.self.now.nodes)
    (ap (λ l. keys_of (entries_changed node_cmp graph.nodes l)) c.as_slice-2.ensures ∙ ap (λ h. keys_of h.nodes) c.self.view_is)
    (c.changed_keys.ensures.keys graph.nodes (sym (c.as_slice.ensures ∙ c.in_ok-before.ensures)))

pub returns-clause-each_ticks : goal.returns-clause-each_ticks
returns-clause-each_ticks g c =
    ticks_are c.changed_keys.result c.args.self.now.nodes c.args.steps.now c.changed_keys.new.steps (returns-clause-ids g c) c.changed_keys.ensures.each_ticks
