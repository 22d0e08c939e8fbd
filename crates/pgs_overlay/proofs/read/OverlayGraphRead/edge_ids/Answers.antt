use Rattle.std.proofs.Common.{◌∙◌, sym, ap}
use Rattle.std.specs.Map.{keys_of}
use Rattle.pgs_base.specs.Graph.{edge_cmp}
use Rattle.pgs_graph.specs.Changed.{entries_changed}
use Rattle.pgs_graph.proofs.Deltas.{ascending_edges}
use Rattle.pgs_overlay.proofs.Reading.{ids_are, ticks_are}
use Rattle.pgs_overlay.proofs.read.OverlayGraphRead.edge_ids.Goals as goal

pub changed_keys-requires : goal.changed_keys-requires
changed_keys-requires g c =
    rw (c.as_slice.ensures, c.in_ok-before.ensures) (ascending_edges (g.B.GraphRead.meaning c.self.inside.base.now) c.self.invariant.graph)

pub returns-clause-ids : goal.returns-clause-ids
returns-clause-ids g c =
    let graph = g.B.GraphRead.meaning c.self.inside.base.now in
    ids_are c.changed_keys.result (keys_of (entries_changed edge_cmp graph.edges c.as_slice-2.result.now)) (keys_of c.args.self.now.edges)
    (ap (λ l. keys_of (entries_changed edge_cmp graph.edges l)) c.as_slice-2.ensures ∙ ap (λ h. keys_of h.edges) c.self.view_is)
    (c.changed_keys.ensures.keys graph.edges (sym (c.as_slice.ensures ∙ c.in_ok-before.ensures)))

pub returns-clause-each_ticks : goal.returns-clause-each_ticks
returns-clause-each_ticks g c =
    ticks_are c.changed_keys.result c.args.self.now.edges c.args.steps.now c.changed_keys.new.steps (returns-clause-ids g c) c.changed_keys.ensures.each_ticks
