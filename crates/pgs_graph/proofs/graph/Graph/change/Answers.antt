use Rattle.std.proofs.Common.{◌≡◌, ◌∙◌, sym, ap, subst, true}
use Rattle.pgs_base.specs.Graph.{Graph, node_cmp, edge_cmp, is_graph}
use Rattle.pgs_base_slots.specs.Slots.{present}
use Rattle.pgs_graph.specs.declared.scan.End.TheVariants.{Source, Target}
use Rattle.pgs_graph.specs.Changed.{entries_changed, changed}
use Rattle.pgs_graph.specs.Lists.{AreListed}
use Rattle.pgs_graph.proofs.Deltas.{ascending_changed_edges, changed_graph}
use Rattle.pgs_graph.proofs.graph.Graph.change.Goals as goal

pub relist_edges-requires-clause-ascending : goal.relist_edges-requires-clause-ascending
relist_edges-requires-clause-ascending c = rw c.as_slice-changes.ensures (ascending_changed_edges c.args.self.now c.args.delta c.requires)

pub relist_edges-requires-2-clause-ascending : goal.relist_edges-requires-2-clause-ascending
relist_edges-requires-2-clause-ascending c = rw c.as_slice-changes.ensures (ascending_changed_edges c.args.self.now c.args.delta c.requires)

pub returns-clause-ok : goal.returns-clause-ok
returns-clause-ok c =
    let nodes = c.change_rows.ensures ∙ ap (λ rows. entries_changed node_cmp rows c.args.delta.nodes) c.in_ok-make_slots.ensures.rows in
    let edges = c.change_rows-2.ensures ∙ ap (λ rows. entries_changed edge_cmp rows c.args.delta.edges) c.in_ok-make_slots-2.ensures.rows in
    (λ i. record { nodes = nodes i; edges = edges i }) ∙ ap (λ (g : Graph). changed g c.args.delta) c.self.view_is

pub invariant_of-self-2 : goal.invariant_of-self-2
invariant_of-self-2 c =
    let edges = c.change_rows-2.ensures ∙ ap (λ rows. entries_changed edge_cmp rows c.args.delta.edges) c.in_ok-make_slots-2.ensures.rows in
    let made : record { nodes = present c.change_rows.new.rows; edges = present c.change_rows-2.new.rows } ≡ changed c.args.self.now c.args.delta = returns-clause-ok c in
    let before = present c.self.inside.edges in
    let outgoing : AreListed Source (entries_changed edge_cmp before c.args.delta.edges) (present c.change_rows-3.new.rows) =
    rw (c.change_rows-3.ensures, c.in_ok-make_slots-3.ensures.rows, ← c.as_slice-changes.ensures) c.in_ok-outgoing.ensures.listed in
    let incoming : AreListed Target (entries_changed edge_cmp before c.args.delta.edges) (present c.change_rows-4.new.rows) =
    rw (c.change_rows-4.ensures, c.in_ok-make_slots-4.ensures.rows, ← c.as_slice-changes.ensures) c.in_ok-incoming.ensures.listed in
    record {
      graph = subst (λ (g : Graph). is_graph g ≡ true) (sym made) (changed_graph c.args.self.now c.args.delta c.requires);
      outgoing = subst (λ rows. AreListed Source rows (present c.change_rows-3.new.rows)) (sym edges) outgoing;
      incoming = subst (λ rows. AreListed Target rows (present c.change_rows-4.new.rows)) (sym edges) incoming;
    }
