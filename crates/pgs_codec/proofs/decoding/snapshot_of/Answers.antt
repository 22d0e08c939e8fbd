use Rattle.std.proofs.Common.{sym, ◌∙◌}
use Rattle.pgs_codec.proofs.Lengths.{sorted_from_test}
use Rattle.pgs_codec.proofs.Snapshots.{graph_found}
use Rattle.pgs_codec.proofs.decoding.snapshot_of.Goals as goal

pub from_vec-nodes-requires : goal.from_vec-nodes-requires
from_vec-nodes-requires c = sorted_from_test _ _ (sym (rw c.as_slice.ensures.value at c.if-not-keys_ascend.ensures))

pub returns : goal.returns
returns c =
    graph_found c.args.commits c.args.nodes.items c.from_vec.result c.args.edges.items c.from_vec-2.result
    (sym (rw c.as_slice.ensures.value at c.if-not-keys_ascend.ensures)) (sym (rw c.as_slice-else-not-keys_ascend.ensures.value at c.if-not-keys_ascend-2.ensures))
    (rw c.as_slice-2.ensures.value at c.nodes_facts.ensures) (rw c.as_slice-3.ensures.value at c.edges_facts.ensures)
    (sym (rw (c.from_vec-nodes.ensures, c.as_slice-4.ensures.value) at c.if-not-have_ends.ensures)) (c.from_vec.ensures ∙ c.into_vec.ensures.items ∙ c.from_vec-nodes.ensures) c.from_vec-2.ensures
