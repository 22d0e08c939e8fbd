use Rattle.pgs_resolve.proofs.Computed as samples
use Rattle.pgs_resolve.proofs.samples.causes.Goals as goal

pub returns-clause-names_nothing : goal.returns-clause-names_nothing
returns-clause-names_nothing c = samples.causes_names_nothing

pub returns-clause-leaves_x_out : goal.returns-clause-leaves_x_out
returns-clause-leaves_x_out c = samples.causes_leaves_x_out

pub returns-clause-node_and_edge : goal.returns-clause-node_and_edge
returns-clause-node_and_edge c = samples.causes_node_and_edge

pub returns-clause-shares_y : goal.returns-clause-shares_y
returns-clause-shares_y c = samples.causes_shares_y

pub returns-clause-apart : goal.returns-clause-apart
returns-clause-apart c = samples.causes_apart

pub returns-clause-reads_y : goal.returns-clause-reads_y
returns-clause-reads_y c = samples.causes_reads_y

pub returns-clause-of_five_paths : goal.returns-clause-of_five_paths
returns-clause-of_five_paths c = samples.causes_of_five_paths

pub returns-clause-too_late : goal.returns-clause-too_late
returns-clause-too_late c = samples.causes_too_late

pub returns-clause-linked : goal.returns-clause-linked
returns-clause-linked c = samples.causes_linked

pub returns-clause-of_nine_edges : goal.returns-clause-of_nine_edges
returns-clause-of_nine_edges c = samples.causes_of_nine_edges

pub returns-clause-of_eight_edges : goal.returns-clause-of_eight_edges
returns-clause-of_eight_edges c = samples.causes_of_eight_edges

pub returns-clause-of_17_expressions : goal.returns-clause-of_17_expressions
returns-clause-of_17_expressions c = samples.causes_of_17_expressions

pub returns-clause-of_16_expressions : goal.returns-clause-of_16_expressions
returns-clause-of_16_expressions c = samples.causes_of_16_expressions
