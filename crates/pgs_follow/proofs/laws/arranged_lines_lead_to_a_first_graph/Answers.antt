use Rattle.pgs_follow.proofs.Arrangements.{arranged}
use Rattle.pgs_follow.proofs.laws.arranged_lines_lead_to_a_first_graph.Goals as goal

pub returns : goal.returns
returns c = arranged
