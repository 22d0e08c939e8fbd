use Rattle.pgs_sessions_machine.proofs.Committing.{of_commits}
use Rattle.pgs_sessions_machine.proofs.laws.the_latest_graph_is_of_the_commits.Goals as goal

pub returns : goal.returns
returns c = of_commits
