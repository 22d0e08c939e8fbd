use Rattle.pgs_key_standing.proofs.Demanded.{three_added}
use Rattle.pgs_key_standing.proofs.asked.push_three.Goals as goal

pub returns : goal.returns
returns c = λ test denote. three_added c.args.demands.now.items c.push.new.self.items c.args.edge c.args.ends c.args.triples c.in_ok-push.ensures.items test denote
