use Rattle.pgs_key_standing.proofs.Demanded.{one_added}
use Rattle.pgs_key_standing.proofs.asked.push_at.Goals as goal

pub returns : goal.returns
returns c = λ test denote. one_added c.args.demands.now.items c.push.new.self.items c.args.place c.args.shapes c.in_ok-push.ensures.items test denote
