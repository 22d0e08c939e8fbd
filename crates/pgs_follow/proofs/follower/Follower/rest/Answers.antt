use Rattle.std.proofs.Common.{◌∙◌}
use Rattle.pgs_follow.proofs.Standing.{rest_told}
use Rattle.pgs_follow.proofs.follower.Follower.rest.Goals as goal

pub returns-clause-stands : goal.returns-clause-stands
returns-clause-stands c = λ bytes stands. c.unfinished_len.ensures ∙ rest_told c.args.self.now bytes stands
