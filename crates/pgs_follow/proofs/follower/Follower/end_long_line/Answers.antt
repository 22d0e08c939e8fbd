use Rattle.std.proofs.Common.{sym, ◌∙◌}
use Rattle.pgs_follow.proofs.Following.{long_ends}
use Rattle.pgs_follow.proofs.follower.Follower.end_long_line.Goals as goal

pub returns-clause-followed : goal.returns-clause-followed
returns-clause-followed c =
    let old = c.args.self.now in
    c.end_too_long.ensures.followed ∙ sym (long_ends old.limits old.followed old.line c.args.part.now c.requires.follows c.requires.long)
