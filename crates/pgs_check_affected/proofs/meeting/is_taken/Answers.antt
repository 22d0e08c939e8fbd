use Rattle.pgs_check_affected.proofs.meeting.is_taken.Goals as goal

pub returns-else-takes : goal.returns-else-takes
returns-else-takes c = λ is. (c.takes.ensures c.if-takes.false, c.takes-else-takes.ensures is)
