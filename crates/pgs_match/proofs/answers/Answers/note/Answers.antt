use Rattle.pgs_match.proofs.answers.Answers.note.Goals as goal

pub returns-in-Ok-clause-noted : goal.returns-in-Ok-clause-noted
returns-in-Ok-clause-noted c = λ room of other. c.in-Ok.ensures.updates.0 (of, other.0)
