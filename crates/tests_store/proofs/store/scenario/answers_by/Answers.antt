use Rattle.tests_store.proofs.store.scenario.answers_by.Goals as goal

pub answers_of-requires-clause-stands : goal.answers_of-requires-clause-stands
answers_of-requires-clause-stands g c = λ unfailed. c.in-Ok.ensures.answer.stands
