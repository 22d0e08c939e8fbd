use Rattle.pgs_run_contain.proofs.types.put_guard.Goals as goal

pub returns-clause-answer : goal.returns-clause-answer
returns-clause-answer g c = record { told = c.put_all_types-told.result; is = c.stop_by.ensures; tells = c.put_all_types-told.ensures.answer }
