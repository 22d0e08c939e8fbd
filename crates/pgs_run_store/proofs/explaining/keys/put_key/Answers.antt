use Rattle.pgs_run_store.proofs.explaining.keys.put_key.Goals as goal

pub returns-in-Some-clause-puts : goal.returns-in-Some-clause-puts
returns-in-Some-clause-puts g c = rw (← c.in-Some.ensures.values) c.put_scope.ensures.puts
