use Rattle.pgguard.proofs.program.run_program.Goals as goal

pub returns : goal.returns
returns g c = record { start = c.in_ok-opened.opened; opened = c.in_ok-opened.ensures; promise = c.run-status.ensures.promise; gives = c.run-status.ensures.gives; last = c.run-status.ensures.last; calls = c.run-status.ensures.calls }
