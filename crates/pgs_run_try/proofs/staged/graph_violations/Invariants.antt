use Rattle.pgs_run_try.proofs.staged.graph_violations.Given as goal

abbrev pub ghosts-violations_counted : goal.ghosts-violations_counted
ghosts-violations_counted a = record { name = a.blank.name; parts = a.blank.parts }
