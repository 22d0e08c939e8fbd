use Rattle.pgs_run_check_try.proofs.causes.causes_behind.Given as goal

abbrev pub ghosts-changed_causes : goal.ghosts-changed_causes
ghosts-changed_causes a = record { name = a.blank.name; parts = a.blank.parts }
