use Rattle.pgs_run_gen.proofs.running.reply_of.Given as goal

abbrev pub ghosts-decided_by : goal.ghosts-decided_by
ghosts-decided_by a = record { name = a.blank.name; parts = a.blank.parts }
