use Rattle.pgs_store.proofs.checkpointing.frames_with.Given as goal

abbrev pub ghosts-snapshot_of : goal.ghosts-snapshot_of
ghosts-snapshot_of a = record { name = a.blank.name; parts = a.blank.parts }
