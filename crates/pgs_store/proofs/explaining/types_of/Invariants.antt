use Rattle.pgs_store.proofs.explaining.types_of.Given as goal

abbrev pub ghosts-types_by : goal.ghosts-types_by
ghosts-types_by g a = record { name = a.blank.name; parts = a.blank.parts }
