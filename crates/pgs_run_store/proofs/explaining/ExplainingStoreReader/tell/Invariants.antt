use Rattle.pgs_run_store.proofs.explaining.ExplainingStoreReader.tell.Given as goal

abbrev pub ghosts-put_explained : goal.ghosts-put_explained
ghosts-put_explained g a = record { name = a.blank.name; parts = a.blank.parts }
