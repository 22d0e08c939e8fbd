use Rattle.pgs_overlay.proofs.read.OverlayGraphRead.edge_ids.Given as goal

abbrev pub ghosts-base_edge_ids : goal.ghosts-base_edge_ids
ghosts-base_edge_ids g a = record { name = a.blank.name; parts = a.blank.parts }
