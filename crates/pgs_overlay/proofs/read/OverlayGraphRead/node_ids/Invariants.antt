use Rattle.pgs_overlay.proofs.read.OverlayGraphRead.node_ids.Given as goal

abbrev pub ghosts-base_node_ids : goal.ghosts-base_node_ids
ghosts-base_node_ids g a = record { name = a.blank.name; parts = a.blank.parts }
