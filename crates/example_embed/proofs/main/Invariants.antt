use Rattle.example_embed.proofs.main.Given as goal

abbrev pub ghosts-apply : goal.ghosts-apply
ghosts-apply a = record { name = a.blank.name; parts = a.blank.parts }
