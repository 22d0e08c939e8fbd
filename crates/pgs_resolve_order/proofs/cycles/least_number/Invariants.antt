use Rattle.pgs_resolve_order.proofs.cycles.least_number.Given as goal

abbrev pub ghosts-least_counted : goal.ghosts-least_counted
ghosts-least_counted a = record { name = a.blank.name; parts = a.blank.parts }
