-- The pairs that each form holds, and which form suits how many changes.
use Rattle.std.specs.Prelude.{List, ℕ, ◌≤◌, ◌<◌}
use Rattle.pgs_base_keyed.specs.declared.keyed.Form.{Form}
use Rattle.pgs_base_keyed.specs.declared.keyed.Form.TheVariants.{Few, Many}

abbrev pub form_rows : {K V : Type 0} → Form K V → List (K × V)
form_rows (Few rows) = rows
form_rows (Many map) = map.entries

-- a block up to sixteen changes, a tree above
abbrev pub Suits : {K V : Type 0} → ℕ → Form K V → Type 0
Suits changes (Few rows) = changes ≤ 16
Suits changes (Many map) = 16 < changes
