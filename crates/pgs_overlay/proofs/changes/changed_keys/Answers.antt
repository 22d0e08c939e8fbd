use Rattle.std.proofs.Common.{◌∙◌, sym}
use Rattle.pgs_overlay.proofs.changes.changed_keys.Goals as goal

pub returns-clause-keys : goal.returns-clause-keys
returns-clause-keys g c entries e = c.in_ok-keys-2.ensures ∙ c.in_ok-change_keys.ensures entries (e ∙ sym c.in_ok-keys.ensures)
