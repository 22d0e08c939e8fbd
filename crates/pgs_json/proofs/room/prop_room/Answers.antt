use Rattle.std.proofs.Common.{◌∷◌, arith, length-append}
use Rattle.pgs_base_text.specs.Text.{quoted}
use Rattle.pgs_json.specs.Canonical.{value_text}
use Rattle.pgs_json.proofs.Rooms.{quoted_text}
use Rattle.pgs_json.proofs.room.prop_room.Goals as goal

pub returns-clause-bounded : goal.returns-clause-bounded
returns-clause-bounded c =
    omega (arith, length-append (quoted c.args.name.now) (58 ∷ value_text c.args.value.now), (quoted_text c.args.name.now).0)
