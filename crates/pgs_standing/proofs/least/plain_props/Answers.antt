use Rattle.std.proofs.Common.{◌∙◌, ap}
use Rattle.std.specs.Map.{keys_of}
use Rattle.pgs_base.specs.Order.{ascends}
use Rattle.pgs_base.proofs.Ascending.{ascends_decides}
use Rattle.pgs_product.proofs.United.{name_cmp}
use Rattle.pgs_standing.specs.Common.{plain_props}
use Rattle.pgs_standing.proofs.Fewest.{props_ascend}
use Rattle.pgs_standing.proofs.least.plain_props.Goals as goal

pub from_vec-requires : goal.from_vec-requires
from_vec-requires c =
    (ascends_decides name_cmp (keys_of c.in_ok-rows.rows.items)).0
    (ap (λ rows. ascends name_cmp (keys_of rows)) (c.in_ok-rows.ensures ∙ ap plain_props c.as_slice.ensures)
    ∙ props_ascend c.args.shape.now.keys c.args.shape.now.ascending)
