use Rattle.std.proofs.Common.{◌∙◌, ap}
use Rattle.std.specs.Map.{keys_of}
use Rattle.pgs_base.specs.Order.{ascends}
use Rattle.pgs_base.proofs.Ascending.{ascends_decides}
use Rattle.pgs_product.proofs.United.{name_cmp}
use Rattle.pgs_contain.proofs.frame.frame_keys.Goals as goal

pub from_vec-requires : goal.from_vec-requires
from_vec-requires c =
    (ascends_decides name_cmp c.in_ok-names.names.items).0
    (ap (ascends name_cmp) (c.in_ok-names.ensures ∙ ap keys_of c.as_slice.ensures) ∙ c.args.shape.now.ascending)
