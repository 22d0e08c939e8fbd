use Rattle.std.proofs.Common.{◌∙◌, ap}
use Rattle.std.specs.Map.{keys_of}
use Rattle.std.proofs.lemmas.Bool.{and_parts}
use Rattle.pgs_base.specs.Order.{ascends}
use Rattle.pgs_base.proofs.Ascending.{ascends_decides}
use Rattle.pgs_product.proofs.United.{name_cmp}
use Rattle.pgs_contain.specs.Rows.{plain_rows}
use Rattle.pgs_contain.proofs.Plain.{rows_ascend}
use Rattle.pgs_contain.proofs.witness.plain_props.Goals as goal

pub from_vec-requires : goal.from_vec-requires
from_vec-requires c =
    (ascends_decides name_cmp (keys_of c.in_ok-rows.rows.items)).0
    (ap (λ rows. ascends name_cmp (keys_of rows)) (c.in_ok-rows.ensures ∙ ap (λ ks. plain_rows ks c.args.region.now) c.as_slice.ensures.value)
    ∙ rows_ascend c.args.keys.now c.args.region.now (and_parts _ _ c.as_slice.ensures.names).0)
