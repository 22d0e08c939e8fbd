use Rattle.std.proofs.Common.{map, ◌∙◌, ap}
use Rattle.std.specs.Map.{keys_of}
use Rattle.pgs_base.specs.Order.{ascends}
use Rattle.pgs_base.proofs.Ascending.{ascends_decides}
use Rattle.pgs_product.proofs.United.{name_cmp}
use Rattle.pgs_standing.specs.Common.{common_key}
use Rattle.pgs_standing.proofs.Shared.{keys_common, shape_common}
use Rattle.pgs_standing.proofs.in_common.common_shape.Goals as goal

pub invariant_of-result : goal.invariant_of-result
invariant_of-result c =
    let a = c.args.first.now in
    let b = c.args.second.now in
    let names = c.in_ok-names.names in
    let own = c.from_vec.ensures ∙ c.in_ok-keys.ensures ∙ ap (map (common_key a b)) c.as_slice.ensures.value in
    record { ascending = ap (λ keys. ascends name_cmp (keys_of keys)) own ∙ ap (ascends name_cmp) (keys_common a b names) ∙ (ascends_decides name_cmp names).1 c.as_slice.ensures.ascending }

pub returns : goal.returns
returns c =
    let a = c.args.first.now in
    let b = c.args.second.now in
    let names = c.in_ok-names.names in
    let own = c.from_vec.ensures ∙ c.in_ok-keys.ensures ∙ ap (map (common_key a b)) c.as_slice.ensures.value in
    λ p pair. shape_common a b c.in_ok-labels.labels names c.from_vec.result c.in_ok-labels.ensures c.in_ok-names.ensures
    ((ascends_decides name_cmp names).1 c.as_slice.ensures.ascending) own c.requires p pair
