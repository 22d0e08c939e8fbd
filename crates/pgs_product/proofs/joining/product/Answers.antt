use Rattle.std.proofs.Common.{◌∙◌, ap}
use Rattle.std.specs.Map.{keys_of}
use Rattle.pgs_base.specs.Order.{ascends}
use Rattle.pgs_product.specs.Merged.{merged}
use Rattle.pgs_product.proofs.Exact.{product_exact}
use Rattle.pgs_product.proofs.Keyed.{ascends_merged}
use Rattle.pgs_product.proofs.United.{name_cmp}
use Rattle.pgs_product.proofs.joining.product.Goals as goal

pub invariant_of-result : goal.invariant_of-result
invariant_of-result c =
    let a = c.args.first.now in
    let b = c.args.second.now in
    let free = c.free_options.result in
    let other = c.free_options-2.result in
    let own = c.from_vec.ensures ∙ c.in_ok-keys.ensures ∙ ap (λ keys. merged free other keys c.as_slice-2.result.now) c.as_slice.ensures
    ∙ ap (merged free other a.keys) c.as_slice-2.ensures in
    record { ascending = ap (λ keys. ascends name_cmp (keys_of keys)) own ∙ ascends_merged free other a.keys b.keys a.ascending b.ascending }

pub returns : goal.returns
returns c =
    let a = c.args.first.now in
    let b = c.args.second.now in
    let free = c.free_options.result in
    let other = c.free_options-2.result in
    let own = c.from_vec.ensures ∙ c.in_ok-keys.ensures ∙ ap (λ keys. merged free other keys c.as_slice-2.result.now) c.as_slice.ensures
    ∙ ap (merged free other a.keys) c.as_slice-2.ensures in
    λ p pair. product_exact a b _ free other _ c.in_ok-labels.ensures c.free_options.ensures c.free_options-2.ensures own p pair
