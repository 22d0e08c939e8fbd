use Rattle.std.proofs.Common.{◌∙◌, ap, arith}
use Rattle.std.specs.Map.{keys_of, lookup}
use Rattle.std.proofs.lemmas.Result.{IfOk-weaker}
use Rattle.pgs_base.specs.Order.{ascends}
use Rattle.pgs_base.specs.Pair.{same_name}
use Rattle.pgs_product.specs.Merged.{merged}
use Rattle.pgs_product.proofs.Halved.{front_fits, back_fits}
use Rattle.pgs_product.proofs.Keyed.{ascends_merged}
use Rattle.pgs_product.proofs.United.{name_cmp}
use Rattle.pgs_shapes.proofs.Braced.{cut_whole, halves_same}
use Rattle.pgs_shapes.proofs.braces.+keys_of.Goals as goal

pub returns-in_ok-second-in_default-clause-ascending : goal.returns-in_ok-second-in_default-clause-ascending
returns-in_ok-second-in_default-clause-ascending t c =
    let closed = c.free_options-closed.result in
    let first = c.in_ok-first-in_default.first.items in
    let second = c.in_ok-second-in_default.second.items in
    let halves = ap (λ keys. merged closed closed keys c.deref-in_default.result.now) c.deref.ensures.value
    ∙ ap (merged closed closed first) c.deref-in_default.ensures.value in
    IfOk-weaker c.join_keys.result _ _
    (λ keys is. ap (λ own. ascends name_cmp (keys_of own)) (is ∙ halves)
    ∙ ascends_merged closed closed first second c.in_ok-first-in_default.ensures.ascending c.in_ok-second-in_default.ensures.ascending) c.join_keys.ensures

pub returns-in_ok-second-in_default-clause-same : goal.returns-in_ok-second-in_default-clause-same
returns-in_ok-second-in_default-clause-same t c =
    let closed = c.free_options-closed.result in
    let first = c.in_ok-first-in_default.first.items in
    let second = c.in_ok-second-in_default.second.items in
    let properties = c.args.properties.now in
    let front = c.split_at.result.0.now in
    let back = c.split_at.result.1.now in
    let halves = ap (λ keys. merged closed closed keys c.deref-in_default.result.now) c.deref.ensures.value
    ∙ ap (merged closed closed first) c.deref-in_default.ensures.value ∙ ap (λ free. merged free free first second) c.free_options-closed.ensures in
    let whole = cut_whole _ properties front back c.split_at.ensures.front c.split_at.ensures.back in
    IfOk-weaker c.join_keys.result _ _
    (λ keys is apart k. ap (lookup (same_name k)) (is ∙ halves)
    ∙ halves_same properties front back first second whole c.in_ok-first-in_default.ensures.ascending c.in_ok-second-in_default.ensures.ascending
    c.in_ok-first-in_default.ensures.same c.in_ok-second-in_default.ensures.same apart k) c.join_keys.ensures

pub keys_of-requires : goal.keys_of-requires
keys_of-requires t c =
    let fits = front_fits c.args.properties.now _ c.args.further c.in_default.len_at_least c.requires c.split_at.ensures.front in
    let left = fits.0 in (omega arith, fits.1)

pub keys_of-requires-in_default : goal.keys_of-requires-in_default
keys_of-requires-in_default t c =
    let fits = back_fits c.args.properties.now _ c.args.further c.in_default.len_at_least c.requires c.split_at.ensures.back in
    let left = fits.0 in (omega arith, fits.1)
