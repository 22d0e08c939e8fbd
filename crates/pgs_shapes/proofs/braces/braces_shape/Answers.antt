use Rattle.std.proofs.Common.{◌∙◌, ap, map}
use Rattle.std.specs.Map.{keys_of, lookup}
use Rattle.pgs_base.specs.Order.{ascends}
use Rattle.pgs_base.specs.Pair.{same_name}
use Rattle.pgs_product.proofs.United.{name_cmp}
use Rattle.pgs_shapes.specs.Properties.{are_apart, key_of}
use Rattle.pgs_shapes.proofs.Braced.{braces_meet}
use Rattle.pgs_shapes.proofs.braces.braces_shape.Goals as goal

pub returns : goal.returns
returns c = λ apart.
    let braces = c.args.braces.now in
    braces_meet braces _ c.from_vec.result c.new.ensures
    (ap (λ keys. ascends name_cmp (keys_of keys)) c.from_vec.ensures ∙ c.in_ok-keys.ensures.ascending) apart
    (λ k. ap (lookup (same_name k)) c.from_vec.ensures ∙ c.in_ok-keys.ensures.same (ap are_apart c.as_slice.ensures ∙ apart) k
    ∙ ap (λ properties. lookup (same_name k) (map key_of properties)) c.as_slice.ensures)
