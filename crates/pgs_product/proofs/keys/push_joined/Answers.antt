use Rattle.std.proofs.Common.{◌≡◌, ◌++◌, map}
use Rattle.std.proofs.lemmas.Result.{IfOk-weaker}
use Rattle.pgs_product.specs.Merged.{of_first, merged}
use Rattle.pgs_product.proofs.Ends.{keys_ended}
use Rattle.pgs_product.proofs.keys.push_joined.Goals as goal

pub returns-in_default-right : goal.returns-in_default-right
returns-in_default-right c =
    let a = c.args.first_free in
    let b = c.args.second_free in
    let out = c.loop-left.keys.items in
    let left = c.loop-left.left.now in
    let new = c.push_first.new.keys.items in
    let whole = c.args.keys.now.items ++ merged a b c.args.first.now c.args.second.now in
    IfOk-weaker c.push_first.result (λ _. new ≡ out ++ map (of_first b) left) (λ _. new ≡ whole)
    (λ _ pushed. keys_ended a b out new left c.loop-left.right.now whole c.in_default-right.len_below pushed c.loop-left.invariant) c.push_first.ensures
