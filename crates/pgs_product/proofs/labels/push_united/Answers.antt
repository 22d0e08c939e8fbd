use Rattle.std.proofs.Common.{◌≡◌, ◌++◌}
use Rattle.std.proofs.lemmas.Result.{IfOk-weaker}
use Rattle.pgs_product.specs.Merged.{united}
use Rattle.pgs_product.proofs.Ends.{names_ended}
use Rattle.pgs_product.proofs.labels.push_united.Goals as goal

pub returns-in_default-right : goal.returns-in_default-right
returns-in_default-right c =
    let out = c.loop-left.names.items in
    let left = c.loop-left.left.now in
    let new = c.push_names-in_default-right.new.united.items in
    let whole = c.args.names.now.items ++ united c.args.first.now c.args.second.now in
    IfOk-weaker c.push_names-in_default-right.result (λ _. new ≡ out ++ left) (λ _. new ≡ whole)
    (λ _ pushed. names_ended out new left c.loop-left.right.now whole c.in_default-right.len_below pushed c.loop-left.invariant)
    c.push_names-in_default-right.ensures
