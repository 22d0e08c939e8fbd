use Rattle.std.proofs.Common.{◌<◌, length, slice_get, OnSome, ap, subst, ◌∙◌}
use Rattle.pgs_base.proofs.Items.{item_read, item_within}
use Rattle.pgs_base.proofs.labels.Labels.at.Goals as goal

pub returns-clause-value : goal.returns-clause-value
returns-clause-value c =
    item_read c.as_slice.result.now c.args.place c.get.result c.get.ensures.lookup ∙ ap (λ l. slice_get l c.args.place) c.as_slice.ensures.value

pub returns-clause-within : goal.returns-clause-within
returns-clause-within c =
    subst (λ l. OnSome c.get.result (c.args.place < length l)) c.as_slice.ensures.value (item_within c.as_slice.result.now c.args.place c.get.result c.get.ensures.lookup)
