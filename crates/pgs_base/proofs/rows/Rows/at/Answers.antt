use Rattle.std.proofs.Common.{◌<◌, length, slice_get, OnSome, ap, subst, ◌∙◌}
use Rattle.pgs_base.proofs.Items.{item_read, item_within}
use Rattle.pgs_base.proofs.rows.Rows.at.Goals as goal

pub returns-clause-value : goal.returns-clause-value
returns-clause-value g c =
    item_read c.deref.result.now c.args.place c.get.result c.get.ensures.lookup ∙ ap (λ l. slice_get l c.args.place) (c.deref.ensures.value ∙ c.self.view_is)

pub returns-clause-within : goal.returns-clause-within
returns-clause-within g c =
    subst (λ l. OnSome c.get.result (c.args.place < length l)) (c.deref.ensures.value ∙ c.self.view_is) (item_within c.deref.result.now c.args.place c.get.result c.get.ensures.lookup)
