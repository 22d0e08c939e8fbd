use Rattle.std.proofs.Common.{◌∙◌, ap}
use Rattle.pgs_world.proofs.boxed_feed.BoxDynFeedFeed.shown.Goals as goal

pub returns : goal.returns
returns g c = c.shown.ensures ∙ ap (λ feed. (g.dyn-1.0.entry feed.0).1.taken feed.1) c.deref_box-1.ensures.1
