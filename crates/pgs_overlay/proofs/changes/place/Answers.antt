use Rattle.std.proofs.Common.{rules}
use Rattle.std.proofs.lemmas.Fn.{always_returns_same}
use Rattle.pgs_base.proofs.Places.{entry_searched}
use Rattle.pgs_overlay.proofs.changes.place.Goals as goal

pub returns : goal.returns
returns g c =
    entry_searched g.met.K.Ord.total c.args.key.now c.args.changes.now c.requires c.binary_search_by.result c.binary_search_by.ensures.bound
    (c.binary_search_by.ensures.position (λ e. g.K.Ord.cmp e.0 c.args.key.now) (always_returns_same _ _ _ (λ a r f' k. search rules)))
