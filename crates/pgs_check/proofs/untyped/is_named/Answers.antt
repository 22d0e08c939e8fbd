use Rattle.std.proofs.Common.{◌∙◌, sym, rules}
use Rattle.std.proofs.lemmas.Fn.{always_returns_same}
use Rattle.pgs_base.specs.Graph.{edge_cmp}
use Rattle.pgs_check.proofs.Least.{named_there}
use Rattle.pgs_check.proofs.untyped.is_named.Goals as goal

pub returns : goal.returns
returns c = λ named.
    named_there c.args.id c.args.changes.now c.binary_search_by-place.result
    (c.binary_search_by-place.ensures.position (λ e. edge_cmp e.0 c.args.id) (always_returns_same _ _ _ (λ a r f' k. search rules)))
    c.binary_search_by-place.ensures.bound (sym c.is_ok.ensures.value ∙ named)
