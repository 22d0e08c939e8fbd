use Rattle.std.proofs.Common.{◌∙◌, ap}
use Rattle.std.specs.List.{flat_map}
use Rattle.pgs_advice.proofs.Gathered.{edge_parts, from_none, parts_of_middle}
use Rattle.pgs_advice.proofs.words.edge_parts.Goals as goal

pub returns : goal.returns
returns c =
    from_none c.new-parts.result.items (flat_map parts_of_middle c.as_slice.result.now) _ c.new-parts.ensures.items c.in_ok-push_middles.ensures
    ∙ ap (flat_map parts_of_middle) c.as_slice.ensures ∙ edge_parts c.args.resolved.now
