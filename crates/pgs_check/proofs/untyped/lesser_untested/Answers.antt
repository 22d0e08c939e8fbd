use Rattle.std.specs.Map.{keys_of}
use Rattle.pgs_check.specs.Untyped.{is_untyped_edge}
use Rattle.pgs_check.proofs.Least.{settled_stays}
use Rattle.pgs_check.proofs.untyped.lesser_untested.Goals as goal

pub returns-then-is_named-clause-least : goal.returns-then-is_named-clause-least
returns-then-is_named-clause-least g c =
    settled_stays (is_untyped_edge c.args.compiled.now (g.G.GraphRead.meaning c.args.graph.now)) (keys_of c.args.tested.now) c.args.found c.requires c.args.id
    (c.is_named.ensures c.if-is_named.true)
