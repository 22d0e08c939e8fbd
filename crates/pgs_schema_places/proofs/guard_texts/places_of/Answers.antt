use Rattle.std.proofs.Common.{List, ℕ, ◌++◌, map, ap, ◌∙◌}
use Rattle.std.specs.List.{flat_map}
use Rattle.std.proofs.lemmas.List.{take_all}
use Rattle.pgs_syntax.specs.declared.raw.RawKey.{RawKey}
use Rattle.pgs_schema_places.specs.KeyTexts.{place_of}
use Rattle.pgs_schema_places.proofs.Keyed.{keys_at, more_places}
use Rattle.pgs_schema_places.proofs.guard_texts.places_of.Goals as goal

pub loop-graph-preserved : goal.loop-graph-preserved
loop-graph-preserved c =
    more_places c.args.graphs.now c.loop-graph.graph-index c.graph-item.result c.loop-graph.places.items c.push_places.new.places.items
    c.loop-graph-test.true c.graph-item.is c.loop-graph.invariant
    (c.in_ok-push_places.ensures ∙ ap (λ (keys : List RawKey). c.loop-graph.places.items ++ map place_of keys) c.as_slice.ensures)

pub returns : goal.returns
returns c = c.loop-graph.invariant ∙ ap (λ graphs. map place_of (flat_map keys_at graphs)) (take_all c.loop-graph.graph-index c.args.graphs.now c.loop-graph-test.false)
