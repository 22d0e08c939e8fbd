use Rattle.std.proofs.Common.{List, [], ◌++◌, map, ap, ◌∙◌}
use denote.Bor.{Bor}
use Rattle.pgs_syntax.specs.declared.raw.RawKey.{RawKey}
use Rattle.pgs_syntax.specs.declared.script.GraphType.{GraphType}
use Rattle.pgs_resolve_declared.proofs.Walks.{more_of}
use Rattle.pgs_key_causes.proofs.guide.keys_of.Goals as goal

abbrev lent : Bor RawKey → RawKey
lent key = key.now

abbrev keys_at : Bor GraphType → List RawKey
keys_at graph = graph.now.keys

pub loop-graph-preserved : goal.loop-graph-preserved
loop-graph-preserved c =
    more_of keys_at [] c.args.graphs.now c.loop-graph.graph-index c.graph-item.result (map lent c.loop-graph.keys.items) (map lent c.push_keys.new.keys.items)
    c.loop-graph-test.true c.graph-item.is c.loop-graph.invariant
    (c.in_ok-push_keys.ensures ∙ ap (λ (keys : List RawKey). map lent c.loop-graph.keys.items ++ keys) c.as_slice.ensures)
