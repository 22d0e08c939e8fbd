use Rattle.std.proofs.Common.{List, ap, ◌∙◌}
use Rattle.std.specs.List.{flat_map}
use denote.Bor.{Bor}
use Rattle.pgs_syntax.specs.declared.raw.RawKey.{RawKey}
use Rattle.pgs_syntax.specs.declared.script.GraphType.{GraphType}
use Rattle.pgs_resolve_declared.proofs.Firsts.{flat_map_through}
use Rattle.pgs_key_causes.proofs.guide.KeyGuide.new.Goals as goal

abbrev lent : Bor GraphType → GraphType
lent graph = graph.now

abbrev keys_in : GraphType → List RawKey
keys_in graph = graph.keys

abbrev keys_at : Bor GraphType → List RawKey
keys_at graph = graph.now.keys

pub returns : goal.returns
returns c script are = record {
  keys = c.in_ok-keys.ensures ∙ ap (flat_map keys_at) c.deref.ensures.value ∙ flat_map_through lent keys_in c.in_ok-graphs.graphs.items
      ∙ ap (flat_map keys_in) (c.in_ok-graphs.ensures script are);
  texts = c.in_ok-texts.ensures script are;
  parts = c.in_ok-parts.ensures script are;
  numbering = c.in_ok-numbering.ensures script are;
}
