use Rattle.std.proofs.Common.{◌≡◌, ◌+◌, ◌*◌, ◌^◌, ◌≤◌, ℕ, [], take}
use Rattle.std.specs.Prelude.{filter_map}
use Rattle.pgs_syntax.specs.KeyValues.{key_values}
use Rattle.pgs_match.specs.Learned.{IsLearned}
use Rattle.pgs_match.specs.Near.{HasDegreesWithin}
use Rattle.pgs_match.specs.Planned.{most_edges}
use Rattle.pgs_scratch.specs.Confirmed.{sharing_if_later}
use Rattle.pgs_scratch.proofs.key_search.KeySearch.first_sharer.Given as goal

abbrev pub invariant-loop-other : goal.invariant-loop-other
invariant-loop-other g l = record {
  none_so_far : [] ≡ filter_map (sharing_if_later l.self.number (key_values l.self.compiled.now (g.G.GraphRead.meaning l.self.graph.now) l.self.key.now) l.row.elem) (take l.other-index l.elems);
  learned : IsLearned l.self.compiled.now (g.G.GraphRead.meaning l.self.graph.now) l.self.key.now l.learned;
  no_step_back : l.fn.steps ≤ l.steps;
  cost : (most : ℕ) → HasDegreesWithin (g.G.GraphRead.meaning l.self.graph.now) most → l.steps ≤ l.initial.steps + l.other-index * (16 * (most + 2) ^ (most_edges l.self.key.now + 1));
}
