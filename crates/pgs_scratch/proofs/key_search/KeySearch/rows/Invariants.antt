use Rattle.std.proofs.Common.{◌≡◌, ◌≤◌, map, filter, take}
use Rattle.pgs_syntax.specs.KeyValues.{is_in_scope, key_values}
use Rattle.pgs_match.specs.Learned.{IsLearned}
use Rattle.pgs_scratch.specs.Rows.{row_of}
use Rattle.pgs_scratch.proofs.key_search.KeySearch.rows.Given as goal

abbrev pub invariant-loop-elem : goal.invariant-loop-elem
invariant-loop-elem g l =
    let graph = g.G.GraphRead.meaning l.self.graph.now in
    record {
      so_far : l.rows.items ≡ map (row_of (key_values l.self.compiled.now graph l.self.key.now)) (filter (is_in_scope l.self.compiled.now graph l.self.key.now) (take l.elem-index l.elems));
      learned : IsLearned l.self.compiled.now graph l.self.key.now l.learned;
      no_step_back : l.fn.steps ≤ l.steps;
    }
