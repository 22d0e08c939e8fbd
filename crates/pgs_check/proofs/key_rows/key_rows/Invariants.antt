use Rattle.std.proofs.Common.{◌≡◌, ◌+◌, ◌*◌, ◌^◌, ◌≤◌, ℕ, length, map, take}
use Rattle.std.specs.List.{All, sum_by}
use Rattle.pgs_match.specs.Learned.{IsLearned}
use Rattle.pgs_match.specs.Near.{IsSparse}
use Rattle.pgs_match.specs.Planned.{most_edges}
use Rattle.pgs_keyindex.specs.Standing.{values_in_scope}
use Rattle.pgs_check.specs.Clashes.{tuples_of}
use Rattle.pgs_check.specs.Rows.{change_of}
use Rattle.pgs_check.proofs.key_rows.key_rows.Given as goal

abbrev pub invariant-loop-elem : goal.invariant-loop-elem
invariant-loop-elem g l =
    let graph = g.G.GraphRead.meaning l.graph in
    record {
      so_far : l.rows.items ≡ map (change_of l.number (values_in_scope l.compiled graph l.key)) (take l.elem-index l.elems);
      learned : IsLearned l.compiled graph l.key l.learned;
      no_step_back : l.fn.steps ≤ l.steps;
      cost : (most : ℕ) → All (λ elem. IsSparse graph (most_edges l.key) elem most) l.elems →
          l.steps ≤ l.fn.steps + l.elem-index * (32 * (most + 2) ^ (most_edges l.key + 1));
      few : (most : ℕ) → All (λ elem. IsSparse graph (most_edges l.key) elem most) l.elems →
          sum_by (λ row. length (tuples_of row)) l.rows.items ≤ l.elem-index * (most + 2) ^ most_edges l.key;
    }
