use Rattle.std.proofs.Common.{◌≡◌, ℕ, ◌+◌, ◌*◌, ◌^◌, ◌≤◌, cond, length, map, take}
use Rattle.pgs_match.specs.Planned.{most_edges}
use Rattle.pgs_check_affected.specs.declared.known.Known.{Known}
use Rattle.pgs_check_affected.specs.Found.{found}
use Rattle.pgs_check_affected.specs.Touched.{AreSparseInBoth}
use Rattle.pgs_check_affected.specs.Unseen.{seen_elems}
use Rattle.pgs_check_affected.proofs.gathering.searched_by_all.Given as goal

abbrev pub invariant-loop-one : goal.invariant-loop-one
invariant-loop-one g l =
    let before = g.G.GraphRead.meaning l.before in
    let after = g.H.GraphRead.meaning l.after in
    let elems = map (λ (one : Known). one.elem) l.known in
    record {
      so_far : l.elems.items ≡ found l.compiled before after l.searched.scope l.searched.descriptor l.key (seen_elems l.compiled before after l.key (take l.one-index elems));
      no_step_back : l.fn.steps ≤ l.steps;
      cost : (most : ℕ) → AreSparseInBoth before after (most_edges l.key) (seen_elems l.compiled before after l.key elems) most →
          l.steps ≤ l.fn.steps + (cond l.searched.scope 640 0 + cond l.searched.descriptor 640 0) * length (seen_elems l.compiled before after l.key (take l.one-index elems)) * (most + 2) ^ (most_edges l.key + 1);
    }
