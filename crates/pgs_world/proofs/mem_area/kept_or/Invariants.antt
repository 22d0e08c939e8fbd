use Rattle.std.proofs.Common.{◌≡◌, map, take, unwrap_or}
use Rattle.pgs_world.proofs.mem_area.kept_or.Given as goal

abbrev pub invariant-loop-k : goal.invariant-loop-k
invariant-loop-k l = l.image.items ≡ map (λ k. unwrap_or k l.byte) (take l.k-index l.kept)
