use Rattle.std.proofs.Common.{◌≡◌, ◌==◌, cond, map, take, ℕ}
use Rattle.pgs_key_standing.proofs.joint.together.Given as goal

abbrev pub invariant-loop-class : goal.invariant-loop-class
invariant-loop-class l = l.next.items ≡ map (λ (class : ℕ). cond (class == l.from) l.to class) (take l.class-index l.classes)
