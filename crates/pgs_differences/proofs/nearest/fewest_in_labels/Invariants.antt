use Rattle.std.proofs.Common.{◌≡◌, ℕ, true, take, nat_le, count_by}
use Rattle.std.specs.List.{list_all}
use Rattle.std.specs.Option.{option_map_or}
use Rattle.pgs_differences.specs.declared.near_type.NearType.{NearType}
use Rattle.pgs_differences.specs.Nearest.{is_of_label}
use Rattle.pgs_differences.proofs.nearest.fewest_in_labels.Given as goal

abbrev pub invariant-loop-near : goal.invariant-loop-near
invariant-loop-near l = (n : ℕ) →
    list_all (λ (near : NearType). nat_le n (count_by is_of_label near.own)) (take l.near-index l.nears) ≡ option_map_or (nat_le n) l.fewest true
