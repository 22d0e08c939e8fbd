use Rattle.std.proofs.Common.{◌-◌, ◌<◌, ◌≤◌, List, length, take}
use Rattle.std.specs.List.{flat_map}
use Rattle.pgs_base.specs.declared.element.EdgeId.{EdgeId}
use Rattle.pgs_tables_edges.specs.Starts.{StartFrom}
use Rattle.pgs_overlay.specs.declared.part.Placed.{Placed}
use Rattle.pgs_overlay.specs.Parts.{items, first_item}
use Rattle.pgs_overlay.proofs.edited_list.part_at.Given as goal

abbrev pub invariant-loop-high : goal.invariant-loop-high
invariant-loop-high l = (l.low ≤ l.high) × (l.high ≤ length l.parts)
    × ((xs : List EdgeId) → StartFrom (λ (placed : Placed). placed.start) (first_item xs) (items xs) 0 l.parts → l.place < length (flat_map (items xs) l.parts) →
    (l.low < l.high) × (length (flat_map (items xs) (take l.low l.parts)) ≤ l.place) × (l.place < length (flat_map (items xs) (take l.high l.parts))))

abbrev pub decreases-loop-high : goal.decreases-loop-high
decreases-loop-high l = l.high - l.low
