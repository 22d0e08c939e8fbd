use Rattle.std.proofs.Common.{◌≡◌, ◌++◌, ◌-◌, ◌≤◌, drop, take, length}
use Rattle.std.specs.List.{flat_map}
use Rattle.pgs_tables_edges.proofs.Counted.{IsCounted}
use Rattle.pgs_tables_edges.proofs.chunks.builder.Builder.append_range.Given as goal

abbrev pub invariant-loop-next : goal.invariant-loop-next
invariant-loop-next l = record {
  in_range : l.next ≤ length l.parts;
  appended : l.self.ids ≡ l.fn.self.ids ++ drop l.from (take l.to (flat_map (λ part. part.ids) (take l.next l.parts)));
  counted : IsCounted (λ part. part.ids) l.parts l.begin l.next l.from l.to l.fn.copies l.copies l.self.last;
}

abbrev pub decreases-loop-next : goal.decreases-loop-next
decreases-loop-next l = length l.parts - l.next
