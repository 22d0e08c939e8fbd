use Rattle.std.proofs.Common.{◌≡◌, ◌+◌, ◌≤◌, List, Option, None, drop, take}
use Rattle.std.specs.List.{sum_by}
use Rattle.pgs_base.specs.declared.element.Elem.{Elem}
use Rattle.pgs_base.specs.declared.part.Part.{Part}
use Rattle.pgs_check.specs.Clashes.{IsOwner, look_ups, with_owners}
use Rattle.pgs_check.proofs.sharing.Owners.least_shared.Given as goal

abbrev pub invariant-loop-row : goal.invariant-loop-row
invariant-loop-row g l = record {
  so_far : (owner : List Part → Option Elem) → IsOwner l.self.index.now.rows l.self.number l.self.changed.now owner →
      with_owners l.self.number owner l.found (drop l.row-index l.rows) ≡ with_owners l.self.number owner None l.rows;
  no_step_back : l.fn.steps ≤ l.steps;
  cost : l.steps ≤ l.fn.steps + sum_by (look_ups l.self.index.now.rows l.self.number) (take l.row-index l.rows);
}
