use Rattle.std.proofs.Common.{◌≡◌, ◌+◌, ◌≤◌, List, Option, drop, take}
use Rattle.std.specs.Prelude.{count_by}
use Rattle.pgs_base.specs.declared.element.Elem.{Elem}
use Rattle.pgs_base.specs.declared.part.Part.{Part}
use Rattle.pgs_check.specs.Clashes.{IsOwner, comes, with_holders}
use Rattle.pgs_check.proofs.sharing.Owners.with_owners_of.Given as goal

abbrev pub invariant-loop-tuple : goal.invariant-loop-tuple
invariant-loop-tuple g l = record {
  so_far : (owner : List Part → Option Elem) → IsOwner l.self.index.now.rows l.self.number l.self.changed.now owner →
      with_holders l.self.number owner l.elem l.found (drop l.tuple-index l.tuples) ≡ with_holders l.self.number owner l.elem l.fn.found l.tuples;
  no_step_back : l.fn.steps ≤ l.steps;
  cost : l.steps ≤ l.fn.steps + 1 + count_by (comes l.self.index.now.rows l.self.number l.elem) (take l.tuple-index l.tuples);
}
