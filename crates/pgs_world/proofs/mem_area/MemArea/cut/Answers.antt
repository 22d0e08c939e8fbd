use Rattle.std.proofs.Common.{◌≤◌, List, ℕ, length, take, sym, ◌∙◌, ap, arith, length-take}
use Rattle.std.proofs.lemmas.List.{take-take}
use Rattle.std.specs.declared.option.Option.{Option}
use Rattle.pgs_world.specs.Held.{all_kept}
use Rattle.pgs_world.proofs.Fronts.{same_take, kept_take}
use Rattle.pgs_world.proofs.mem_area.MemArea.cut.Goals as goal

pub returns-clause-room : goal.returns-clause-room
returns-clause-room c size r =
    let old = c.args.self.now in
    let low = c.min-self.result in
    let len = c.args.len in
    let bytes_are = c.truncate.ensures.items in
    let kept_are = c.truncate-2.ensures.items in
    let lower : low ≤ old.low = omega (arith, c.min-self.ensures) in
    let below : low ≤ len = omega (arith, c.min-self.ensures) in
    record {
      bytes = omega (arith, r.bytes, c.truncate.ensures.capacity);
      synced = r.synced;
      kept = omega (arith, r.kept, c.truncate-2.ensures.capacity);
      within = omega (arith, ap length bytes_are, length-take len old.bytes.items, r.within, lower, below);
      same = same_take low old.low old.synced.items old.bytes.items lower r.same ∙ sym (take-take low len old.bytes.items below) ∙ ap (λ (l : List ℕ). take low l) (sym bytes_are);
      same_kept = ap (λ (l : List (Option ℕ)). take low l) kept_are ∙ take-take low len old.kept.items below ∙ kept_take low old.low old.kept.items old.bytes.items lower r.same_kept
          ∙ ap all_kept (sym (take-take low len old.bytes.items below)) ∙ ap (λ (l : List ℕ). all_kept (take low l)) (sym bytes_are);
    }
