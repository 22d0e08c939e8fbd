use Rattle.std.proofs.Common.{◌≤◌, List, ℕ, length, take, sym, ◌∙◌, ap, arith}
use Rattle.std.specs.declared.option.Option.{Option}
use Rattle.pgs_world.specs.Held.{all_kept}
use Rattle.pgs_world.proofs.Images.{length-written_over}
use Rattle.pgs_world.proofs.Fronts.{same_take, kept_take, take-written_over, take-blotted}
use Rattle.pgs_world.proofs.mem_area.MemArea.write.Goals as goal

pub returns-clause-room : goal.returns-clause-room
returns-clause-room c size r =
    let old = c.args.self.now in
    let low = c.min-self.result in
    let at = c.args.at in
    let piece = c.args.piece.now in
    let bytes_are = c.write_over.ensures.written in
    let kept_are = c.blot.ensures.blotted in
    let lower : low ≤ old.low = omega (arith, c.min-self.ensures) in
    let below : low ≤ at = omega (arith, c.min-self.ensures) in
    let front = take-written_over low at old.bytes.items piece below c.requires.within in
    record {
      bytes = omega (arith, r.bytes, c.write_over.ensures.capacity);
      synced = r.synced;
      kept = omega (arith, r.kept, c.blot.ensures.capacity);
      within = omega (arith, ap length bytes_are, length-written_over old.bytes.items piece at c.requires.within, r.within, lower);
      same = same_take low old.low old.synced.items old.bytes.items lower r.same ∙ sym front ∙ ap (λ (l : List ℕ). take low l) (sym bytes_are);
      same_kept = ap (λ (l : List (Option ℕ)). take low l) kept_are ∙ take-blotted low at (length piece) old.kept.items below ∙ kept_take low old.low old.kept.items old.bytes.items lower r.same_kept
          ∙ ap all_kept (sym front) ∙ ap (λ (l : List ℕ). all_kept (take low l)) (sym bytes_are);
    }
