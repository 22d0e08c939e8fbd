use Rattle.std.proofs.Common.{◌++◌, ◌∷◌, [], sym, ap, ◌∙◌}
use Rattle.pgs_check.specs.Own.{is_altered, altered_to}
use Rattle.pgs_check.proofs.LocalRows.{next_kept, next_left}
use Rattle.pgs_check.proofs.local_rows.altered_rows.Goals.{then-is_altered+in_ok-row+in_ok-push, else-is_altered}
use Rattle.pgs_check.proofs.local_rows.altered_rows.Goals as goal

pub loop-one-preserved : goal.loop-one-preserved
loop-one-preserved c =
    let make = altered_to c.args.compiled.now c.args.key.now c.args.number in
    let test = is_altered c.args.compiled.now c.args.key.now in
    let rows = c.loop-one.rows.items in
    let one = c.one-item.result in
    elim c.if-is_altered.branch [
      | then-is_altered+in_ok-row+in_ok-push w ↦
          next_kept make test c.args.known.now c.loop-one.one-index one c.loop-one-test.true c.one-item.is rows c.loop-one.invariant
          (sym c.is_altered.ensures ∙ w.if-is_altered.true) c.if-is_altered.rows.items
          (ap (λ v. v.items) w.rows-is ∙ w.in_ok-push.ensures.items ∙ ap (λ row. rows ++ row ∷ []) w.in_ok-row.ensures)
      | else-is_altered w ↦
          ap (λ v. v.items) w.rows-is
          ∙ next_left make test c.args.known.now c.loop-one.one-index one c.loop-one-test.true c.one-item.is rows c.loop-one.invariant
          (sym c.is_altered.ensures ∙ w.if-is_altered.false)
    ]
