use Rattle.std.proofs.Common.{◌≡◌, ◌∙◌, ◌+◌, ◌<◌, ◌++◌, [], ap, arith, map, drop, length, sym, None}
use Rattle.std.specs.List.{slice_get}
use Rattle.std.proofs.lemmas.Option.{slice_get-get_or}
use Rattle.pgs_run_words.proofs.SlicesOn.{gathered_on}
use Rattle.pgs_run_words.proofs.reading.words_from.Goals as goal
use Rattle.pgs_run_words.proofs.reading.words_from.Goals.{in-Some+in_ok-push, in_default}

pub loop-place-preserved : goal.loop-place-preserved
loop-place-preserved c =
    let words = c.args.words.now in
    let place = c.loop-place.place in
    let inside : place < length words = omega (arith, c.loop-place-test.true, c.len-place-end.ensures) in
    elim c.match-at.branch [
      | in-Some+in_ok-push w ↦
          ap (λ slices. map (λ s. s.now) slices.items ++ drop (place + 1) words) w.slices-is
          ∙ ap (λ items. map (λ s. s.now) items ++ drop (place + 1) words) w.in_ok-push.ensures.items
          ∙ gathered_on (λ s. s.now) c.loop-place.slices.items w.in-Some.word words place inside (sym w.in-Some.ensures)
          ∙ c.loop-place.invariant
      | in_default w ↦
          let some = slice_get-get_or words place [] inside in
          let none : None ≡ slice_get words place = w.in_default.ensures in
          absurd (cc)
    ]
