use Rattle.std.proofs.Common.{◌≡◌, ◌++◌}
use Rattle.std.specs.List.{slice_range}
use Rattle.pgs_schema_places.specs.KeyTexts.{spaced, text_of}
use Rattle.pgs_schema_places.proofs.texts.text_between.Given as goal

abbrev pub invariant-loop-place : goal.invariant-loop-place
invariant-loop-place l =
    l.text ++ spaced l.end (slice_range l.tokens l.place l.stop) ≡ text_of (slice_range l.tokens l.start l.stop)
