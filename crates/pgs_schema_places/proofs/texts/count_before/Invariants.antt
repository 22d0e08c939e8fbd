use Rattle.std.proofs.Common.{◌≡◌, ◌+◌, ◌-◌, drop}
use Rattle.std.specs.List.{position_or_len}
use Rattle.pgs_schema_places.specs.KeyTexts.{is_behind}
use Rattle.pgs_schema_places.proofs.texts.count_before.Given as goal

abbrev pub invariant-loop-place : goal.invariant-loop-place
invariant-loop-place l =
    position_or_len is_behind (drop l.start l.tokens) ≡ (l.place - l.start) + position_or_len is_behind (drop l.place l.tokens)
