use Rattle.std.proofs.Common.{◌≡◌, ◌-◌}
use Rattle.std.specs.Ordering.{nat_cmp}
use Rattle.std.specs.Cmp.Lexicographic.{slice_cmp}
use Rattle.std.specs.Option.{option_map}
use Rattle.pgs_base.specs.Order.{ascends}
use Rattle.pgs_codec.specs.Reading.{name_at, tested_at, many_at}
use Rattle.pgs_codec.specs.Unread.{end_of}
use Rattle.pgs_codec.proofs.Walks.{ascent}
use Rattle.pgs_codec.proofs.walking.row.walk_names.Given as goal

abbrev pub invariant-loop : goal.invariant-loop
invariant-loop l =
    ascent (slice_cmp nat_cmp) name_at (option_map (λ before. before.now) l.before) (l.count - l.counter) l.reader.rest.now
    ≡ end_of (tested_at (ascends (slice_cmp nat_cmp)) (many_at name_at l.count) l.fn.reader.rest.now)
