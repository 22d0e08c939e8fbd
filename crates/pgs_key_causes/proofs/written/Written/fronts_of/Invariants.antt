use Rattle.std.proofs.Common.{◌≡◌, map, take}
use Rattle.std.specs.List.{enumerate_from}
use Rattle.pgs_key_causes.specs.Fronts.{visit_front}
use Rattle.pgs_key_causes.proofs.written.Written.fronts_of.Given as goal

abbrev pub invariant-loop-number : goal.invariant-loop-number
invariant-loop-number l = l.fronts.items ≡ map (visit_front l.numbering l.self l.qualifiers l.visits) (take l.number (enumerate_from 0 l.visits))
