use Rattle.std.proofs.Common.{◌≡◌, not, filter, flat_map, length, take}
use Rattle.pgs_match.specs.Planned.{pattern_of}
use Rattle.pgs_check_affected.specs.declared.known.Known.{Known}
use Rattle.pgs_check_affected.specs.Found.{starts_of, row_in}
use Rattle.pgs_check_affected.specs.Unseen.{is_left_unseen}
use Rattle.pgs_check_affected.proofs.gathering.Sought.starts.Given as goal

abbrev pub invariant-loop-one : goal.invariant-loop-one
invariant-loop-one l = record {
  so_far : l.starts.items ≡ flat_map (λ (one : Known). starts_of l.self.compiled.now (pattern_of l.self.side l.self.key.now) one.elem (row_in l.is_new one)
      (length (pattern_of l.self.side l.self.key.now).edge_vars)) (filter (λ one. not (is_left_unseen l.self.compiled.now l.self.key.now one)) (take l.one-index l.known));
}
