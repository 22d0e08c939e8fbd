use Rattle.std.proofs.Common.{◌∙◌, sym, ap, length}
use Rattle.std.proofs.lemmas.Option.{MatchOption-at_some, MatchOption-at_none}
use Rattle.pgs_contain.specs.Regions.{IsCovered, IsLeft}
use Rattle.pgs_contain.specs.Threes.{region_in}
use Rattle.pgs_contain.proofs.Whole.{left_length}
use Rattle.pgs_contain.proofs.triples.outside_of_frames.Goals as goal

pub returns-in-None : goal.returns-in-None
returns-in-None c =
    let region = region_in c.args.frames.now in
    let left = c.in_ok-left.ensures in
    record {
      taken = left.taken;
      same = left.same;
      is = MatchOption-at_none (IsCovered region left.taken) (IsLeft region left.taken) c.in-None.is left.is;
    }

pub plain_three-requires : goal.plain_three-requires
plain_three-requires c =
    let region = region_in c.args.frames.now in
    let left = c.in_ok-left.ensures in
    let there = MatchOption-at_some (IsCovered region left.taken) (IsLeft region left.taken) c.in-Some.found c.in-Some.is left.is in
    ap length c.as_slice.ensures ∙ sym (left_length region c.in-Some.found left.taken there) ∙ c.requires
