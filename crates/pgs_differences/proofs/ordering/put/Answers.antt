use Rattle.std.proofs.Common.{take, sym, ap, ◌∙◌}
use Rattle.std.specs.List.{position_or_len, insert}
use Rattle.pgs_differences.specs.Nearest.{goes_before}
use Rattle.pgs_differences.proofs.Ordered.{put_is}
use Rattle.pgs_differences.proofs.ordering.put.Goals as goal

pub returns : goal.returns
returns c =
    let place = c.place_of-place.ensures.value ∙ ap (position_or_len (goes_before c.args.near)) c.as_slice.ensures.value in
    c.truncate.ensures.items
    ∙ ap (take c.args.most)
    (c.in_ok-insert.ensures.items ∙ ap (λ n. insert c.args.nears.now.items n c.args.near) place
    ∙ sym (put_is goes_before c.args.nears.now.items c.args.near))
