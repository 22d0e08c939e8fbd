use Rattle.std.proofs.Common.{◌∙◌, ap, length, take, drop}
use Rattle.pgs_contain.proofs.Three.{plain_moved}
use Rattle.pgs_contain.proofs.triples.plain_three.Goals as goal

pub returns : goal.returns
returns c =
    let frames = c.args.frames.now in
    let found = c.args.found.now in
    let n = length frames.source.keys in
    let m = length frames.middle.keys in
    let first = c.split_at.ensures.front ∙ ap (λ k. take k found) c.len.ensures.value in
    let later = c.split_at.ensures.back ∙ ap (λ k. drop k found) c.len.ensures.value in
    let second = c.split_at-2.ensures.front ∙ ap (λ k. take k c.split_at.result.1.now) c.len-2.ensures.value ∙ ap (take m) later in
    let third = c.split_at-2.ensures.back ∙ ap (λ k. drop k c.split_at.result.1.now) c.len-2.ensures.value ∙ ap (drop m) later in (
      plain_moved frames.source c.split_at.result.0.now (take n found) c.in_ok-source.source first c.in_ok-source.ensures,
      plain_moved frames.middle c.split_at-2.result.0.now (take m (drop n found)) c.in_ok-middle.middle second c.in_ok-middle.ensures,
      plain_moved frames.target c.split_at-2.result.1.now (drop m (drop n found)) c.in_ok-target.target third c.in_ok-target.ensures,
    )
