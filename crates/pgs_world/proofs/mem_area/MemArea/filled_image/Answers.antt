use Rattle.std.proofs.Common.{List, ℕ, map, unwrap_or, ◌∙◌, ap}
use Rattle.std.specs.declared.option.Option.{Option}
use Rattle.pgs_world.proofs.Images.{filled_as}
use Rattle.pgs_world.proofs.mem_area.MemArea.filled_image.Goals as goal

pub returns : goal.returns
returns c =
    let front = c.in_ok-front.ensures ∙ ap (λ (l : List (Option ℕ)). map (λ k. unwrap_or k c.args.byte) l) c.deref.ensures.value in
    c.from_vec.ensures ∙ filled_as c.in_ok-image.image.items c.in_ok-front.front.items c.args.byte c.args.self.now.greatest c.args.self.now.kept.items c.in_ok-image.ensures front
