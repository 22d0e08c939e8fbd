use Rattle.std.proofs.Common.{◌∙◌, sym, ap}
use Rattle.std.specs.Option.{option_flatten}
use Rattle.std.specs.Map.{lookup}
use Rattle.std.specs.BTreeMap.{is_at}
use Rattle.pgs_base_slots.specs.Slots.{present}
use Rattle.pgs_base_slots.proofs.Present.{lookup-present}
use Rattle.pgs_base_slots.proofs.slots.Slots.get.Goals as goal

pub returns-in-Some : goal.returns-in-Some
returns-in-Some g c =
    let found = lookup-present g.met.K.Ord.total c.args.key.now c.self.inside.slots.entries c.len-slots.ensures.ordered in
    c.as_ref.ensures.value ∙ ap option_flatten c.in-Some.ensures.value ∙ sym found ∙ ap (λ s. lookup (is_at (g.K.Ord.cmp c.args.key.now)) (present s)) c.self.view_is

pub returns-in-None : goal.returns-in-None
returns-in-None g c =
    let found = lookup-present g.met.K.Ord.total c.args.key.now c.self.inside.slots.entries c.len-slots.ensures.ordered in
    ap option_flatten c.in-None.ensures.value ∙ sym found ∙ ap (λ s. lookup (is_at (g.K.Ord.cmp c.args.key.now)) (present s)) c.self.view_is
