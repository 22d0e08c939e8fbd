use Rattle.std.proofs.Common.{◌≡◌, true, sym, subst}
use Rattle.pgs_base.specs.Properties.{are_props}
use Rattle.pgs_base.proofs.Pairs.{props_without}
use Rattle.pgs_base.proofs.props.Props.unset.Goals as goal

pub invariant_of-self : goal.invariant_of-self
invariant_of-self c =
    subst (λ props. are_props props ≡ true) (sym c.unset.ensures.rows) (props_without c.self.inside.rows c.args.name.now c.self.invariant)
