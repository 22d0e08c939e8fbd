use Rattle.std.proofs.Common.{◌≡◌, true, sym, subst}
use Rattle.pgs_base.specs.Properties.{are_props}
use Rattle.pgs_base.proofs.Pairs.{props_with}
use Rattle.pgs_base.proofs.props.Props.set.Goals as goal

pub invariant_of-self-2 : goal.invariant_of-self-2
invariant_of-self-2 c =
    subst (λ props. are_props props ≡ true) (sym c.in_ok-old.ensures.ok)
    (props_with c.self.inside.rows c.args.name c.args.value c.self.invariant c.bytes-bytes.ensures.name c.facts.ensures)
