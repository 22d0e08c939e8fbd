use Rattle.std.proofs.Common.{◌≡◌, true, sym, subst}
use Rattle.pgs_base.specs.LabelNames.{names_of}
use Rattle.pgs_base.specs.Names.{are_names}
use Rattle.pgs_base.proofs.Pairs.{names_without}
use Rattle.pgs_base.proofs.labels.Labels.remove.Goals as goal

pub invariant_of-self : goal.invariant_of-self
invariant_of-self c =
    subst (λ names. are_names names ≡ true) (sym c.remove.ensures.names) (names_without (names_of c.self.inside.names) c.args.name.now c.self.invariant)
