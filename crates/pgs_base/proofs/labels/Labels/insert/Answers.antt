use Rattle.std.proofs.Common.{◌≡◌, true, sym, subst}
use Rattle.pgs_base.specs.LabelNames.{names_of}
use Rattle.pgs_base.specs.Names.{are_names}
use Rattle.pgs_base.proofs.Pairs.{names_with}
use Rattle.pgs_base.proofs.labels.Labels.insert.Goals as goal

pub invariant_of-self-2 : goal.invariant_of-self-2
invariant_of-self-2 c =
    subst (λ names. are_names names ≡ true) (sym c.in_ok-added.ensures.ok) (names_with (names_of c.self.inside.names) c.args.name c.self.invariant c.bytes-bytes.ensures.name)
