use Rattle.std.proofs.Common.{◌≤◌, ◌∙◌, length, sym, ap, subst}
use Rattle.pgs_store.specs.Explained.{key_values_of}
use Rattle.pgs_store.specs.State.{GuardState}
use Rattle.pgs_store.proofs.Indexed.{under_number}
use Rattle.pgs_store.proofs.guard.Guard.key_values.Goals as goal

pub returns-clause-values : goal.returns-clause-values
returns-clause-values g c =
    let inside = c.self.inside in
    c.values_of.ensures.values
    ∙ under_number inside.schema.resolved inside.graph.graph inside.index c.args.key c.args.elem c.self.invariant.0.stands c.requires.from_one
    (subst (λ (s : GuardState). c.args.key ≤ length s.schema.guard.keys) (sym c.self.view_is) c.requires.in_range)
    ∙ ap (λ (s : GuardState). key_values_of s.schema s.graph c.args.key c.args.elem) c.self.view_is
