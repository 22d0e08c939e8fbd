use Rattle.std.proofs.Common.{◌≡◌, true, sym, ap, ◌∙◌, subst}
use Rattle.pgs_syntax.specs.declared.pattern.Pattern.{Pattern}
use Rattle.pgs_match.specs.Branches.{is_tree}
use Rattle.pgs_match.specs.Planned.{pattern_of}
use Rattle.pgs_match.specs.Plans.{is_plan}
use Rattle.pgs_match.proofs.Acyclic.{plan_is_tree}
use Rattle.pgs_match.proofs.Scopes.{pattern_has, side_valid}
use Rattle.pgs_match.proofs.planned.PlannedKey.is_tree.Goals as goal

pub returns : goal.returns
returns c = λ acyclic.
    let pattern = pattern_of c.args.side c.args.self.now in
    let valid = side_valid c.args.side c.args.self.now c.pattern.ensures.valid in
    let plan = c.as_slice.result.now in
    let plans = subst (λ steps. is_plan pattern 0 steps ≡ true) (sym c.as_slice.ensures) c.plan.ensures.0 in
    c.is_tree.ensures ∙ ap (λ atoms. is_tree atoms plan) (c.as_slice-atoms.ensures ∙ ap (λ (p : Pattern). p.atoms) c.pattern.ensures.pattern)
    ∙ plan_is_tree pattern valid acyclic 0 (pattern_has pattern valid) plan plans
