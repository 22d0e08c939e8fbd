use Rattle.std.proofs.Common.{◌≡◌, ◌+◌, ◌*◌, ◌≤◌, true, sym, subst}
use Rattle.pgs_syntax.specs.Valid.{edge_count}
use Rattle.pgs_match.specs.declared.planned.Side.TheVariants.{Scope}
use Rattle.pgs_match.specs.Branches.{is_tree, walked_from}
use Rattle.pgs_match.specs.Planned.{most_edges}
use Rattle.pgs_match.specs.Plans.{is_plan}
use Rattle.pgs_match.proofs.Acyclic.{plan_is_tree}
use Rattle.pgs_match.proofs.Scopes.{pattern_has, side_edges}
use Rattle.pgs_match.proofs.Values.{scope_valid}
use Rattle.pgs_match.proofs.Typed.{is_valid, has_x, names}
use Rattle.pgs_match.proofs.calls.in_scope.Goals as goal

pub has_match-requires-clause-plan : goal.has_match-requires-clause-plan
has_match-requires-clause-plan g c =
    subst (λ p. is_plan p 0 c.as_slice.result.now ≡ true) (sym c.pattern.ensures.pattern) (subst (λ steps. is_plan c.args.key.now.scope 0 steps ≡ true) (sym c.as_slice.ensures) c.plan.ensures.0)

pub returns-clause-cost : goal.returns-clause-cost
returns-clause-cost g c = λ most sparse.
    let key = c.args.key.now in
    c.has_match.ensures.cost (most_edges key) most (subst (λ p. edge_count p.edge_vars ≤ most_edges key) (sym c.pattern.ensures.pattern) (side_edges Scope key)) sparse

pub returns-clause-adds : goal.returns-clause-adds
returns-clause-adds g c = λ acyclic.
    let key = c.args.key.now in
    let valid = scope_valid key c.pattern.ensures.valid in
    let plan = c.as_slice.result.now in
    let plans = subst (λ steps. is_plan key.scope 0 steps ≡ true) (sym c.as_slice.ensures) c.plan.ensures.0 in
    let same = c.pattern.ensures.pattern in
    let tree = plan_is_tree key.scope valid acyclic 0 (pattern_has key.scope valid) plan plans in (
      plan,
      plans,
      subst (λ p. c.has_match.new.steps ≤ c.args.steps.now + 80 * walked_from c.args.compiled.now (g.G.GraphRead.meaning c.args.graph.now) p plan 0 c.args.elem) same
          (c.has_match.ensures.adds (subst (λ p. is_tree p.atoms plan ≡ true) (sym same) tree)),
    )

pub has_match-requires-clause-valid : goal.has_match-requires-clause-valid
has_match-requires-clause-valid g c = is_valid Scope c.args.key.now c.pattern.result.now c.pattern.ensures.pattern c.pattern.ensures.valid

pub has_match-requires-clause-names : goal.has_match-requires-clause-names
has_match-requires-clause-names g c = names c.args.compiled.now Scope c.args.key.now c.pattern.result.now c.pattern.ensures.pattern c.requires

pub has_match-requires-clause-in_range : goal.has_match-requires-clause-in_range
has_match-requires-clause-in_range g c = has_x Scope c.args.key.now c.pattern.result.now c.pattern.ensures.pattern c.pattern.ensures.valid
