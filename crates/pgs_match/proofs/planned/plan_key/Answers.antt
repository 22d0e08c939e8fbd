use Rattle.std.proofs.Common.{◌≡◌, true, map, sym, subst}
use Rattle.pgs_syntax.specs.Valid.{read_var, is_valid_key}
use Rattle.pgs_match.specs.Planned.{ArePlans, IsSplit, taken}
use Rattle.pgs_match.proofs.Scopes.{some_variable}
use Rattle.pgs_match.proofs.Values.{scope_valid, descriptor_valid}
use Rattle.pgs_match.proofs.planned.plan_key.Goals as goal

pub plan_to-requires-clause-in_range : goal.plan_to-requires-clause-in_range
plan_to-requires-clause-in_range c = some_variable c.args.key.now c.requires

pub invariant_of-result : goal.invariant_of-result
invariant_of-result c =
    let same = sym c.in_ok-key.ensures in (
      subst (λ key. is_valid_key key ≡ true) same c.requires,
      subst (λ key. ArePlans key.scope c.in_ok-scope.scope) same c.in_ok-scope.ensures,
      subst (λ key. ArePlans key.descriptor c.in_ok-descriptor.descriptor) same c.in_ok-descriptor.ensures,
      subst (λ key. IsSplit (taken key) key.descriptor 0 c.in_ok-values.values) same
          (subst (λ exprs. IsSplit (map read_var exprs) c.args.key.now.descriptor 0 c.in_ok-values.values) c.as_slice.ensures c.in_ok-values.ensures),
    )

pub plan_pattern-requires : goal.plan_pattern-requires
plan_pattern-requires c = scope_valid c.args.key.now c.requires

pub plan_pattern-requires-2 : goal.plan_pattern-requires-2
plan_pattern-requires-2 c = descriptor_valid c.args.key.now c.requires

pub plan_to-requires-clause-valid : goal.plan_to-requires-clause-valid
plan_to-requires-clause-valid c = descriptor_valid c.args.key.now c.requires
