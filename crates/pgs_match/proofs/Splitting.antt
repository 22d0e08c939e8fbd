-- The steps on the way to what expressions take.
use Rattle.std.proofs.Common.{◌≡◌, ◌||◌, ◌==◌, List, map, ap}
use Rattle.std.specs.List.{list_any}
use Rattle.pgs_syntax.specs.declared.pattern.Expr.{Expr}
use Rattle.pgs_syntax.specs.Valid.{read_var}
use Rattle.pgs_syntax.proofs.Halves.{any_map}
use Rattle.pgs_match.specs.declared.step.Step.{Step}
use Rattle.pgs_match.specs.Branches.{goes_from}
use Rattle.pgs_match.specs.Plans.{bound_by}
use Rattle.pgs_match.specs.Routes.{is_on_way}

-- a step is on the way where an expression takes what it binds, or a step on the way goes on from there
pub on_way_of : (exprs : List Expr) (ways : List Step) (step : Step) → is_on_way (map read_var exprs) ways step ≡ (list_any (λ (expr : Expr). read_var expr == bound_by step) exprs || list_any (goes_from (bound_by step)) ways)
on_way_of exprs ways step = ap (λ b. b || list_any (goes_from (bound_by step)) ways) (any_map (λ var. var == bound_by step) read_var exprs)
