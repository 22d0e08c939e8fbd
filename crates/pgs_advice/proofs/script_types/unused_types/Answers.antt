use Rattle.std.proofs.Common.{List, ℕ, ap, ◌∙◌, ◌++◌}
use Rattle.pgs_syntax.specs.declared.script.Statement.{Statement}
use Rattle.pgs_resolve_declared.specs.Declarations.{declared_in}
use Rattle.pgs_advice.specs.Used.{unused_names, used_names}
use Rattle.pgs_advice.proofs.Outside.{more_statements}
use Rattle.pgs_advice.proofs.script_types.unused_types.Goals as goal

pub loop-statement-preserved : goal.loop-statement-preserved
loop-statement-preserved c =
    more_statements (used_names c.args.resolved.now) c.as_slice-statement-items.result.now c.loop-statement.statement-index c.statement-item.result c.loop-statement.unused.items c.push_statement.new.unused.items
    c.loop-statement-test.true c.statement-item.is c.loop-statement.invariant
    (c.in_ok-push_statement.ensures ∙ ap (λ (used : List (List ℕ)). c.loop-statement.unused.items ++ unused_names used (declared_in c.statement-item.result)) c.in_ok-used.ensures)
