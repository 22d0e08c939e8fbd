use Rattle.std.proofs.Common.{◌≡◌, [], length}
use Rattle.std.specs.List.{sum_by}
use Rattle.pgs_syntax.specs.declared.script.Script.{Script}
use Rattle.pgs_resolve_declared.specs.Imports.{walked}
use Rattle.pgs_resolve_declared.specs.Tables.{AreOf}
use Rattle.pgs_resolve_declared.proofs.Steps.{finish, weight}
use Rattle.pgs_resolve_declared.proofs.imports.walk.Given as goal

abbrev pub invariant-loop-frame : goal.invariant-loop-frame
invariant-loop-frame l =
    (script : Script) → AreOf script l.declarations → finish script l.stack.items l.names ≡ walked script (length l.declarations.graphs.items) [] l.fn.name

abbrev pub decreases-loop-frame : goal.decreases-loop-frame
decreases-loop-frame l = sum_by (weight (sum_by (λ type. length type.now.imports) l.declarations.graphs.items)) l.stack.items
