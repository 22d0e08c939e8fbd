use Rattle.std.proofs.Common.{◌≡◌, [], not, take, filter}
use Rattle.pgs_syntax.specs.declared.script.Script.{Script}
use Rattle.pgs_resolve_declared.specs.Declarations.{is_graph_type}
use Rattle.pgs_resolve_declared.specs.Tables.{AreOf}
use Rattle.pgs_resolve_declared.proofs.unknown.unknown_import.Given as goal

abbrev pub invariant-loop-name : goal.invariant-loop-name
invariant-loop-name l =
    (script : Script) → AreOf script l.declarations → filter (λ name. not (is_graph_type script name)) (take l.name-index l.imports) ≡ []
