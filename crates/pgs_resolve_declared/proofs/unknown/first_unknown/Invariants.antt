use Rattle.std.proofs.Common.{◌≡◌, [], take}
use Rattle.std.specs.List.{flat_map}
use Rattle.pgs_syntax.specs.declared.script.Script.{Script}
use Rattle.pgs_resolve_declared.specs.Refused.{unknown_in}
use Rattle.pgs_resolve_declared.specs.Tables.{AreOf}
use Rattle.pgs_resolve_declared.proofs.unknown.first_unknown.Given as goal

abbrev pub invariant-loop-graph : goal.invariant-loop-graph
invariant-loop-graph l = (script : Script) → AreOf script l.declarations → flat_map (λ graph. unknown_in script graph.now) (take l.graph-index l.declarations.graphs.items) ≡ []
