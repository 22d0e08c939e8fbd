use Rattle.std.proofs.Common.{◌≡◌, [], take, filter}
use Rattle.pgs_syntax.specs.declared.script.Script.{Script}
use Rattle.pgs_resolve_declared.specs.Refused.{is_wrong}
use Rattle.pgs_resolve_declared.specs.Tables.{AreOf}
use Rattle.pgs_resolve_declared.proofs.kinds.first_wrong_of.Given as goal

abbrev pub invariant-loop-meant : goal.invariant-loop-meant
invariant-loop-meant l = (script : Script) → AreOf script l.declarations → filter (is_wrong script) (take l.meant-index l.uses) ≡ []
