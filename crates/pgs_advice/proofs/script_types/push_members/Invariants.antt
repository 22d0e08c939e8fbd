use Rattle.std.proofs.Common.{◌≡◌, ◌++◌, take}
use Rattle.std.specs.Prelude.{filter}
use Rattle.pgs_resolve_declared.specs.Declarations.{is_declared}
use Rattle.pgs_advice.specs.Used.{unused_names}
use Rattle.pgs_advice.proofs.script_types.push_members.Given as goal

abbrev pub invariant-loop-member : goal.invariant-loop-member
invariant-loop-member l = l.unused.items ≡ l.fn.unused.items ++ unused_names l.used (filter is_declared (take l.member-index l.members))
