use Rattle.std.proofs.Common.{◌≡◌, drop}
use Rattle.pgs_json.specs.Tree.{members_view}
use Rattle.pgs_json.specs.Kinds.{kind_in}
use Rattle.pgs_json.proofs.kind.kind_in.Given as goal

abbrev pub invariant-loop-name : goal.invariant-loop-name
invariant-loop-name l = kind_in (members_view l.members) ≡ kind_in (members_view (drop l.name-index l.members))
