use Rattle.std.proofs.Common.{◌≡◌, drop}
use Rattle.serde_json.specs.Find.{get_member}
use Rattle.pgs_json.specs.Tree.{members_view}
use Rattle.pgs_json.proofs.tree.member.Given as goal

abbrev pub invariant-loop-found : goal.invariant-loop-found
invariant-loop-found l = get_member l.name (members_view l.members) ≡ get_member l.name (members_view (drop l.found-index l.members))
