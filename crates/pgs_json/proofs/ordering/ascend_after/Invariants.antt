use Rattle.std.proofs.Common.{◌≡◌, drop}
use denote.Shadow.{shadow}
use denote.Text.{Utf8}
use Rattle.pgs_json.specs.Tree.{members_view, ascend_after}
use Rattle.pgs_json.proofs.ordering.ascend_after.Given as goal

abbrev pub invariant-loop-next : goal.invariant-loop-next
invariant-loop-next l =
    (ascend_after l.name (members_view l.members) ≡ ascend_after l.last (members_view (drop l.next-index l.members))) × shadow (Utf8 l.last)
