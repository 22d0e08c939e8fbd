use Rattle.std.proofs.Common.{◌≡◌, length}
use Rattle.std.specs.Vec.Iter.{into_iter_items, into_iter_len}
use Rattle.serde_json.specs.Data.{no_members}
use Rattle.pgs_json.specs.Tree.{members_view, put_all}
use Rattle.pgs_json.proofs.ordering.few_sorted.Given as goal

abbrev pub invariant-loop-name : goal.invariant-loop-name
invariant-loop-name l =
    (put_all (members_view (into_iter_items l.name-iterator)) (members_view l.found) ≡ put_all (members_view l.fn.members.items) no_members)
    × (into_iter_len l.name-iterator ≡ length (into_iter_items l.name-iterator))
