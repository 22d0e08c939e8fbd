use Rattle.std.proofs.Common.{◌≡◌, ℕ, List, [], drop}
use Rattle.std.specs.Ordering.{nat_cmp}
use Rattle.std.specs.Cmp.Lexicographic.{slice_cmp}
use Rattle.std.specs.BTreeMap.{insert_entry}
use Rattle.pgs_json.specs.Tree.{members_view}
use Rattle.pgs_base.specs.declared.value.Value.{Value}
use Rattle.pgs_json.specs.Form.{pair_of}
use Rattle.pgs_json.proofs.FormLoops.{after_members}
use Rattle.pgs_json.proofs.json_op.some_props.Given as goal

abbrev pub put : List (List ℕ × Value) → List ℕ × Value → List (List ℕ × Value)
put props p = insert_entry (slice_cmp nat_cmp) props p.0 p.1

abbrev pub invariant-loop-key : goal.invariant-loop-key
invariant-loop-key l =
    after_members pair_of put l.props (members_view (drop l.key-index l.members)) ≡ after_members pair_of put [] (members_view l.members)
