use Rattle.std.proofs.Common.{◌≡◌, suc, drop}
use Rattle.pgs_json.specs.Tree.{items_view}
use Rattle.pgs_json_causes.specs.Cause.{first_no_text}
use Rattle.pgs_json_causes.proofs.member_cause.first_no_text.Given as goal

abbrev pub invariant-loop-at : goal.invariant-loop-at
invariant-loop-at l = first_no_text 1 (items_view l.items) ≡ first_no_text (suc l.at) (items_view (drop l.at l.items))
