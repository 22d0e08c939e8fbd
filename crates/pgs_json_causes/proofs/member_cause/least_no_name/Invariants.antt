use Rattle.std.proofs.Common.{◌≡◌, drop, None, option_map}
use Rattle.pgs_json.specs.Tree.{items_view}
use Rattle.pgs_json_causes.specs.Cause.{least_no_name}
use Rattle.pgs_json_causes.proofs.member_cause.least_no_name.Given as goal

abbrev pub invariant-loop-item : goal.invariant-loop-item
invariant-loop-item l =
    least_no_name None (items_view l.items) ≡ least_no_name (option_map (λ found. found.now) l.least) (items_view (drop l.item-index l.items))
