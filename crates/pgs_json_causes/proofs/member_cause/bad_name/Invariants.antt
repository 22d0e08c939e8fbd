use Rattle.std.proofs.Common.{◌≡◌, not, drop}
use Rattle.std.specs.List.{find}
use Rattle.pgs_base.specs.Name.{is_name}
use Rattle.pgs_json.specs.Form.{names_in}
use Rattle.pgs_json.specs.Tree.{members_view}
use Rattle.pgs_json_causes.proofs.member_cause.bad_name.Given as goal

abbrev pub invariant-loop-name : goal.invariant-loop-name
invariant-loop-name l =
    find (λ key. not (is_name key)) (names_in (members_view l.members)) ≡ find (λ key. not (is_name key)) (names_in (members_view (drop l.name-index l.members)))
