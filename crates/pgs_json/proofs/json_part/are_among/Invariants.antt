use Rattle.std.proofs.Common.{◌≡◌, map, drop}
use Rattle.pgs_json.specs.Tree.{members_view}
use Rattle.pgs_json.specs.Form.{names_in, are_among}
use Rattle.pgs_json.proofs.json_part.are_among.Given as goal

abbrev pub invariant-loop-name : goal.invariant-loop-name
invariant-loop-name l =
    are_among (map (λ one. one.now) l.names) (names_in (members_view l.members)) ≡ are_among (map (λ one. one.now) l.names) (names_in (members_view (drop l.name-index l.members)))
