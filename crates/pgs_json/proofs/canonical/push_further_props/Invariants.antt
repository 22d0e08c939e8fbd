use Rattle.std.proofs.Common.{◌≡◌, ◌++◌, flat_map, take}
use Rattle.pgs_json.specs.Pieces.{further, prop_text}
use Rattle.pgs_json.proofs.canonical.push_further_props.Given as goal

abbrev pub invariant-loop-name : goal.invariant-loop-name
invariant-loop-name l = l.text ≡ l.fn.text ++ flat_map (further prop_text) (take l.name-index l.props)
