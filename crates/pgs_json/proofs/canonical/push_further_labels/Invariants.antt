use Rattle.std.proofs.Common.{◌≡◌, ◌++◌, flat_map, take}
use Rattle.pgs_base_text.specs.Text.{quoted}
use Rattle.pgs_json.specs.Pieces.{further}
use Rattle.pgs_json.proofs.canonical.push_further_labels.Given as goal

abbrev pub invariant-loop-label : goal.invariant-loop-label
invariant-loop-label l = l.text ≡ l.fn.text ++ flat_map (further quoted) (take l.label-index l.labels)
