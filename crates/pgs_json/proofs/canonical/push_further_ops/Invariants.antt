use Rattle.std.proofs.Common.{◌≡◌, ◌++◌, flat_map, take}
use Rattle.pgs_json.specs.Canonical.{op_text}
use Rattle.pgs_json.specs.Pieces.{further}
use Rattle.pgs_json.proofs.canonical.push_further_ops.Given as goal

abbrev pub invariant-loop-op : goal.invariant-loop-op
invariant-loop-op l = l.text ≡ l.fn.text ++ flat_map (further op_text) (take l.op-index l.ops)
