use Rattle.std.proofs.Common.{length}
use Rattle.pgs_json.proofs.json_part.+is_among.Given as goal

abbrev pub decreases-is_among : goal.decreases-is_among
decreases-is_among l = length l.names.now
