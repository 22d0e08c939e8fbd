use Rattle.std.proofs.Common.{[]}
use Rattle.pgs_world_files.specs.Faults.HasFailed.{at_open}
use Rattle.pgs_world_files.proofs.Faults.{failed, last_other}
use Rattle.pgs_world_files.proofs.system_opening.open_to_place.Goals as goal

pub returns-in_default : goal.returns-in_default
returns-in_default g c = record {
  opened = tt;
  fault =
      failed g.S.System.facts c.args.name.now c.args.access [] c.from.result c.from.ensures
      (at_open c.in-Err.ensures (last_other c.args.access c.to_place-how.result c.in_default.not-Read));
}
