use Rattle.pgs_world_files.specs.FeedFaults.FailsToLook.{at_open}
use Rattle.pgs_world_files.proofs.FeedFaults.{looks}
use Rattle.pgs_world_files.proofs.feed_opening.open_to_look.Goals as goal

pub returns-in_default : goal.returns-in_default
returns-in_default g c = record { looks = tt; fault = looks g.S.System.facts c.args.name.now c.from.result (at_open c.in-Err.ensures) }
