-- The reading stands at a gate, behind records that were read and are fit.
use Rattle.std.proofs.Common.{◌≡◌, ◌≤◌, ◌-◌, ◌^◌, ◌∷◌, [], ◌++◌}
use Rattle.pgs_journal.specs.Format.{opened}
use Rattle.pgs_journal.specs.Seen.{HasLength}
use Rattle.pgs_journal.proofs.Stepping.{IsAt}
use Rattle.pgs_world.specs.Moment.{IsQuiet, ShowsOne, MakesNoPut}
use Rattle.pgs_journal.proofs.records.RecordReader.read_all.Given as goal

abbrev pub invariant-loop-gate : goal.invariant-loop-gate
invariant-loop-gate g l =
    record {
      at : IsAt g.W.World.answered (g.W.World.view l.fn.world) l.self.area l.fn.world l.world (opened l.self.format l.self.epoch [] ++ l.fn.gate ∷ []) l.self.format l.self.epoch l.at l.payloads.items l.gate;
      limit : l.known ≤ 2 ^ 40;
      len : HasLength (g.W.World.view l.world) l.self.area l.known;
      quiet : IsQuiet (g.W.World.view l.fn.world) (g.W.World.view l.world);
      image : ShowsOne (g.W.World.view l.world);
      faults : (g.W.World.view l.world).area_faults ≡ (g.W.World.view l.fn.world).area_faults;
      no_put : MakesNoPut (g.W.World.view l.fn.world) (g.W.World.view l.world);
    }

abbrev pub decreases-loop-gate : goal.decreases-loop-gate
decreases-loop-gate g l = 2 ^ 40 - l.at
