use Rattle.std.proofs.Common.{inl, sym}
use Rattle.pgguard.proofs.GuardProgramHostRuntime.run.Goals as goal

pub returns-in-Ok : goal.returns-in-Ok
returns-in-Ok c = inl (record { reader = _; writer = _; seed = _; ran = c.in-Ok.ran; is = c.in-Ok.ensures; ended = sym c.ended.ensures })
