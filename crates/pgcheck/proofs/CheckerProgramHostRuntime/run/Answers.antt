use Rattle.std.proofs.Common.{inl, sym}
use Rattle.pgcheck.proofs.CheckerProgramHostRuntime.run.Goals as goal

pub returns-in-Ok : goal.returns-in-Ok
returns-in-Ok c = inl (_, record { reader = _; writer = _; ran = c.in-Ok.ran; is = c.in-Ok.ensures; ended = sym c.ended.ensures })
