use Rattle.std.proofs.Common.{◌≡◌, ◌-◌, length, arith}
use Rattle.pgs_saved_graph.proofs.Joined.{gate_opened}
use Rattle.pgs_saved_graph.proofs.frames.open_gate.Goals as goal

pub returns : goal.returns
returns c = λ payload is.
    let place : c.len-gate.result - 1 ≡ length c.args.frame.now.items - 1 = omega (arith, c.len-gate.ensures, c.args.frame.now.ok.0) in
    gate_opened payload c.args.frame.now.items (c.len-gate.result - 1) is place
