use Rattle.std.proofs.Common.{ℕ, List, ap}
use Rattle.pgs_resolve_declared.specs.declared.kinds.Use.{Use}
use Rattle.pgs_resolve_declared.proofs.Walks.{none_yet, more_mapped, all_mapped}
use Rattle.pgs_resolve_declared.proofs.kinds.use_names.Goals as goal

pub loop-name-init : goal.loop-name-init
loop-name-init c = none_yet c.args.uses.now.items

pub loop-name-preserved : goal.loop-name-preserved
loop-name-preserved c =
    let meant : List ℕ → Use = λ name. record { of_edge = c.args.of_edge; name = name } in
    more_mapped meant c.args.uses.now.items c.args.names.now c.loop-name.name-index c.name-item.result c.loop-name.uses.items c.push.new.self.items (meant c.in_ok-name.name)
    c.loop-name-test.true c.name-item.is c.loop-name.invariant (ap meant c.in_ok-name.ensures) c.in_ok-push.ensures.items

pub returns : goal.returns
returns c =
    let meant : List ℕ → Use = λ name. record { of_edge = c.args.of_edge; name = name } in
    all_mapped meant c.args.uses.now.items c.args.names.now c.loop-name.name-index c.loop-name.uses.items c.loop-name-test.false c.loop-name.invariant
