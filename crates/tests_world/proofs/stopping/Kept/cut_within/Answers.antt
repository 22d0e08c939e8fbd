use Rattle.std.proofs.Common.{OnOk, subst}
use Rattle.tests_world.specs.Stopping.{IsChanged}
use Rattle.tests_world.proofs.stopping.Kept.cut_within.Goals as goal

pub returns-clause-changed : goal.returns-clause-changed
returns-clause-changed c =
    subst (λ bytes. OnOk c.change.result (IsChanged c.args.moment bytes c.args.self.now c.change.new.self)) c.in_ok-bytes.ensures c.change.ensures.changed
