use Rattle.std.proofs.Common.{rules, refl}
use Rattle.tests_world.proofs.stopping.Kept.change.Goals as goal

pub returns-clause-changed : goal.returns-clause-changed
returns-clause-changed c =
    record {
      are = refl;
      until = c.in_ok-until.ensures;
      was = record { until = c.args.self.now.until; bytes = c.in_ok-copy_of.field-0 };
      past = search rules;
      was_until = refl;
      was_bytes = c.in_ok-copy_of.ensures;
    }
