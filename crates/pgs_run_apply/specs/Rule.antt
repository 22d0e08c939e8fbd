-- The rule of the machine of `apply`: it may do nothing, and one thing after another.
use Rattle.std.specs.Prelude.{true}
use Rattle.pgs_feed.specs.Deliveries.{ListKind}
use Rattle.pgs_run_lines.specs.Machine.{Rule}
use Rattle.pgs_run_apply.specs.Applying.{Applies, applying}
use Rattle.pgs_run_apply.specs.RuleLaws.{applies_from, applies_none}
use Rattle.pgs_run_apply.specs.State.{HoldsStore}

abbrev pub applies_rule : ListKind → Rule applying
applies_rule kind = record {
  Kept = kind.Feeds;
  tells = true;
  holds = HoldsStore;
  allows = Applies kind;
  none = applies_none kind;
  on = applies_from kind;
}
