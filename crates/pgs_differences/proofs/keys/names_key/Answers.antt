use Rattle.std.proofs.Common.{◌∙◌}
use Rattle.pgs_base.specs.Pair.{same_name}
use Rattle.pgs_differences.proofs.Keyed.{key_among}
use Rattle.pgs_differences.proofs.keys.names_key.Goals as goal

pub returns : goal.returns
returns c = c.some_is_at.ensures ∙ key_among (same_name c.args.name.now) c.args.keys.now
