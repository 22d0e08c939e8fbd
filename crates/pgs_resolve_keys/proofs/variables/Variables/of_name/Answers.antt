use Rattle.std.proofs.Common.{[]}
use Rattle.pgs_resolve_keys.proofs.variables.Variables.of_name.Goals as goal

pub returns : goal.returns
returns c = c.in_ok-add_named.ensures [] c.new-variables.ensures
