use Rattle.std.proofs.lemmas.Bool.{and_parts}
use Rattle.pgs_contain.proofs.frame.Frame.facts.Goals as goal

pub returns : goal.returns
returns c = (and_parts _ _ c.as_slice-keys.ensures.names).0
