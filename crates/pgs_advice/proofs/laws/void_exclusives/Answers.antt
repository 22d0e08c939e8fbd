use Rattle.std.proofs.lemmas.Bool.{and_parts}
use Rattle.pgs_syntax.specs.KeyValues.{key_values}
use Rattle.pgs_syntax.proofs.Assigned.{value_found}
use Rattle.pgs_syntax.proofs.Members.{is_among}
use Rattle.pgs_advice.proofs.Fixed.{one_x}
use Rattle.pgs_advice.proofs.laws.void_exclusives.Goals as goal

pub returns : goal.returns
returns c = λ resolved g key elem other tuple void h k.
    let p = value_found resolved g key elem tuple (is_among tuple (key_values resolved g key elem) h) in
    let q = value_found resolved g key other tuple (is_among tuple (key_values resolved g key other) k) in
    one_x resolved g key.descriptor elem other p.0 q.0 (record { match = p.1; starts = p.2 }) (record { match = q.1; starts = q.2 }) key.exprs tuple (and_parts _ _ void).1 p.3 q.3
