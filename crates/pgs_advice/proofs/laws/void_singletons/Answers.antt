use Rattle.std.proofs.Common.{◌≡◌, Some, sym, refl, ◌∙◌}
use Rattle.std.proofs.lemmas.Bool.{and_parts}
use Rattle.pgs_syntax.specs.KeyValues.{key_values}
use Rattle.pgs_syntax.proofs.Assigned.{value_found}
use Rattle.pgs_syntax.proofs.Members.{is_among}
use Rattle.pgs_advice.proofs.Fixed.{tuple_same}
use Rattle.pgs_advice.proofs.laws.void_singletons.Goals as goal

pub returns : goal.returns
returns c = λ resolved g key elem tuple other void h k.
    let p = value_found resolved g key elem tuple (is_among tuple (key_values resolved g key elem) h) in
    let q = value_found resolved g key elem other (is_among other (key_values resolved g key elem) k) in
    let same = tuple_same resolved g key.descriptor elem elem p.0 q.0 (record { match = p.1; starts = p.2 }) (record { match = q.1; starts = q.2 }) key.exprs refl (and_parts _ _ void).1 in
    let both : Some tuple ≡ Some other = sym p.3 ∙ same ∙ q.3 in cc
