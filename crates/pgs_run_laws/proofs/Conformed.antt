-- A graph that conforms has no violations.
use Rattle.std.proofs.Common.{◌≡◌, List, [], ◌∷◌, refl}
use Rattle.pgs_base.specs.Graph.{Graph}
use Rattle.pgs_syntax.specs.declared.resolved.Resolved.{Resolved}
use Rattle.pgs_violation.specs.declared.violation.Verdict.TheVariants.{Conforms}
use Rattle.pgs_violation.specs.declared.violation.Violation.{Violation}
use Rattle.pgs_violation.specs.Violations.{first_of, verdict, violations}

none_first : (found : List Violation) → first_of found ≡ Conforms → found ≡ []
none_first [] is = refl
none_first (violation ∷ found) is = absurd (cc)

pub conforming_has_none : (resolved : Resolved) (g : Graph) → verdict resolved g ≡ Conforms → violations resolved g ≡ []
conforming_has_none resolved g is = none_first (violations resolved g) is
