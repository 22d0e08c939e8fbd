-- What a row alone makes with those before it.
use Rattle.std.proofs.Common.{◌≡◌, ℕ, ◌<◌, List, [], ◌∷◌, length, Option, None, refl, arith}
use Rattle.pgs_base.specs.declared.element.Elem.{Elem}
use Rattle.pgs_base.specs.declared.part.Part.{Part}
use Rattle.pgs_violation.specs.declared.violation.Violation.{Violation}
use Rattle.pgs_keyindex.specs.declared.change.KeyChange.{KeyChange}
use Rattle.pgs_check.specs.Clashes.{tuples_of, with_holders, with_earlier}

none_held : (number : ℕ) (elem : Elem) (found : Option Violation) (tuples : List (List Part)) → with_holders number (λ tuple. None) elem found tuples ≡ found
none_held number elem found [] = refl
none_held number elem found (tuple ∷ tuples) = none_held number elem found tuples

pub alone_earlier : (number : ℕ) (found : Option Violation) (rows : List KeyChange) → length rows < 2 → with_earlier number (λ tuple. None) found rows ≡ found
alone_earlier number found [] few = refl
alone_earlier number found (row ∷ []) few = none_held number row.elem found (tuples_of row)
alone_earlier number found (row ∷ other ∷ rows) few = absurd (omega arith)
