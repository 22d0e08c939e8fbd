-- The types of numbers: a type names types of lesser numbers alone.
use Rattle.std.specs.Prelude.{ℕ, zero, suc, Bool, true, false, ◌==◌, List, slice_get}
use Rattle.std.specs.Option.{option_map_or}

-- Whether something passes the test of the type of a number below a bound. How it passes a type, where the tests of the numbers
-- before the type are known, is given.
abbrev pub passes_below : {T P : Type 0} → ((ℕ → P → Bool) → T → P → Bool) → List T → ℕ → ℕ → P → Bool
passes_below passes types zero number p = false
passes_below {T} passes types (suc bound) number p =
    elim (number == bound) [
      | true ↦ option_map_or (λ (type : T). passes (passes_below passes types bound) type p) (slice_get types bound) false
      | false ↦ passes_below passes types bound number p
    ]
