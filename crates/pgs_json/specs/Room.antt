-- Room for a text: what is taken for it before it is written.
use Rattle.std.specs.Prelude.{ℕ, ◌*◌, ◌-◌, ◌^◌, ◌≤◌, min}

-- room for so many bytes: as many, as far as a `usize` counts, and at most six times as many
pub record IsRoom (room count : ℕ) : Type 0 where
  pub enough : min count (2 ^ 64 - 1) ≤ room
  pub bounded : room ≤ 6 * count
