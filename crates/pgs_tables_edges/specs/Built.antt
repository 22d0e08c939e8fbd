-- A list of ids in chunks while it is built.
use Rattle.std.specs.Prelude.{ℕ, List}
use Rattle.pgs_base.specs.declared.element.EdgeId.{EdgeId}

pub record Built : Type 0 where
  -- the ids, in order
  pub ids : List EdgeId
  -- how many the last chunk has; 1,024 where there is none, so that nothing has room there
  pub last : ℕ
