-- The least of those of which a claim holds, in an order.
use Rattle.std.specs.Prelude.{◌≡◌, ◌⊎◌}
use Rattle.std.specs.declared.cmp.Ordering.{Ordering}
use Rattle.std.specs.declared.cmp.Ordering.TheVariants.{Less}

-- the claim holds of it, and each other of which it holds comes after it
pub record IsLeast {X : Type 0} (cmp : X → X → Ordering) (Is : X → Type 0) (x : X) : Type 0 where
  pub is : Is x
  pub others_after : (y : X) → Is y → (y ≡ x) ⊎ (cmp x y ≡ Less)
