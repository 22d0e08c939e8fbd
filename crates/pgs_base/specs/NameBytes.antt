-- How a name holds its bytes.
use Rattle.std.specs.Prelude.{ℕ, ◌≤◌, List, take}
use Rattle.std.specs.Rc.{rc_slice_items}
use Rattle.pgs_base.specs.declared.name.Repr.{Repr}
use Rattle.pgs_base.specs.declared.name.Repr.TheVariants.{Inline, Shared}

-- the bytes that a name holds, in itself or shared
abbrev pub repr_bytes : Repr → List ℕ
repr_bytes (Inline len bytes) = take len bytes
repr_bytes (Shared bytes) = rc_slice_items bytes

-- whether a name that holds its bytes in itself has room for them
abbrev pub fits_inline : Repr → Type 0
fits_inline (Inline len bytes) = len ≤ 16
fits_inline (Shared bytes) = Unit {0}
