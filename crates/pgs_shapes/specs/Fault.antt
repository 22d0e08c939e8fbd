-- What a refusal to compile says of the schema.
use Rattle.std.specs.Prelude.{◌≡◌, Some}
use Rattle.pgs_syntax.specs.declared.resolved.Resolved.{Resolved}
use Rattle.pgs_syntax.specs.Width.{first_too_wide}
use Rattle.pgs_shapes.specs.declared.fault.CompileFault.{CompileFault}
use Rattle.pgs_shapes.specs.declared.fault.CompileFault.TheVariants.{Memory, TooWide}

-- want of memory says nothing; a type that is too wide is the first such type
abbrev pub IsTold : Resolved → CompileFault → Type 0
IsTold resolved Memory = Unit {0}
IsTold resolved (TooWide name) = first_too_wide resolved ≡ Some name
