-- Whether an edge type is asked of a variable.
use Rattle.std.specs.Prelude.{ℕ, Bool, false, ◌==◌}
use Rattle.pgs_syntax.specs.declared.pattern.Atom.{Atom}
use Rattle.pgs_syntax.specs.declared.pattern.Atom.TheVariants.{FitsEdge}

-- whether an atom asks an edge type of a variable
abbrev pub asks_edge_type : ℕ → Atom → Bool
asks_edge_type var (FitsEdge of number) = of == var
asks_edge_type var _ = false
