-- Atoms and expressions whose variables have other numbers.
use Rattle.std.specs.Prelude.{ℕ}
use Rattle.pgs_syntax.specs.declared.pattern.Atom.{Atom}
use Rattle.pgs_syntax.specs.declared.pattern.Atom.TheVariants.{Ends, HasLabel, FitsNode, FitsEdge, Equals}
use Rattle.pgs_syntax.specs.declared.pattern.Expr.{Expr}
use Rattle.pgs_syntax.specs.declared.pattern.Expr.TheVariants.{Element, Property}

abbrev pub renamed : (ℕ → ℕ) → Atom → Atom
renamed f (Ends edge source target) = Ends (f edge) (f source) (f target)
renamed f (HasLabel var label) = HasLabel (f var) label
renamed f (FitsNode var number) = FitsNode (f var) number
renamed f (FitsEdge var number) = FitsEdge (f var) number
renamed f (Equals var key value) = Equals (f var) key value

abbrev pub renamed_expr : (ℕ → ℕ) → Expr → Expr
renamed_expr f (Element var) = Element (f var)
renamed_expr f (Property var key) = Property (f var) key
