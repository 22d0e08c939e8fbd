-- Which qualifiers of a key no graph breaks.
use Rattle.std.specs.Prelude.{ℕ, Bool, false, ◌&&◌, ◌||◌, ◌==◌, not}
use Rattle.std.specs.List.{list_any, list_all}
use Rattle.pgs_syntax.specs.declared.key.Key.{Key}
use Rattle.pgs_syntax.specs.declared.key.Qualifiers.{Qualifiers}
use Rattle.pgs_syntax.specs.declared.pattern.Atom.{Atom}
use Rattle.pgs_syntax.specs.declared.pattern.Atom.TheVariants.{Ends}
use Rattle.pgs_syntax.specs.declared.pattern.Expr.{Expr}
use Rattle.pgs_syntax.specs.declared.pattern.Expr.TheVariants.{Element, Property}
use Rattle.pgs_syntax.specs.declared.pattern.Pattern.{Pattern}
use Rattle.pgs_syntax.specs.Valid.{read_var}

-- whether an atom says that a variable is an end of x, the variable 0
abbrev pub is_end_of_x : ℕ → Atom → Bool
is_end_of_x var (Ends edge source target) = edge == 0 && (var == source || var == target)
is_end_of_x var _ = false

-- whether x fixes a variable: it is x, or an end of x
abbrev pub is_fixed_by_x : Pattern → ℕ → Bool
is_fixed_by_x pattern var = var == 0 || list_any (is_end_of_x var) pattern.atoms

-- whether an atom says that x is an end of a variable
abbrev pub has_end_x : ℕ → Atom → Bool
has_end_x var (Ends edge source target) = var == edge && (source == 0 || target == 0)
has_end_x var _ = false

-- whether an expression is an element that fixes x: x, or an edge of which x is an end
abbrev pub fixes_x : Pattern → Expr → Bool
fixes_x pattern (Element var) = var == 0 || list_any (has_end_x var) pattern.atoms
fixes_x pattern (Property var key) = false

-- whether a key asks the three that IDENTIFIER asks
abbrev pub is_identifier : Qualifiers → Bool
is_identifier q = q.mandatory && q.singleton && q.exclusive

-- whether no graph breaks a key's SINGLETON, since x fixes the variable of each expression; IDENTIFIER isn't told of
abbrev pub has_void_singleton : Key → Bool
has_void_singleton key =
    key.qualifiers.singleton && not (is_identifier key.qualifiers)
    && list_all (λ (expr : Expr). is_fixed_by_x key.descriptor (read_var expr)) key.exprs

-- whether no graph breaks a key's EXCLUSIVE, since an expression fixes x; IDENTIFIER isn't told of
abbrev pub has_void_exclusive : Key → Bool
has_void_exclusive key =
    key.qualifiers.exclusive && not (is_identifier key.qualifiers) && list_any (fixes_x key.descriptor) key.exprs
