-- The pattern that a key asks for, of its scope alone or of scope and descriptor together, and its places: variables that one edge has at
-- the same end are of one class, and take one place.
use Rattle.std.specs.Prelude.{ℕ, zero, suc, ◌+◌, Bool, false, List, [], ◌∷◌, ◌++◌, length, map, drop, slice_index, if◌then◌else◌}
use Rattle.std.specs.List.{enumerate_from}
use Rattle.pgs_syntax.specs.declared.key.Key.{Key}
use Rattle.pgs_syntax.specs.declared.pattern.Atom.{Atom}
use Rattle.pgs_syntax.specs.declared.pattern.Atom.TheVariants.{Ends}
use Rattle.pgs_syntax.specs.declared.pattern.Expr.{Expr}
use Rattle.pgs_syntax.specs.declared.pattern.Pattern.{Pattern}
use Rattle.pgs_syntax.specs.Valid.{is_edge_var, together}
use Rattle.pgs_key_standing.specs.Placed.{Placed, ends_of}
use Rattle.pgs_key_standing.specs.Renamed.{renamed, renamed_expr}

-- the number of a descriptor's variable behind so many variables of a scope; variable 0 is one in both
abbrev pub beside : ℕ → ℕ → ℕ
beside count zero = 0
beside count (suc var) = count + var

-- scope and descriptor as one pattern, and what a key reads in it
abbrev pub joint : Key → Pattern
joint key = record {
  edge_vars = key.scope.edge_vars ++ drop 1 key.descriptor.edge_vars;
  atoms = key.scope.atoms ++ map (renamed (beside (length key.scope.edge_vars))) key.descriptor.atoms;
}

abbrev pub joint_exprs : Key → List Expr
joint_exprs key = map (renamed_expr (beside (length key.scope.edge_vars))) key.exprs

-- a pattern with two more variables, the ends of variable 0; and so where that is an edge
abbrev pub widened : Pattern → Pattern
widened pattern = record {
  edge_vars = pattern.edge_vars ++ false ∷ false ∷ [];
  atoms = Ends 0 (length pattern.edge_vars) (length pattern.edge_vars + 1) ∷ pattern.atoms;
}

abbrev pub with_ends : Pattern → Pattern
with_ends pattern = if is_edge_var pattern.edge_vars 0 then widened pattern else pattern

-- The classes of variables, as a number for each, after each edge's ends are put together with the ends that it is first given.
abbrev pub classes_after : List Atom → List ℕ → List Atom → List ℕ
classes_after all classes [] = classes
classes_after all classes (Ends edge source target ∷ atoms) =
    classes_after all (together target (ends_of all edge).1 (together source (ends_of all edge).0 classes)) atoms
classes_after all classes (_ ∷ atoms) = classes_after all classes atoms

-- at first each variable is a class of its own
abbrev pub numbers : List Bool → List ℕ
numbers edge_vars = map (λ (place : ℕ × Bool). place.0) (enumerate_from 0 edge_vars)

abbrev pub classes_of : Pattern → List ℕ
classes_of pattern = classes_after pattern.atoms (numbers pattern.edge_vars) pattern.atoms

-- the place of a variable: one variable of its class
abbrev pub place_of : Pattern → ℕ → ℕ
place_of pattern var = slice_index (classes_of pattern) var

-- a pattern at its places
abbrev pub placed_of : Pattern → List Expr → Placed
placed_of pattern exprs = record {
  kinds = pattern.edge_vars;
  atoms = map (renamed (place_of pattern)) pattern.atoms;
  exprs = map (renamed_expr (place_of pattern)) exprs;
}

-- what a key asks of the elements of a match of its scope, and of one of its scope and its descriptor that gives a key value
abbrev pub scope_places : Key → Placed
scope_places key = placed_of (with_ends key.scope) []

abbrev pub value_places : Key → Placed
value_places key = placed_of (with_ends (joint key)) (joint_exprs key)
