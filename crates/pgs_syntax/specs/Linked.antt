-- Which variables of a pattern are linked.
use Rattle.std.specs.Prelude.{◌≡◌, ℕ, Bool, true, false, ◌&&◌, ◌||◌, ◌==◌, List}
use Rattle.std.specs.List.{list_any}
use Rattle.pgs_syntax.specs.declared.pattern.Atom.{Atom}
use Rattle.pgs_syntax.specs.declared.pattern.Atom.TheVariants.{Ends}

-- whether an atom says of two variables, in one order or the other, that the second is an end of the first
abbrev pub links : ℕ → ℕ → Atom → Bool
links a b (Ends edge source target) =
    (a == edge && (b == source || b == target)) || (b == edge && (a == source || a == target))
links a b _ = false

-- two variables are linked: steps lead from one to the other, each from an edge to an end of it or back
pub data IsLinked (atoms : List Atom) : ℕ → ℕ → Type 0 where
  itself : {a : ℕ} → IsLinked atoms a a
  further : {a b c : ℕ} → IsLinked atoms a b → list_any (links b c) atoms ≡ true → IsLinked atoms a c
