-- The elements that x takes in the matches of a pattern in which a variable takes an element.
use Rattle.std.specs.Prelude.{ℕ, Bool, false, true, ◌&&◌, List, ◌++◌, filter}
use Rattle.std.specs.List.{list_any}
use Rattle.pgs_base.specs.declared.element.Elem.{Elem}
use Rattle.pgs_base.specs.Graph.{Graph}
use Rattle.pgs_syntax.specs.declared.pattern.Pattern.{Pattern}
use Rattle.pgs_syntax.specs.declared.resolved.Resolved.{Resolved}
use Rattle.pgs_syntax.specs.KeyValues.{starts_at}
use Rattle.pgs_syntax.specs.Matches.{elements, matches}
use Rattle.pgs_match.specs.Bounds.{stands_at}

-- whether some match in which the variable takes the element starts at another
abbrev pub reaches : Resolved → Graph → Pattern → ℕ → Elem → Elem → Bool
reaches resolved g pattern var elem first =
    list_any (λ elems. stands_at var elem elems && starts_at first elems) (matches resolved g pattern)

-- those elements, in order
abbrev pub reached : Resolved → Graph → Pattern → ℕ → Elem → List Elem
reached resolved g pattern var elem = filter (reaches resolved g pattern var elem) (elements g false ++ elements g true)
