-- To what the variables of a pattern are bound: an option for each of 20 variables.
use Rattle.std.specs.Prelude.{ℕ, Bool, false, cond, List, Option, Some, None, slice_get, slice_set, replicate, option_and_then}
use Rattle.std.specs.Option.{option_map_or}
use Rattle.pgs_base.specs.declared.element.NodeId.{NodeId}
use Rattle.pgs_base.specs.declared.element.Elem.{Elem}
use Rattle.pgs_base.specs.declared.element.Elem.TheVariants as elems
use Rattle.pgs_syntax.specs.Matches.{same_elem}
use Rattle.pgs_match.specs.declared.bindings.Bound.{Bound}
use Rattle.pgs_match.specs.declared.bindings.Bound.TheVariants as bounds

-- the element to which a variable is bound
abbrev pub elem_of : Bound → Elem
elem_of (bounds.Node id) = elems.Node id
elem_of (bounds.Edge id source target) = elems.Edge id

-- to what a variable is bound
abbrev pub bound_at : List (Option Bound) → ℕ → Option Bound
bound_at bindings var = option_and_then (λ bound. bound) (slice_get bindings var)

-- bindings with a variable bound
abbrev pub with_bound : List (Option Bound) → ℕ → Bound → List (Option Bound)
with_bound bindings var bound = slice_set bindings var (Some bound)

-- no variable is bound
abbrev pub nothing_bound : List (Option Bound)
nothing_bound = replicate 20 None

-- the end of a bound edge: its source, or its target
abbrev pub end_at : Bool → Option Bound → Option NodeId
end_at source (Some (bounds.Edge id first second)) = Some (cond source first second)
end_at source _ = None

-- whether elements have this one at a variable
abbrev pub stands_at : ℕ → Elem → List Elem → Bool
stands_at var elem elems = option_map_or (same_elem elem) (slice_get elems var) false
